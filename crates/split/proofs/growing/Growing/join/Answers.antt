-- `split::growing::Growing::join` meets its contract: the place is last in the group, and the cover
-- grows by its rectangle.
use mathlib.Core.Path.{ap, ap₂, ◌∙◌}
use Prim.Native.Nat.{◌<◌}
use native.Mathlib.Omega.{arith}
use lib.ListN.{length}
use Rattle.rules.specs.declared.Rect.{Rect}
use Rattle.rules.specs.Geometry.{cover}
use Rattle.split.specs.declared.measured.Measured.{Measured}
use Rattle.split.specs.State.{rects_of}
use Rattle.split.proofs.Nine.{rect_is}
use Rattle.split.proofs.Joins.{more_inside, more_after, more_cover}
use Rattle.split.proofs.growing.Growing.join.Goals as goal

pub returns-clause-ok : goal.returns-clause-ok
returns-clause-ok c =
    let rs = rects_of c.args.nine.now in
    let g = c.args.self.now.group in
    let place = c.take-place.result in
    let room : g.count < length g.places = omega (arith, c.requires.room, c.args.self.now.long.0) in
    rw (c.measure.ensures.group, ap (λ (m : Measured). m.rect) c.measure.ensures.cover) record {
      some = omega arith;
      inside = more_inside g.places g.count place room c.take-place.ensures.inside c.requires.ok.inside;
      after = more_after g.places g.count place room c.requires.ok.after;
      cover =
          c.cover-self.ensures
          ∙ ap₂ (λ (a b : Rect). cover a b) c.requires.ok.cover
          (rect_is c.args.nine.now place c.index-nine-place.result (omega (arith, c.told-nine, c.take-place.ensures.inside)))
          ∙ more_cover g.places g.count place room rs c.requires.ok.some;
    }

pub returns-clause-grows : goal.returns-clause-grows
returns-clause-grows c = rw (ap (λ (m : Measured). m.rect) c.measure.ensures.cover) c.measure.ensures.grows
