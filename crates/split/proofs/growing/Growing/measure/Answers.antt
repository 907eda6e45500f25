-- `split::growing::Growing::measure` meets its contract: a turn measures the enlargement for one
-- place more.
use mathlib.Core.Path.{ap}
use native.Mathlib.Omega.{arith}
use Rattle.std.proofs.lemmas.List.{take_all}
use Rattle.split.specs.declared.measured.Measured.{Measured}
use Rattle.split.specs.State.{rects_of, standing}
use Rattle.split.proofs.Nine.{rect_is}
use Rattle.split.proofs.Preferences.{size}
use Rattle.split.proofs.Joins.{kept_more}
use Rattle.split.proofs.growing.Growing.measure.Goals as goal

pub loop-i-preserved : goal.loop-i-preserved
loop-i-preserved c =
    let left = c.args.left.now in
    let ms = c.args.nine.now in (
      kept_more (rects_of ms) c.loop-i.self.cover.rect (standing left) c.loop-i.self.grows c.loop-i.i c.at-place.result c.enlargement.result
          c.loop-i.invariant.0 (omega (arith, size left, c.loop-i-test.true, c.count-i-end.ensures)) c.at-place.ensures.is
          (omega (arith, c.at-place.ensures.inside, c.loop-i.self.long.1))
          (rw (rect_is ms c.at-place.result c.index-nine-place.result (omega (arith, c.told-nine, c.at-place.ensures.inside)))
          at c.enlargement.ensures),
      c.loop-i.invariant.1,
      c.loop-i.invariant.2,
    )

pub returns-clause-grows : goal.returns-clause-grows
returns-clause-grows c =
    let left = c.args.left.now in
    rw (
      take_all c.loop-i.i (standing left) (omega (arith, size left, c.loop-i-test.false, c.count-i-end.ensures)),
      ap (λ (m : Measured). m.rect) c.loop-i.invariant.2,
    ) at c.loop-i.invariant.0
