-- `split::growing::Growing::seed` meets its contract: the cover of one rectangle is the rectangle.
use mathlib.Core.Path.{◌≡◌, ◌∙◌}
use native.Mathlib.Omega.{arith}
use Rattle.split.specs.State.{rects_of}
use Rattle.split.proofs.Nine.{rect_is}
use Rattle.split.proofs.Joins.{cover_alone, alone_after}
use Rattle.split.proofs.growing.Growing.seed.Goals as goal

pub returns-clause-ok : goal.returns-clause-ok
returns-clause-ok c =
    record {
      some = omega arith;
      inside = λ k l. let e : k ≡ 0 = omega arith in rw e c.requires.i_bound;
      after = λ k l. alone_after c.args.i k l;
      cover = rect_is c.args.nine.now c.args.i c.index-nine-i.result (omega (arith, c.told-nine, c.requires.i_bound))
          ∙ cover_alone (rects_of c.args.nine.now) c.args.i;
    }
