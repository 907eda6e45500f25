-- `split::seeds::pick_seeds` meets its contract: a turn looks at the pairs of one first member.
use mathlib.Core.Path.{sym, ap, ◌∙◌}
use Prim.Native.Nat.{◌+◌}
use lib.ListN.{length-map}
use Rattle.rules.specs.Split as S
use Rattle.split.specs.declared.measured.Measured.{Measured}
use Rattle.split.specs.declared.seeds.Seeds.{Seeds}
use Rattle.split.specs.State.{rects_of, seeds_of}
use Rattle.split.proofs.Rows.{found, row_found, outer, outer_step, outer_none, outer_all}
use Rattle.split.proofs.seeds.pick_seeds.Goals as goal

pub loop-first-init : goal.loop-first-init
loop-first-init c =
    let rs = rects_of c.args.nine.now in (
      c.best_of-b.ensures.right,
      ap (λ (s : Seeds). outer rs (seeds_of s) 1) (c.best_of-b.ensures.is ∙ ap (λ (s : Seeds). found rs 0 s 2) c.at.ensures.is)
          ∙ ap (λ (s : S.Seeds). outer rs s 1) (row_found rs 0 (record { first = 0; second = 1 }) 2)
          ∙ outer_all rs (length-map c.args.nine.now (λ (m : Measured). m.rect) ∙ c.told-nine),
    )

pub loop-first-preserved : goal.loop-first-preserved
loop-first-preserved c =
    let rs = rects_of c.args.nine.now in
    let i = c.loop-first.first in (
      c.best_of-b-in-loop-first.ensures.right,
      ap (λ (s : Seeds). outer rs (seeds_of s) (i + 1)) c.best_of-b-in-loop-first.ensures.is
          ∙ ap (λ (s : S.Seeds). outer rs s (i + 1)) (row_found rs i c.loop-first.b.item (i + 1))
          ∙ sym (outer_step rs (seeds_of c.loop-first.b.item) i c.loop-first-test.true) ∙ c.loop-first.invariant.1,
    )

pub returns-clause-is : goal.returns-clause-is
returns-clause-is c =
    sym (outer_none (rects_of c.args.nine.now) (seeds_of c.loop-first.b.item) c.loop-first.first c.loop-first-test.false) ∙ c.loop-first.invariant.1
