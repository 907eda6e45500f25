-- `split::measured_nine` meets its contract: a turn measures one more, and nine are all.
use mathlib.Core.Path.{refl, ap, sym, ◌∙◌}
use mathlib.Core.List.{[], ◌∷◌}
use native.Mathlib.Omega.{arith}
use lib.Seq.{take-suc}
use Rattle.rules.specs.declared.Rect.{Rect}
use Rattle.rules.specs.Geometry.{no_rect}
use Rattle.rules.specs.Choose.{rect_from}
use Rattle.split.proofs.Nine.{measured_more, measured_all}
use Rattle.split.proofs.measured_nine.Goals as goal

pub new-all-requires : goal.new-all-requires
unfolding rect_from
new-all-requires c = c.requires.ok 0 (omega arith)

pub loop-i-init : goal.loop-i-init
loop-i-init c =
    record { long = refl; is = ap (λ (r : Rect). r ∷ []) c.new-all.ensures ∙ sym (take-suc c.args.nine 0 no_rect (omega (arith, c.requires.nine))) }

pub new-requires : goal.new-requires
unfolding rect_from
new-requires c = c.requires.ok c.loop-i.i c.loop-i-test.true

pub loop-i-preserved : goal.loop-i-preserved
loop-i-preserved c = measured_more c.loop-i.invariant c.requires.nine c.loop-i-test.true c.new.result c.new.ensures

pub returns : goal.returns
returns c = measured_all c.loop-i.invariant c.requires.nine (omega (arith, c.loop-i-test.false))
