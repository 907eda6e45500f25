-- The entries looked at so far, and those ahead, are all.
use mathlib.Core.Path.{refl, ◌∙◌}
use native.Mathlib.Omega.{arith}
use Rattle.rules.proofs.Derived.{number_same}
use Rattle.rules.specs.Pool.{entry_at}
use Rattle.find_leaf.proofs.Leaf.{look_on, looked_all}
use Rattle.find_leaf.proofs.has_number_in.Goals as goal

pub loop-i-init : goal.loop-i-init
loop-i-init c = record { size = refl; few = omega (arith, c.count-i-end.ensures.is, c.count-i-end.ensures.most); is = refl }

pub loop-i-preserved : goal.loop-i-preserved
unfolding entry_at
loop-i-preserved c =
    look_on c.loop-i.invariant (omega (arith, c.loop-i-test.true, c.count-i-end.ensures.is)) c.eq-any.result
    (rw c.number.ensures at (c.eq-any.ensures ∙ number_same c.args.k.0 c.number.result.0))

pub returns : goal.returns
returns c = looked_all c.loop-i.invariant (omega (arith, c.loop-i-test.false, c.count-i-end.ensures.is))
