-- `split::choice::tied` meets its contract: a turn keeps the better of the best so far and the
-- next.
use native.Mathlib.Omega.{arith}
use Rattle.split.proofs.Choices.{held_more, held_all}
use Rattle.split.proofs.choice.tied.Goals as goal

pub loop-i-preserved : goal.loop-i-preserved
loop-i-preserved g c =
    let m = g.C.Choice in
    rw c.better-b.ensures
    (held_more (m.better c.args.c.now) (m.item c.args.c.now) c.loop-i.invariant c.loop-i-test.true c.at.ensures.is c.at.ensures.right)

pub returns-clause-is : goal.returns-clause-is
returns-clause-is g c =
    let m = g.C.Choice in
    held_all (m.better c.args.c.now) (m.item c.args.c.now) c.loop-i.invariant (omega (arith, c.loop-i-test.false))
