-- The places gathered, an entry at a time.
use native.Mathlib.Omega.{arith}
use Rattle.search.proofs.Turns.{gather_turn, gather_ends}
use Rattle.search.proofs.gather_in.Goals as goal

pub loop-i-preserved : goal.loop-i-preserved
loop-i-preserved c =
    gather_turn c.loop-i.invariant c.met-count.result (omega (arith, c.loop-i-test.true, c.count-i-end.ensures.is))
    (omega (arith, c.count-i-end.ensures.is, c.count-i-end.ensures.most)) c.met-count.ensures.is c.met-count.ensures.most

pub returns : goal.returns
returns c =
    gather_ends c.loop-i.invariant (omega (arith, c.loop-i-test.false, c.count-i-end.ensures.is))
