use Rattle.delete.proofs.Backs.{Returning}
use Rattle.delete.proofs.reinsert.Given as goal

abbrev pub invariant-loop-a : goal.invariant-loop-a
invariant-loop-a l = Returning l.initial.pool l.a-items l.pool l.free l.a-index
