use Rattle.delete.proofs.Climb.{Climbing}
use Rattle.delete.proofs.condense.Given as goal

abbrev pub invariant-loop-l : goal.invariant-loop-l
invariant-loop-l l = Climbing l.initial.pool l.height l.steps l.pool l.asides l.l
