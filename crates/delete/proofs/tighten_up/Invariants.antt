use Rattle.delete.proofs.Stops.{Tightening}
use Rattle.delete.proofs.tighten_up.Given as goal

abbrev pub invariant-loop-l : goal.invariant-loop-l
invariant-loop-l l = Tightening l.initial.pool l.height l.steps l.pool l.l
