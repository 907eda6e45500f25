use Rattle.insert.proofs.Nines.{Taken}
use Rattle.insert.proofs.group_of.Given as goal

abbrev pub invariant-loop-i : goal.invariant-loop-i
invariant-loop-i l = Taken l.es l.places l.group l.i
