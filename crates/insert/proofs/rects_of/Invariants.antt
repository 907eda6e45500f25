use Rattle.insert.proofs.Nines.{Rects}
use Rattle.insert.proofs.rects_of.Given as goal

abbrev pub invariant-loop-i : goal.invariant-loop-i
invariant-loop-i l = Rects l.es l.rects l.i
