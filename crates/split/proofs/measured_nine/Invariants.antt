use Rattle.split.proofs.Nine.{MeasuredTo}
use Rattle.split.proofs.measured_nine.Given as goal

abbrev pub invariant-loop-i : goal.invariant-loop-i
invariant-loop-i l = MeasuredTo l.nine l.all l.i
