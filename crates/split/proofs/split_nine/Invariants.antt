use Rattle.split.specs.State.{rects_of}
use Rattle.split.proofs.Starts.{Turn}
use Rattle.split.proofs.split_nine.Given as goal

abbrev pub invariant-loop-nine : goal.invariant-loop-nine
invariant-loop-nine l = Turn (rects_of l.nine) l.one l.two l.left

abbrev pub decreases-loop-nine : goal.decreases-loop-nine
decreases-loop-nine l = l.left.count
