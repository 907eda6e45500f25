use lib.ListN.{length}
use Rattle.pool.specs.Reading.{entries_of}
use Rattle.find_leaf.specs.State.{has_number}
use Rattle.find_leaf.proofs.Leaf.{Looked}
use Rattle.find_leaf.proofs.has_number_in.Given as goal

abbrev pub invariant-loop-i : goal.invariant-loop-i
invariant-loop-i l = Looked (has_number l.k) (entries_of l.node) (length (entries_of l.node)) l.any l.i
