use Rattle.search.proofs.Turns.{LeafWalk}
use Rattle.search.proofs.list_leaf_in.Given as goal

abbrev pub invariant-loop-i : goal.invariant-loop-i
invariant-loop-i l = LeafWalk l.node.words.now l.window l.node.slot l.initial.items l.items l.done l.next l.i
