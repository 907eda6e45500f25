use Rattle.rules.specs.Layout.{read}
use Rattle.find_leaf.proofs.Leaf.{Ahead}
use Rattle.find_leaf.proofs.find_entry.Given as goal

abbrev pub invariant-loop-at : goal.invariant-loop-at
invariant-loop-at l = Ahead (read l.node.words.now) l.r l.node.slot l.n l.at
