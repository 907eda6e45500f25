use Rattle.rules.specs.Layout.{read}
use Rattle.find_leaf.proofs.Inner.{Left}
use Rattle.find_leaf.proofs.+find_in.Given as goal

abbrev pub invariant-loop-i : goal.invariant-loop-i
invariant-loop-i l = Left (read l.pool.words.now) l.r l.level l.fn.s l.hits l.i-index

abbrev pub decreases-find_in : goal.decreases-find_in
decreases-find_in l = l.level
