use Rattle.std.proofs.Common.{◌≡◌, take, replicate, pos}
use Rattle.rules.specs.Lists.{same}
use Rattle.rules.specs.Layout.{same_words}
use Rattle.pool.proofs.tidy.zeros.Given as goal

-- the words so far, joined, are zero where each of them is
abbrev pub invariant-loop-x : goal.invariant-loop-x
invariant-loop-x l = same (pos 0) l.all ≡ same_words (replicate l.x-index (pos 0)) (take l.x-index l.x-items)
