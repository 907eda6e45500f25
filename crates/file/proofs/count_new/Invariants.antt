use Rattle.file.proofs.News.{Counted}
use Rattle.file.proofs.count_new.Given as goal

abbrev pub invariant-loop-k : goal.invariant-loop-k
invariant-loop-k l = Counted l.pool l.items l.n l.k l.count
