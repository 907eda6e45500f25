use Rattle.rules.specs.Layout.{edition_of}
use Rattle.file.proofs.News.{Putting}
use Rattle.file.proofs.put_records.Given as goal

abbrev pub invariant-loop-k : goal.invariant-loop-k
invariant-loop-k l = Putting (edition_of l.pool) l.owner l.pool l.items l.n l.initial.file l.at l.file l.next l.k
