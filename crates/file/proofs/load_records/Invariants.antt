use Rattle.file.proofs.Takes.{Underway}
use Rattle.file.proofs.load_records.Given as goal

abbrev pub invariant-loop-k : goal.invariant-loop-k
invariant-loop-k l = Underway l.edition l.initial.pool l.file l.count l.pool l.k l.free
