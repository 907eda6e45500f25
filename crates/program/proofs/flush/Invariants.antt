use Rattle.program.specs.Moving.{Taken}
use Rattle.program.proofs.flush.Given as goal

-- so much is taken
abbrev pub invariant-loop : goal.invariant-loop
invariant-loop g l = Taken (g.W.Write.contents l.initial.writer) l.out l.run.filled l.sent (g.W.Write.contents l.writer)
