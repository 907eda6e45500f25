-- k items stand in the found list.
use Rattle.std.proofs.Common.{◌≡◌}
use Rattle.batch.proofs.Carries.{stored}
use Rattle.batch.proofs.carry.Given as goal

abbrev pub invariant-loop-k : goal.invariant-loop-k
invariant-loop-k l = l.found ≡ stored l.pool l.work l.initial.found l.at l.k
