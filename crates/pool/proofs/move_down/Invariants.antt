use Rattle.std.proofs.Common.{◌≡◌, ◌+◌, ◌-◌, take, drop}
use Rattle.std.proofs.lemmas.List.Edits.{sets}
use Rattle.pool.proofs.move_down.Given as goal

-- the words before place k are those that stood after them
abbrev pub invariant-loop-k : goal.invariant-loop-k
invariant-loop-k l = l.pool ≡ sets l.initial.pool l.from (take (l.k - l.from) (drop (l.from + l.by) l.initial.pool))
