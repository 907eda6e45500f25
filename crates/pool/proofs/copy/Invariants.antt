use Rattle.std.proofs.Common.{◌≡◌, take}
use Rattle.std.proofs.lemmas.List.Edits.{sets}
use Rattle.pool.proofs.copy.Given as goal

-- the first i words are copied
abbrev pub invariant-loop-i : goal.invariant-loop-i
invariant-loop-i l = l.target ≡ sets l.initial.target 0 (take l.i l.source)
