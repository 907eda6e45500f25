use Rattle.std.proofs.Common.{◌≡◌}
use Rattle.std.proofs.lemmas.List.Edits.{sets}
use Rattle.found_items.specs.Items.{shown_from}
use Rattle.program.proofs.fill_list.Given as goal

-- k places are filled
abbrev pub invariant-loop-k : goal.invariant-loop-k
invariant-loop-k l = l.found ≡ sets l.initial.found 0 (shown_from l.pool l.work 0 l.k)
