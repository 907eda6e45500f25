use mathlib.Core.Path.{◌≡◌}
use mathlib.Core.Bool.{◌&&◌}
use lib.ListN.{length}
use lib.IntN.{pos}
use Rattle.rules.specs.Lists.{same}
use Rattle.pool.specs.Reading.{entries_of}
use Rattle.pool.specs.Standing.{zero_from}
use Rattle.pool.proofs.node.Node.unused_zero.Given as goal

-- what is joined so far and the places from i on are zero where the unused places are
abbrev pub invariant-loop-i : goal.invariant-loop-i
invariant-loop-i l =
    let w = l.self.words.now in
    let s = l.self.slot in
    (same (pos 0) l.all && zero_from w s l.i) ≡ zero_from w s (length (entries_of l.self))
