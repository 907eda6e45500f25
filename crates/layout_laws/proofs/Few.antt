-- How many records the slots have places for.
use mathlib.Core.List.{List, map}
use Prim.Native.Nat.{◌*◌, ◌≤◌}
use native.Mathlib.Omega.{arith}
use lib.ListN.{length, length-map}
use lib.IntN.{ℤ}
use Rattle.rules.specs.declared.Entry.{Entry}
use Rattle.rules.specs.Lists.{those, joined}
use Rattle.rules.specs.Pool.{Node, record_of, is_leaf, stored}
use Rattle.rules.specs.Layout.{slot_count, read}
use Rattle.rules_laws.proofs.Places.{each_of}
use Rattle.rules_laws.proofs.Parts.{among_those, those_fewer}
use Rattle.rules_laws.proofs.Joins.{joined_length}
use Rattle.rules_laws.proofs.Sums.{total_most}
use Rattle.layout_laws.proofs.Written.{Fine, read_fine, read_slots}

-- 8 for each slot at most
pub stored_few : (w : List ℤ) → length (stored (read w)) ≤ 8 * slot_count w
unfolding stored
stored_few w =
    omega (
      arith,
      length-map (joined (map entries (those is_leaf (read w).slots))) record_of,
      joined_length entries (those is_leaf (read w).slots),
      total_most (λ n. length (entries n)) 8 (those is_leaf (read w).slots)
          (λ n m. (each_of (Fine (read w).edition) (read_fine w) ((among_those is_leaf n (read w).slots).0 m).0).few),
      those_fewer is_leaf (read w).slots,
      read_slots w,
    )
  where
    entries : Node → List Entry
    entries n = n.entries
