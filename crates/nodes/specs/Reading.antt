-- What a pointer stands for, and what a node must be that a cover is made tight in.
use Rattle.std.specs.Prelude.{ℕ, ◌≤◌, ◌<◌, length, pos}
use Rattle.rules.specs.declared.SlotNumber.{SlotNumber}
use Rattle.rules.specs.declared.RecordNumber.{RecordNumber}
use Rattle.rules.specs.declared.Owner.{Owner}
use Rattle.rules.specs.declared.Pointer.{Pointer}
use Rattle.rules.specs.declared.Pointer.TheVariants.{Number, Child}
use Rattle.rules.specs.Owners.{nobody}
use Rattle.rules.specs.Pool.{Pool, number, node_at, entries_at, entry_at, child_of}

-- the record number that a pointer is: `number_of` of an entry is this of its pointer
abbrev pub pointed_number : Pointer → RecordNumber
pointed_number (Number n o) = n
pointed_number (Child s) = number (pos 0)

-- its owner: `owner_of` of an entry is this of its pointer
abbrev pub pointed_owner : Pointer → Owner
pointed_owner (Number n o) = o
pointed_owner (Child s) = nobody

-- entry i of the inner node at s leads to a slot
pub record LeadsOn (p : Pool) (s : SlotNumber) (i : ℕ) : Type 0 where
  pub low : 1 ≤ s.0
  pub high : s.0 ≤ length p.slots
  pub inner : 2 ≤ (node_at p s).level
  pub there : i < length (entries_at p s)
  pub child_low : 1 ≤ (child_of (entry_at p s i)).0
  pub child_high : (child_of (entry_at p s i)).0 ≤ length p.slots
