-- What a delete leaves in the words: the pool that the definition gives, or, where no slot is free for an entry set aside, words that the
-- caller must write over.
use Rattle.std.specs.Prelude.{◌≡◌, List, length, ℤ, Option, Some, None}
use Rattle.rules.specs.Insert as I
use Rattle.free_slots.specs.declared.FreeSlots.{FreeSlots}
use Rattle.insert.specs.Left.{HoldsPool}

abbrev pub Removes : List ℤ → I.Change → Option FreeSlots → List ℤ → Type 0
Removes before (I.Done q) (Some f) w = HoldsPool q f w
Removes before I.NoneFree None w = length w ≡ length before
Removes before (I.Done q) None w = ⊥
Removes before I.NoneFree (Some f) w = ⊥
