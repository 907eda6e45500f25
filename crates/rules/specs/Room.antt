-- Req 06, "Know before the truck leaves": how many slots an insert needs, and how many are free, told from the map as it is at that moment.
use Rattle.std.specs.Prelude.{Bool, cond, not, List, [], ◌∷◌, ◌++◌, ℕ, zero, suc, ◌+◌, ◌-◌, length, leb, ℤ, pos, Option, None, Some, Ok, Err, Result}
use Rattle.std.proofs.lemmas.List.Edits.{sets}
use Rattle.rules.specs.declared.Rect.{Rect}
use Rattle.rules.specs.declared.SlotNumber.{SlotNumber}
use Rattle.rules.specs.declared.InsertRoom.{InsertRoom}
use Rattle.rules.specs.declared.RoomFault.{RoomFault}
use Rattle.rules.specs.declared.RoomFault.TheVariants.{BadLength, NotSound, BadRectangle}
use Rattle.rules.specs.Lists.{one_of}
use Rattle.rules.specs.Numbers.{most}
use Rattle.rules.specs.Geometry.{valid}
use Rattle.rules.specs.Pool.{Pool, same_slot, entries_at, entry_at, child_of, rects, free_count}
use Rattle.rules.specs.Layout.{valid_length, read}
use Rattle.rules.specs.Sound.{sound}
use Rattle.rules.specs.Insert.{Choice, ours}
use Rattle.rules.specs.Answers.{row, first_row}

-- ---- the slots that an insert needs

-- a node is full with eight entries
unfoldable pub is_full : Pool → SlotNumber → Bool
is_full p s = leb most (length (entries_at p s))

-- ".. from the chosen leaf upward": the nodes from the one that ChooseLeaf comes to, n levels below the node at s, up to that node
unfoldable pub way_up : Choice → ℕ → Pool → SlotNumber → Rect → List SlotNumber
way_up c zero p s new = s ∷ []
way_up c (suc n) p s new = way_up c n p (child_of (entry_at p s (c.child (rects (entries_at p s)) new))) new ++ s ∷ []

-- "the run of full nodes": those that the way begins with, as far as one that is not full
unfoldable pub full_run : Pool → List SlotNumber → List SlotNumber
full_run p [] = []
full_run p (s ∷ way) = cond (is_full p s) (s ∷ full_run p way) []

-- ".. plus one if the run includes the root"
unfoldable pub plus_root : SlotNumber → List SlotNumber → ℕ
plus_root root run = length run + cond (one_of (same_slot root) run) 1 0

-- what goes in at a level: a record at that of the leaves, 1; an entry that a delete puts back, at its own
unfoldable pub slots_needed : Choice → ℕ → Pool → Rect → ℕ
slots_needed c level p new = plus_root p.root (full_run p (way_up c (p.height - level) p p.root new))

-- ---- the call that tells it beforehand

-- what refuses it, in this order: 1, 2, and 3 for the rectangle
unfoldable pub room_fault : List ℤ → Rect → Option RoomFault
room_fault pool new =
    first_row (
    row (not (valid_length pool)) BadLength
    ∷ row (not (sound pool)) NotSound
    ∷ row (not (valid new)) BadRectangle
    ∷ [])

-- the slots that an insert of the rectangle needs, and the slots that are free; or what refuses it
abbrev pub RoomTold : Type 0
RoomTold = Result InsertRoom RoomFault

abbrev pub slots : ℕ → ℕ → InsertRoom
slots needed free = record { needed = needed; free = free }

unfoldable pub insert_room : List ℤ → Rect → RoomTold
insert_room pool new =
    elim (room_fault pool new) [
      | Some fault ↦ Err fault
      | None ↦ Ok (slots (slots_needed ours 1 (read pool) new) (free_count (read pool)))
    ]

-- the number of a refusal ..
unfoldable pub room_fault_number : RoomFault → ℤ
room_fault_number BadLength = pos 1
room_fault_number NotSound = pos 2
room_fault_number BadRectangle = pos 3

-- .. and the number that the call returns
unfoldable pub room_number : RoomTold → ℤ
room_number (Ok room) = pos 0
room_number (Err fault) = room_fault_number fault

-- needed and free over the two words; a refusal writes nothing
unfoldable pub room_words : RoomTold → List ℕ → List ℕ
room_words (Ok room) lent = sets lent 0 (room.needed ∷ room.free ∷ [])
room_words (Err fault) lent = lent
