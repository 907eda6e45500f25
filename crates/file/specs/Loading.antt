-- Where the code finds the frames of a file of an edition, and what it does at each: every frame before record k has its one size.
use Rattle.std.specs.Prelude.{◌≡◌, Bool, true, false, cond, ◌&&◌, List, ℕ, zero, suc, ◌+◌, ◌*◌, length, drop, eqb, ℤ, pos, Result, Ok, Err, Option, None, Some}
use Rattle.rules.specs.declared.Edition.{Edition}
use Rattle.rules.specs.declared.Owner.{Owner}
use Rattle.rules.specs.declared.Record.{Record}
use Rattle.rules.specs.declared.FileFault.{FileFault}
use Rattle.rules.specs.declared.FileFault.TheVariants.{BadFrame, NoSlot}
use Rattle.rules.specs.Pool.{Pool, number}
use Rattle.rules.specs.Layout.{read}
use Rattle.rules.specs.Insert.{ours, Change, Done, NoneFree, insert_record}
use Rattle.rules.specs.Frames.{word_values}
use Rattle.rules.specs.File.{file_number, frame_due, record_kind, record_size, record_in, record_fault, Load, Loaded, Fails}
use Rattle.layout_laws.specs.Slots.{Fit}
use Rattle.frames.specs.Places.{word_from, rect_of_bytes}
use Rattle.insert.specs.Left.{HoldsPool}
use Rattle.free_slots.specs.declared.FreeSlots.{FreeSlots}

-- whether the bytes begin with the frame that is due
unfoldable pub is_due : ℕ → ℕ → List ℕ → Bool
is_due k n bs = elim (frame_due k n bs) [ None ↦ false | Some d ↦ true ]

-- how many bytes the frame of a record has, where record k begins, the record that stands there, and the one before it
abbrev pub record_bytes : Edition → ℕ
record_bytes e = 4 + 4 * record_size e

unfoldable pub place_of : Edition → ℕ → ℕ
place_of e k = 12 + record_bytes e * k

unfoldable pub record_at : Edition → List ℕ → ℕ → Record
record_at e bs k = record_in e (word_values (record_size e) (drop (place_of e k + 4) bs))

unfoldable pub last_at : Edition → List ℕ → ℕ → Option Record
last_at e bs zero = None
last_at e bs (suc k) = Some (record_at e bs k)

-- "number, rectangle" from a place on, of an owner
abbrev pub pair_from : Owner → List ℕ → ℕ → Record
pair_from o bs p = record { owner = o; number = number (word_from bs p); rect = rect_of_bytes bs (p + 4) }

-- the number of what came of it: that of the refusal, or 0
abbrev pub number_of : {A : Type 0} → Result A FileFault → ℤ
number_of (Ok a) = pos 0
number_of (Err f) = file_number f

-- whether the frame of record k is there
abbrev pub is_record : Edition → List ℕ → ℕ → Bool
is_record e bs k = is_due (record_kind e) (record_size e) (drop (place_of e k) bs)

-- what refuses record k, but for 7
unfoldable pub frame_fault : Edition → List ℕ → ℕ → Option FileFault
frame_fault e bs k = elim (is_record e bs k) [ true ↦ record_fault e (last_at e bs k) (record_at e bs k) | false ↦ Some BadFrame ]

-- .. and the record where nothing does
abbrev pub Gives : Edition → List ℕ → ℕ → Result Record FileFault → Type 0
Gives e bs k (Ok r) = (frame_fault e bs k ≡ None) × (r ≡ record_at e bs k)
Gives e bs k (Err f) = frame_fault e bs k ≡ Some f

-- record k goes into the pool
unfoldable pub inserted : Change → Load
inserted (Done q) = Loaded q
inserted NoneFree = Fails NoSlot

unfoldable pub took_at : Edition → Pool → List ℕ → ℕ → Load
took_at e p bs k = elim (frame_fault e bs k) [ Some f ↦ Fails f | None ↦ inserted (insert_record ours p (record_at e bs k)) ]

-- .. as the code has it
abbrev pub Took : Load → Result FreeSlots FileFault → List ℤ → Type 0
Took (Loaded q) (Ok free) w = HoldsPool q free w
Took (Loaded q) (Err f) w = ⊥
Took (Fails g) (Ok free) w = ⊥
Took (Fails g) (Err f) w = f ≡ g

-- whether the last frame is the one due, with nothing after its four bytes
unfoldable pub end_told : List ℕ → Result (Unit {0}) FileFault
end_told bs = cond (is_due 18 0 bs && eqb (length bs) 4) (Ok tt) (Err BadFrame)

-- a file that goes in leaves the pool in the words; of one that is refused nothing is said but what refuses it
abbrev pub Loads : Load → Result (Unit {0}) FileFault → List ℤ → Type 0
Loads (Loaded q) (Ok u) w = Fit w × (read w ≡ q)
Loads (Loaded q) (Err f) w = ⊥
Loads (Fails g) (Ok u) w = ⊥
Loads (Fails g) (Err f) w = f ≡ g

-- "A read refused past 1 leaves the pool, and its workspace equal to it": which of the two both become
unfoldable pub settled : Bool → List ℤ → List ℤ → List ℤ
settled loaded pool work = cond loaded work pool
