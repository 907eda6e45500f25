-- Req 02, "Carry the map between offices": the file as bytes, the writer and the reader, for any pool and any bytes.
use Rattle.std.specs.Prelude.{Bool, true, false, not, ◌&&◌, ◌||◌, List, [], ◌∷◌, ◌++◌, map, ℕ, zero, suc, ◌+◌, ◌*◌, ◌-◌, ◌/◌, ◌%◌, length, ltb, eqb, ℤ, pos, negsuc, Option, None, Some}
use Rattle.std.proofs.lemmas.List.Edits.{sets}
use Rattle.std.specs.Int.Signed.{le_z}
use Rattle.rules.specs.declared.Edition.{Edition}
use Rattle.rules.specs.declared.Edition.TheVariants.{One, Two}
use Rattle.rules.specs.declared.Owner.{Owner}
use Rattle.rules.specs.declared.Record.{Record}
use Rattle.rules.specs.declared.FoundRecord.{FoundRecord}
use Rattle.rules.specs.declared.FileFault.{FileFault}
use Rattle.rules.specs.declared.FileFault.TheVariants.{BadLength, NotSound, BadRectangle, BadNumber, BadOwner, NoSlot, ShortBuffer, BadFrame, NotAfter}
use Rattle.rules.specs.Lists.{those, joined, same, less_then}
use Rattle.rules.specs.Numbers.{good_number}
use Rattle.rules.specs.Owners.{edition_number, edition_told, owner, nobody, owner_sound, owners_of, owned_by, as_found, of_owner}
use Rattle.rules.specs.Geometry.{valid, same_found}
use Rattle.rules.specs.Pool.{Pool, number, stored, blank_pool}
use Rattle.rules.specs.Layout.{natural, word_at, slots_fitting, valid_size, valid_length, words, read}
use Rattle.rules.specs.Sound.{sound}
use Rattle.rules.specs.Search.{before, ordered}
use Rattle.rules.specs.Insert.{Choice, ours, Done, NoneFree, insert_record}
use Rattle.rules.specs.Answers.{row, first_row}
use Rattle.rules.specs.Frames.{Ended, Complete, Cut, word_values, next_frame, rect_in, of_kind}

-- "Refusals: 1 first, then 2 for the writer only; 8 if its buffer is short; 10 for a wrong frame, edition or count, or bytes after kind 18;
-- then 3, 4, then 11 for a record not after its predecessor; then 7". Req 07: "13 for another owner, .. in a file after 4"
unfoldable pub file_number : FileFault → ℤ
file_number BadLength = pos 1
file_number NotSound = pos 2
file_number BadRectangle = pos 3
file_number BadNumber = pos 4
file_number BadOwner = pos 13
file_number NoSlot = pos 7
file_number ShortBuffer = pos 8
file_number BadFrame = pos 10
file_number NotAfter = pos 11

-- ---- frames written: "Frames as in `dustmap`", "all little-endian"

-- two bytes
unfoldable pub pair_bytes : ℕ → List ℕ
pair_bytes n = n % 256 ∷ n / 256 % 256 ∷ []

-- a "signed 32-bit" word as the number that its bits are, and its four bytes
unfoldable pub unsigned : ℤ → ℕ
unsigned (pos n) = n
unsigned (negsuc n) = 4294967295 - n

unfoldable pub word_bytes : ℤ → List ℕ
word_bytes z = unsigned z % 256 ∷ unsigned z / 256 % 256 ∷ unsigned z / 65536 % 256 ∷ unsigned z / 16777216 % 256 ∷ []

-- "two bytes length of what follows, two bytes kind, then signed 32-bit words"
unfoldable pub frame_bytes : ℕ → List ℤ → List ℕ
frame_bytes kind ws = pair_bytes (2 + 4 * length ws) ++ pair_bytes kind ++ joined (map word_bytes ws)

-- ---- the file

-- "kind 16 first (edition 1, record count)"; Req 07: "the file .. gains edition 2"
unfoldable pub head_frame : Edition → ℕ → List ℕ
head_frame e count = frame_bytes 16 (pos (edition_number e) ∷ pos count ∷ [])

-- "then kind 17 per record (number, rectangle)"; Req 07: "kind 19 (owner, then as 17)"
unfoldable pub record_kind : Edition → ℕ
record_kind One = 17
record_kind Two = 19

unfoldable pub pair_words : Record → List ℤ
pair_words r = r.number.0 ∷ r.rect.lowX ∷ r.rect.lowY ∷ r.rect.highX ∷ r.rect.highY ∷ []

unfoldable pub record_words : Edition → Record → List ℤ
record_words One r = pair_words r
record_words Two r = r.owner.0 ∷ pair_words r

-- how many words those are
abbrev pub record_size : Edition → ℕ
record_size One = 5
record_size Two = 6

unfoldable pub record_frame : Edition → Record → List ℕ
record_frame e r = frame_bytes (record_kind e) (record_words e r)

-- "kind 18 last with no words"
unfoldable pub end_frame : List ℕ
end_frame = frame_bytes 18 []

unfoldable pub file_bytes : Edition → List Record → List ℕ
file_bytes e rs = head_frame e (length rs) ++ joined (map (record_frame e) rs) ++ end_frame

-- ---- the writer

-- "drops a pair held twice": each pair of the list once
unfoldable pub distinct : List FoundRecord → List FoundRecord
distinct [] = []
distinct (r ∷ rs) = r ∷ those (λ x. not (same_found r x)) (distinct rs)

-- the records of one owner that a file of the pool has, "in found order"
unfoldable pub carried_of : Pool → Owner → List FoundRecord
carried_of p o = distinct (ordered (map as_found (those (owned_by o) (stored p))))

-- Req 07: "ordered by owner first"
unfoldable pub records_carried : Pool → List Record
records_carried p = joined (map (λ o. map (of_owner o) (carried_of p o)) (owners_of p.edition))

-- the file of a pool
unfoldable pub pool_file : Pool → List ℕ
pool_file p = file_bytes p.edition (records_carried p)

-- what a write leaves: the number that it returns, the lent buffer, and how many bytes of it are the file
pub record WriteLeft : Type 0 where
  pub number : ℤ
  pub file : List ℕ
  pub size : ℕ

unfoldable pub write_fault : List ℤ → List ℕ → Option FileFault
write_fault pool buffer =
    first_row (
    row (not (valid_length pool)) BadLength
    ∷ row (not (sound pool)) NotSound
    ∷ row (ltb (length buffer) (length (pool_file (read pool)))) ShortBuffer
    ∷ [])

-- "A writer fills the front of a lent buffer"; beside a refusal it writes nothing there
unfoldable pub write_file : List ℤ → List ℕ → WriteLeft
write_file pool buffer =
    elim (write_fault pool buffer) [
      | Some f ↦ record { number = file_number f; file = buffer; size = 0 }
      | None ↦ record {
        number = pos 0;
        file = sets buffer 0 (pool_file (read pool));
        size = length (pool_file (read pool));
      }
    ]

-- ---- frames read

-- the frame that is due: its words, and the bytes after it
pub record Due : Type 0 where
  pub words : List ℤ
  pub after : List ℕ

-- a frame of the kind k with n words. "10 for a wrong frame": one that is cut, or of another kind or length, is none
unfoldable pub frame_due : ℕ → ℕ → List ℕ → Option Due
frame_due k n bs =
    elim (next_frame bs) [
      | Ended ↦ None
      | Cut ↦ None
      | Complete f after ↦ elim (of_kind f k n) [ true ↦ Some (record { words = word_values n f.body; after = after }) | false ↦ None ]
    ]

-- "kind 16 first (edition 1, record count)": "10 for a wrong .. edition or count", one below zero
unfoldable pub good_head : Edition → List ℤ → Bool
good_head e ws = same (word_at ws 0) (pos (edition_number e)) && le_z (pos 0) (word_at ws 1)

unfoldable pub count_in : List ℤ → ℕ
count_in ws = natural (word_at ws 1)

-- "kind 17 per record (number, rectangle)"; "kind 19 (owner, then as 17)"
unfoldable pub record_in : Edition → List ℤ → Record
record_in One ws = record { owner = nobody; number = number (word_at ws 0); rect = rect_in ws 1 }
record_in Two ws = record { owner = owner (word_at ws 0); number = number (word_at ws 1); rect = rect_in ws 2 }

-- the frame of a record, where it is due
abbrev pub record_due : Edition → List ℕ → Option Due
record_due e bs = frame_due (record_kind e) (record_size e) bs

-- the records of a file whose frames are those that are due
unfoldable pub records_from : Edition → ℕ → List ℕ → List Record
records_from e zero bs = []
records_from e (suc n) bs = elim (record_due e bs) [ None ↦ [] | Some d ↦ record_in e d.words ∷ records_from e n d.after ]

unfoldable pub file_records : Edition → List ℕ → List Record
file_records e bs = elim (frame_due 16 2 bs) [ None ↦ [] | Some d ↦ records_from e (count_in d.words) d.after ]

-- ---- the reader

-- what becomes of a pool into which a file goes
pub data Load : Type 0 where
  Loaded : Pool → Load
  Fails : FileFault → Load

-- "ordered by owner first", then in found order
unfoldable pub before_in_file : Record → Record → Bool
before_in_file a b = less_then a.owner.0 b.owner.0 (before (as_found a) (as_found b))

-- "11 for a record not after its predecessor"; the first has none
unfoldable pub follows : Option Record → Record → Bool
follows None r = true
follows (Some last) r = before_in_file last r

-- "then 3, 4, then 11"; "13 for another owner, .. after 4"
unfoldable pub record_fault : Edition → Option Record → Record → Option FileFault
record_fault e last r =
    first_row (
    row (not (valid r.rect)) BadRectangle
    ∷ row (not (good_number r.number)) BadNumber
    ∷ row (not (owner_sound e r.owner)) BadOwner
    ∷ row (not (follows last r)) NotAfter
    ∷ [])

-- "kind 18 last with no words", and no "bytes after kind 18"
unfoldable pub end_of : Pool → Option Due → Load
end_of p None = Fails BadFrame
end_of p (Some d) = elim d.after [ [] ↦ Loaded p | b ∷ bs ↦ Fails BadFrame ]

-- Req 07: reading is "told the edition .. and goes by it": a file of another has a wrong head, and a record's frame is of its kind
module _ (c : Choice) (e : Edition) where
  -- "inserts in file order"; "the first frame at fault decides": n records are due, after the one given. A count that is wrong shows where
  -- another frame comes than the one due
  unfoldable pub load_records : ℕ → Option Record → Pool → List ℕ → Load
  load_records zero last p bs = end_of p (frame_due 18 0 bs)
  load_records (suc n) last p bs =
      elim (record_due e bs) [
        | None ↦ Fails BadFrame
        | Some d ↦ elim (record_fault e last (record_in e d.words)) [
          | Some f ↦ Fails f
          | None ↦ elim (insert_record c p (record_in e d.words)) [
            | NoneFree ↦ Fails NoSlot
            | Done q ↦ load_records n (Some (record_in e d.words)) q d.after
          ]
        ]
      ]

  unfoldable pub load_file : Pool → List ℕ → Load
  load_file p bs =
      elim (frame_due 16 2 bs) [
        | None ↦ Fails BadFrame
        | Some d ↦ elim (good_head e d.words) [
          | true ↦ load_records (count_in d.words) None p d.after
          | false ↦ Fails BadFrame
        ]
      ]

-- what a read leaves: the number that it returns, the pool and the workspace
pub record ReadLeft : Type 0 where
  pub number : ℤ
  pub pool : List ℤ
  pub workspace : List ℤ

-- "A read refused past 1 leaves the pool, and its workspace equal to it."
unfoldable pub after_load : List ℤ → Load → ReadLeft
after_load pool (Loaded p) = record { number = pos 0; pool = words p; workspace = words p }
after_load pool (Fails f) = record { number = file_number f; pool = pool; workspace = pool }

-- "a reader blanks a pool and inserts in file order". Of the pool lent only the length is looked at
unfoldable pub read_file : Edition → List ℤ → List ℤ → List ℕ → ReadLeft
read_file e pool work bs =
    elim (not (valid_size e (length pool)) || not (eqb (length work) (length pool))) [
      | true ↦ record { number = file_number BadLength; pool = pool; workspace = work }
      | false ↦ after_load pool (load_file ours e (blank_pool e (slots_fitting e (length pool) - 1)) bs)
    ]

-- .. by the numbers of an edition and a rule; where they tell no edition the number is one that is not in the table, -1
unfoldable pub read_file_as : ℤ → ℤ → List ℤ → List ℤ → List ℕ → ReadLeft
read_file_as edition rule pool work bs =
    elim (edition_told edition rule) [
      | None ↦ record { number = negsuc 0; pool = pool; workspace = work }
      | Some e ↦ read_file e pool work bs
    ]
