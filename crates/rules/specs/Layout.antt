-- "The pool, word by word": the one place that knows where a word stands.
use Rattle.std.specs.Prelude.{Bool, true, false, ◌&&◌, List, [], ◌∷◌, ◌++◌, map, ℕ, zero, suc, ◌+◌, ◌*◌, ◌-◌, ◌/◌, length, get_or, take, drop, replicate, leb, eqb, ℤ, pos, negsuc, None, Some}
use Rattle.rules.specs.declared.Edition.{Edition}
use Rattle.rules.specs.declared.Edition.TheVariants.{One, Two}
use Rattle.rules.specs.declared.Rect.{Rect}
use Rattle.rules.specs.declared.SlotNumber.{SlotNumber}
use Rattle.rules.specs.declared.Pointer.{Pointer}
use Rattle.rules.specs.declared.Pointer.TheVariants.{Number, Child}
use Rattle.rules.specs.declared.Entry.{Entry}
use Rattle.rules.specs.Lists.{joined, same}
use Rattle.rules.specs.Numbers.{most, most_slots}
use Rattle.rules.specs.Owners.{edition_number, edition_told, owner}
use Rattle.rules.specs.Pool.{Node, Pool, slot, number, rectangle, entry, node, blank_pool}

-- ---- sizes

-- "Head: word 0 edition, 1; word 1 root slot; word 2 height; word 3 number of records; words 4 to 7 zero."
abbrev pub head_size : ℕ
head_size = 8

abbrev pub edition_place : ℕ
edition_place = 0

abbrev pub root_place : ℕ
root_place = 1

abbrev pub height_place : ℕ
height_place = 2

abbrev pub records_place : ℕ
records_place = 3

-- "8 entries of five words: low x, low y, high x, high y, pointer"
abbrev pub rect_size : ℕ
rect_size = 4

-- Req 07: "an owner, 1 or 2, as a sixth word"
abbrev pub owner_size : Edition → ℕ
owner_size One = 0
owner_size Two = 1

abbrev pub entry_size : Edition → ℕ
entry_size e = rect_size + 1 + owner_size e

-- "level, count, then 8 entries"
abbrev pub slot_head : ℕ
slot_head = 2

abbrev pub slot_size : Edition → ℕ
slot_size e = slot_head + most * entry_size e

-- how many slots fit after the head in so many words
unfoldable pub slots_fitting : Edition → ℕ → ℕ
slots_fitting e n = (n - head_size) / slot_size e

-- "A pool is 8 + 42N signed 32-bit words", N from 1 to 4,096; "length 8 + 50N"
unfoldable pub valid_size : Edition → ℕ → Bool
valid_size e n = eqb n (head_size + slot_size e * slots_fitting e n) && leb 1 (slots_fitting e n) && leb (slots_fitting e n) most_slots

-- ---- words measured

unfoldable pub word_at : List ℤ → ℕ → ℤ
word_at ws i = get_or ws i (pos 0)

-- "a pool whose word 0 isn't 2 is measured as edition 1"
unfoldable pub edition_of : List ℤ → Edition
edition_of w = elim (same (word_at w edition_place) (pos 2)) [ true ↦ Two | false ↦ One ]

unfoldable pub slot_count : List ℤ → ℕ
slot_count w = slots_fitting (edition_of w) (length w)

unfoldable pub valid_length : List ℤ → Bool
valid_length w = valid_size (edition_of w) (length w)

-- ---- places, the first word being 0

-- "Slot s (from 1) takes 42 words from word 8 + 42(s - 1)"; "slots of 50 words"
abbrev pub slot_start : Edition → SlotNumber → ℕ
slot_start e s = head_size + slot_size e * (s.0 - 1)

-- "level, count, then 8 entries"
abbrev pub level_place : Edition → SlotNumber → ℕ
level_place e s = slot_start e s

abbrev pub count_place : Edition → SlotNumber → ℕ
count_place e s = slot_start e s + 1

-- where the words of the entry at place i, from 0, begin, and where its pointer stands
abbrev pub entry_place : Edition → SlotNumber → ℕ → ℕ
entry_place e s i = slot_start e s + slot_head + entry_size e * i

abbrev pub pointer_place : Edition → SlotNumber → ℕ → ℕ
pointer_place e s i = entry_place e s i + rect_size

-- ---- written

-- "low x, low y, high x, high y, pointer"
unfoldable pub pointer_word : Pointer → ℤ
pointer_word (Number n o) = n.0
pointer_word (Child s) = pos s.0

-- "an owner, 1 or 2, as a sixth word (zero in inner entries ..)"
unfoldable pub owner_word : Pointer → ℤ
owner_word (Number n o) = o.0
owner_word (Child s) = pos 0

unfoldable pub owner_words : Edition → Pointer → List ℤ
owner_words One p = []
owner_words Two p = owner_word p ∷ []

unfoldable pub entry_words : Edition → Entry → List ℤ
entry_words ed e =
    e.rect.lowX ∷ e.rect.lowY ∷ e.rect.highX ∷ e.rect.highY ∷ pointer_word e.pointer ∷ owner_words ed e.pointer

-- n words, zero after those given: "unused entries .. are all zero"
unfoldable pub padded : ℕ → List ℤ → List ℤ
padded n ws = take n (ws ++ replicate n (pos 0))

unfoldable pub node_words : Edition → Node → List ℤ
node_words e n = pos n.level ∷ pos (length n.entries) ∷ padded (most * entry_size e) (joined (map (entry_words e) n.entries))

-- "word 0 edition, 1; word 1 root slot; word 2 height; word 3 number of records; words 4 to 7 zero"
unfoldable pub head_words : Pool → List ℤ
head_words p = padded head_size (pos (edition_number p.edition) ∷ pos p.root.0 ∷ pos p.height ∷ pos p.records ∷ [])

unfoldable pub words : Pool → List ℤ
words p = head_words p ++ joined (map (node_words p.edition) p.slots)

-- ---- read

-- a word as a natural number; a word below zero is read as 0
unfoldable pub natural : ℤ → ℕ
natural (pos n) = n
natural (negsuc n) = 0

-- n runs of a width, one after another
unfoldable pub runs : ℕ → ℕ → List ℤ → List (List ℤ)
runs width zero ws = []
runs width (suc n) ws = take width ws ∷ runs width n (drop width ws)

-- "A leaf's pointer is a record number, any other a child slot.": of a level, from the pointer's word and the owner's
unfoldable pub pointer_of : ℕ → ℤ → ℤ → Pointer
pointer_of level z o = elim (eqb level 1) [ true ↦ Number (number z) (owner o) | false ↦ Child (slot (natural z)) ]

-- an entry's rectangle, its owner's word, and the entry, of a node of a level, from its five or six words. An entry of edition 1 has no owner, 0
unfoldable pub rect_of : List ℤ → Rect
rect_of ws = rectangle (word_at ws 0) (word_at ws 1) (word_at ws 2) (word_at ws 3)

unfoldable pub owner_at : Edition → List ℤ → ℤ
owner_at One ws = pos 0
owner_at Two ws = word_at ws (rect_size + 1)

unfoldable pub entry_of : Edition → ℕ → List ℤ → Entry
entry_of e level ws = entry (rect_of ws) (pointer_of level (word_at ws rect_size) (owner_at e ws))

-- a node from the words of its slot: as many of the 8 entries as the count says
unfoldable pub node_of : Edition → List ℤ → Node
node_of e ws =
    node (natural (word_at ws 0))
    (map (entry_of e (natural (word_at ws 0))) (take (natural (word_at ws 1)) (runs (entry_size e) most (drop slot_head ws))))

unfoldable pub read : List ℤ → Pool
read w =
    record {
      edition = edition_of w;
      root = slot (natural (word_at w root_place));
      height = natural (word_at w height_place);
      records = natural (word_at w records_place);
      slots = map (node_of (edition_of w)) (runs (slot_size (edition_of w)) (slot_count w) (drop head_size w));
    }

-- ---- compared

unfoldable pub same_words : List ℤ → List ℤ → Bool
same_words [] [] = true
same_words [] (b ∷ bs) = false
same_words (a ∷ ws) [] = false
same_words (a ∷ ws) (b ∷ bs) = same a b && same_words ws bs

-- ---- blanking any words: "Blanking knows only 1, for the pool's length."

pub record Blanked : Type 0 where
  pub number : ℤ
  pub pool : List ℤ

-- Req 07: it is "told the edition .. and goes by it": whatever word 0 is
unfoldable pub blank : Edition → List ℤ → Blanked
blank e w =
    elim (valid_size e (length w)) [
      | true ↦ record { number = pos 0; pool = words (blank_pool e (slots_fitting e (length w) - 1)) }
      | false ↦ record { number = pos 1; pool = w }
    ]

-- .. by the numbers of an edition and a rule; where they tell no edition the number is one that is not in the table, -1
unfoldable pub blank_as : ℤ → ℤ → List ℤ → Blanked
blank_as edition rule w = elim (edition_told edition rule) [ None ↦ record { number = negsuc 0; pool = w } | Some e ↦ blank e w ]

-- a blank pool of n slots, of an edition, and of edition 1
abbrev pub blank_words_of : Edition → ℕ → List ℤ
blank_words_of e n = (blank e (replicate (head_size + slot_size e * n) (pos 0))).pool

abbrev pub blank_words : ℕ → List ℤ
blank_words n = blank_words_of One n
