-- Words of a valid length, and a slot in them.
use Rattle.std.specs.Prelude.{◌≡◌, true, cond, List, ℕ, ◌≤◌, ◌<◌, ltb, get_or, ℤ, pos}
use Rattle.rules.specs.declared.Edition.{Edition}
use Rattle.rules.specs.declared.Edition.TheVariants.{One, Two}
use Rattle.rules.specs.declared.SlotNumber.{SlotNumber}
use Rattle.rules.specs.declared.Pointer.{Pointer}
use Rattle.rules.specs.declared.Pointer.TheVariants.{Number, Child}
use Rattle.rules.specs.declared.Entry.{Entry}
use Rattle.rules.specs.Numbers.{most_slots}
use Rattle.rules.specs.Pool.{no_entry}
use Rattle.rules.specs.Layout.{valid_length, slot_count, words, read, pointer_of, pointer_word, owner_word}

-- "a slot from 1 to N"
pub record InPool (w : List ℤ) (s : SlotNumber) : Type 0 where
  pub right : valid_length w ≡ true
  pub low : 1 ≤ s.0
  pub high : s.0 ≤ slot_count w

-- the words are those of a pool, and nothing else
pub record Fit (w : List ℤ) : Type 0 where
  pub right : valid_length w ≡ true
  pub same : words (read w) ≡ w

-- a slot number that a word holds
abbrev pub Small : Pointer → Type 0
Small (Number n o) = Unit {0}
Small (Child s) = s.0 ≤ most_slots

-- the first n entries have such pointers
pub record SmallAll (es : List Entry) (n : ℕ) : Type 0 where
  pub small : (i : ℕ) → i < n → Small (get_or es i no_entry).pointer

-- from place n on there is none
pub record NoneFrom (n : ℕ) (es : List Entry) : Type 0 where
  pub none : (i : ℕ) → n ≤ i → get_or es i no_entry ≡ no_entry

-- the entry at place i of the first n, or none
abbrev pub used_at : List Entry → ℕ → ℕ → Entry
used_at es n i = cond (ltb i n) (get_or es i no_entry) no_entry

-- what a slot of an edition keeps of an owner's word: in edition 1, nothing
unfoldable pub owner_kept : Edition → ℤ → ℤ
owner_kept One z = pos 0
owner_kept Two z = z

-- the pointer is of the level's kind, a record number in a leaf, a child slot above; and a slot of the edition can keep its owner
abbrev pub KindOf : Edition → ℕ → Pointer → Type 0
KindOf e level p = pointer_of level (pointer_word p) (owner_kept e (owner_word p)) ≡ p

-- .. the pointers of the first n entries
pub record KindAll (e : Edition) (level : ℕ) (es : List Entry) (n : ℕ) : Type 0 where
  pub kind : (i : ℕ) → i < n → KindOf e level (get_or es i no_entry).pointer
