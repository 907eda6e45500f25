-- What the walk of soundness asks of the nodes that it meets, and the marks that it leaves.
use Rattle.std.specs.Prelude.{◌≡◌, Bool, true, cond, not, ◌&&◌, ◌||◌, List, map, ℕ, ◌+◌, ◌-◌, ◌≤◌, leb, eqb, length, get_or, drop, ℤ, pos}
use Rattle.std.specs.Int.Signed.{le_z}
use Rattle.rules.specs.declared.Rect.{Rect}
use Rattle.rules.specs.declared.SlotNumber.{SlotNumber}
use Rattle.rules.specs.declared.Entry.{Entry}
use Rattle.rules.specs.Lists.{those, every, joined, up_from, same}
use Rattle.rules.specs.Numbers.{least, good_owner}
use Rattle.rules.specs.Geometry.{valid}
use Rattle.rules.specs.Pool.{Node, Pool, free_node, slot_numbers, node_at, entries_at, child_of, owner_of, cover_of, is_leaf}
use Rattle.rules.specs.Owners.{owner}
use Rattle.rules.specs.Layout.{slot_start, entry_place, edition_of, pointer_word, owner_at, node_words, head_words, read}
use Rattle.rules.specs.Sound.{is_slot, records_sound, owners_sound}
use Rattle.rules_laws.proofs.Places.{Among}
use Rattle.pool.specs.Standing.{stand, tidy_around}
use Rattle.sound_laws.specs.Tree.{slots_in, times, Tree}

-- ---- entries

-- low is not above high
unfoldable pub upright : Rect → Bool
upright r = le_z r.lowX r.highX && le_z r.lowY r.highY

-- a valid rectangle, and a pointer of 1 or more: in a leaf, a sound entry
unfoldable pub plain_entry : Entry → Bool
plain_entry e = valid e.rect && le_z (pos 1) (pointer_word e.pointer)

-- the slots of the trees that entries lead to
abbrev pub slots_below : Pool → ℕ → List Entry → List SlotNumber
slots_below p below es = joined (map (λ (e : Entry). slots_in p below (child_of e)) es)

-- ---- marks

-- a slot's mark: 0 before it is met
abbrev pub mark_of : List ℕ → SlotNumber → ℕ
mark_of seen t = get_or seen (t.0 - 1) 0

-- none of the slots was met before, and none is among them twice
pub record Unmet (ss : List SlotNumber) (seen : List ℕ) : Type 0 where
  pub each : (t : SlotNumber) → 1 ≤ t.0 → 1 ≤ times t ss → mark_of seen t + times t ss ≤ 1

-- each of them has been marked
pub record Marked (ss : List SlotNumber) (seen after : List ℕ) : Type 0 where
  pub size : length after ≡ length seen
  pub each : (t : SlotNumber) → 1 ≤ t.0 → mark_of after t ≡ mark_of seen t + times t ss

-- the answer r says whether what is asked holds, and the slots that belong to it are met for the first time; if so, they are marked
pub record Answers (Asked : Type 0) (ss : List SlotNumber) (seen after : List ℕ) (r : Bool) : Type 0 where
  pub yes : r ≡ true → Asked
  pub unmet : r ≡ true → Unmet ss seen
  pub marked : r ≡ true → Marked ss seen after
  pub all : Asked → Unmet ss seen → r ≡ true

-- ---- nodes

-- the node in a slot is of the level, and what stands around its entries is tidy
pub record Fitting (w : List ℤ) (l : ℕ) (s : SlotNumber) : Type 0 where
  pub level : (node_at (read w) s).level ≡ l
  pub around : tidy_around w s ≡ true

-- a tree of so many levels at s, whose slots are tidy around their entries
pub record TidyTree (w : List ℤ) (l : ℕ) (s : SlotNumber) : Type 0 where
  pub tree : Tree (read w) l s
  pub around : (t : SlotNumber) → Among t (slots_in (read w) l s) → tidy_around w t ≡ true

-- .. that an entry with the rectangle `want` may lead to
pub record SoundNode (w : List ℤ) (l : ℕ) (s : SlotNumber) (want : Rect) : Type 0 where
  pub below : TidyTree w l s
  pub enough : least ≤ length (entries_at (read w) s)
  pub tight : want ≡ cover_of (entries_at (read w) s)

abbrev pub SoundEntries : List ℤ → ℕ → List Entry → Type 0
SoundEntries w below es = (e : Entry) → Among e es → SoundNode w below (child_of e) e.rect

-- .. and one at the root
pub record SoundRoot (w : List ℤ) (l : ℕ) (s : SlotNumber) : Type 0 where
  pub below : TidyTree w l s
  pub two : 2 ≤ l → 2 ≤ length (entries_at (read w) s)

-- what the node check, the entry check and the root's check answer
abbrev pub NodeAnswer : List ℤ → ℕ → SlotNumber → Rect → List ℕ → List ℕ → Bool → Type 0
NodeAnswer w l s want seen after r = Answers (SoundNode w l s want) (slots_in (read w) l s) seen after r

abbrev pub EntriesAnswer : List ℤ → ℕ → List Entry → List ℕ → List ℕ → Bool → Type 0
EntriesAnswer w below es seen after r = Answers (SoundEntries w below es) (slots_below (read w) below es) seen after r

abbrev pub RootAnswer : List ℤ → ℕ → SlotNumber → List ℕ → List ℕ → Bool → Type 0
RootAnswer w l s seen after r = Answers (SoundRoot w l s) (slots_in (read w) l s) seen after r

-- ---- the rest

-- "free slots are all zero": the slot was met, or its words are
unfoldable pub met_or_zero : List ℤ → List ℕ → SlotNumber → Bool
met_or_zero w seen s = not (eqb (mark_of seen s) 0) || stand (node_words (edition_of w) free_node) w (slot_start (edition_of w) s)

-- the head's words are those of the pool that is read; the root is a slot, and the height one that a sound tree may have
unfoldable pub head_sound : List ℤ → Bool
head_sound w = stand (head_words (read w)) w 0 && (leb 1 (read w).height && leb (read w).height 8) && is_slot (read w) (read w).root

-- how many records a node has, and all of them
unfoldable pub record_count : Node → ℕ
record_count n = cond (is_leaf n) (length n.entries) 0

unfoldable pub record_counts : List Node → ℕ
record_counts ns = length (joined (map (λ (n : Node). n.entries) (those is_leaf ns)))

-- Req 07, "an owner, 1 or 2": each entry of a leaf has one; what a node above the leaves has is no record
unfoldable pub owned_entry : Entry → Bool
owned_entry e = good_owner (owner_of e)

unfoldable pub owned_node : Node → Bool
owned_node n = cond (is_leaf n) (every owned_entry n.entries) true

-- the owner's word of the entry at place i of slot s
abbrev pub owner_word_at : List ℤ → SlotNumber → ℕ → ℤ
owner_word_at w s i = owner_at (edition_of w) (drop (entry_place (edition_of w) s i) w)

-- the places of its entries
abbrev pub places_of : List ℤ → SlotNumber → List ℕ
places_of w s = up_from 0 (length (entries_at (read w) s))

-- "zero in inner entries"
unfoldable pub inner_unowned : List ℤ → SlotNumber → Bool
inner_unowned w s = is_leaf (node_at (read w) s) || every (λ (i : ℕ). same (pos 0) (owner_word_at w s i)) (places_of w s)

-- both questions of a slot, and of one such word in a leaf or in another node
unfoldable pub owners_fit : List ℤ → SlotNumber → Bool
owners_fit w s = owned_node (node_at (read w) s) && inner_unowned w s

unfoldable pub owner_fits : Bool → ℤ → Bool
owner_fits leaf o = cond leaf (good_owner (owner o)) (same (pos 0) o)

-- what is asked beside the walk: of the slots that it did not meet, the records, and the owners
unfoldable pub rest_sound : List ℤ → List ℕ → Bool
rest_sound w seen =
    let p = read w in
    every (met_or_zero w seen) (slot_numbers p) && records_sound p && (owners_sound p && every (inner_unowned w) (slot_numbers p))
