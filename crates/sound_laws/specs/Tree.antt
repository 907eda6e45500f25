-- The tree in a pool: its slots and records in the order of a walk, and what makes it a tree.
use Rattle.std.specs.Prelude.{◌≡◌, true, cond, List, [], ◌∷◌, map, ℕ, zero, suc, ◌≤◌, leb, length}
use Rattle.rules.specs.declared.SlotNumber.{SlotNumber}
use Rattle.rules.specs.declared.Record.{Record}
use Rattle.rules.specs.declared.Entry.{Entry}
use Rattle.rules.specs.Lists.{those, joined}
use Rattle.rules.specs.Numbers.{most, least, good_number}
use Rattle.rules.specs.Geometry.{valid}
use Rattle.rules.specs.Pool.{Pool, free_node, same_slot, node_at, entries_at, child_of, number_of, record_of, cover_of, is_leaf, stored}
use Rattle.rules_laws.proofs.Places.{Among}

-- ---- read off the pool

-- the slots of the tree with so many levels at s: s, then those of its children in stored order
unfoldable pub slots_in : Pool → ℕ → SlotNumber → List SlotNumber
slots_in p zero s = []
slots_in p (suc zero) s = s ∷ []
slots_in p (suc (suc l)) s = s ∷ joined (map (λ (e : Entry). slots_in p (suc l) (child_of e)) (entries_at p s))

-- the records of its leaves, in the same order
unfoldable pub records_in : Pool → ℕ → SlotNumber → List Record
records_in p zero s = []
records_in p (suc zero) s = map record_of (entries_at p s)
records_in p (suc (suc l)) s = joined (map (λ (e : Entry). records_in p (suc l) (child_of e)) (entries_at p s))

-- those of the tree from the root down
abbrev pub tree_slots : Pool → List SlotNumber
tree_slots p = slots_in p p.height p.root

abbrev pub tree_records : Pool → List Record
tree_records p = records_in p p.height p.root

-- what one slot has: its children, where it holds an inner node, and its records, where it holds a leaf
unfoldable pub children_at : Pool → SlotNumber → List SlotNumber
children_at p s = cond (leb 2 (node_at p s).level) (map child_of (entries_at p s)) []

unfoldable pub records_at : Pool → SlotNumber → List Record
records_at p s = cond (is_leaf (node_at p s)) (map record_of (entries_at p s)) []

-- how often a slot occurs in a list
abbrev pub times : SlotNumber → List SlotNumber → ℕ
times s ss = length (those (λ t. same_slot t s) ss)

-- none occurs there twice
abbrev pub Once : List SlotNumber → Type 0
Once ss = (s : SlotNumber) → times s ss ≤ 1

-- ---- a tree

-- "a slot from 1 to N", and one whose node is in use
pub record Slot (p : Pool) (s : SlotNumber) : Type 0 where
  pub low : 1 ≤ s.0
  pub high : s.0 ≤ length p.slots

pub record Used (p : Pool) (s : SlotNumber) : Type 0 where
  pub slot : Slot p s
  pub used : 1 ≤ (node_at p s).level

-- the slot holds a node of the level, with as many entries as a node may have
pub record NodeIn (p : Pool) (l : ℕ) (s : SlotNumber) : Type 0 where
  pub slot : Slot p s
  pub level : (node_at p s).level ≡ l
  pub few : length (entries_at p s) ≤ most

-- "A leaf entry needs a valid rectangle and number."
pub record LeafEntry (e : Entry) : Type 0 where
  pub rect : valid e.rect ≡ true
  pub number : good_number (number_of e) ≡ true

-- an entry whose rectangle is "the smallest holding that node's entries"; `Below` is what is asked of its child besides the count
pub record InnerEntry (p : Pool) (Below : SlotNumber → Type 0) (e : Entry) : Type 0 where
  pub child : Below (child_of e)
  pub enough : least ≤ length (entries_at p (child_of e))
  pub tight : e.rect ≡ cover_of (entries_at p (child_of e))

-- a node whose entries are each sound
pub record NodeOf (p : Pool) (l : ℕ) (Sound : Entry → Type 0) (s : SlotNumber) : Type 0 where
  pub node : NodeIn p l s
  pub each : (e : Entry) → Among e (entries_at p s) → Sound e

-- a tree of so many levels at s
unfoldable pub Tree : Pool → ℕ → SlotNumber → Type 0
Tree p zero s = ⊥
Tree p (suc zero) s = NodeOf p 1 LeafEntry s
Tree p (suc (suc l)) s = NodeOf p (suc (suc l)) (InnerEntry p (λ t. Tree p (suc l) t)) s

-- the pool is one tree from its root: each slot in use occurs in it once, and the others are free
pub record Whole (p : Pool) : Type 0 where
  pub tree : Tree p p.height p.root
  pub two : 2 ≤ p.height → 2 ≤ length (entries_at p p.root)
  pub once : (s : SlotNumber) → Used p s → times s (tree_slots p) ≡ 1
  pub free : (s : SlotNumber) → Slot p s → (node_at p s).level ≡ 0 → node_at p s ≡ free_node
  pub counted : p.records ≡ length (stored p)
