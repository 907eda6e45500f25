-- What an insert does to a tree: entries come to it, some may be left over, free slots may be taken, and nothing else moves.
use Rattle.std.specs.Prelude.{◌≡◌, List, [], ◌∷◌, map, ℕ, zero, suc, ◌+◌, ◌≤◌, min, length}
use Rattle.rules.specs.declared.SlotNumber.{SlotNumber}
use Rattle.rules.specs.declared.Record.{Record}
use Rattle.rules.specs.declared.Entry.{Entry}
use Rattle.rules.specs.Lists.{total}
use Rattle.rules.specs.Numbers.{least}
use Rattle.rules.specs.Pool.{Node, Pool, node, free_node, node_at, entries_at, child_of, record_of}
use Rattle.rules.specs.Insert.{Grown, Kept, Split, Full}
use Rattle.rules_laws.proofs.Places.{Among}
use Rattle.sound_laws.specs.Tree.{slots_in, records_in, Once, Slot, LeafEntry, InnerEntry, Tree}

-- ---- an entry of a node of a level

-- the slots and the records under it
unfoldable pub slots_under : Pool → ℕ → Entry → List SlotNumber
slots_under p zero e = []
slots_under p (suc zero) e = []
slots_under p (suc (suc l)) e = slots_in p (suc l) (child_of e)

unfoldable pub records_under : Pool → ℕ → Entry → List Record
records_under p zero e = []
records_under p (suc zero) e = record_of e ∷ []
records_under p (suc (suc l)) e = records_in p (suc l) (child_of e)

-- it may be in a node of the level
unfoldable pub Fits : Pool → ℕ → Entry → Type 0
Fits p zero e = ⊥
Fits p (suc zero) e = LeafEntry e
Fits p (suc (suc l)) e = InnerEntry p (λ t. Tree p (suc l) t) e

-- ---- weights: what each slot and each record counts, so that slots and records are counted by one law

pub record Weights : Type 0 where
  pub of_slot : SlotNumber → ℕ
  pub of_record : Record → ℕ

abbrev pub weigh : Weights → List SlotNumber → List Record → ℕ
weigh w ss rs = total (map w.of_slot ss) + total (map w.of_record rs)

unfoldable pub weight_under : Weights → Pool → ℕ → Entry → ℕ
weight_under w p l e = weigh w (slots_under p l e) (records_under p l e)

-- entries that are in no slot, on their way to a node of a level: the slots and records under them all
unfoldable pub weight_of : Weights → Pool → Node → ℕ
weight_of w p n = total (map (weight_under w p n.level) n.entries)

-- ---- a tree before and after

-- a tree of a pool: its levels and its top
pub record Spot : Type 0 where
  pub pool : Pool
  pub level : ℕ
  pub top : SlotNumber

abbrev pub spot : Pool → ℕ → SlotNumber → Spot
spot p l s = record { pool = p; level = l; top = s }

abbrev pub slots_at : Spot → List SlotNumber
slots_at a = slots_in a.pool a.level a.top

unfoldable pub weight_at : Weights → Spot → ℕ
weight_at w a = weigh w (slots_at a) (records_in a.pool a.level a.top)

-- the tree a has become the tree b: the entries of `come` are in it, those of `left` are yet to go somewhere, the slots `taken` were
-- free, and of the others none but those `touched` has changed
pub record Grew (a b : Spot) (come left : Node) (taken touched : List SlotNumber) : Type 0 where
  pub tree : Tree b.pool b.level b.top
  pub fit : (e : Entry) → Among e left.entries → Fits b.pool left.level e
  pub weighs : (w : Weights) → weight_at w b + weight_of w b.pool left ≡ weight_at w a + weight_of w a.pool come + total (map w.of_slot taken)
  pub long : length a.pool.slots ≡ length b.pool.slots
  pub slot : (t : SlotNumber) → Among t taken → Slot a.pool t
  pub free : (t : SlotNumber) → Among t taken → (node_at a.pool t).level ≡ 0
  pub once : Once taken
  pub inside : (t : SlotNumber) → Among t touched → Among t (slots_at a)
  pub other : (t : SlotNumber) → 1 ≤ t.0 → (Among t touched → ⊥) → (Among t taken → ⊥) → node_at a.pool t ≡ node_at b.pool t

-- the head is as it was
pub record SameHead (p q : Pool) : Type 0 where
  pub root : q.root ≡ p.root
  pub height : q.height ≡ p.height
  pub records : q.records ≡ p.records

-- what became of the node at s of level l that was to take an entry of a node of level k: it has taken it, and nothing is left; it was
-- split, and the partner's entry is left for a node one level up; or there was no free slot. It has three entries or more, or else as many
-- as before
abbrev pub Grows : Pool → ℕ → SlotNumber → ℕ → Entry → List SlotNumber → Grown → Type 0
Grows p l s k e touched (Kept q) =
    (taken : List SlotNumber) × Grew (spot p l s) (spot q l s) (node k (e ∷ [])) free_node taken touched × SameHead p q
    × (min least (length (entries_at p s)) ≤ length (entries_at q s))
Grows p l s k e touched (Split q x) =
    (taken : List SlotNumber) × Grew (spot p l s) (spot q l s) (node k (e ∷ [])) (node (suc l) (x ∷ [])) taken touched × SameHead p q
    × (least ≤ length (entries_at q s))
Grows p l s k e touched Full = Unit {0}
