-- A pool whose tree stands while some entries are set aside, and what an entry put into its tree does to the pool.
use Rattle.std.specs.Prelude.{◌≡◌, ◌⊎◌, List, [], ◌∷◌, ℕ, suc, ◌+◌, ◌≤◌, ◌<◌, min, length}
use Rattle.rules.specs.declared.SlotNumber.{SlotNumber}
use Rattle.rules.specs.declared.Entry.{Entry}
use Rattle.rules.specs.Pool.{Pool, node, free_node, node_at, entries_at}
use Rattle.rules.specs.Insert.{Change, Done, NoneFree}
use Rattle.rules_laws.proofs.Places.{Among}
use Rattle.sound_laws.specs.Tree.{tree_slots, times, Slot, Used, Tree}
use Rattle.insert_laws.specs.Grown.{spot, Grew}

-- the pool is one tree from its root, but for the slots `aside`, which are below entries that are in no node: each slot in use is one of
-- the tree's or one of those, once, and the others are free
pub record Standing (p : Pool) (aside : List SlotNumber) : Type 0 where
  pub tree : Tree p p.height p.root
  pub some : 2 ≤ p.height → 0 < length (entries_at p p.root)
  pub used : (s : SlotNumber) → Among s aside → Used p s
  pub once : (s : SlotNumber) → Used p s → times s (tree_slots p) + times s aside ≡ 1
  pub free : (s : SlotNumber) → Slot p s → (node_at p s).level ≡ 0 → node_at p s ≡ free_node

-- an entry of a node of level k was put into the tree of p, and q is the pool with it: the tree grew by it, and its root is the old one,
-- or "a new root" one level up with two entries
pub record Put (p : Pool) (k : ℕ) (e : Entry) (q : Pool) : Type 0 where
  pub taken : List SlotNumber
  pub grew : Grew (spot p p.height p.root) (spot q q.height q.root) (node k (e ∷ [])) free_node taken (tree_slots p)
  pub records : q.records ≡ p.records
  pub head : ((q.root ≡ p.root) × (q.height ≡ p.height) × (min 2 (length (entries_at p p.root)) ≤ length (entries_at q q.root)))
      ⊎ (Among q.root taken × (q.height ≡ suc p.height) × (length (entries_at q q.root) ≡ 2))

abbrev pub Puts : Pool → ℕ → Entry → Change → Type 0
Puts p k e (Done q) = Put p k e q
Puts p k e NoneFree = Unit {0}
