-- What taking a pair out does to a tree: entries of it are set aside, slots of it are freed, and nothing else moves.
use Rattle.std.specs.Prelude.{◌≡◌, Bool, List, [], ◌∷◌, map, ℕ, suc, ◌+◌, ◌*◌, ◌≤◌, ◌<◌, length}
use Rattle.rules.specs.declared.SlotNumber.{SlotNumber}
use Rattle.rules.specs.declared.Record.{Record}
use Rattle.rules.specs.Lists.{those, total, joined}
use Rattle.rules.specs.Pool.{Pool, free_node, node_at, entries_at, stored, free_count}
use Rattle.rules.specs.Insert.{Change, Done, NoneFree}
use Rattle.rules.specs.Delete.{Aside, Condensed}
use Rattle.rules_laws.proofs.Places.{Among}
use Rattle.sound_laws.specs.Tree.{slots_in, tree_records, Tree, Whole}
use Rattle.insert_laws.specs.Grown.{slots_under, Fits, Weights, weight_under, spot, weight_at, SameHead}
use Rattle.insert_laws.specs.Standing.{Standing}
pub use Rattle.insert_laws.specs.Lasting.{EachPool}
use Rattle.insert_laws.proofs.Counts.{count_of}

abbrev pub condensed : Pool → List Aside → Condensed
condensed p xs = record { pool = p; set_aside = xs }

-- what is below entries that are set aside
unfoldable pub slots_aside : Pool → List Aside → List SlotNumber
slots_aside p xs = joined (map (λ (a : Aside). slots_under p a.level a.entry) xs)

unfoldable pub weight_aside : Weights → Pool → List Aside → ℕ
weight_aside w p xs = total (map (λ (a : Aside). weight_under w p a.level a.entry) xs)

-- the tree of l levels at s, less the pair r, is what d has there, and what it has set aside from lower levels; the slots `freed` are zero,
-- at most one of each level below the top, and each had at most two entries; a slot outside the tree is as it was. The top has one entry
-- fewer, or as many as before
pub record Shrunk (p : Pool) (l : ℕ) (s : SlotNumber) (r : Record) (d : Condensed) : Type 0 where
  pub freed : List SlotNumber
  pub tree : Tree d.pool l s
  pub fit : (a : Aside) → Among a d.set_aside → Fits d.pool a.level a.entry
  pub low : (a : Aside) → Among a d.set_aside → a.level < l
  pub weighs : (w : Weights)
      → weight_at w (spot d.pool l s) + weight_aside w d.pool d.set_aside + total (map w.of_slot freed) + w.of_record r
      ≡ weight_at w (spot p l s)
  pub many : length (entries_at p s) ≤ suc (length (entries_at d.pool s))
  pub inside : (t : SlotNumber) → Among t freed → Among t (slots_in p l s)
  pub zeroed : (t : SlotNumber) → Among t freed → node_at d.pool t ≡ free_node
  pub two_each : length d.set_aside ≤ 2 * length freed
  pub fewer : length freed < l
  pub spare : free_count d.pool ≡ free_count p + length freed
  pub long : length p.slots ≡ length d.pool.slots
  pub head : SameHead p d.pool
  pub other : (t : SlotNumber) → 1 ≤ t.0 → (Among t (slots_in p l s) → ⊥) → node_at p t ≡ node_at d.pool t

-- the tree of the pool stands, and the entries set aside wait beside it, each of a node lower than the root
pub record Waiting (p : Pool) (xs : List Aside) : Type 0 where
  pub stands : Standing p (slots_aside p xs)
  pub fit : (a : Aside) → Among a xs → Fits p a.level a.entry
  pub low : (a : Aside) → Among a xs → a.level < p.height

-- p with the entries of xs put back is q
pub record PutBack (p : Pool) (xs : List Aside) (q : Pool) : Type 0 where
  pub stands : Standing q []
  pub records : q.records ≡ p.records
  pub count : (f : Record → Bool) → length (those f (tree_records q)) ≡ length (those f (tree_records p)) + weight_aside (count_of f) p xs

-- p, its root with one child freed where it had one, is q
pub record Shortened (p q : Pool) : Type 0 where
  pub stands : Standing q []
  pub two : 2 ≤ q.height → 2 ≤ length (entries_at q q.root)
  pub high : q.height ≤ p.height
  pub spare : free_count p ≤ free_count q
  pub records : q.records ≡ p.records
  pub count : (f : Record → Bool) → length (those f (tree_records q)) ≡ length (those f (tree_records p))

-- p less the pair r is q: whole, and every test holds for as many of its records, with the pair, as before
pub record Deleted (p : Pool) (r : Record) (q : Pool) : Type 0 where
  pub whole : Whole q
  pub stored : (f : Record → Bool) → length (those f (stored q)) + length (those f (r ∷ [])) ≡ length (those f (stored p))

-- a pool is given, and is as it should be
abbrev pub Sure : (Pool → Type 0) → Change → Type 0
Sure Good (Done q) = Good q
Sure Good NoneFree = ⊥

-- n entries put into a tree of h levels: each takes at most a slot for each level and one more, and the tree grows by at most one level
unfoldable pub room_for : ℕ → ℕ → ℕ
room_for n h = n * (h + n)

-- after them the tree is at most so high, and at least so many slots are left
pub record SlotRoom (p : Pool) (n : ℕ) (q : Pool) : Type 0 where
  pub high : q.height ≤ p.height + n
  pub left : free_count p ≤ free_count q + room_for n p.height
