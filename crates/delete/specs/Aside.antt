-- The entries set aside as the code has them, and what the steps up the way ask of the pool.
use Rattle.std.specs.Prelude.{◌≡◌, Bool, true, not, ◌&&◌, ◌≢◌, List, map, ℕ, ◌≤◌, ◌<◌, leb, ltb, length, take, ℤ}
use Rattle.rules.specs.declared.Edition.{Edition}
use Rattle.rules.specs.declared.SlotNumber.{SlotNumber}
use Rattle.rules.specs.declared.Record.{Record}
use Rattle.rules.specs.declared.Entry.{Entry}
use Rattle.rules.specs.Numbers.{least, most_slots}
use Rattle.rules.specs.Owners.{owner_sound}
use Rattle.rules.specs.Geometry.{same_rect}
use Rattle.rules.specs.Pool.{Pool, node_at, entries_at, entry_at, child_of, owner_of, cover_of}
use Rattle.rules.specs.Delete.{Aside, Condensed}
use Rattle.rules_laws.proofs.Places.{Among}
use Rattle.layout_laws.specs.Slots.{SmallAll}
use Rattle.free_slots.specs.declared.FreeSlots.{FreeSlots}
use Rattle.free_slots.specs.Known.{Known}
use Rattle.sound_laws.specs.Tree.{slots_in, Once, Slot, Tree}
use Rattle.delete_laws.specs.Way.{Leads}
use Rattle.find_leaf.specs.declared.Way.{Way}
use Rattle.find_leaf.specs.Ways.{path_of}
use Rattle.insert.specs.Left.{HoldsPool}
use Rattle.delete.specs.declared.asides.SetAside.{SetAside}
use Rattle.delete.specs.declared.asides.Asides.{Asides}

-- an entry set aside, with its level
abbrev pub aside : ℕ → Entry → Aside
aside l e = record { level = l; entry = e }

abbrev pub held : SetAside → Aside
held a = aside a.level a.entry

-- all of them
abbrev pub asides_of : Asides → List Aside
asides_of a = map held (take a.count a.list)

-- the leaf entries among those set aside are of owners that the edition has
pub record OwnedAside (e : Edition) (xs : List Aside) : Type 0 where
  pub each : (a : Aside) → Among a xs → a.level ≡ 1 → owner_sound e (owner_of a.entry) ≡ true

-- the words hold the pool of d, and a has what d has set aside
pub record Has (d : Condensed) (a : Asides) (w : List ℤ) : Type 0 where
  pub pool : HoldsPool d.pool a.free w
  pub list : asides_of a ≡ d.set_aside

-- a node whose entries can be written again: its level and its pointers are small
pub record Rewritable (p : Pool) (s : SlotNumber) : Type 0 where
  pub slot : Slot p s
  pub low : (node_at p s).level ≤ most_slots
  pub small : SmallAll (entries_at p s) (length (entries_at p s))

-- t is the child at place i of the node at s
pub record ChildAt (p : Pool) (s : SlotNumber) (i : ℕ) (t : SlotNumber) : Type 0 where
  pub parent : Rewritable p s
  pub there : i < length (entries_at p s)
  pub inner : 2 ≤ (node_at p s).level
  pub slot : Slot p t
  pub used : (node_at p t).level ≢ 0
  pub apart : t ≢ s
  pub is : child_of (entry_at p s i) ≡ t

-- the way comes down a tree of h levels to a pair
pub record ComesDown (p : Pool) (h : ℕ) (way : Way) : Type 0 where
  pub pair : Record
  pub tree : Tree p h p.root
  pub once : Once (slots_in p h p.root)
  pub leads : Leads p pair h p.root (path_of h way)
  pub long : length way.steps ≡ 8
  pub high : h ≤ 8

-- ---- where nothing is set aside

-- the leaf at s would be left with too few entries, and is not the root
unfoldable pub thin_at : Pool → SlotNumber → Bool
thin_at p s = leb (length (entries_at p s)) least && ltb 1 p.height

-- entry i of the node at s is not "the smallest holding" its child's entries
unfoldable pub wide_at : Pool → SlotNumber → ℕ → Bool
wide_at p s i = not (same_rect (cover_of (entries_at p (child_of (entry_at p s i)))) (entry_at p s i).rect)

-- what is known of the free slots is still known
abbrev pub StillKnown : Pool → Pool → Type 0
StillKnown p q = (f : FreeSlots) → Known p f → Known q f
