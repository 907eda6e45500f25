-- How what the code leaves represents what the definitions give, and what a tree has to be for an entry to go into it.
use Rattle.std.specs.Prelude.{◌≡◌, List, ℕ, ◌≤◌, ◌<◌, length, ℤ, Option, Some, None}
use Rattle.rules.specs.declared.Entry.{Entry}
use Rattle.rules.specs.Pool.{Pool, entries_at}
use Rattle.rules.specs.Layout.{read}
use Rattle.rules.specs.Insert as I
use Rattle.layout_laws.specs.Slots.{Fit, KindOf}
use Rattle.free_slots.specs.declared.FreeSlots.{FreeSlots}
use Rattle.free_slots.specs.Known.{Known}
use Rattle.sound_laws.specs.Tree.{tree_slots, Once, Tree}
use Rattle.insert_laws.specs.Grown.{Fits}
use Rattle.insert.specs.declared.Growth.{Growth}

-- the words hold the pool q, and f is what is known of its free slots
pub record HoldsPool (q : Pool) (f : FreeSlots) (w : List ℤ) : Type 0 where
  pub fit : Fit w
  pub is : read w ≡ q
  pub known : Known q f

-- the node that was to take an entry is still one node, or two; or no slot was free
abbrev pub GrewTo : I.Grown → Option Growth → List ℤ → Type 0
GrewTo (I.Kept q) (Some g) w = (g.partner ≡ None) × HoldsPool q g.free w
GrewTo (I.Split q x) (Some g) w = (g.partner ≡ Some x) × HoldsPool q g.free w
GrewTo I.Full (Some g) w = ⊥
GrewTo (I.Kept q) None w = ⊥
GrewTo (I.Split q x) None w = ⊥
GrewTo I.Full None w = Unit {0}

-- a change is made as the definition has it; where no slot is free, nothing is written
abbrev pub Leaves : List ℤ → I.Change → Option FreeSlots → List ℤ → Type 0
Leaves before (I.Done q) (Some f) w = HoldsPool q f w
Leaves before (I.Done q) None w = ⊥
Leaves before I.NoneFree (Some f) w = ⊥
Leaves before I.NoneFree None w = w ≡ before

-- an entry that may be in a node of the level, and that a slot of the pool's edition can keep
pub record MayGo (p : Pool) (level : ℕ) (e : Entry) : Type 0 where
  pub fits : Fits p level e
  pub kind : KindOf p.edition level e.pointer

-- a tree from the root on, no slot in it twice
pub record Upright (p : Pool) : Type 0 where
  pub tree : Tree p p.height p.root
  pub once : Once (tree_slots p)
  pub some : 2 ≤ p.height → 0 < length (entries_at p p.root)
