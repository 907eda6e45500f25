-- What the functions of a walk ask of the pool between them. A reader of `insert_at` and `insert_record` needs none of this.
use Rattle.std.specs.Prelude.{◌≡◌, true, List, ℕ, suc, ◌+◌, ◌≤◌, ◌<◌, length, get_or, set, ℤ, Option, Some, None, MatchOption}
use Rattle.rules.specs.declared.Rect.{Rect}
use Rattle.rules.specs.declared.SlotNumber.{SlotNumber}
use Rattle.rules.specs.declared.Pointer.TheVariants.{Child}
use Rattle.rules.specs.declared.Entry.{Entry}
use Rattle.rules.specs.Geometry.{valid, cover}
use Rattle.rules.specs.Pool.{Pool, entry, entries_at, entry_at, child_of, put_entries, tighten}
use Rattle.rules.specs.Layout.{read}
use Rattle.rules.specs.Insert as I
use Rattle.layout_laws.specs.Slots.{Fit}
use Rattle.nodes.specs.Reading.{LeadsOn}
use Rattle.free_slots.specs.declared.FreeSlots.{FreeSlots}
use Rattle.free_slots.specs.Known.{Known}
use Rattle.sound_laws.specs.Tree.{slots_in, Once, Slot, Tree}
use Rattle.insert_laws.specs.Grown.{Fits}
use Rattle.insert.specs.Left.{MayGo}
use Rattle.insert.specs.declared.Growth.{Growth}

-- the numbers of a group are places among the nine entries
abbrev pub Inside : List ℕ → Type 0
Inside places = (k : ℕ) → k < length places → get_or places k 0 < 9

-- the node at s is the top of a tree, and the entry may be in it
pub record Here (p : Pool) (s : SlotNumber) (e : Entry) : Type 0 where
  pub level : ℕ
  pub tree : Tree p level s
  pub goes : MayGo p level e
  pub few : level ≤ 64

-- the node at s is the top of a tree of n levels and more: a rectangle comes from there to a node n levels below
pub record WayDown (p : Pool) (n : ℕ) (s : SlotNumber) (new : Rect) : Type 0 where
  pub level : ℕ
  pub low : 1 ≤ level
  pub tree : Tree p (n + level) s
  pub some : 0 < n → 0 < length (entries_at p s)
  pub few : n + level ≤ 64
  pub good : valid new ≡ true

-- .. and an entry goes into that node
pub record GoesDown (p : Pool) (n : ℕ) (s : SlotNumber) (e : Entry) : Type 0 where
  pub way : WayDown p n s e.rect
  pub once : Once (slots_in p (n + way.level) s)
  pub goes : MayGo p way.level e

-- the other entry may be beside the root's own in a new root
pub record Beside (p : Pool) (x : Entry) : Type 0 where
  pub slot : Slot p p.root
  pub few : p.height ≤ 64
  pub high : 1 ≤ p.height
  pub fits : Fits p (suc p.height) x

-- words that are a pool's, with what is known of its free slots
pub record Fitted (w : List ℤ) (f : FreeSlots) : Type 0 where
  pub fit : Fit w
  pub known : Known (read w) f

-- what the definitions call a node that has taken an entry, when the words hold p: it depends on the partner alone
abbrev pub grown_by : Pool → Option Entry → I.Grown
grown_by p None = I.Kept p
grown_by p (Some x) = I.Split p x

abbrev pub grown_of : Pool → Growth → I.Grown
grown_of p g = grown_by p g.partner

-- entry i of the node at s with its rectangle widened to hold another
unfoldable pub widened : Pool → SlotNumber → ℕ → Rect → Pool
widened p s i new =
    put_entries p s (set (entries_at p s) i (entry (cover (entry_at p s i).rect new) (Child (child_of (entry_at p s i)))))

-- the child of entry i of the node at s has become one node, whose cover is the entry's rectangle widened by the new one; or two
pub record Back (w : List ℤ) (s : SlotNumber) (i : ℕ) (new : Rect) (g : Growth) : Type 0 where
  pub fitted : Fitted w g.free
  pub leads : LeadsOn (read w) s i
  pub child : MatchOption g.partner (tighten (read w) s i ≡ widened (read w) s i new) (λ x. Here (tighten (read w) s i) s x)

-- the root has become one node or two
pub record Risen (w : List ℤ) (g : Growth) : Type 0 where
  pub fitted : Fitted w g.free
  pub root : MatchOption g.partner (Unit {0}) (λ x. Beside (read w) x)
