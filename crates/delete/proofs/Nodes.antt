-- Slots of the pool that the words hold, and what a node there has: pointers of its level's kind, which a word holds. And an entry that goes out.
use mathlib.Core.Path.{◌≡◌, refl}
use mathlib.Core.List.{List}
use Prim.Native.Nat.{ℕ, ◌≤◌, ◌<◌}
use native.Mathlib.Omega.{arith}
use lib.Dec.{eqb}
use lib.ListN.{length, get_or}
use lib.IntN.{ℤ}
use Rattle.rules.specs.declared.SlotNumber.{SlotNumber}
use Rattle.rules.specs.declared.Entry.{Entry}
use Rattle.rules.specs.Lists.{without}
use Rattle.rules.specs.Numbers.{most_slots}
use Rattle.rules.specs.Pool.{Node, Pool, no_entry, node_at, entries_at, free_count, put_entries}
use Rattle.rules.specs.Layout.{edition_of, read}
use Rattle.rules.specs.Delete.{place, take_out}
use Rattle.rules_laws.proofs.Places.{at_place, each_at}
use Rattle.rules_laws.proofs.Parts.{those_fewer}
use Rattle.layout_laws.specs.Slots.{InPool, Fit, KindOf}
use Rattle.layout_laws.proofs.Written.{fine_at}
use Rattle.sound_laws.specs.Tree.{Slot, Tree}
use Rattle.sound_laws.proofs.Walk.{tree_node}
use Rattle.insert_laws.proofs.Under.{tree_fits}
use Rattle.free_slots.specs.declared.FreeSlots.{FreeSlots}
use Rattle.free_slots.specs.Known.{Known}
use Rattle.nodes.proofs.Slots.{most_slots_lem}
use Rattle.insert.proofs.Fitted.{slot_in, fits_small}
use Rattle.delete.specs.Aside as A

-- ---- slots

module _ {w : List ℤ} (f : Fit w) where
  pub few_read : length (read w).slots ≤ most_slots
  few_read = most_slots_lem w f.right

  pub in_pool_lem : {s : SlotNumber} → Slot (read w) s → InPool w s
  in_pool_lem {s} k = slot_in w s f.right k

pub free_few : (p : Pool) (f : FreeSlots) → Known p f → length p.slots ≤ most_slots → f.count ≤ most_slots
unfolding free_count
free_few p f k h = omega (arith, k.many, those_fewer (λ (n : Node). eqb n.level 0) p.slots, h)

-- the top of a tree can be written again
pub tree_rewritable : (p : Pool) → length p.slots ≤ most_slots → (l : ℕ) (s : SlotNumber) → l ≤ most_slots → Tree p l s → A.Rewritable p s
tree_rewritable p few l s low d =
    let n = tree_node p l s d in
    record {
      slot = n.slot;
      low = omega (arith, n.level);
      small = record { small = λ i h. fits_small p l (get_or (entries_at p s) i no_entry) few (tree_fits p l s d _ (at_place (entries_at p s) i no_entry h)) };
    }

-- ---- its entries

module _ {w : List ℤ} {s : SlotNumber} (f : Fit w) (g : Slot (read w) s) where
  pub here_kind : (k : ℕ) → k < length (entries_at (read w) s)
      → KindOf (edition_of w) (node_at (read w) s).level (get_or (entries_at (read w) s) k no_entry).pointer
  unfolding entries_at
  here_kind k h =
      each_at (λ (x : Entry). KindOf (edition_of w) (node_at (read w) s).level x.pointer) (node_at (read w) s).entries k no_entry h
      (fine_at (in_pool_lem f g)).kinds

-- an entry goes out
pub taken_out : (p : Pool) (s : SlotNumber) (i : ℕ) → put_entries p s (without i (entries_at p s)) ≡ take_out p (place s i)
unfolding take_out
taken_out p s i = refl
