-- A pointer that a word holds as a child of an inner node. And an entry made tight: with another rectangle it leads to its child as before.
use mathlib.Core.Path.{◌≡◌, refl, ap, ◌∙◌}
use mathlib.Core.Bool.{false}
use Prim.Native.Nat.{ℕ, ◌≤◌}
use native.Mathlib.Omega.{arith}
use lib.ListN.{set}
use borrow.Author.Tests.{ne_eqb}
use Rattle.rules.specs.declared.Edition.{Edition}
use Rattle.rules.specs.declared.Rect.{Rect}
use Rattle.rules.specs.declared.SlotNumber.{SlotNumber}
use Rattle.rules.specs.declared.Pointer.{Pointer}
use Rattle.rules.specs.declared.Pointer.TheVariants.{Number, Child}
use Rattle.rules.specs.Numbers.{most_slots}
use Rattle.rules.specs.Pool.{Node, Pool, entry, entries_at, entry_at, entry_for, child_of, cover_of, is_leaf, put_entries, tighten}
use Rattle.rules.specs.Layout.{natural, pointer_word, owner_word}
use Rattle.layout_laws.specs.Slots.{Small, owner_kept, KindOf}
use Rattle.layout_laws.proofs.Written.{pointer_child}

-- a pointer that a word holds, of the level's kind, whatever the edition
pub record Stored (level : ℕ) (q : Pointer) : Type 0 where
  pub small : Small q
  pub kind : (e : Edition) → KindOf e level q

pub child_kind : (e : Edition) (l : ℕ) (s : SlotNumber) → 2 ≤ l → KindOf e l (Child s)
unfolding pointer_word natural
child_kind e l s two = pointer_child l (pointer_word (Child s)) (owner_kept e (owner_word (Child s))) (ne_eqb l 1 (λ q. omega arith))

pub child_stored : (l : ℕ) (s : SlotNumber) → 2 ≤ l → s.0 ≤ most_slots → Stored l (Child s)
child_stored l s two h = record { small = h; kind = λ e. child_kind e l s two }

pub inner_no_leaf : (n : Node) → 2 ≤ n.level → is_leaf n ≡ false
unfolding is_leaf
inner_no_leaf n h = ne_eqb n.level 1 (λ e. omega arith)

-- a pointer that leads to a slot from 1 on is that slot's: a record number leads to none
pub leads_child : (q : Pointer) (r : Rect) → 1 ≤ (child_of (entry r q)).0 → q ≡ Child (child_of (entry r q))
unfolding child_of
leads_child (Number n o) r h = absurd (omega arith)
leads_child (Child s) r h = refl

-- another rectangle for the entry
module _ (p : Pool) (s : SlotNumber) (i : ℕ) (leads : 1 ≤ (child_of (entry_at p s i)).0) (r : Rect) where
  pub rect_made : put_entries p s (set (entries_at p s) i (entry r (entry_at p s i).pointer))
      ≡ put_entries p s (set (entries_at p s) i (entry r (Child (child_of (entry_at p s i)))))
  rect_made =
      ap (λ (q : Pointer). put_entries p s (set (entries_at p s) i (entry r q))) (leads_child (entry_at p s i).pointer (entry_at p s i).rect leads)

  -- .. that is its child's cover
  pub tighten_made : (c : SlotNumber) → c ≡ child_of (entry_at p s i) → r ≡ cover_of (entries_at p c)
      → put_entries p s (set (entries_at p s) i (entry r (entry_at p s i).pointer)) ≡ tighten p s i
  unfolding tighten entry_for
  tighten_made c child tight =
      rect_made
      ∙ ap (λ (x : Rect). put_entries p s (set (entries_at p s) i (entry x (Child (child_of (entry_at p s i))))))
      (tight ∙ ap (λ (d : SlotNumber). cover_of (entries_at p d)) child)
