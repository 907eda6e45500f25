-- An entry that may be in a node has a pointer that a word holds, and a valid rectangle: a leaf's entry has a number from 1 on, which no child
-- slot is, and an inner one leads to a slot from 1 on, which no number does.
use mathlib.Core.Path.{◌≡◌, refl, sym, ap, ◌∙◌}
use mathlib.Core.Bool.{true}
use mathlib.Core.List.{List}
use Prim.Native.Nat.{ℕ, zero, suc, ◌≤◌}
use native.Mathlib.Omega.{arith}
use lib.ListN.{length}
use lib.IntN.{ℤ, pos}
use Rattle.rules.specs.declared.Edition.{Edition}
use Rattle.rules.specs.declared.Edition.TheVariants.{One, Two}
use Rattle.rules.specs.declared.Rect.{Rect}
use Rattle.rules.specs.declared.SlotNumber.{SlotNumber}
use Rattle.rules.specs.declared.Pointer.{Pointer}
use Rattle.rules.specs.declared.Pointer.TheVariants.{Number, Child}
use Rattle.rules.specs.declared.Entry.{Entry}
use Rattle.rules.specs.Numbers.{most_slots, good_number}
use Rattle.rules.specs.Owners.{owner_sound}
use Rattle.rules.specs.Geometry.{valid}
use Rattle.rules.specs.Pool.{Pool, entry, entries_at, child_of, number_of, owner_of}
use Rattle.rules.specs.Layout.{valid_length, pointer_of, pointer_word, owner_word, read}
use Rattle.rules_laws.proofs.Orders.{never_both}
use Rattle.layout_laws.specs.Slots.{InPool, Small, owner_kept, KindOf}
use Rattle.nodes.proofs.Slots.{within}
use Rattle.nodes.proofs.Tight.{Stored, child_kind, child_stored}
use Rattle.sound_laws.specs.Tree.{Slot}
use Rattle.sound_laws.proofs.Same.{same_is}
use Rattle.sound_laws.proofs.Entries.{cover_of_valid, tree_valid}
use Rattle.sound_laws.proofs.Walk.{tree_node}
use Rattle.insert_laws.specs.Grown.{Fits}
use Rattle.insert_laws.proofs.Under.{no_fit, leaf_fits, inner_fits}

-- a slot of the pool is a slot of its words
pub slot_in : (w : List ℤ) (s : SlotNumber) → valid_length w ≡ true → Slot (read w) s → InPool w s
slot_in w s r k = within w s r k.low k.high

leaf_small : (q : Pointer) (r : Rect) → good_number (number_of (entry r q)) ≡ true → Small q
unfolding number_of good_number
leaf_small (Number n o) r h = tt
leaf_small (Child s) r h = never_both h refl

inner_kind : (ed : Edition) (l : ℕ) (q : Pointer) (r : Rect) → 2 ≤ l → 1 ≤ (child_of (entry r q)).0 → KindOf ed l q
unfolding child_of
inner_kind ed l (Number n o) r two a = absurd (omega arith)
inner_kind ed l (Child s) r two a = child_kind ed l s two

inner_stored : (l : ℕ) (q : Pointer) (r : Rect) → 2 ≤ l → 1 ≤ (child_of (entry r q)).0 → (child_of (entry r q)).0 ≤ most_slots → Stored l q
unfolding child_of
inner_stored l (Number n o) r two a b = absurd (omega arith)
inner_stored l (Child s) r two a b = child_stored l s two b

module _ (p : Pool) where
  -- an inner entry's is of its kind in any edition, whatever number it leads to
  pub fits_inner : (l : ℕ) (e : Entry) → Fits p (suc (suc l)) e → (ed : Edition) → KindOf ed (suc (suc l)) e.pointer
  fits_inner l e f ed =
      inner_kind ed (suc (suc l)) e.pointer e.rect (omega arith) (tree_node p (suc l) (child_of e) (inner_fits p e l f).child).slot.low

  pub fits_stored : (l : ℕ) (e : Entry) → length p.slots ≤ most_slots → 2 ≤ l → Fits p l e → Stored l e.pointer
  fits_stored zero e h two f = absurd (no_fit p e f)
  fits_stored (suc zero) e h two f = absurd (omega arith)
  fits_stored (suc (suc l)) e h two f =
      let k = (tree_node p (suc l) (child_of e) (inner_fits p e l f).child).slot in
      inner_stored (suc (suc l)) e.pointer e.rect (omega arith) k.low (omega (arith, k.high))

  pub fits_small : (l : ℕ) (e : Entry) → length p.slots ≤ most_slots → Fits p l e → Small e.pointer
  fits_small zero e h f = absurd (no_fit p e f)
  fits_small (suc zero) e h f = leaf_small e.pointer e.rect (leaf_fits p e f).number
  fits_small (suc (suc l)) e h f = (fits_stored (suc (suc l)) e h (omega arith) f).small

  pub fits_valid : (l : ℕ) (e : Entry) → Fits p l e → valid e.rect ≡ true
  fits_valid zero e f = absurd (no_fit p e f)
  fits_valid (suc zero) e f = (leaf_fits p e f).rect
  fits_valid (suc (suc l)) e f =
      let i = inner_fits p e l f in
      ap valid i.tight
      ∙ cover_of_valid (entries_at p (child_of e)) (omega (arith, i.enough)) (tree_valid p (suc l) (child_of e) i.child)

-- a leaf's entry is of the leaves' kind, and a slot keeps its owner where the edition has it
leaf_kind : (ed : Edition) (q : Pointer) (r : Rect) → good_number (number_of (entry r q)) ≡ true → owner_sound ed (owner_of (entry r q)) ≡ true → KindOf ed 1 q
unfolding number_of good_number owner_of owner_sound pointer_of pointer_word owner_word owner_kept
leaf_kind One (Number n o) r h s = let e = (same_is o.0 (pos 0)).0 s in λ i. Number n (record { 0 = sym e i })
leaf_kind Two (Number n o) r h s = refl
leaf_kind One (Child t) r h s = never_both h refl
leaf_kind Two (Child t) r h s = never_both h refl

pub fits_kind : (p : Pool) (l : ℕ) (e : Entry) → Fits p l e → (l ≡ 1 → owner_sound p.edition (owner_of e) ≡ true) → KindOf p.edition l e.pointer
fits_kind p zero e f o = absurd (no_fit p e f)
fits_kind p (suc zero) e f o = leaf_kind p.edition e.pointer e.rect (leaf_fits p e f).number (o refl)
fits_kind p (suc (suc l)) e f o = fits_inner p l e f p.edition
