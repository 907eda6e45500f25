-- The entries of a tree: their rectangles are valid, since a cover of valid rectangles is, and their pointers are of their node's kind,
-- since there is no slot 0 and no record number 0.
use mathlib.Core.Path.{◌≡◌, refl, sym, ap, ◌∙◌}
use mathlib.Core.Bool.{true}
use mathlib.Core.List.Memᴰ
use mathlib.Core.List.{List, [], ◌∷◌, foldl, map}
use Prim.Native.Nat.{ℕ, zero, suc, ◌≤◌, ◌<◌}
use native.Mathlib.Omega.{arith}
use lib.ListN.{length, length-map}
use lib.IntN.{pos}
use Rattle.rules.specs.declared.Rect.{Rect}
use Rattle.rules.specs.declared.RecordNumber.{RecordNumber}
use Rattle.rules.specs.declared.SlotNumber.{SlotNumber}
use Rattle.rules.specs.declared.Owner.{Owner}
use Rattle.rules.specs.declared.Pointer.{Pointer}
use Rattle.rules.specs.declared.Pointer.TheVariants.{Number, Child}
use Rattle.rules.specs.declared.Entry.{Entry}
use Rattle.rules.specs.Numbers.{good_number}
use Rattle.rules.specs.Owners.{nobody}
use Rattle.rules.specs.Geometry.{valid, cover, cover_all}
use Rattle.rules.specs.Pool.{Pool, slot, number, entries_at, child_of, number_of, owner_of, record_of, leaf_entry, rects, cover_of, entry_for}
use Rattle.rules_laws.proofs.Orders.{never_both}
use Rattle.rules_laws.proofs.Places.{Among}
use Rattle.rules_laws.proofs.Measures.{cover_valid}
use Rattle.sound_laws.specs.Tree.{LeafEntry, InnerEntry, Tree}
use Rattle.sound_laws.proofs.Walk.{no_tree, leaf_of_lem, inner_of, tree_node}

-- ---- covers

fold_valid : (r : Rect) (rs : List Rect) → valid r ≡ true → ((x : Rect) → Among x rs → valid x ≡ true) → valid (foldl cover r rs) ≡ true
fold_valid r [] v h = v
fold_valid r (x ∷ rs) v h = fold_valid (cover r x) rs (cover_valid r x v (h x (Memᴰ.head refl))) (λ y m. h y (Memᴰ.tail m))

pub cover_all_valid : (rs : List Rect) → 0 < length rs → ((x : Rect) → Among x rs → valid x ≡ true) → valid (cover_all rs) ≡ true
unfolding cover_all
cover_all_valid [] some h = absurd (omega arith)
cover_all_valid (r ∷ rs) some h = fold_valid r rs (h r (Memᴰ.head refl)) (λ x m. h x (Memᴰ.tail m))

pub cover_of_valid : (es : List Entry) → 0 < length es → ((e : Entry) → Among e es → valid e.rect ≡ true) → valid (cover_of es) ≡ true
unfolding cover_of rects
cover_of_valid es some h =
    cover_all_valid (map (λ (e : Entry). e.rect) es) (rw length-map some)
    (λ r m. let q = Memᴰ.of_map (λ (e : Entry). e.rect) es m in ap valid (sym q.2) ∙ h q.0 q.1)

pub tree_valid : (p : Pool) (l : ℕ) (s : SlotNumber) → Tree p l s → (e : Entry) → Among e (entries_at p s) → valid e.rect ≡ true
tree_valid p zero s d e m = absurd (no_tree p s d)
tree_valid p (suc zero) s d e m = ((leaf_of_lem p s d).each e m).rect
tree_valid p (suc (suc l)) s d e m =
    let i = (inner_of p l s d).each e m in
    ap valid i.tight ∙ cover_of_valid (entries_at p (child_of e)) (omega (arith, i.enough)) (tree_valid p (suc l) (child_of e) i.child)

-- ---- pointers

-- a leaf entry is that of its record
pub leaf_entry_of : (e : Entry) → LeafEntry e → leaf_entry (record_of e) ≡ e
unfolding leaf_entry record_of number_of owner_of good_number
leaf_entry_of e h = λ i. record { rect = e.rect; pointer = kind e.pointer h.number i }
  where
    named : Pointer → RecordNumber
    named x = elim x [ Number n o ↦ n | Child s ↦ number (pos 0) ]

    whose : Pointer → Owner
    whose x = elim x [ Number n o ↦ o | Child s ↦ nobody ]

    kind : (x : Pointer) → good_number (named x) ≡ true → Number (named x) (whose x) ≡ x
    kind (Number n o) g = refl
    kind (Child s) g = never_both g refl

-- an inner entry is the one that a parent has for its child
pub inner_entry_for : (p : Pool) (l : ℕ) (e : Entry) → InnerEntry p (Tree p l) e → entry_for p (child_of e) ≡ e
unfolding entry_for child_of
inner_entry_for p l e h =
    λ i. record { rect = sym h.tight i; pointer = kind e.pointer (tree_node p l (child_of e) h.child).slot.low i }
  where
    led : Pointer → SlotNumber
    led x = elim x [ Number n o ↦ slot 0 | Child s ↦ s ]

    kind : (x : Pointer) → 1 ≤ (led x).0 → Child (led x) ≡ x
    kind (Number n o) g = absurd (omega arith)
    kind (Child s) g = refl
