-- What a slot of a whole pool holds can be written and read: 8 entries at most, each pointer of its level's kind, and in edition 1 with no owner.
-- A slot in use is one of the tree, where each node is so; the others are free, and have no entries.
use mathlib.Core.Path.{◌≡◌, refl, sym, subst}
use mathlib.Core.Logic.{⊎_elim}
use mathlib.Core.Bool.{true}
use mathlib.Core.List.Memᴰ
use mathlib.Core.List.{map}
use Prim.Native.Nat.{ℕ, zero, suc, ◌-◌, ◌≤◌, ◌<◌}
use native.Mathlib.Omega.{arith}
use lib.ListN.{length, get_or}
use lib.IntN.{pos}
use borrow.Author.Tests.{ne_eqb}
use Rattle.rules.specs.declared.Edition.{Edition}
use Rattle.rules.specs.declared.Edition.TheVariants.{One, Two}
use Rattle.rules.specs.declared.Rect.{Rect}
use Rattle.rules.specs.declared.SlotNumber.{SlotNumber}
use Rattle.rules.specs.declared.Pointer.{Pointer}
use Rattle.rules.specs.declared.Pointer.TheVariants.{Number, Child}
use Rattle.rules.specs.declared.Entry.{Entry}
use Rattle.rules.specs.Numbers.{good_number}
use Rattle.rules.specs.Owners.{owner_sound}
use Rattle.rules.specs.Pool.{Pool, slot, entry, free_node, node_at, entries_at, child_of, number_of, owner_of, record_of, stored}
use Rattle.rules.specs.Layout.{pointer_word, owner_word, natural, pointer_of}
use Rattle.rules.specs.Sound.{owners_sound}
use Rattle.rules_laws.proofs.Orders.{never_both}
use Rattle.rules_laws.proofs.Places.{Among, Each, map_up_from, each_up_from, each_among}
use Rattle.rules_laws.proofs.Joins.{joined_among}
use Rattle.layout_laws.specs.Slots.{owner_kept, KindOf}
use Rattle.layout_laws.proofs.Written.{Fine, AllFine}
use Rattle.sound_laws.specs.Tree.{records_at, Slot, Tree, Whole}
use Rattle.sound_laws.proofs.Same.{same_is}
use Rattle.sound_laws.proofs.Tests.{leaf_is}
use Rattle.sound_laws.proofs.Flat.{slots_are, stored_are}
use Rattle.sound_laws.proofs.Walk.{no_tree, leaf_of_lem, inner_of, tree_node}
use Rattle.sound_laws.proofs.Whole.{reached_used, slot_cases, tree_at}
use Rattle.in_force_laws.proofs.Owned.{owned_sound}

leaf_kind : (ed : Edition) (r : Rect) (x : Pointer) → good_number (number_of (entry r x)) ≡ true → owner_sound ed (owner_of (entry r x)) ≡ true → KindOf ed 1 x
unfolding good_number number_of owner_of owner_sound pointer_of pointer_word owner_word owner_kept
leaf_kind One r (Number n o) h s = let e = (same_is o.0 (pos 0)).0 s in λ i. Number n (record { 0 = sym e i })
leaf_kind Two r (Number n o) h s = refl
leaf_kind One r (Child t) h s = never_both h refl
leaf_kind Two r (Child t) h s = never_both h refl

inner_kind : (ed : Edition) (l : ℕ) (r : Rect) (x : Pointer) → 1 ≤ (child_of (entry r x)).0 → KindOf ed (suc (suc l)) x
unfolding child_of pointer_of pointer_word natural
inner_kind ed l r (Number n o) h = absurd (omega (arith, h))
inner_kind ed l r (Child s) h = rw (ne_eqb (suc (suc l)) 1 (λ e. omega (arith, e)), pointer_of)

module _ (p : Pool) where
  -- a leaf's entry is stored
  leaf_stored : (s : SlotNumber) → Slot p s → (node_at p s).level ≡ 1 → (e : Entry) → Among e (entries_at p s) → Among (record_of e) (stored p)
  leaf_stored s k l e m = rw (stored_are p) (joined_among (records_at p) (record_of e) ((slots_are p s).1 k) here)
    where
      leaf : records_at p s ≡ map record_of (entries_at p s)
      leaf = unfold records_at in rw ((leaf_is (node_at p s)).1 l)

      here : Among (record_of e) (records_at p s)
      here = rw leaf (Memᴰ.map record_of m)

  module _ (h : owners_sound p ≡ true) where
    tree_kinds : (l : ℕ) (s : SlotNumber) → Tree p l s → (e : Entry) → Among e (entries_at p s) → KindOf p.edition l e.pointer
    tree_kinds zero s d e m = absurd (no_tree p s d)
    tree_kinds (suc zero) s d e m =
        let k = (leaf_of_lem p s d).node in
        leaf_kind p.edition e.rect e.pointer ((leaf_of_lem p s d).each e m).number
        (unfold record_of in (owned_sound p).0 h (record_of e) (leaf_stored s k.slot k.level e m))
    tree_kinds (suc (suc l)) s d e m =
        inner_kind p.edition l e.rect e.pointer (tree_node p (suc l) (child_of e) ((inner_of p l s d).each e m).child).slot.low

    -- ---- every slot

    module _ (w : Whole p) where
      slot_fine : (s : SlotNumber) → Slot p s → Fine p.edition (node_at p s)
      unfolding entries_at
      slot_fine s k =
          ⊎_elim (λ m.
          let d = tree_at p w s (reached_used p w s m) in
          record {
            few = (tree_node p (node_at p s).level s d).few;
            kinds = each_among _ (node_at p s).entries (tree_kinds (node_at p s).level s d);
          })
          (λ e. subst (Fine p.edition) (sym e) (record { few = omega arith; kinds = tt })) (slot_cases p w s k)

      place_fine : (k : ℕ) → k < length p.slots → Fine p.edition (get_or p.slots k free_node)
      unfolding node_at
      place_fine k l =
          subst (λ (i : ℕ). Fine p.edition (get_or p.slots i free_node)) same (slot_fine (slot (suc k)) (record { low = omega arith; high = omega (arith, l) }))
        where
          same : suc k - 1 ≡ k
          same = omega arith

      -- each slot of a whole pool can be written and read
      pub whole_fine : AllFine p
      whole_fine =
          subst (Each (Fine p.edition)) (map_up_from free_node p.slots)
          (each_up_from (Fine p.edition) (λ i. get_or p.slots i free_node) 0 (length p.slots) (λ k a b. place_fine k (omega (arith, b))))
