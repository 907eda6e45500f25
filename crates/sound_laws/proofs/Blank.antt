-- A blank pool of either edition is whole: its tree is the empty leaf in slot 1, and every other slot is free.
use mathlib.Core.Path.{◌≡◌, refl, ap, ◌∙◌}
use mathlib.Core.Logic.{◌⊎◌, inl, inr, ⊎_elim}
use mathlib.Core.Bool.{true}
use mathlib.Core.List.Memᴰ
use mathlib.Core.List.{[]}
use Prim.Native.Nat.{ℕ, zero, suc, ◌-◌}
use native.Mathlib.Omega.{arith}
use lib.ListN.{replicate, length-replicate, get_or-replicate}
use Rattle.rules.specs.declared.Edition.{Edition}
use Rattle.rules.specs.declared.SlotNumber.{SlotNumber}
use Rattle.rules.specs.Lists.{those, joined}
use Rattle.rules.specs.Pool.{Node, slot, node, free_node, node_at, entries_at, is_leaf, stored, blank_pool}
use Rattle.rules.specs.Sound.{sound_pool}
use Rattle.rules_laws.proofs.Parts.{those_yes, those_no, those_none}
use Rattle.sound_laws.specs.Tree.{Slot, Used, Tree, Whole}
use Rattle.sound_laws.proofs.Times.{times_self}
use Rattle.sound_laws.proofs.Walk.{slots_leaf, leaf_tree}
use Rattle.sound_laws.proofs.Sound.{whole_sound}

module _ (ed : Edition) (n : ℕ) where
  -- slot 1 is the root, and the others are free
  one_or_free : (s : SlotNumber) → Slot (blank_pool ed n) s → (s ≡ slot 1) ⊎ (node_at (blank_pool ed n) s ≡ free_node)
  unfolding blank_pool node_at
  one_or_free s k = go (s.0 - 1) refl
    where
      first : s.0 - 1 ≡ 0 → s.0 ≡ 1
      first e = omega (arith, k.low)

      go : (m : ℕ) → s.0 - 1 ≡ m → (s ≡ slot 1) ⊎ (node_at (blank_pool ed n) s ≡ free_node)
      go zero e = inl (λ i. record { 0 = first e i })
      go (suc m) e =
          inr (rw e (get_or-replicate n m free_node free_node (omega (arith, k.low, k.high, length-replicate n free_node))))

  first_used : (s : SlotNumber) → Used (blank_pool ed n) s → s ≡ slot 1
  first_used s u = ⊎_elim (λ e. e) (λ e. absurd (omega (arith, u.used, ap (λ (m : Node). m.level) e))) (one_or_free s u.slot)

  others_free : (s : SlotNumber) → Slot (blank_pool ed n) s → (node_at (blank_pool ed n) s).level ≡ 0 → node_at (blank_pool ed n) s ≡ free_node
  others_free s k e =
      ⊎_elim (λ o. absurd (omega (arith, e, ap (λ (t : SlotNumber). (node_at (blank_pool ed n) t).level) o, first_level))) (λ f. f)
      (one_or_free s k)
    where
      first_level : (node_at (blank_pool ed n) (slot 1)).level ≡ 1
      first_level = unfold blank_pool node_at in refl

  blank_tree : Tree (blank_pool ed n) 1 (slot 1)
  unfolding blank_pool node_at entries_at
  blank_tree = leaf_tree (blank_pool ed n) (slot 1) (record {
    node = record { slot = record { low = omega arith; high = omega arith }; level = refl; few = omega arith };
    each = λ e m. absurd (Memᴰ.not-nil m);
  })

  no_leaf : (m : ℕ) → those is_leaf (replicate m free_node) ≡ []
  unfolding is_leaf
  no_leaf zero = those_none is_leaf
  no_leaf (suc m) = those_no is_leaf free_node (replicate m free_node) refl ∙ no_leaf m

  nothing_stored : stored (blank_pool ed n) ≡ []
  unfolding blank_pool stored is_leaf joined
  nothing_stored = rw (those_yes is_leaf (node 1 []) (replicate n free_node) refl, no_leaf n)

  pub blank_whole : Whole (blank_pool ed n)
  unfolding blank_pool
  blank_whole = record {
    tree = blank_tree;
    two = λ h. absurd (omega arith);
    once = λ s u. rw (first_used s u, slots_leaf (blank_pool ed n) (slot 1)) (times_self (slot 1));
    free = others_free;
    counted = rw nothing_stored;
  }

  pub blank_sound : sound_pool (blank_pool ed n) ≡ true
  blank_sound = whole_sound (blank_pool ed n) blank_whole
