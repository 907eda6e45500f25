-- D4 at a tree that stands: its root is a leaf exactly where it has one level, and an only child is a node of the pool.
use mathlib.Core.Path.{◌≡◌, refl, sym, ap, subst, subst₂, ◌∙◌}
use mathlib.Core.Logic.{◌≢◌}
use mathlib.Core.Bool.{Bool, true, false}
use mathlib.Core.List.{List, []}
use Prim.Native.Nat.{ℕ, suc, ◌-◌}
use native.Mathlib.Omega.{arith}
use lib.ListN.{length}
use lib.IntN.{ℤ}
use borrow.Author.Tests.{eq-eqb, ne_eqb}
use Rattle.rules.specs.declared.SlotNumber.{SlotNumber}
use Rattle.rules.specs.Pool.{Pool, node_at, entries_at, entry_at, child_of, is_leaf, put_root, zero_slot}
use Rattle.rules.specs.Layout.{read}
use Rattle.rules.specs.Delete.{shorten}
use Rattle.layout_laws.specs.Slots.{Fit}
use Rattle.free_slots.specs.declared.FreeSlots.{FreeSlots}
use Rattle.free_slots.specs.Known.{Known, more_slot}
use Rattle.free_slots.proofs.Known.{known_more, known_head}
use Rattle.sound_laws.specs.Tree.{Slot, NodeIn, Tree}
use Rattle.sound_laws.proofs.Tests.{leaf_is}
use Rattle.sound_laws.proofs.Walk.{tree_node, tree_positive}
use Rattle.insert_laws.specs.Standing.{Standing}
use Rattle.insert_laws.proofs.Beside.{child_entry}
use Rattle.insert.specs.Left.{HoldsPool}
use Rattle.delete_laws.proofs.Short.{shorten_leaf, shorten_one, shorten_more}

module _ (p : Pool) (w : Standing p []) where
  root_node : NodeIn p p.height p.root
  root_node = tree_node p p.height p.root w.tree

  pub root_slot : Slot p p.root
  root_slot = root_node.slot

  pub short_leaf : p.height ≡ 1 → shorten p ≡ p
  short_leaf e = shorten_leaf p ((leaf_is (node_at p p.root)).1 (root_node.level ∙ e))

  module _ (high : p.height ≢ 1) where
    pub root_inner : is_leaf (node_at p p.root) ≡ false
    root_inner = go (is_leaf (node_at p p.root)) refl
      where
        go : (b : Bool) → is_leaf (node_at p p.root) ≡ b → is_leaf (node_at p p.root) ≡ false
        go true e = absurd (high (sym root_node.level ∙ (leaf_is (node_at p p.root)).0 e))
        go false e = e

    pub short_more : length (entries_at p p.root) ≢ 1 → shorten p ≡ p
    short_more n = shorten_more p root_inner (ne_eqb (length (entries_at p p.root)) 1 n)

    module _ (one : length (entries_at p p.root) ≡ 1) where
      pub short_one : shorten p ≡ put_root (zero_slot p p.root) (child_of (entry_at p p.root 0)) (p.height - 1)
      short_one = shorten_one p root_inner (eq-eqb (length (entries_at p p.root)) 1 one)

      pub only_slot : Slot p (child_of (entry_at p p.root 0))
      only_slot =
          let e : p.height ≡ suc (suc (p.height - 2)) = omega (arith, high, tree_positive p p.height p.root w.tree) in
          let d : Tree p (suc (suc (p.height - 2))) p.root = subst (λ (k : ℕ). Tree p k p.root) e w.tree in
          (tree_node p (suc (p.height - 2)) (child_of (entry_at p p.root 0))
          (child_entry p (p.height - 2) p.root d 0 (omega (arith, one))).child).slot

  pub one_known : (f : FreeSlots) → Known p f → (t : SlotNumber) (h : ℕ) → Known (put_root (zero_slot p p.root) t h) (more_slot f p.root)
  unfolding zero_slot
  one_known f k t h =
      known_head _ (more_slot f p.root)
      (known_more p f k p.root root_slot.low root_slot.high (λ e. omega (arith, e, root_node.level, tree_positive p p.height p.root w.tree)))
      t h

-- ---- as the code leaves it

module _ (w : List ℤ) (f : FreeSlots) (k : Known (read w) f) where
  -- the root stays
  pub holds_same : Fit w → shorten (read w) ≡ read w → HoldsPool (shorten (read w)) f w
  holds_same fit e = record { fit = fit; is = sym e; known = subst (λ (q : Pool). Known q f) (sym e) k }

  -- its only child is root
  module _ (st : Standing (read w) []) (high : (read w).height ≢ 1) (one : length (entries_at (read w) (read w).root) ≡ 1) where
    pub holds_lower : (s : SlotNumber) → s ≡ (read w).root → (t : SlotNumber) → t ≡ child_of (entry_at (read w) s 0) → (h : ℕ) → h ≡ (read w).height
        → (q : Pool) → q ≡ zero_slot (read w) s → (v : List ℤ) → read v ≡ put_root q t (h - 1) → Fit v → (g : FreeSlots) → g ≡ more_slot f s
        → HoldsPool (shorten (read w)) g v
    holds_lower s es t et h eh q eq v ev fit g eg =
        let p = read w in
        let child : t ≡ child_of (entry_at p p.root 0) = et ∙ ap (λ (x : SlotNumber). child_of (entry_at p x 0)) es in
        let zeroed : q ≡ zero_slot p p.root = eq ∙ ap (zero_slot p) es in
        record {
          fit = fit;
          is = ev ∙ (λ i. put_root (zeroed i) (child i) (eh i - 1)) ∙ sym (short_one p st high one);
          known = subst₂ Known (sym (short_one p st high one)) (sym (eg ∙ ap (more_slot f) es))
              (one_known p st f k (child_of (entry_at p p.root 0)) (p.height - 1));
        }
