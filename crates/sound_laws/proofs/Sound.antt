-- A pool is sound just where it is whole. Levels fall by one from a node to its children, so each node in use has a tree below it. Each
-- other than the root is the child of one entry: so from the root down, a level at a time, each slot in use occurs in the tree as often as
-- its one parent does, once. The other way, the tree, or the count of a slot in it, answers each question.
use mathlib.Core.Path.{◌≡◌, refl, sym, ap, subst, ◌∙◌}
use mathlib.Core.Logic.{◌↔◌, ◌≢◌}
use mathlib.Core.Bool.{Bool, true, false}
use mathlib.Core.List.{[], ◌∷◌, map}
use Prim.Native.Nat.{ℕ, zero, suc, ◌+◌, ◌-◌, ◌≤◌, ◌<◌}
use native.Mathlib.Omega.{arith}
use lib.ListN.{length}
use borrow.Author.Tests.{eq-eqb, ne_eqb}
use Rattle.rules.specs.declared.SlotNumber.{SlotNumber}
use Rattle.rules.specs.Lists.{total}
use Rattle.rules.specs.Numbers.{least}
use Rattle.rules.specs.Pool.{Pool, same_slot, slot_numbers, node_at, entries_at, child_of, is_leaf}
use Rattle.rules.specs.Sound.{is_root, fewest, node_sound, sound_pool}
use Rattle.rules_laws.proofs.Places.{Among}
use Rattle.rules_laws.proofs.Sums.{total_zero}
use Rattle.sound_laws.specs.Tree.{tree_slots, children_at, times, Slot, Used, Tree, Whole}
use Rattle.sound_laws.proofs.Tests.{root_is}
use Rattle.sound_laws.proofs.Times.{slot_discrete, times_self, times_other, times_among, not_among, total_same}
use Rattle.sound_laws.proofs.Flat.{times_alike, parents_are}
use Rattle.sound_laws.proofs.Walk.{child_of_lem, no_tree, leaf_of_lem, inner_of, leaf_tree, inner_tree, tree_node, within_used, child_tree, slots_parts}
use Rattle.sound_laws.proofs.Whole.{height_positive, part_at, tree_at, levels, parents_one}
use Rattle.sound_laws.proofs.Questions.{leaf_sound, inner_sound, Sound, sound_is}

-- the fewest entries: of the root as an inner node and as a leaf, and of another node
fewest_root : (p : Pool) → 2 ≤ (node_at p p.root).level → fewest (is_root p p.root) (is_leaf (node_at p p.root)) ≡ 2
unfolding fewest is_leaf
fewest_root p h = rw ((root_is p p.root).1 refl, ne_eqb (node_at p p.root).level 1 (λ e. omega arith))

fewest_leaf : (p : Pool) → (node_at p p.root).level ≡ 1 → fewest (is_root p p.root) (is_leaf (node_at p p.root)) ≡ 0
unfolding fewest is_leaf
fewest_leaf p h = rw ((root_is p p.root).1 refl, eq-eqb (node_at p p.root).level 1 h)

fewest_other : (p : Pool) (s : SlotNumber) → s ≢ p.root → fewest (is_root p s) (is_leaf (node_at p s)) ≡ least
unfolding fewest
fewest_other p s n = go (is_root p s) refl
  where
    go : (b : Bool) → is_root p s ≡ b → fewest b (is_leaf (node_at p s)) ≡ least
    go true e = absurd (n ((root_is p s).0 e))
    go false e = refl

module _ (p : Pool) (w : Sound p) where
  -- ---- a node in use has a tree below it

  tree_below : (l : ℕ) (s : SlotNumber) → Slot p s → (node_at p s).level ≡ suc l → node_sound p (suc l) s ≡ true → Tree p (suc l) s
  tree_below zero s k e n = leaf_tree p s (record {
    node = record { slot = k; level = e; few = w.few s (record { slot = k; used = omega arith }) };
    each = (leaf_sound p s).0 n;
  })
  tree_below (suc l) s k e n = inner_tree p l s (record {
    node = record { slot = k; level = e; few = w.few s (record { slot = k; used = omega arith }) };
    each = λ f m.
        let i = (inner_sound p l s).0 n f m in
        let lower : (node_at p (child_of f)).level < p.height = omega (arith, i.level, w.levels s k) in
        let other : child_of f ≢ p.root = λ r. omega (arith, lower, ap (λ (t : SlotNumber). (node_at p t).level) r, w.top) in
        record {
          child = tree_below l (child_of f) i.slot i.level i.node;
          enough = rw (fewest_other p (child_of f) other) at (w.enough (child_of f) (record { slot = i.slot; used = omega (arith, i.level) }));
          tight = i.tight;
        };
  })

  tree_up : (s : SlotNumber) → Used p s → Tree p (node_at p s).level s
  tree_up s u = go (node_at p s).level refl
    where
      go : (n : ℕ) → (node_at p s).level ≡ n → Tree p n s
      go zero e = absurd (omega (arith, u.used))
      go (suc l) e = tree_below l s u.slot e (rw e at (w.nodes s u))

  root_used : Used p p.root
  root_used = record { slot = w.root; used = omega (arith, w.top, w.height) }

  tree : Tree p p.height p.root
  tree = rw w.top at (tree_up p.root root_used)

  -- ---- each slot in use occurs in it once

  -- where each parent occurs in it once
  once_below : (s : SlotNumber) → Used p s → ((t : SlotNumber) → Used p t → (node_at p t).level ≡ suc (node_at p s).level → times t (tree_slots p) ≡ 1)
      → times s (tree_slots p) ≡ 1
  once_below s u above = go (slot_discrete s p.root)
    where
      kids : SlotNumber → ℕ
      kids t = times s (children_at p t)

      parts : times s (tree_slots p) ≡ times s (p.root ∷ []) + total (map kids (tree_slots p))
      parts = slots_parts p (λ t. same_slot t s) p.height p.root tree

      parent_level : (t : SlotNumber) → Used p t → Among s (children_at p t) → (node_at p t).level ≡ suc (node_at p s).level
      parent_level t v m = (child_tree p (node_at p t).level t s (tree_up t v) m).level

      -- the root is no child
      no_child : s ≡ p.root → (t : SlotNumber) → Among t (tree_slots p) → kids t ≡ 0
      no_child e t m = not_among s (children_at p t) (λ n.
          let v = within_used p p.height p.root t tree m in
          omega (arith, parent_level t v n, w.levels t v.slot, w.top, ap (λ (r : SlotNumber). (node_at p r).level) e))

      alike : (t : SlotNumber) → 0 < kids t → times t (tree_slots p) ≡ times t (slot_numbers p)
      alike t c = times_alike p p.height p.root t tree (λ k.
          let m = times_among s (children_at p t) c in
          let v : Used p t = record { slot = k; used = omega (arith, (child_of_lem p t s m).0) } in
          above t v (parent_level t v m))

      go : Dec (s ≡ p.root) → times s (tree_slots p) ≡ 1
      go (yes e) = omega (arith, parts, total_zero kids (tree_slots p) (no_child e), subst (λ (r : SlotNumber). times s (r ∷ []) ≡ 1) e (times_self s))
      go (no n) = omega (
        arith,
        parts,
        times_other s p.root (λ e. n (sym e)),
        total_same kids (tree_slots p) (slot_numbers p) alike,
        parents_are p s,
        w.parent s u n,
      )

  once_down : (d : ℕ) (s : SlotNumber) → Used p s → (node_at p s).level + d ≡ p.height → times s (tree_slots p) ≡ 1
  once_down zero s u far = once_below s u (λ t v e. absurd (omega (arith, w.levels t v.slot)))
  once_down (suc d) s u far = once_below s u (λ t v e. once_down d t v (omega arith))

  whole : Whole p
  whole = record {
    tree = tree;
    two = λ h. rw (fewest_root p (omega (arith, w.top))) at (w.enough p.root root_used);
    once = λ s u. once_down (p.height - (node_at p s).level) s u (omega (arith, w.levels s u.slot));
    free = w.free;
    counted = sym w.records;
  }

-- ---- and back

pub tree_sound : (p : Pool) (l : ℕ) (s : SlotNumber) → Tree p l s → node_sound p l s ≡ true
tree_sound p zero s d = absurd (no_tree p s d)
tree_sound p (suc zero) s d = (leaf_sound p s).1 (leaf_of_lem p s d).each
tree_sound p (suc (suc l)) s d = (inner_sound p l s).1 (λ e m.
    let i = (inner_of p l s d).each e m in
    let n = tree_node p (suc l) (child_of e) i.child in
    record { slot = n.slot; level = n.level; tight = i.tight; node = tree_sound p (suc l) (child_of e) i.child })

module _ (p : Pool) (w : Whole p) where
  -- the root may have fewer entries than the others
  enough : (s : SlotNumber) → Used p s → fewest (is_root p s) (is_leaf (node_at p s)) ≤ length (entries_at p s)
  enough s u = go (slot_discrete s p.root)
    where
      top : (h : ℕ) → p.height ≡ h → fewest (is_root p p.root) (is_leaf (node_at p p.root)) ≤ length (entries_at p p.root)
      top zero e = absurd (omega (arith, height_positive p w))
      top (suc zero) e = omega (arith, fewest_leaf p ((tree_node p p.height p.root w.tree).level ∙ e))
      top (suc (suc l)) e =
          let n = (tree_node p p.height p.root w.tree).level in
          rw (fewest_root p (omega arith)) (w.two (omega arith))

      go : Dec (s ≡ p.root) → fewest (is_root p s) (is_leaf (node_at p s)) ≤ length (entries_at p s)
      go (yes e) = rw e (top p.height refl)
      go (no n) = rw (fewest_other p s n) ((part_at p w s u).enough n)

  sound : Sound p
  sound =
      let n = tree_node p p.height p.root w.tree in
      record {
        height = height_positive p w;
        root = n.slot;
        top = n.level;
        levels = levels p w;
        enough = enough;
        few = λ s u. (tree_node p (node_at p s).level s (tree_at p w s u)).few;
        parent = parents_one p w;
        free = w.free;
        records = sym w.counted;
        nodes = λ s u. tree_sound p (node_at p s).level s (tree_at p w s u);
      }

-- ---- "A pool is sound when .."

pub sound_whole : (p : Pool) → sound_pool p ≡ true → Whole p
sound_whole p h = whole p ((sound_is p).0 h)

pub whole_sound : (p : Pool) → Whole p → sound_pool p ≡ true
whole_sound p w = (sound_is p).1 (sound p w)

pub sound_is_whole : (p : Pool) → (sound_pool p ≡ true) ↔ Whole p
sound_is_whole p = (sound_whole p, whole_sound p)
