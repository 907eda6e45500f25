-- A pool that has the same nodes in the slots of a tree has the same tree there: a walk looks at no other slot. So a node put into a slot
-- outside a tree leaves the tree as it is.
use mathlib.Core.Path.{◌≡◌, refl, sym, ap, ◌∙◌}
use mathlib.Core.Logic.{◌↔◌, ◌≢◌}
use mathlib.Core.List.Memᴰ
use mathlib.Core.List.{List, ◌∷◌}
use Prim.Native.Nat.{ℕ, zero, suc, ◌-◌, ◌≤◌}
use native.Mathlib.Omega.{arith}
use lib.ListN.{length, length-set}
use lib.Seq.{get_or-set_same, get_or-set_other}
use Rattle.rules.specs.declared.SlotNumber.{SlotNumber}
use Rattle.rules.specs.declared.Entry.{Entry}
use Rattle.rules.specs.Lists.{joined}
use Rattle.rules.specs.Pool.{Node, Pool, free_node, put_node, node_at, entries_at, child_of, cover_of}
use Rattle.rules_laws.proofs.Places.{Among, map_same}
use Rattle.sound_laws.specs.Tree.{slots_in, records_in, Slot, NodeIn, InnerEntry, Tree}
use Rattle.sound_laws.proofs.Walk.{no_tree, leaf_of_lem, inner_of, leaf_tree, inner_tree, top_among, below_among, within_used}

pub entries_same : (p q : Pool) (t : SlotNumber) → node_at p t ≡ node_at q t → entries_at p t ≡ entries_at q t
unfolding entries_at
entries_same p q t h = ap (λ (n : Node). n.entries) h

module _ (p q : Pool) where
  -- the slots of the tree of l levels at s hold the same nodes
  abbrev pub SameIn : ℕ → SlotNumber → Type 0
  SameIn l s = (t : SlotNumber) → Among t (slots_in p l s) → node_at p t ≡ node_at q t

  pub same_top : (l : ℕ) (s : SlotNumber) → SameIn (suc l) s → entries_at p s ≡ entries_at q s
  same_top l s h = entries_same p q s (h s (top_among p l s))

  pub same_below : (l : ℕ) (s : SlotNumber) → SameIn (suc (suc l)) s → (e : Entry) → Among e (entries_at p s) → SameIn (suc l) (child_of e)
  same_below l s h e m t n = h t (below_among p l s t e m n)

  pub slots_frame : (l : ℕ) (s : SlotNumber) → SameIn l s → slots_in q l s ≡ slots_in p l s
  unfolding slots_in
  slots_frame zero s h = refl
  slots_frame (suc zero) s h = refl
  slots_frame (suc (suc l)) s h =
      rw (← same_top (suc l) s h)
      (ap (λ (ts : List (List SlotNumber)). s ∷ joined ts)
      (map_same (λ e. slots_in q (suc l) (child_of e)) (λ e. slots_in p (suc l) (child_of e)) (entries_at p s)
      (λ e m. slots_frame (suc l) (child_of e) (same_below l s h e m))))

  pub records_frame : (l : ℕ) (s : SlotNumber) → SameIn l s → records_in q l s ≡ records_in p l s
  unfolding records_in
  records_frame zero s h = refl
  records_frame (suc zero) s h = rw (← same_top 0 s h)
  records_frame (suc (suc l)) s h =
      rw (← same_top (suc l) s h)
      (ap joined
      (map_same (λ e. records_in q (suc l) (child_of e)) (λ e. records_in p (suc l) (child_of e)) (entries_at p s)
      (λ e m. records_frame (suc l) (child_of e) (same_below l s h e m))))

  module _ (long : length p.slots ≡ length q.slots) where
    pub node_frame : (l : ℕ) (s : SlotNumber) → node_at p s ≡ node_at q s → NodeIn p l s → NodeIn q l s
    node_frame l s h n = record {
      slot = record { low = n.slot.low; high = omega arith };
      level = rw h at n.level;
      few = rw (entries_same p q s h) at n.few;
    }

    entry_frame : (l : ℕ) (e : Entry) → SameIn (suc l) (child_of e) → InnerEntry p (Tree p (suc l)) e → Tree q (suc l) (child_of e)
        → InnerEntry q (Tree q (suc l)) e
    entry_frame l e h i d = record {
      child = d;
      enough = rw (same_top l (child_of e) h) at i.enough;
      tight = i.tight ∙ ap cover_of (same_top l (child_of e) h);
    }

    pub tree_frame : (l : ℕ) (s : SlotNumber) → SameIn l s → Tree p l s → Tree q l s
    tree_frame zero s h d = absurd (no_tree p s d)
    tree_frame (suc zero) s h d =
        leaf_tree q s (record {
          node = node_frame 1 s (h s (top_among p 0 s)) (leaf_of_lem p s d).node;
          each = rw (← same_top 0 s h) (leaf_of_lem p s d).each;
        })
    tree_frame (suc (suc l)) s h d =
        inner_tree q l s (record {
          node = node_frame (suc (suc l)) s (h s (top_among p (suc l) s)) (inner_of p l s d).node;
          each = rw (← same_top (suc l) s h) (λ e m.
              let i = (inner_of p l s d).each e m in
              let b = same_below l s h e m in
              entry_frame l e b i (tree_frame (suc l) (child_of e) b i.child));
        })

    -- an entry whose child's tree is as it was
    pub inner_frame : (l : ℕ) (e : Entry) → SameIn (suc l) (child_of e) → InnerEntry p (Tree p (suc l)) e → InnerEntry q (Tree q (suc l)) e
    inner_frame l e h i = entry_frame l e h i (tree_frame (suc l) (child_of e) h i.child)

-- ---- a node put into a slot

module _ (p : Pool) (s : SlotNumber) (n : Node) where
  pub put_length : length (put_node p s n).slots ≡ length p.slots
  unfolding put_node
  put_length = length-set p.slots (s.0 - 1) n

  pub put_same : Slot p s → node_at (put_node p s n) s ≡ n
  unfolding node_at put_node
  put_same h = get_or-set_same p.slots (s.0 - 1) n free_node (omega arith)

  pub put_other : (t : SlotNumber) → 1 ≤ s.0 → 1 ≤ t.0 → t ≢ s → node_at (put_node p s n) t ≡ node_at p t
  unfolding node_at put_node
  put_other t h k other =
      get_or-set_other p.slots (s.0 - 1) (t.0 - 1) n free_node (λ e. other (λ i. record { 0 = same e i }))
    where
      same : t.0 - 1 ≡ s.0 - 1 → t.0 ≡ s.0
      same e = omega arith

  pub put_slot : (t : SlotNumber) → Slot (put_node p s n) t ↔ Slot p t
  put_slot t = (
    λ h. record { low = h.low; high = omega (arith, put_length) },
    λ h. record { low = h.low; high = omega (arith, put_length) },
  )

  -- outside a tree
  module _ (l : ℕ) (r : SlotNumber) (d : Tree p l r) (low : 1 ≤ s.0) (out : Among s (slots_in p l r) → ⊥) where
    put_outside : SameIn p (put_node p s n) l r
    put_outside t m = sym (put_other t low (within_used p l r t d m).slot.low (λ e. out (Memᴰ.cast (sym e) m)))

    pub tree_put : Tree (put_node p s n) l r
    tree_put = tree_frame p (put_node p s n) (sym put_length) l r put_outside d

    pub slots_put : slots_in (put_node p s n) l r ≡ slots_in p l r
    slots_put = slots_frame p (put_node p s n) l r put_outside

    pub records_put : records_in (put_node p s n) l r ≡ records_in p l r
    records_put = records_frame p (put_node p s n) l r put_outside
