-- A whole pool. Its slots in use are those of its tree, each once, so a sum over the slots is a sum over the tree; and so the records
-- that are stored are those of the tree, and each slot other than the root is the child of one entry.
use mathlib.Core.Path.{◌≡◌, sym, ap, ◌∙◌}
use mathlib.Core.Logic.{◌≢◌, ◌⊎◌, inl, inr}
use mathlib.Core.Bool.{Bool, true}
use mathlib.Core.List.{List, [], ◌∷◌, map}
use Prim.Native.Nat.{ℕ, ◌+◌, ◌≤◌, ◌<◌}
use native.Mathlib.Decide.{dec_le, ℕ_discrete}
use native.Mathlib.Omega.{arith}
use lib.ListN.{length, get_or}
use Rattle.rules.specs.declared.SlotNumber.{SlotNumber}
use Rattle.rules.specs.declared.Record.{Record}
use Rattle.rules.specs.Lists.{those, total}
use Rattle.rules.specs.Pool.{Node, Pool, free_node, same_slot, slot_numbers, node_at, stored}
use Rattle.rules.specs.Sound.{in_use, parents}
use Rattle.rules_laws.proofs.Places.{Among, place_of_lem}
use Rattle.rules_laws.proofs.Parts.{those_none, those_no, those_all, count_map, those_every, those_fewer}
use Rattle.rules_laws.proofs.Joins.{count_joined}
use Rattle.rules_laws.proofs.Sums.{total_member, total_places, count_those}
use Rattle.sound_laws.specs.Tree.{tree_slots, tree_records, children_at, records_at, times, Once, Slot, Used, Tree, Whole}
use Rattle.sound_laws.proofs.Tests.{used_is, unused_is}
use Rattle.sound_laws.proofs.Times.{times_none, times_self, times_other, among_times, times_among, total_same}
use Rattle.sound_laws.proofs.Flat.{times_alike, nodes_are, stored_are, parents_are}
use Rattle.sound_laws.proofs.Walk.{children_none, records_none, tree_positive, Within, within, within_used, records_are, slots_parts}

module _ (p : Pool) (w : Whole p) where
  pub height_positive : 1 ≤ p.height
  height_positive = tree_positive p p.height p.root w.tree

  -- ---- slots in use and slots of the tree

  pub reached : (s : SlotNumber) → Used p s → Among s (tree_slots p)
  reached s u = times_among s (tree_slots p) (omega (arith, w.once s u))

  pub reached_used : (s : SlotNumber) → Among s (tree_slots p) → Used p s
  reached_used s m = within_used p p.height p.root s w.tree m

  -- a slot is one of the tree's, or free
  pub slot_cases : (s : SlotNumber) → Slot p s → Among s (tree_slots p) ⊎ (node_at p s ≡ free_node)
  slot_cases s k = go (dec_le 1 (node_at p s).level)
    where
      go : Dec (1 ≤ (node_at p s).level) → Among s (tree_slots p) ⊎ (node_at p s ≡ free_node)
      go (yes h) = inl (reached s (record { slot = k; used = h }))
      go (no h) = inr (w.free s k (omega arith))

  -- a slot occurs in one place
  pub all_once : Once (tree_slots p)
  all_once s = go (dec_le 1 (times s (tree_slots p)))
    where
      go : Dec (1 ≤ times s (tree_slots p)) → times s (tree_slots p) ≤ 1
      go (yes h) = omega (arith, w.once s (reached_used s (times_among s (tree_slots p) h)))
      go (no h) = omega arith

  -- the tree at a slot in use
  pub part_at : (s : SlotNumber) → Used p s → Within p p.height p.root s
  part_at s u = within p p.height p.root s w.tree (reached s u)

  pub tree_at : (s : SlotNumber) → Used p s → Tree p (node_at p s).level s
  tree_at s u = (part_at s u).tree

  pub levels : (s : SlotNumber) → Slot p s → (node_at p s).level ≤ p.height
  levels s k = go (dec_le 1 (node_at p s).level)
    where
      go : Dec (1 ≤ (node_at p s).level) → (node_at p s).level ≤ p.height
      go (yes h) = (part_at s (record { slot = k; used = h })).high
      go (no h) = omega arith

  -- ---- sums

  -- what is 0 in free slots has the same sum over the slots and over the tree
  pub whole_total : (f : SlotNumber → ℕ) → ((s : SlotNumber) → Slot p s → (node_at p s).level ≡ 0 → f s ≡ 0)
      → total (map f (tree_slots p)) ≡ total (map f (slot_numbers p))
  whole_total f h =
      total_same f (tree_slots p) (slot_numbers p)
      (λ s c. times_alike p p.height p.root s w.tree (λ k. go s c k (dec_le 1 (node_at p s).level)))
    where
      go : (s : SlotNumber) → 0 < f s → Slot p s → Dec (1 ≤ (node_at p s).level) → times s (tree_slots p) ≡ 1
      go s c k (yes u) = w.once s (record { slot = k; used = u })
      go s c k (no u) = absurd (omega (arith, h s k (omega arith)))

  -- "the stored records" are those of the tree, each as often
  pub stored_in : (q : Record → Bool) → length (those q (stored p)) ≡ length (those q (tree_records p))
  stored_in q =
      rw (stored_are p, records_are p p.height p.root w.tree)
      (count_joined (records_at p) q (slot_numbers p) ∙ sym (whole_total (λ s. length (those q (records_at p s))) free)
      ∙ sym (count_joined (records_at p) q (tree_slots p)))
    where
      free : (s : SlotNumber) → Slot p s → (node_at p s).level ≡ 0 → length (those q (records_at p s)) ≡ 0
      free s k e = rw (records_none p s (λ h. omega arith), those_none q)

  pub stored_length : length (stored p) ≡ length (tree_records p)
  stored_length = rw (those_all (stored p), those_all (tree_records p)) at (stored_in (λ r. true))

  -- the slots in use are those of the tree, each once
  pub used_in : (q : SlotNumber → Bool) → length (those q (tree_slots p)) ≡ length (those q (those (λ s. in_use (node_at p s)) (slot_numbers p)))
  used_in q =
      ap (λ (ss : List SlotNumber). length (those q ss)) (sym all_used)
      ∙ count_those q used (tree_slots p)
      ∙ whole_total (λ s. length (those q (those used (s ∷ [])))) free
      ∙ sym (count_those q used (slot_numbers p))
    where
      used : SlotNumber → Bool
      used s = in_use (node_at p s)

      all_used : those used (tree_slots p) ≡ tree_slots p
      all_used = those_every used (tree_slots p) (λ s m. (used_is (node_at p s)).1 (reached_used s m).used)

      free : (s : SlotNumber) → Slot p s → (node_at p s).level ≡ 0 → length (those q (those used (s ∷ []))) ≡ 0
      free s k e = rw (those_no used s [] ((unused_is (node_at p s)).1 e), those_none used, those_none q)

  pub used_length : length (tree_slots p) ≡ length (those in_use p.slots)
  used_length =
      simp those_all at (used_in (λ s. true)) ∙ sym (count_map (node_at p) in_use (slot_numbers p))
      ∙ ap (λ (ns : List Node). length (those in_use ns)) (nodes_are p)

  pub tree_in_slots : length (tree_slots p) ≤ length p.slots
  tree_in_slots = omega (arith, used_length, those_fewer in_use p.slots)

  -- ---- parents

  -- how often a slot is a child, of the slots of the tree
  kids_total : (s : SlotNumber) → total (map (λ t. times s (children_at p t)) (tree_slots p)) ≡ parents p s
  kids_total s = whole_total (λ t. times s (children_at p t)) free ∙ sym (parents_are p s)
    where
      free : (t : SlotNumber) → Slot p t → (node_at p t).level ≡ 0 → times s (children_at p t) ≡ 0
      free t k e = rw (children_none p t (omega arith)) (times_none s)

  pub times_parents : (s : SlotNumber) → times s (tree_slots p) ≡ times s (p.root ∷ []) + parents p s
  times_parents s = omega (arith, slots_parts p (λ t. same_slot t s) p.height p.root w.tree, kids_total s)

  pub parents_one : (s : SlotNumber) → Used p s → s ≢ p.root → parents p s ≡ 1
  parents_one s u n = omega (arith, times_parents s, times_other s p.root (λ e. n (sym e)), w.once s u)

  pub parents_root : parents p p.root ≡ 0
  parents_root = omega (arith, times_parents p.root, times_self p.root, all_once p.root)

  parents_few : (s : SlotNumber) → parents p s ≤ 1
  parents_few s = omega (arith, times_parents s, all_once s)

  -- a slot is a child of one entry of one slot at most, and the root of none
  pub one_entry : (s t : SlotNumber) → Used p t → times s (children_at p t) ≤ 1
  one_entry s t u = omega (arith, parents_few s, kids_total s, total_member (λ r. times s (children_at p r)) (reached t u))

  pub root_no_child : (t : SlotNumber) → Used p t → Among p.root (children_at p t) → ⊥
  root_no_child t u m =
      let s = p.root in
      omega (arith, parents_root, kids_total s, total_member (λ r. times s (children_at p r)) (reached t u), among_times s m)

  pub one_parent_lem : (s t u : SlotNumber) → Used p t → Used p u → Among s (children_at p t) → Among s (children_at p u) → t ≡ u
  one_parent_lem s t u a b m n = go (ℕ_discrete i.0 j.0)
    where
      i : (k : ℕ) × (k < length (tree_slots p)) × ((d : SlotNumber) → get_or (tree_slots p) k d ≡ t)
      i = place_of_lem (reached t a)

      j : (k : ℕ) × (k < length (tree_slots p)) × ((d : SlotNumber) → get_or (tree_slots p) k d ≡ u)
      j = place_of_lem (reached u b)

      kids : SlotNumber → ℕ
      kids r = times s (children_at p r)

      go : Dec (i.0 ≡ j.0) → t ≡ u
      go (yes e) = sym (i.2 t) ∙ ap (λ (k : ℕ). get_or (tree_slots p) k t) e ∙ j.2 t
      go (no e) = absurd (omega (
        arith,
        parents_few s,
        kids_total s,
        total_places kids (tree_slots p) i.0 j.0 t i.1 j.1 e,
        ap kids (i.2 t),
        ap kids (j.2 t),
        among_times s m,
        among_times s n,
      ))
