-- The pool slot by slot. What `rules` reads off the list of nodes, one node after another, is what each slot has, in slot order.
use mathlib.Core.Path.{◌≡◌, refl, sym, ap, subst, ◌∙◌}
use mathlib.Core.Logic.{◌↔◌}
use mathlib.Core.Bool.{Bool, true, false, cond}
use mathlib.Core.List.Memᴰ
use mathlib.Core.List.{List, [], ◌∷◌, ◌++◌, map, map-map, map-append}
use Prim.Native.Nat.{ℕ, suc, ◌+◌, ◌≤◌, ◌<◌}
use native.Mathlib.Omega.{arith}
use lib.Dec.{leb}
use lib.ListN.{length, get_or, length-map}
use Rattle.rules.specs.declared.SlotNumber.{SlotNumber}
use Rattle.rules.specs.declared.Entry.{Entry}
use Rattle.rules.specs.Lists.{those, joined, total, up_from}
use Rattle.rules.specs.Pool.{Node, Pool, slot, free_node, same_slot, slot_numbers, node_at, entries_at, child_of, record_of, is_leaf, stored}
use Rattle.rules.specs.Sound.{inner_entries, parents}
use Rattle.rules_laws.proofs.Places.{Among, place_of_lem, length_up_from, get_d_up_from, up_from_among, map_up_from, map_next, map_same}
use Rattle.rules_laws.proofs.Parts.{those_yes, those_no, those_none, count_map, up_from_most}
use Rattle.rules_laws.proofs.Joins.{count_joined}
use Rattle.sound_laws.specs.Tree.{slots_in, children_at, records_at, times, Slot, Tree}
use Rattle.sound_laws.proofs.Tests.{slot_or_not}
use Rattle.sound_laws.proofs.Times.{among_times, not_among}
use Rattle.sound_laws.proofs.Walk.{within_used}

-- ---- the numbers of the slots

slot_among : {p : Pool} {s : SlotNumber} → Slot p s → Among s (slot_numbers p)
unfolding slot_numbers
slot_among {p} {s} h = Memᴰ.map slot (up_from_among 1 (length p.slots) s.0 h.low (omega arith))

among_slot : (p : Pool) (s : SlotNumber) → Among s (slot_numbers p) → Slot p s
unfolding slot_numbers
among_slot p s m =
    let n = length p.slots in
    let q = Memᴰ.of_map slot (up_from 1 n) m in
    let k = place_of_lem q.1 in
    let l : k.0 < n = omega (arith, k.1, length_up_from 1 n) in
    let e : q.0 ≡ 1 + k.0 = sym (k.2 0) ∙ get_d_up_from 1 n k.0 0 l in
    let f : q.0 ≡ s.0 = ap (λ (t : SlotNumber). t.0) q.2 in
    record { low = omega arith; high = omega arith }

pub slots_size : (p : Pool) → length (slot_numbers p) ≡ length p.slots
unfolding slot_numbers
slots_size p = length-map (up_from 1 (length p.slots)) slot ∙ length_up_from 1 (length p.slots)

pub slots_are : (p : Pool) (s : SlotNumber) → Among s (slot_numbers p) ↔ Slot p s
slots_are p s = (among_slot p s, slot_among)

-- each slot has one number
times_slots : (p : Pool) (s : SlotNumber) → times s (slot_numbers p) ≤ 1
unfolding slot_numbers same_slot
times_slots p s = rw (count_map slot (λ t. same_slot t s) (up_from 1 (length p.slots))) (up_from_most 1 (length p.slots) s.0)

pub slot_once : {p : Pool} {s : SlotNumber} → Slot p s → times s (slot_numbers p) ≡ 1
slot_once {p} {s} h = omega (arith, times_slots p s, among_times s (slot_among h))

pub slot_never : (p : Pool) (s : SlotNumber) → (Slot p s → ⊥) → times s (slot_numbers p) ≡ 0
slot_never p s n = not_among s (slot_numbers p) (λ m. n (among_slot p s m))

-- a slot that is in a tree once, where it is a slot at all, occurs there as often as among the numbers
pub times_alike : (p : Pool) (l : ℕ) (s t : SlotNumber) → Tree p l s → (Slot p t → times t (slots_in p l s) ≡ 1)
    → times t (slots_in p l s) ≡ times t (slot_numbers p)
times_alike p l s t d h = go (slot_or_not p t)
  where
    go : Dec (Slot p t) → times t (slots_in p l s) ≡ times t (slot_numbers p)
    go (yes k) = h k ∙ sym (slot_once k)
    go (no n) = not_among t (slots_in p l s) (λ m. n (within_used p l s t d m).slot) ∙ sym (slot_never p t n)

-- ---- the nodes in slot order

pub nodes_are : (p : Pool) → map (node_at p) (slot_numbers p) ≡ p.slots
unfolding node_at slot_numbers
nodes_are p =
    let n = length p.slots in
    map-map (node_at p) slot (up_from 1 n) ∙ map_next (λ k. node_at p (slot k)) 0 n
    ∙ map_same (λ k. node_at p (slot (suc k))) (λ k. get_or p.slots k free_node) (up_from 0 n)
    (λ k m. ap (λ (j : ℕ). get_or p.slots j free_node) (omega arith))
    ∙ map_up_from free_node p.slots

-- a node of the list is in a slot
pub node_among : {p : Pool} {s : SlotNumber} → Slot p s → Among (node_at p s) p.slots
node_among {p} {s} h = subst (Among (node_at p s)) (nodes_are p) (Memᴰ.map (node_at p) (slot_among h))

pub among_node : (p : Pool) (n : Node) → Among n p.slots → (s : SlotNumber) × Slot p s × (node_at p s ≡ n)
among_node p n m =
    let q = Memᴰ.of_map (node_at p) (slot_numbers p) (subst (Among n) (sym (nodes_are p)) m) in
    (q.0, among_slot p q.0 q.1, q.2)

module _ {B : Type 0} (t : Node → Bool) (g : Entry → B) where
  -- what the entries of one node give
  part_of : Node → List B
  part_of n = cond (t n) (map g n.entries) []

  flat_nodes : (ns : List Node) → map g (joined (map (λ (n : Node). n.entries) (those t ns))) ≡ joined (map part_of ns)
  unfolding joined part_of
  flat_nodes [] = rw (those_none t)
  flat_nodes (n ∷ ns) = go (t n) refl (flat_nodes ns)
    where
      entries : Node → List Entry
      entries m = m.entries

      go : (b : Bool) → t n ≡ b → map g (joined (map entries (those t ns))) ≡ joined (map part_of ns)
          → map g (joined (map entries (those t (n ∷ ns)))) ≡ part_of n ++ joined (map part_of ns)
      go true e h = rw (e, those_yes t n ns e, map-append g n.entries (joined (map entries (those t ns))), h)
      go false e h = rw (e, those_no t n ns e, h)

  flat : (p : Pool) → map g (joined (map (λ (n : Node). n.entries) (those t p.slots))) ≡ joined (map (λ s. part_of (node_at p s)) (slot_numbers p))
  flat p =
      flat_nodes p.slots
      ∙ ap (λ (ns : List Node). joined (map part_of ns)) (sym (nodes_are p))
      ∙ ap joined (map-map part_of (node_at p) (slot_numbers p))

-- the stored records, and the children of all inner nodes
pub stored_are : (p : Pool) → stored p ≡ joined (map (records_at p) (slot_numbers p))
unfolding stored part_of records_at entries_at
stored_are p = flat is_leaf record_of p

pub children_are : (p : Pool) → map child_of (inner_entries p) ≡ joined (map (children_at p) (slot_numbers p))
unfolding inner_entries part_of children_at entries_at
children_are p = flat (λ (n : Node). leb 2 n.level) child_of p

-- how often a slot is a child: the sum over all slots
pub parents_are : (p : Pool) (s : SlotNumber) → parents p s ≡ total (map (λ t. times s (children_at p t)) (slot_numbers p))
unfolding parents
parents_are p s =
    sym (count_map child_of (λ t. same_slot t s) (inner_entries p)) ∙ ap (times s) (children_are p)
    ∙ count_joined (children_at p) (λ t. same_slot t s) (slot_numbers p)
