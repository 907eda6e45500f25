-- Free slots. The lowest is the first node of level 0, a node at a time. How many there are after a node is put: what stood in the slot
-- counts off, and the node counts.
use mathlib.Core.Path.{◌≡◌, refl, sym, ap, ◌∙◌}
use mathlib.Core.Bool.{Bool, true, false}
use mathlib.Core.List.{List, [], ◌∷◌}
use Prim.Native.Nat.{ℕ, zero, suc, ◌+◌, ◌-◌, ◌≤◌, ◌<◌}
use native.Mathlib.Omega.{arith}
use lib.Dec.{eqb}
use lib.ListN.{length, get_or}
use borrow.Author.Tests.{eqb-true, eqb-false, eq-eqb, ne_eqb}
use Rattle.rules.specs.declared.SlotNumber.{SlotNumber}
use Rattle.std.specs.Prelude.{Some, None}
use Rattle.rules.specs.Lists.{those}
use Rattle.rules.specs.Pool.{Node, Pool, slot, free_node, node_at, free_from, lowest_free, free_count, put_node, put_records}
use Rattle.rules_laws.proofs.Places.{at_place}
use Rattle.rules_laws.proofs.Parts.{those_yes, those_no, those_none, counted, count_set_lem}
use Rattle.sound_laws.specs.Tree.{Slot}

-- "Level 0 is free"
abbrev pub is_free : Node → Bool
is_free n = eqb n.level 0

-- ---- the lowest

pub free_nowhere : (i : ℕ) → free_from i [] ≡ None
unfolding free_from
free_nowhere i = refl

-- the level of the node at a place
abbrev level_at : List Node → ℕ → ℕ
level_at ns k = (get_or ns k free_node).level

module _ (i : ℕ) (n : Node) (ns : List Node) where
  pub free_here : is_free n ≡ true → free_from i (n ∷ ns) ≡ Some (slot i)
  unfolding free_from
  free_here h = rw (h, free_from)

  pub free_later : is_free n ≡ false → free_from i (n ∷ ns) ≡ free_from (suc i) ns
  unfolding free_from
  free_later h = rw (h, free_from)

-- the first place of level 0, from the place i on
record First (i : ℕ) (ns : List Node) (t : SlotNumber) : Type 0 where
  place : ℕ
  there : place < length ns
  slot : t.0 ≡ i + place
  free : level_at ns place ≡ 0
  before : (j : ℕ) → j < place → 1 ≤ level_at ns j

found_free : (i : ℕ) (ns : List Node) (t : SlotNumber) → free_from i ns ≡ Some t → First i ns t
unfolding free_from
found_free i [] t h = let z : ◌≡◌ {A = ℕ} 0 1 = cc in absurd (omega arith)
found_free i (n ∷ ns) t h = go (eqb n.level 0) refl (found_free (suc i) ns t)
  where
    go : (b : Bool) → eqb n.level 0 ≡ b → (free_from (suc i) ns ≡ Some t → First (suc i) ns t) → First i (n ∷ ns) t
    go true e f =
        let q = sym (free_here i n ns e) ∙ h in
        let same : i ≡ t.0 = ap (λ (u : SlotNumber). u.0) (cc) in
        record { place = zero; there = omega arith; slot = omega arith; free = eqb-true n.level 0 e; before = λ j k. absurd (omega arith) }
    go false e f =
        let r = f (sym (free_later i n ns e) ∙ h) in
        record { place = suc r.place; there = omega (arith, r.there); slot = omega (arith, r.slot); free = r.free; before = before r }
      where
        before : (r : First (suc i) ns t) (j : ℕ) → j < suc r.place → 1 ≤ level_at (n ∷ ns) j
        before r zero k = let z = eqb-false n.level 0 e in omega arith
        before r (suc j) k = r.before j (omega arith)

none_free : (i : ℕ) (ns : List Node) → free_from i ns ≡ None → (k : ℕ) → k < length ns → 1 ≤ level_at ns k
none_free i [] h k l = absurd (omega arith)
none_free i (n ∷ ns) h k l = go (eqb n.level 0) refl k l (none_free (suc i) ns)
  where
    go : (b : Bool) → eqb n.level 0 ≡ b → (j : ℕ) → j < length (n ∷ ns)
        → (free_from (suc i) ns ≡ None → (m : ℕ) → m < length ns → 1 ≤ level_at ns m) → 1 ≤ level_at (n ∷ ns) j
    go true e j l f = let q = sym (free_here i n ns e) ∙ h in let z : ◌≡◌ {A = ℕ} 0 1 = cc in absurd (omega arith)
    go false e zero l f = let z = eqb-false n.level 0 e in omega arith
    go false e (suc j) l f = f (sym (free_later i n ns e) ∙ h) j (omega arith)

module _ (p : Pool) where
  -- "the lowest free slot": it is a slot, it is free, and the lower slots are in use
  module _ (t : SlotNumber) (h : lowest_free p ≡ Some t) where
    pub lowest_slot : Slot p t
    unfolding lowest_free
    lowest_slot = let f = found_free 1 p.slots t h in record { low = omega (arith, f.slot); high = omega (arith, f.slot, f.there) }

    pub lowest_free_lem : (node_at p t).level ≡ 0
    unfolding lowest_free node_at
    lowest_free_lem = let f = found_free 1 p.slots t h in let e : t.0 - 1 ≡ f.place = omega (arith, f.slot) in rw e f.free

    pub lower_used : (u : SlotNumber) → 1 ≤ u.0 → u.0 < t.0 → 1 ≤ (node_at p u).level
    unfolding lowest_free node_at
    lower_used u k l = let f = found_free 1 p.slots t h in f.before (u.0 - 1) (omega (arith, f.slot))

  -- none is free
  pub all_used : lowest_free p ≡ None → (t : SlotNumber) → Slot p t → 1 ≤ (node_at p t).level
  unfolding lowest_free node_at
  all_used h t k = none_free 1 p.slots h (t.0 - 1) (omega (arith, k.low, k.high))

-- ---- how many

pub free_one : (n : Node) → n.level ≡ 0 → length (those is_free (n ∷ [])) ≡ 1
free_one n h = rw (those_yes is_free n [] (eq-eqb n.level 0 h), those_none is_free)

pub used_none : (n : Node) → 1 ≤ n.level → length (those is_free (n ∷ [])) ≡ 0
used_none n h = rw (those_no is_free n [] (ne_eqb n.level 0 (λ e. omega arith)), those_none is_free)

module _ (p : Pool) (s : SlotNumber) (k : Slot p s) where
  -- what stood there counts off, and the node counts
  count_put : (n : Node) → free_count (put_node p s n) + length (those is_free (node_at p s ∷ [])) ≡ free_count p + length (those is_free (n ∷ []))
  unfolding free_count put_node node_at
  count_put n = count_set_lem is_free p.slots (s.0 - 1) n free_node (omega (arith, k.low, k.high))

  -- a slot in use is zeroed
  pub zero_freed : 1 ≤ (node_at p s).level → free_count (put_node p s free_node) ≡ suc (free_count p)
  zero_freed h = omega (arith, count_put free_node, used_none (node_at p s) h, free_one free_node refl)

-- a node in use comes into a slot in use, and into a free one
module _ (p : Pool) (s : SlotNumber) (n : Node) (k : Slot p s) (new : 1 ≤ n.level) where
  pub put_used : 1 ≤ (node_at p s).level → free_count (put_node p s n) ≡ free_count p
  put_used h = omega (arith, count_put p s k n, used_none (node_at p s) h, used_none n new)

  pub put_free : (node_at p s).level ≡ 0 → suc (free_count (put_node p s n)) ≡ free_count p
  put_free h = omega (arith, count_put p s k n, free_one (node_at p s) h, used_none n new)

-- where no slot is found none is free
count_none : (i : ℕ) (ns : List Node) → free_from i ns ≡ None → length (those is_free ns) ≡ 0
count_none i [] h = rw (those_none is_free)
count_none i (n ∷ ns) h = go (eqb n.level 0) refl (count_none (suc i) ns)
  where
    go : (b : Bool) → eqb n.level 0 ≡ b → (free_from (suc i) ns ≡ None → length (those is_free ns) ≡ 0) → length (those is_free (n ∷ ns)) ≡ 0
    go true e f = let q = sym (free_here i n ns e) ∙ h in let z : ◌≡◌ {A = ℕ} 0 1 = cc in absurd (omega arith)
    go false e f = rw (those_no is_free n ns e) (f (sym (free_later i n ns e) ∙ h))

pub nowhere_none : (p : Pool) → lowest_free p ≡ None → free_count p ≡ 0
unfolding free_count lowest_free
nowhere_none p h = count_none 1 p.slots h

-- where one is found, one at least is free
pub at_some : (p : Pool) (t : SlotNumber) → lowest_free p ≡ Some t → 0 < free_count p
unfolding free_count node_at
at_some p t h =
    let s = lowest_slot p t h in
    counted is_free (at_place p.slots (t.0 - 1) free_node (omega (arith, s.low, s.high))) (eq-eqb _ 0 (lowest_free_lem p t h))

-- the number of records in the head says nothing of the slots
pub head_free : (p : Pool) (n : ℕ) → free_count (put_records p n) ≡ free_count p
unfolding free_count put_records
head_free p n = refl
