-- A pool that holds no more than two records for each slot has room for one more. Let two records pay for each node, and for each slot that is
-- taken. A tree below the root then has a record over: each child has one over, and of these, three at least, two pay for the node itself. A
-- full node, the only one that takes a slot, has eight, and a leaf has its records. So slots in use and slots taken are no more than there are.
use mathlib.Core.Path.{◌≡◌, refl, ap}
use mathlib.Core.Logic.{◌≢◌, ◌⊎◌, inl, inr, ⊎_elim}
use mathlib.Core.Bool.{true}
use mathlib.Core.List.Memᴰ
use mathlib.Core.List.{List, [], ◌∷◌, map}
use Prim.Native.Nat.{ℕ, zero, suc, ◌+◌, ◌*◌, ◌-◌, ◌≤◌, ◌<◌}
use native.Mathlib.Decide.{dec_le}
use native.Mathlib.Omega.{arith}
use lib.ListN.{length, length-map}
use Rattle.rules.specs.declared.Rect.{Rect}
use Rattle.rules.specs.declared.SlotNumber.{SlotNumber}
use Rattle.rules.specs.declared.Record.{Record}
use Rattle.rules.specs.declared.Entry.{Entry}
use Rattle.rules.specs.Lists.{total}
use Rattle.rules.specs.Numbers.{most, least, good_number}
use Rattle.rules.specs.Geometry.{valid}
use Rattle.rules.specs.Pool.{Pool, entries_at, entry_at, child_of, record_of, stored, free_count}
use Rattle.rules.specs.Sound.{in_use}
use Rattle.rules.specs.Insert.{Choice, NoneFree, insert_record}
use Rattle.rules.specs.Lawful.{Lawful}
use Rattle.rules.specs.Room.{way_up, full_run, plus_root, slots_needed}
use Rattle.rules_laws.proofs.Places.{Among}
use Rattle.rules_laws.proofs.Parts.{parted_length, those_parted}
use Rattle.rules_laws.proofs.Sums.{total_none, total_more, total_member}
use Rattle.rules_laws.proofs.Joins.{joined_length}
use Rattle.sound_laws.specs.Tree.{slots_in, records_in, tree_slots, Tree, Whole}
use Rattle.sound_laws.proofs.Walk.{slots_leaf, slots_inner, records_leaf, records_inner, no_tree, inner_of}
use Rattle.sound_laws.proofs.Free.{is_free}
use Rattle.sound_laws.proofs.Whole.{stored_length, used_length}
use Rattle.insert_laws.proofs.Below.{way, way_there}
use Rattle.insert_laws.proofs.Beside.{among_here}
use Rattle.insert_laws.proofs.Runs.{full_one, room_none, way_here, run, run_ends, run_goes_on, run_most, needed_less, needed_all}
use Rattle.insert_laws.proofs.Slots.{insert_slots}

-- where each member has two of g for each of f and of r, and one over, so has the sum, with one over for each member
over_each : {A : Type 0} (f r g : A → ℕ) (xs : List A) → ((x : A) → Among x xs → 2 * (f x + r x) + 1 ≤ g x)
    → 2 * (total (map f xs) + total (map r xs)) + length xs ≤ total (map g xs)
over_each f r g [] h = omega (arith, total_none f, total_none r, total_none g)
over_each f r g (x ∷ xs) h =
    omega (
      arith,
      total_more f x xs,
      total_more r x xs,
      total_more g x xs,
      h x (Memᴰ.head refl),
      over_each f r g xs (λ y m. h y (Memᴰ.tail m)),
    )

-- ---- the run, one node further up

module _ (c : Choice) (p : Pool) (new : Rect) where
  -- the child that the entry goes below
  abbrev next : SlotNumber → SlotNumber
  next s = child_of (entry_at p s (way c p s new))

  -- the node at s, n + 1 levels above the one that the entry goes into: the run stops short of it, or it is full and the run is the whole way
  record Ended (n : ℕ) (s : SlotNumber) : Type 0 where
    same : run c (suc n) p s new ≡ run c n p (next s) new
    short : run c (suc n) p s new ≤ suc n

  record Through (n : ℕ) (s : SlotNumber) : Type 0 where
    full : most ≤ length (entries_at p s)
    below : run c n p (next s) new ≡ suc n
    all : run c (suc n) p s new ≡ suc (suc n)

  run_cases : (n : ℕ) (s : SlotNumber) → Ended n s ⊎ Through n s
  unfolding run
  run_cases n s = go (dec_le (run c n p (next s) new) n) (dec_le most (length (entries_at p s)))
    where
      long : run c n p (next s) new ≤ suc n
      long = run_most c n p (next s) new

      go : Dec (run c n p (next s) new ≤ n) → Dec (most ≤ length (entries_at p s)) → Ended n s ⊎ Through n s
      go (yes h) k = inl (record { same = run_ends c n p s new h; short = omega (arith, run_ends c n p s new h) })
      go (no h) (yes k) =
          let a : run c n p (next s) new ≡ suc n = omega (arith, long) in
          inr (record { full = k; below = a; all = omega (arith, run_goes_on c n p s new a, full_one p s k) })
      go (no h) (no k) =
          let a : run c n p (next s) new ≡ suc n = omega (arith, long) in
          let b = run_goes_on c n p s new a in
          let z = room_none p s (omega arith) in
          inl (record { same = omega arith; short = omega arith })

  -- a node has one record over for each entry: they pay for what it adds to the run, with three over
  run_paid : (n : ℕ) (s : SlotNumber) → least ≤ length (entries_at p s)
      → 2 * run c (suc n) p s new + 3 ≤ 2 * run c n p (next s) new + length (entries_at p s)
  run_paid n s h =
      ⊎_elim (λ (o : Ended n s). omega (arith, o.same)) (λ (o : Through n s). omega (arith, o.full, o.below, o.all)) (run_cases n s)

-- ---- trees

module _ (c : Choice) (lawful : Lawful c) (p : Pool) (new : Rect) where
  -- the tree at s has two records for each node, two for each of the run in it, and one over
  abbrev Over : ℕ → SlotNumber → Type 0
  Over l s = 2 * (length (slots_in p (suc l) s) + run c l p s new) + 1 ≤ length (records_in p (suc l) s)

  -- the trees at the children have one over each, and the one that the entry goes into pays for its run; the node itself is not paid for yet
  children_over : (l : ℕ) (s : SlotNumber) → Tree p (suc (suc l)) s → 0 < length (entries_at p s)
      → ((x : Entry) → Among x (entries_at p s) → Over l (child_of x))
      → 2 * (length (slots_in p (suc (suc l)) s) + run c l p (next c p new s) new) + length (entries_at p s) ≤ length (records_in p (suc (suc l)) s) + 2
  children_over l s d some each =
      let es = entries_at p s in
      let slots : Entry → List SlotNumber = λ x. slots_in p (suc l) (child_of x) in
      let records : Entry → List Record = λ x. records_in p (suc l) (child_of x) in
      let there = way_there c lawful p s new some in
      rw (slots_inner p s l, records_inner p s l)
      (omega (
        arith,
        joined_length slots es,
        joined_length records es,
        over_each (λ x. length (slots x)) (λ x. run c l p (child_of x) new) (λ x. length (records x)) es each,
        total_member (λ (x : Entry). run c l p (child_of x) new) (among_here p l s d (way c p s new) there (way c p s new) there),
      ))

  -- a leaf pays by its own records: three, or eight where it is full
  leaf_over : (s : SlotNumber) → least ≤ length (entries_at p s) → Over 0 s
  unfolding run
  leaf_over s h =
      rw (slots_leaf p s, records_leaf p s, length-map (entries_at p s) record_of, way_here c p s new) (go (dec_le most (length (entries_at p s))))
    where
      go : Dec (most ≤ length (entries_at p s)) → 2 * (1 + length (full_run p (s ∷ []))) + 1 ≤ length (entries_at p s)
      go (yes k) = omega (arith, full_one p s k)
      go (no k) = omega (arith, room_none p s (omega arith))

  -- so by induction on the levels, for every tree below the root
  tree_over : (l : ℕ) (s : SlotNumber) → Tree p (suc l) s → least ≤ length (entries_at p s) → Over l s
  tree_over zero s d h = leaf_over s h
  tree_over (suc l) s d h =
      omega (
        arith,
        run_paid c p new l s h,
        children_over l s d (omega arith) (λ x m. let i = (inner_of p l s d).each x m in tree_over l (child_of x) i.child i.enough),
      )

  -- ---- the whole tree

  -- no slot is taken, or there are two records or more for each slot that is then in use
  abbrev Paid : ℕ → ℕ → ℕ → Type 0
  Paid slots needed records = (needed ≡ 0) ⊎ (2 * (slots + needed) ≤ records)

  -- what an entry needs that comes to a root at s, n levels above the leaves
  abbrev needs : ℕ → SlotNumber → ℕ
  needs n s = plus_root s (full_run p (way_up c n p s new))

  -- a root that is a leaf takes none, or is full, and takes two: eight records for three slots
  leaf_paid : (s : SlotNumber) → Tree p 1 s → Paid (length (slots_in p 1 s)) (needs 0 s) (length (records_in p 1 s))
  unfolding run
  leaf_paid s d =
      rw (slots_leaf p s, records_leaf p s, length-map (entries_at p s) record_of) (go (dec_le most (length (entries_at p s))))
    where
      here : run c 0 p s new ≡ length (full_run p (s ∷ []))
      here = ap (λ (up : List SlotNumber). length (full_run p up)) (way_here c p s new)

      go : Dec (most ≤ length (entries_at p s)) → Paid 1 (needs 0 s) (length (entries_at p s))
      go (yes k) =
          let r = full_one p s k in
          inr (omega (arith, here, needed_all c lawful p 1 (omega arith) new 0 1 s (omega arith) d (λ z. absurd (omega arith)) (omega (arith, here))))
      go (no k) =
          let r = room_none p s (omega arith) in
          inl (omega (arith, here, needed_less c lawful p 1 (omega arith) new 0 1 s (omega arith) d (λ z. absurd (omega arith)) (omega (arith, here))))

  -- the entries of a root pay for what it adds, and for the new root, with two over
  needed_paid : (l : ℕ) (s : SlotNumber) → Tree p (suc (suc l)) s → 2 ≤ length (entries_at p s)
      → 2 * needs (suc l) s + 2 ≤ 2 * run c l p (next c p new s) new + length (entries_at p s)
  needed_paid l s d two =
      let levels : suc (suc l) ≡ suc l + 1 = omega arith in
      let some : 0 < suc l → 0 < length (entries_at p s) = λ z. omega arith in
      ⊎_elim
      (λ (o : Ended c p new l s). omega (arith, o.same, needed_less c lawful p 1 (omega arith) new (suc l) (suc (suc l)) s levels d some o.short))
      (λ (o : Through c p new l s). omega (arith, o.full, o.below, o.all, needed_all c lawful p 1 (omega arith) new (suc l) (suc (suc l)) s levels d some o.all))
      (run_cases c p new l s)

  -- a root that is none has two children at least, which pay for it; where it is full, they pay for its partner and the new root as well
  root_paid : (l : ℕ) (s : SlotNumber) → Tree p (suc (suc l)) s → 2 ≤ length (entries_at p s)
      → Paid (length (slots_in p (suc (suc l)) s)) (needs (suc l) s) (length (records_in p (suc (suc l)) s))
  root_paid l s d two =
      inr
      (omega (
        arith,
        needed_paid l s d two,
        children_over l s d (omega arith) (λ x m. let i = (inner_of p l s d).each x m in tree_over l (child_of x) i.child i.enough),
      ))

  top_paid : (h : ℕ) (s : SlotNumber) → Tree p h s → (2 ≤ h → 2 ≤ length (entries_at p s))
      → Paid (length (slots_in p h s)) (needs (h - 1) s) (length (records_in p h s))
  top_paid zero s d two = absurd (no_tree p s d)
  top_paid (suc zero) s d two = leaf_paid s d
  top_paid (suc (suc l)) s d two = let n : suc (suc l) - 1 ≡ suc l = omega arith in rw n (root_paid l s d (two (omega arith)))

-- ---- a record

-- a slot is free, or one of the tree's
pub free_and_used : (p : Pool) → Whole p → free_count p + length (tree_slots p) ≡ length p.slots
unfolding free_count in_use
free_and_used p w = omega (arith, used_length p w, parted_length (those_parted is_free p.slots))

module _ (c : Choice) (lawful : Lawful c) (p : Pool) (w : Whole p) (r : Record) where
  -- an insert takes no slot, or two records or more are stored for each slot that is then in use
  pub needs_paid : (slots_needed c 1 p r.rect ≡ 0) ⊎ (2 * (length (tree_slots p) + slots_needed c 1 p r.rect) ≤ length (stored p))
  unfolding slots_needed
  needs_paid = rw (stored_length p w) (top_paid c lawful p r.rect p.height p.root w.tree w.two)

  pub slots_enough : length (stored p) ≤ 2 * length p.slots → slots_needed c 1 p r.rect ≤ free_count p
  slots_enough h = ⊎_elim (λ none. omega arith) (λ paid. omega (arith, free_and_used p w)) needs_paid

  -- with no more than two records for each slot it is never refused 7
  pub insert_enough : valid r.rect ≡ true → good_number r.number ≡ true → length (stored p) ≤ 2 * length p.slots → insert_record c p r ≢ NoneFree
  insert_enough v n h z = omega (arith, slots_enough h, (insert_slots c lawful p w r v n).0 z)
