-- CT1 to CT5: up the way that FindLeaf came down, and what stands then. By induction on the way: at its end the pair leaves its leaf (Out),
-- and at each node above a child shrank (Narrow).
use mathlib.Core.Path.{◌≡◌, refl, sym, ap, subst, subst₂, ◌∙◌}
use mathlib.Core.Bool.{Bool}
use mathlib.Core.List.{List, [], ◌∷◌}
use Prim.Native.Nat.{ℕ, zero, suc, ◌+◌, ◌≤◌}
use native.Mathlib.Decide.{dec_le}
use native.Mathlib.Omega.{arith}
use lib.ListN.{length}
use Rattle.rules.specs.declared.SlotNumber.{SlotNumber}
use Rattle.rules.specs.declared.Record.{Record}
use Rattle.rules.specs.Lists.{those}
use Rattle.rules.specs.Pool.{Node, Pool, free_node, node_at, entries_at, entry_at, child_of, number_of, owner_of, record_of, leaf_entry}
use Rattle.rules.specs.Delete.{Place, place, Path, Condensed, take_out, relieve, condense}
use Rattle.sound_laws.specs.Tree.{slots_in, records_in, tree_slots, tree_records, times, Once, Slot, Used, Tree}
use Rattle.sound_laws.proofs.Times.{times_none, among_times, times_among, not_among}
use Rattle.sound_laws.proofs.Walk.{within_used}
use Rattle.sound_laws.proofs.Apart.{once_child}
use Rattle.insert_laws.specs.Grown.{records_under, spot}
use Rattle.insert_laws.specs.Standing.{Standing}
use Rattle.insert_laws.proofs.Under.{under_leaf, weight_leaf}
use Rattle.insert_laws.proofs.Counts.{times_of, count_of, times_under, count_under, times_at, count_at, times_taken, count_taken, free_out}
use Rattle.insert_laws.proofs.Beside.{among_here, child_entry}
use Rattle.delete_laws.specs.Way.{Leads}
use Rattle.delete_laws.specs.Shrunk.{slots_aside, weight_aside, Shrunk, Waiting, condensed}
use Rattle.delete_laws.proofs.Asides.{aside_used, times_aside}
use Rattle.delete_laws.proofs.Out.{out_shrunk}
use Rattle.delete_laws.proofs.Narrow.{relieve_shrunk}

-- ---- up the way

module _ (p : Pool) where
  pub condense_one : (a : Place) → condense p (a ∷ []) ≡ condensed (take_out p a) []
  unfolding condense
  condense_one a = refl

  pub condense_more : (a b : Place) (way : Path) → condense p (a ∷ b ∷ way) ≡ relieve a b.node (condense p (b ∷ way))
  unfolding condense
  condense_more a b way = refl

  -- a way begins at its node
  pub leads_from : (r : Record) (l : ℕ) (s : SlotNumber) (way : Path) → Leads p r l s way → (k : ℕ) × (more : Path) × (way ≡ place s k ∷ more)
  unfolding Leads
  leads_from r zero s way h = absurd h
  leads_from r (suc zero) s way h = (h.0, [], h.1)
  leads_from r (suc (suc l)) s way h = (h.0, h.1, h.2)

  -- one level up: the node above is relieved of what the way below left
  pub condense_up : (r : Record) (l : ℕ) (s : SlotNumber) (i : ℕ) (way rest : Path) → way ≡ place s i ∷ rest
      → Leads p r (suc l) (child_of (entry_at p s i)) rest → condense p way ≡ relieve (place s i) (child_of (entry_at p s i)) (condense p rest)
  condense_up r l s i way rest e h =
      let t = child_of (entry_at p s i) in
      let n = leads_from r (suc l) t rest h in
      ap (condense p) e ∙ ap (λ (z : Path). condense p (place s i ∷ z)) n.2 ∙ condense_more (place s i) (place t n.0) n.1
      ∙ ap (λ (z : Path). relieve (place s i) t (condense p z)) (sym n.2)

  pub condense_shrunk : (r : Record) (l : ℕ) (s : SlotNumber) (way : Path) → Tree p l s → Once (slots_in p l s) → Leads p r l s way
      → Shrunk p l s r (condense p way)
  unfolding Leads
  condense_shrunk r zero s way d once h = absurd h
  condense_shrunk r (suc zero) s way d once h =
      subst (Shrunk p 1 s r) (sym (ap (condense p) h.1 ∙ condense_one (place s h.0))) (out_shrunk p s d h.0 h.2 r h.3)
  condense_shrunk r (suc (suc l)) s way d once h =
      let x = entry_at p s h.0 in
      let m = among_here p l s d h.0 h.3 h.0 h.3 in
      let below = condense_shrunk r (suc l) (child_of x) h.1 (child_entry p l s d h.0 h.3).child (once_child p l s once x m) h.4 in
      subst (Shrunk p (suc (suc l)) s r) (sym (condense_up r l s h.0 way h.1 h.2 h.4))
      (relieve_shrunk p l s d h.0 h.3 once r (condense p h.1) below)

-- ---- a record's weight

module _ (p : Pool) (r : Record) where
  record_back : record_of (leaf_entry r) ≡ r
  unfolding record_of leaf_entry number_of owner_of
  record_back = refl

  count_record : (f : Record → Bool) → (count_of f).of_record r ≡ length (those f (r ∷ []))
  unfolding records_under
  count_record f =
      ap (count_of f).of_record (sym record_back) ∙ sym (weight_leaf (count_of f) p (leaf_entry r)) ∙ count_under p f 1 (leaf_entry r)
      ∙ ap (λ (x : Record). length (those f (x ∷ []))) record_back

  times_record : (t : SlotNumber) → (times_of t).of_record r ≡ 0
  times_record t =
      ap (times_of t).of_record (sym record_back) ∙ sym (weight_leaf (times_of t) p (leaf_entry r)) ∙ times_under p t 1 (leaf_entry r)
      ∙ ap (times t) (under_leaf p (leaf_entry r)) ∙ times_none t

-- ---- what stands

module _ (p : Pool) (w : Standing p []) (two : 2 ≤ p.height → 2 ≤ length (entries_at p p.root)) (r : Record) (x : Condensed)
    (g : Shrunk p p.height p.root r x) where
  abbrev q : Pool
  q = x.pool

  slots_now : tree_slots q ≡ slots_in q p.height p.root
  slots_now i = slots_in q (g.head.height i) (g.head.root i)

  records_now : tree_records q ≡ records_in q p.height p.root
  records_now i = records_in q (g.head.height i) (g.head.root i)

  -- how often a slot occurs in the tree, and how many of its records a test holds for
  shrunk_times : (t : SlotNumber) → times t (tree_slots q) + times t (slots_aside q x.set_aside) + times t g.freed ≡ times t (tree_slots p)
  shrunk_times t =
      omega (
        arith,
        g.weighs (times_of t),
        times_at (spot q p.height p.root) t,
        times_at (spot p p.height p.root) t,
        times_aside q t x.set_aside,
        times_taken t g.freed,
        times_record p r t,
        ap (times t) slots_now,
      )

  pub shrunk_count : (f : Record → Bool)
      → length (those f (tree_records q)) + weight_aside (count_of f) q x.set_aside + length (those f (r ∷ [])) ≡ length (those f (tree_records p))
  shrunk_count f =
      omega (
        arith,
        g.weighs (count_of f),
        count_at (spot q p.height p.root) f,
        count_at (spot p p.height p.root) f,
        count_taken f g.freed,
        count_record p r f,
        ap (λ (rs : List Record). length (those f rs)) records_now,
      )

  tree_now : Tree q q.height q.root
  tree_now = subst₂ (λ (l : ℕ) (s : SlotNumber). Tree q l s) (sym g.head.height) (sym g.head.root) g.tree

  once_now : (t : SlotNumber) → Used q t → times t (tree_slots q) + times t (slots_aside q x.set_aside) ≡ 1
  once_now t u = go (dec_le 1 (times t (tree_slots p)))
    where
      not_freed : times t g.freed ≡ 0
      not_freed = not_among t g.freed (λ m. omega (arith, u.used, ap (λ (n : Node). n.level) (g.zeroed t m)))

      ends : Used p t → times t (tree_slots q) + times t (slots_aside q x.set_aside) ≡ 1
      ends v = omega (arith, shrunk_times t, not_freed, w.once t v, times_none t)

      go : Dec (1 ≤ times t (tree_slots p)) → times t (tree_slots q) + times t (slots_aside q x.set_aside) ≡ 1
      go (yes h) = ends (within_used p p.height p.root t w.tree (times_among t (tree_slots p) h))
      go (no h) =
          let same = g.other t u.slot.low (λ m. omega (arith, among_times t m)) in
          ends (record {
            slot = record { low = u.slot.low; high = omega (arith, u.slot.high, g.long) };
            used = omega (arith, u.used, ap (λ (n : Node). n.level) same);
          })

  free_now : (t : SlotNumber) → Slot q t → (node_at q t).level ≡ 0 → node_at q t ≡ free_node
  free_now t k z = go (dec_le 1 (times t (tree_slots p)))
    where
      go : Dec (1 ≤ times t (tree_slots p)) → node_at q t ≡ free_node
      go (yes h) =
          g.zeroed t (times_among t g.freed (omega (
            arith,
            shrunk_times t,
            free_out q q.height q.root t tree_now z,
            not_among t (slots_aside q x.set_aside) (λ m. omega (arith, z, (aside_used q t x.set_aside g.fit m).used)),
          )))
      go (no h) =
          let same = g.other t k.low (λ m. omega (arith, among_times t m)) in
          sym same
          ∙ w.free t (record { low = k.low; high = omega (arith, k.high, g.long) }) (omega (arith, z, ap (λ (n : Node). n.level) same))

  pub shrunk_waiting : Waiting q x.set_aside
  shrunk_waiting = record {
    stands = record {
      tree = tree_now;
      some = λ h.
          let many = ap (λ (s : SlotNumber). length (entries_at q s)) g.head.root in
          omega (arith, two (omega (arith, g.head.height)), g.many, many);
      used = λ t m. aside_used q t x.set_aside g.fit m;
      once = once_now;
      free = free_now;
    };
    fit = g.fit;
    low = λ a m. omega (arith, g.low a m, g.head.height);
  }
