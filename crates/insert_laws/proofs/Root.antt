-- An entry goes into the tree from its root. If the root is split, the new root's slot was free, so nothing is under its two entries but
-- what stood there.
use mathlib.Core.Path.{◌≡◌, refl, sym, ap, subst, subst₂, ◌∙◌}
use mathlib.Core.Logic.{◌≢◌, inl, inr, ⊎_elim}
use mathlib.Core.List.Memᴰ
use mathlib.Core.List.{List, [], ◌∷◌}
use Prim.Native.Nat.{ℕ, zero, suc, ◌-◌, ◌≤◌, ◌<◌, min}
use native.Mathlib.Omega.{arith}
use lib.ListN.{length}
use Rattle.rules.specs.declared.SlotNumber.{SlotNumber}
use Rattle.rules.specs.declared.Entry.{Entry}
use Rattle.std.specs.Prelude.{Option, Some, None}
use Rattle.rules.specs.Numbers.{least}
use Rattle.rules.specs.Pool.{Pool, node, free_node, node_at, entries_at, child_of, entry_for, lowest_free, put_node, put_root}
use Rattle.rules.specs.Insert.{Choice, Grown, Kept, Split, Full, Done, NoneFree, new_root, grow_tree, insert_below, insert_at}
use Rattle.rules.specs.Lawful.{Lawful}
use Rattle.rules_laws.proofs.Places.{Among}
use Rattle.rules_laws.proofs.Sums.{total_none, total_more}
use Rattle.sound_laws.specs.Tree.{tree_slots, Once, Slot, Tree}
use Rattle.sound_laws.proofs.Times.{times_one}
use Rattle.sound_laws.proofs.Walk.{no_tree}
use Rattle.sound_laws.proofs.Frame.{put_length, put_same, put_other}
use Rattle.sound_laws.proofs.Free.{lowest_slot, lowest_free_lem}
use Rattle.insert_laws.specs.Grown.{Fits, Weights, weight_under, spot, weight_at, Grew, SameHead, Grows}
use Rattle.insert_laws.specs.Standing.{Put, Puts}
use Rattle.insert_laws.proofs.Under.{fits_level, entries_are, tree_made, fits_inner, weight_inner, weight_made, weight_none, weight_one, SameBelow, fits_below, total_below}
use Rattle.insert_laws.proofs.Install.{other_level, put_head}
use Rattle.insert_laws.proofs.Twice.{grew_twice}
use Rattle.insert_laws.proofs.Below.{below_grows}

pub root_at : (p : Pool) (s : SlotNumber) (h : ℕ) (t : SlotNumber) → node_at (put_root p s h) t ≡ node_at p t
unfolding node_at put_root
root_at p s h t = refl

-- ---- a new root

module _ (p : Pool) (l : ℕ) (s : SlotNumber) (d : Tree p (suc l) s) (enough : least ≤ length (entries_at p s)) (x : Entry)
    (f : Fits p (suc (suc l)) x) (t : SlotNumber) (k : Slot p t) (free : (node_at p t).level ≡ 0) where
  -- "entries for old root and partner in that order"
  abbrev two : List Entry
  two = entry_for p s ∷ x ∷ []

  abbrev raised : Pool
  raised = put_root (put_node p t (node (suc (suc l)) two)) t (suc (suc l))

  old_fits : Fits p (suc (suc l)) (entry_for p s)
  unfolding entry_for child_of
  old_fits = fits_inner p (entry_for p s) l (record { child = d; enough = enough; tight = refl })

  two_fit : (y : Entry) → Among y two → Fits p (suc (suc l)) y
  two_fit y m =
      ⊎_elim (λ e. subst (Fits p (suc (suc l))) (sym e) old_fits)
      (λ n. subst (Fits p (suc (suc l))) (sym (Memᴰ.eq_of_singleton n)) f) (Memᴰ.cases_cons m)

  old_weighs : (w : Weights) → weight_under w p (suc (suc l)) (entry_for p s) ≡ weight_at w (spot p (suc l) s)
  unfolding entry_for child_of
  old_weighs w = weight_inner w p l (entry_for p s)

  others : (u : SlotNumber) → 1 ≤ u.0 → u ≢ t → node_at p u ≡ node_at raised u
  others u low n =
      sym (root_at (put_node p t (node (suc (suc l)) two)) t (suc (suc l)) u ∙ put_other p t (node (suc (suc l)) two) u k.low low n)

  raised_at : node_at raised t ≡ node (suc (suc l)) two
  raised_at = root_at (put_node p t (node (suc (suc l)) two)) t (suc (suc l)) t ∙ put_same p t (node (suc (suc l)) two) k

  raised_below : SameBelow p raised (suc (suc l))
  raised_below u h low = others u h.slot.low (other_level p u t (λ e. omega (arith, free, h.used)))

  raised_long : length p.slots ≡ length raised.slots
  unfolding put_root
  raised_long = sym (put_length p t (node (suc (suc l)) two))

  raised_slot : Slot raised t
  raised_slot = record { low = k.low; high = omega (arith, k.high, raised_long) }

  raised_many : length (entries_at raised t) ≡ 2
  raised_many = rw (entries_are raised (suc (suc l)) t two raised_at)

  raised_grew : Grew (spot p (suc l) s) (spot raised (suc (suc l)) t) (node (suc (suc l)) (x ∷ [])) free_node (t ∷ []) []
  raised_grew = record {
    tree = tree_made raised t two raised_slot (omega arith) (suc l) raised_at
        (λ y m. fits_below p raised (suc (suc l)) raised_below (suc (suc l)) y (omega arith) (two_fit y m) raised_long);
    fit = λ y m. absurd (Memᴰ.not-nil m);
    weighs = λ w. omega (
      arith,
      weight_made w raised (suc l) t two raised_at,
      total_below p raised w (suc (suc l)) raised_below (suc (suc l)) two (omega arith) two_fit,
      total_more (weight_under w p (suc (suc l))) (entry_for p s) (x ∷ []),
      total_more (weight_under w p (suc (suc l))) x [],
      total_none (weight_under w p (suc (suc l))),
      old_weighs w,
      weight_one w p (suc (suc l)) x,
      weight_none w raised 0,
      total_more w.of_slot t [],
      total_none w.of_slot,
    );
    long = raised_long;
    slot = λ u m. subst (Slot p) (sym (Memᴰ.eq_of_singleton m)) k;
    free = λ u m. ap (λ (v : SlotNumber). (node_at p v).level) (Memᴰ.eq_of_singleton m) ∙ free;
    once = λ u. times_one u t;
    inside = λ u m. absurd (Memᴰ.not-nil m);
    other = λ u low touched taken. others u low (λ e. taken (Memᴰ.head e));
  }

abbrev pub raised_to : Pool → ℕ → SlotNumber → Entry → SlotNumber → Pool
raised_to p l s x t = put_root (put_node p t (node (suc l) (entry_for p s ∷ x ∷ []))) t (suc l)

record Raised (p : Pool) (l : ℕ) (s : SlotNumber) (x : Entry) (t : SlotNumber) : Type 0 where
  grew : Grew (spot p l s) (spot (raised_to p l s x t) (suc l) t) (node (suc l) (x ∷ [])) free_node (t ∷ []) []
  many : length (entries_at (raised_to p l s x t) t) ≡ 2

new_raised : (p : Pool) (l : ℕ) (s : SlotNumber) → Tree p l s → least ≤ length (entries_at p s) → (x : Entry) → Fits p (suc l) x → (t : SlotNumber)
    → lowest_free p ≡ Some t → Raised p l s x t
new_raised p zero s d enough x f t h = absurd (no_tree p s d)
new_raised p (suc l) s d enough x f t h =
    let k = lowest_slot p t h in
    let z = lowest_free_lem p t h in
    record { grew = raised_grew p l s d enough x f t k z; many = raised_many p l s d enough x f t k z }

-- ---- the clauses

pub grow_kept : (p : Pool) → grow_tree (Kept p) ≡ Done p
unfolding grow_tree
grow_kept p = refl

pub grow_split : (p : Pool) (x : Entry) → grow_tree (Split p x) ≡ new_root p x (lowest_free p)
unfolding grow_tree
grow_split p x = refl

pub grow_full : grow_tree Full ≡ NoneFree
unfolding grow_tree
grow_full = refl

pub new_none : (p : Pool) (x : Entry) → new_root p x None ≡ NoneFree
unfolding new_root
new_none p x = refl

pub new_at : (p q : Pool) (x : Entry) (t : SlotNumber) → SameHead p q → new_root q x (Some t) ≡ Done (raised_to q p.height p.root x t)
unfolding new_root
new_at p q x t h = λ i. Done (raised_to q (h.height i) (h.root i) x t)

-- ---- from the root

module _ (p : Pool) (k : ℕ) (e : Entry) where
  abbrev Root : Grown → Type 0
  Root o = Grows p p.height p.root k e (tree_slots p) o

  split_puts : (q : Pool) (x : Entry) → Root (Split q x) → (o : Option SlotNumber) → lowest_free q ≡ o → Puts p k e (new_root q x o)
  unfolding put_root
  split_puts q x h None free = rw (new_none q x) tt
  split_puts q x h (Some t) free =
      let g = h.1 in
      let r = new_raised q p.height p.root g.tree h.3 x (g.fit x (Memᴰ.head refl)) t free in
      rw (new_at p q x t h.2) (record {
        taken = t ∷ h.0;
        grew = grew_twice g r.grew (λ u m. absurd (Memᴰ.not-nil m));
        records = (put_head q t _).records ∙ h.2.records;
        head = inr (Memᴰ.head refl, refl, r.many);
      })

  kept_puts : (q : Pool) → Root (Kept q) → Put p k e q
  kept_puts q h = record {
    taken = h.0;
    grew = subst₂ (λ (l : ℕ) (s : SlotNumber). Grew (spot p p.height p.root) (spot q l s) (node k (e ∷ [])) free_node h.0 (tree_slots p))
        (sym h.2.height) (sym h.2.root) h.1;
    records = h.2.records;
    head = inl (
      h.2.root,
      h.2.height,
      subst (λ (s : SlotNumber). min 2 (length (entries_at p p.root)) ≤ length (entries_at q s)) (sym h.2.root) (omega (arith, h.3)),
    );
  }

  grow_puts : (o : Grown) → Root o → Puts p k e (grow_tree o)
  grow_puts (Kept q) h = rw (grow_kept q) (kept_puts q h)
  grow_puts (Split q x) h = rw (grow_split q x) (split_puts q x h (lowest_free q) refl)
  grow_puts Full h = rw grow_full tt

  -- an entry goes in at its level, and the pool is as it should be
  module _ (c : Choice) (lawful : Lawful c) (d : Tree p p.height p.root) (once : Once (tree_slots p))
      (some : 2 ≤ p.height → 0 < length (entries_at p p.root)) (f : Fits p k e) (low : k ≤ p.height) where
    pub insert_puts : Puts p k e (insert_at c k p e)
    unfolding insert_at
    insert_puts =
        grow_puts (insert_below c (p.height - k) p p.root e)
        (below_grows c lawful p k e f (p.height - k) p.height p.root (omega arith) d once (λ h. some (omega (arith, fits_level p k e f))))

    pub insert_put : (q : Pool) → insert_at c k p e ≡ Done q → Put p k e q
    insert_put q h = subst (Puts p k e) h insert_puts
