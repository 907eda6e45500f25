-- An entry goes into a node. The nodes that change are the node itself and one that was free, and neither is under an entry of the node,
-- where all nodes are lower and in use: so the entries fit and weigh as before.
use mathlib.Core.Path.{◌≡◌, refl, sym, ap, subst, ◌∙◌}
use mathlib.Core.Logic.{◌≢◌, ⊎_elim}
use mathlib.Core.Bool.{Bool, true, false}
use mathlib.Core.List.Memᴰ
use mathlib.Core.List.{List, [], ◌∷◌, ◌++◌, map}
use Prim.Native.Nat.{ℕ, suc, ◌+◌, ◌≤◌, ◌<◌}
use native.Mathlib.Omega.{arith}
use lib.Dec.{ltb}
use lib.ListN.{length, length-append}
use borrow.Author.Tests.{ltb-true, ltb-false}
use Rattle.rules.specs.declared.SlotNumber.{SlotNumber}
use Rattle.rules.specs.declared.Pointer.TheVariants.{Child}
use Rattle.rules.specs.declared.Entry.{Entry}
use Rattle.std.specs.Prelude.{Option, Some, None}
use Rattle.rules.specs.Lists.{total}
use Rattle.rules.specs.Numbers.{most, least}
use Rattle.rules.specs.Pool.{Node, Pool, node, entry, free_node, node_at, entries_at, child_of, cover_of, lowest_free, put_node, put_entries}
use Rattle.rules.specs.Split.{Halves}
use Rattle.rules.specs.Insert.{Choice, Kept, Split, Full, split_into, install}
use Rattle.rules.specs.Lawful.{Parted, LawfulSplit}
use Rattle.rules_laws.proofs.Places.{Among}
use Rattle.rules_laws.proofs.Parts.{parted_length}
use Rattle.rules_laws.proofs.Sums.{total_none, total_more, total_append, parted_total}
use Rattle.sound_laws.specs.Tree.{Slot, NodeIn, Tree}
use Rattle.sound_laws.proofs.Times.{times_none, times_one}
use Rattle.sound_laws.proofs.Walk.{tree_node, top_among}
use Rattle.sound_laws.proofs.Frame.{put_length, put_same, put_other, put_slot}
use Rattle.sound_laws.proofs.Free.{lowest_slot, lowest_free_lem}
use Rattle.insert_laws.specs.Grown.{Fits, Weights, weight_under, weight_of, spot, weight_at, Grew, SameHead, Grows}
use Rattle.insert_laws.proofs.Members.{one_among, two_among}
use Rattle.insert_laws.proofs.Under.{entries_are, tree_fits, tree_made, fits_inner, weight_inner, weight_parts, weight_made, weight_none, weight_one, SameBelow, fits_below, total_below}

-- slots of different levels are different
pub other_level : (p : Pool) (s t : SlotNumber) → (node_at p s).level ≢ (node_at p t).level → s ≢ t
other_level p s t h e = h (ap (λ (u : SlotNumber). (node_at p u).level) e)

pub put_head : (p : Pool) (s : SlotNumber) (n : Node) → SameHead p (put_node p s n)
unfolding put_node
put_head p s n = record { root = refl; height = refl; records = refl }

pub head_twice : {p q r : Pool} → SameHead p q → SameHead q r → SameHead p r
head_twice h k = record { root = k.root ∙ h.root; height = k.height ∙ h.height; records = k.records ∙ h.records }

pub put_entries_lem : (p : Pool) (l : ℕ) (s : SlotNumber) (es : List Entry) → (node_at p s).level ≡ l → put_entries p s es ≡ put_node p s (node l es)
unfolding put_entries
put_entries_lem p l s es h = ap (λ (k : ℕ). put_node p s (node k es)) h

-- ---- two nodes put

abbrev pub put_two : Pool → SlotNumber → Node → SlotNumber → Node → Pool
put_two p s m t n = put_node (put_node p s m) t n

module _ (p : Pool) (s : SlotNumber) (m : Node) (t : SlotNumber) (n : Node) where
  two_long : length p.slots ≡ length (put_two p s m t n).slots
  two_long = sym (put_length (put_node p s m) t n ∙ put_length p s m)

  two_slot : (u : SlotNumber) → Slot p u → Slot (put_two p s m t n) u
  two_slot u h = (put_slot (put_node p s m) t n u).1 ((put_slot p s m u).1 h)

  module _ (j : Slot p s) (k : Slot p t) where
    pub two_first : s ≢ t → node_at (put_two p s m t n) s ≡ m
    two_first apart = put_other (put_node p s m) t n s k.low j.low apart ∙ put_same p s m j

    pub two_second : node_at (put_two p s m t n) t ≡ n
    two_second = put_same (put_node p s m) t n ((put_slot p s m t).1 k)

    two_others : (u : SlotNumber) → 1 ≤ u.0 → u ≢ s → u ≢ t → node_at p u ≡ node_at (put_two p s m t n) u
    two_others u low a b = sym (put_other (put_node p s m) t n u k.low low b ∙ put_other p s m u j.low low a)

-- ---- a node of a tree

module _ (p : Pool) (l : ℕ) (s : SlotNumber) (d : Tree p (suc l) s) (e : Entry) (f : Fits p (suc l) e) where
  here : NodeIn p (suc l) s
  here = tree_node p (suc l) s d

  -- the entries with the new one
  abbrev all : List Entry
  all = entries_at p s ++ e ∷ []

  pub all_fit : (x : Entry) → Among x all → Fits p (suc l) x
  all_fit x m =
      ⊎_elim (tree_fits p (suc l) s d x) (λ n. subst (Fits p (suc l)) (sym (Memᴰ.eq_of_singleton n)) f)
      (Memᴰ.append_cases (entries_at p s) m)

  all_weigh : (w : Weights) → w.of_slot s + total (map (weight_under w p (suc l)) all)
      ≡ weight_at w (spot p (suc l) s) + weight_of w p (node (suc l) (e ∷ []))
  all_weigh w =
      omega (
        arith,
        weight_parts w p l s,
        total_append (weight_under w p (suc l)) (entries_at p s) (e ∷ []),
        total_more (weight_under w p (suc l)) e [],
        total_none (weight_under w p (suc l)),
        weight_one w p (suc l) e,
      )

  -- ---- it has room

  module _ (room : length (entries_at p s) < most) where
    abbrev with_it : Pool
    with_it = put_node p s (node (suc l) all)

    at_it : node_at with_it s ≡ node (suc l) all
    at_it = put_same p s (node (suc l) all) here.slot

    longer : length all ≡ suc (length (entries_at p s))
    longer = omega (arith, length-append (entries_at p s) (e ∷ []))

    with_below : SameBelow p with_it (suc l)
    with_below t u low =
        sym (put_other p s (node (suc l) all) t here.slot.low u.slot.low (other_level p t s (λ h. omega (arith, here.level))))

    with_long : length p.slots ≡ length with_it.slots
    with_long = sym (put_length p s (node (suc l) all))

    kept_grew : Grew (spot p (suc l) s) (spot with_it (suc l) s) (node (suc l) (e ∷ [])) free_node [] (s ∷ [])
    kept_grew = record {
      tree = tree_made with_it s all ((put_slot p s (node (suc l) all) s).1 here.slot) (omega (arith, longer)) l at_it
          (λ x m. fits_below p with_it (suc l) with_below (suc l) x (omega arith) (all_fit x m) with_long);
      fit = λ x m. absurd (Memᴰ.not-nil m);
      weighs = λ w. omega (
        arith,
        weight_made w with_it l s all at_it,
        total_below p with_it w (suc l) with_below (suc l) all (omega arith) all_fit,
        all_weigh w,
        weight_none w with_it 0,
        total_none w.of_slot,
      );
      long = with_long;
      slot = λ t m. absurd (Memᴰ.not-nil m);
      free = λ t m. absurd (Memᴰ.not-nil m);
      once = λ t. omega (arith, times_none t);
      inside = λ t m. Memᴰ.cast (Memᴰ.eq_of_singleton m) (top_among p l s);
      other = λ t low touched taken.
          sym (put_other p s (node (suc l) all) t here.slot.low low (λ h. touched (Memᴰ.head h)));
    }

  -- ---- it has none

  module _ (one two : List Entry) (parts : Parted all one two) (some_one : least ≤ length one) (some_two : least ≤ length two)
      (few-one : length one ≤ most) (few-two : length two ≤ most) (t : SlotNumber) (k : Slot p t) (free : (node_at p t).level ≡ 0) where
    abbrev both : Pool
    both = put_two p s (node (suc l) one) t (node (suc l) two)

    abbrev partner : Entry
    partner = entry (cover_of two) (Child t)

    unchanged : (u : SlotNumber) → 1 ≤ u.0 → u ≢ s → u ≢ t → node_at p u ≡ node_at both u
    unchanged = two_others p s (node (suc l) one) t (node (suc l) two) here.slot k

    at_one : node_at both s ≡ node (suc l) one
    at_one =
        two_first p s (node (suc l) one) t (node (suc l) two) here.slot k (other_level p s t (λ h. omega (arith, here.level)))

    at_two : node_at both t ≡ node (suc l) two
    at_two = two_second p s (node (suc l) one) t (node (suc l) two) here.slot k

    both_slot : (u : SlotNumber) → Slot p u → Slot both u
    both_slot = two_slot p s (node (suc l) one) t (node (suc l) two)

    both_below : SameBelow p both (suc l)
    both_below u h low =
        unchanged u h.slot.low (other_level p u s (λ g. omega (arith, here.level))) (other_level p u t (λ g. omega (arith, free, h.used)))

    both_long : length p.slots ≡ length both.slots
    both_long = two_long p s (node (suc l) one) t (node (suc l) two)

    both_fit : (x : Entry) → Among x all → Fits both (suc l) x
    both_fit x m = fits_below p both (suc l) both_below (suc l) x (omega arith) (all_fit x m) both_long

    partner_fits : Fits both (suc (suc l)) partner
    unfolding child_of
    partner_fits = fits_inner both partner l (record {
      child = tree_made both t two (both_slot t k) few-two l at_two (λ x m. both_fit x (two_among parts x m));
      enough = rw (entries_are both (suc l) t two at_two) some_two;
      tight = ap cover_of (sym (entries_are both (suc l) t two at_two));
    })

    partner_weighs : (w : Weights) → weight_of w both (node (suc (suc l)) (partner ∷ [])) ≡ w.of_slot t + total (map (weight_under w both (suc l)) two)
    unfolding child_of
    partner_weighs w = weight_one w both (suc (suc l)) partner ∙ weight_inner w both l partner ∙ weight_made w both l t two at_two

    split_grew : Grew (spot p (suc l) s) (spot both (suc l) s) (node (suc l) (e ∷ [])) (node (suc (suc l)) (partner ∷ [])) (t ∷ []) (s ∷ [])
    split_grew = record {
      tree = tree_made both s one (both_slot s here.slot) few-one l at_one (λ x m. both_fit x (one_among parts x m));
      fit = λ x m. subst (Fits both (suc (suc l))) (sym (Memᴰ.eq_of_singleton m)) partner_fits;
      weighs = λ w. omega (
        arith,
        weight_made w both l s one at_one,
        partner_weighs w,
        parted_total (weight_under w both (suc l)) parts,
        total_below p both w (suc l) both_below (suc l) all (omega arith) all_fit,
        all_weigh w,
        total_more w.of_slot t [],
        total_none w.of_slot,
      );
      long = both_long;
      slot = λ u m. subst (Slot p) (sym (Memᴰ.eq_of_singleton m)) k;
      free = λ u m. ap (λ (v : SlotNumber). (node_at p v).level) (Memᴰ.eq_of_singleton m) ∙ free;
      once = λ u. times_one u t;
      inside = λ u m. Memᴰ.cast (Memᴰ.eq_of_singleton m) (top_among p l s);
      other = λ u low touched taken. unchanged u low (λ h. touched (Memᴰ.head h)) (λ h. taken (Memᴰ.head h));
    }

-- ---- both

pub split_none : (p : Pool) (s : SlotNumber) (h : Halves) → split_into p s h None ≡ Full
unfolding split_into
split_none p s h = refl

pub split_at : (p : Pool) (l : ℕ) (s : SlotNumber) (h : Halves) (t : SlotNumber) → (node_at p s).level ≡ l
    → split_into p s h (Some t) ≡ Split (put_two p s (node l h.one) t (node l h.two)) (entry (cover_of h.two) (Child t))
unfolding split_into
split_at p l s h t e = rw (put_entries_lem p l s h.one e, e)

module _ (c : Choice) (p : Pool) (s : SlotNumber) (e : Entry) where
  pub install_room : ltb (length (entries_at p s)) most ≡ true → install c p s e ≡ Kept (put_entries p s (entries_at p s ++ e ∷ []))
  unfolding install
  install_room h = rw (h, install)

  pub install_full : ltb (length (entries_at p s)) most ≡ false
      → install c p s e ≡ split_into p s (c.split (entries_at p s ++ e ∷ [])) (lowest_free p)
  unfolding install
  install_full h = rw (h, install)

pub install_grows : (c : Choice) → LawfulSplit c.split → (p : Pool) (l : ℕ) (s : SlotNumber) → Tree p (suc l) s → (e : Entry)
    → Fits p (suc l) e → Grows p (suc l) s (suc l) e (s ∷ []) (install c p s e)
install_grows c lawful p l s d e f = go (ltb (length (entries_at p s)) most) refl (lowest_free p) refl
  where
    level : (node_at p s).level ≡ suc l
    level = (tree_node p (suc l) s d).level

    slot : Slot p s
    slot = (tree_node p (suc l) s d).slot

    few : length (entries_at p s) ≤ most
    few = (tree_node p (suc l) s d).few

    es : List Entry
    es = entries_at p s ++ e ∷ []

    go : (b : Bool) → ltb (length (entries_at p s)) most ≡ b → (o : Option SlotNumber) → lowest_free p ≡ o
        → Grows p (suc l) s (suc l) e (s ∷ []) (install c p s e)
    go true h o q =
        rw (install_room c p s e h, put_entries_lem p (suc l) s es level) (
          [],
          kept_grew p l s d e f (ltb-true (length (entries_at p s)) most h),
          put_head p s (node (suc l) es),
          rw (entries_are (put_node p s (node (suc l) es)) (suc l) s es (put_same p s (node (suc l) es) slot))
              (omega (arith, length-append (entries_at p s) (e ∷ []))),
        )
    go false h None q = rw (install_full c p s e h, q, split_none p s (c.split es)) tt
    go false h (Some t) q =
        let full = ltb-false (length (entries_at p s)) most h in
        let nine : length es ≡ suc most = omega (arith, few, length-append (entries_at p s) (e ∷ [])) in
        let parts = lawful.parted es nine in
        let one = (c.split es).one in
        let two = (c.split es).two in
        let a = lawful.one es nine in
        let b = lawful.two es nine in
        let n = parted_length parts in
        rw (install_full c p s e h, q, split_at p (suc l) s (c.split es) t level) (
          t ∷ [],
          split_grew p l s d e f one two parts a b (omega arith) (omega arith) t (lowest_slot p t q) (lowest_free_lem p t q),
          head_twice (put_head p s (node (suc l) one)) (put_head (put_node p s (node (suc l) one)) t (node (suc l) two)),
          rw (entries_are (put_two p s (node (suc l) one) t (node (suc l) two)) (suc l) s one
              (at_one p l s d e f one two parts a b (omega arith) (omega arith) t (lowest_slot p t q) (lowest_free_lem p t q))) a,
        )
