-- What the choices of documents 01 and 02 mean: each is the earliest of the best under a strict comparison of numbers, so the numbers of the
-- one chosen are the best there are, and where they are equal it is the earlier.
use mathlib.Core.Path.{◌≡◌, sym, ap, ◌∙◌}
use mathlib.Core.Logic.{◌↔◌, ◌⊎◌, inl, inr}
use mathlib.Core.Bool.{true}
use mathlib.Core.List.Memᴰ
use mathlib.Core.List.{List}
use Prim.Native.Nat.{ℕ, ◌≤◌, ◌<◌}
use native.Mathlib.Omega.{arith}
use native.Mathlib.Decide.{dec_le}
use lib.ListN.{length, get_or}
use lib.IntN.{ℤ}
use lib.Signed.{lt_z, le_z}
use borrow.Author.Tests.{ltb-true, lt-ltb}
use Rattle.rules.specs.declared.Rect.{Rect}
use Rattle.rules.specs.Geometry.{area, enlargement, half_perimeter, half_enlargement}
use Rattle.rules.specs.Choose.{rect_from, takes_better, choose_child}
use Rattle.rules.specs.Split.{Seeds, seeds, waste_of, half_waste_of, wastes_more, pick_seeds, preference, half_preference, prefers_more, most_preferring, second_first}
use Rattle.rules_laws.proofs.Orders.{Strict, by_key, reversed, tied, then_strict, better_by, at_most, not_next, then_same, never_both, both_at_most}
use Rattle.rules_laws.proofs.Places.{Among, at_place}
use Rattle.rules_laws.proofs.Earliest.{Earliest, EarliestPlace, EarliestPair, NotAfter, earliest_of, earliest_place, earliest_pair}
pub use Rattle.rules_laws.proofs.Earliest.{best_append}

-- ---- ChooseLeaf

-- what CL3 compares, of the entry at a place
module _ (rs : List Rect) (new : Rect) where
  abbrev pub growth_at : ℕ → ℤ
  growth_at i = enlargement (rect_from rs i) new

  abbrev pub half_growth_at : ℕ → ℤ
  half_growth_at i = half_enlargement (rect_from rs i) new

abbrev pub area_at : List Rect → ℕ → ℤ
area_at rs i = area (rect_from rs i)

abbrev pub half_at : List Rect → ℕ → ℤ
half_at rs i = half_perimeter (rect_from rs i)

takes_strict : (new : Rect) → Strict (takes_better new)
unfolding takes_better
takes_strict new =
    then_strict (λ r. enlargement r new)
    (then_strict (λ r. half_enlargement r new) (then_strict (λ r. area r) (then_strict (λ r. half_perimeter r) tied)))

-- CL3 with Req 05: "least enlargement", least in half perimeter, "then smallest area", smallest half perimeter, "then earliest entry"
pub record Chosen (rs : List Rect) (new : Rect) (i : ℕ) : Type 0 where
  pub there : i < length rs
  pub least : (j : ℕ) → j < length rs → le_z (growth_at rs new i) (growth_at rs new j) ≡ true
  pub least_half : (j : ℕ) → j < length rs → growth_at rs new i ≡ growth_at rs new j → le_z (half_growth_at rs new i) (half_growth_at rs new j) ≡ true
  pub smallest : (j : ℕ) → j < length rs → growth_at rs new i ≡ growth_at rs new j → half_growth_at rs new i ≡ half_growth_at rs new j
      → le_z (area_at rs i) (area_at rs j) ≡ true
  pub smallest_half : (j : ℕ) → j < length rs → growth_at rs new i ≡ growth_at rs new j → half_growth_at rs new i ≡ half_growth_at rs new j
      → area_at rs i ≡ area_at rs j → le_z (half_at rs i) (half_at rs j) ≡ true
  pub earliest : (j : ℕ) → j < length rs → growth_at rs new i ≡ growth_at rs new j → half_growth_at rs new i ≡ half_growth_at rs new j
      → area_at rs i ≡ area_at rs j → half_at rs i ≡ half_at rs j → i ≤ j

pub choose_child_lem : (rs : List Rect) (new : Rect) → 0 < length rs → Chosen rs new (choose_child rs new)
unfolding choose_child takes_better
choose_child_lem rs new some = record {
  there = p.there;
  least = λ j h. at_most _ _ _ (p.best j h);
  least_half = λ j h e. at_most _ _ _ (not_next e (p.best j h));
  smallest = λ j h e f. at_most _ _ _ (not_next f (not_next e (p.best j h)));
  smallest_half = λ j h e f a. at_most _ _ _ (not_next a (not_next f (not_next e (p.best j h))));
  earliest = λ j h e f a b. earliest j e f a b (dec_le i j);
}
  where
    i : ℕ
    i = choose_child rs new

    p : EarliestPlace (λ i j. takes_better new (rect_from rs i) (rect_from rs j)) (length rs) i
    p = earliest_place (by_key (takes_strict new) (rect_from rs)) (length rs) some

    earliest : (j : ℕ) → growth_at rs new i ≡ growth_at rs new j → half_growth_at rs new i ≡ half_growth_at rs new j
        → area_at rs i ≡ area_at rs j → half_at rs i ≡ half_at rs j → Dec (i ≤ j) → i ≤ j
    earliest j e f a b (yes q) = q
    earliest j e f a b (no q) =
        never_both (p.first j (omega arith)) (then_same _ _ _ e ∙ then_same _ _ _ f ∙ then_same _ _ _ a ∙ then_same _ _ _ b)

-- no other entry is so
pub chosen_once : (rs : List Rect) (new : Rect) (i j : ℕ) → Chosen rs new i → Chosen rs new j → i ≡ j
chosen_once rs new i j p q =
    let e : growth_at rs new i ≡ growth_at rs new j = both_at_most _ _ (p.least j q.there) (q.least i p.there) in
    let f : half_growth_at rs new i ≡ half_growth_at rs new j = both_at_most _ _ (p.least_half j q.there e) (q.least_half i p.there (sym e)) in
    let a : area_at rs i ≡ area_at rs j = both_at_most _ _ (p.smallest j q.there e f) (q.smallest i p.there (sym e) (sym f)) in
    let b : half_at rs i ≡ half_at rs j = both_at_most _ _ (p.smallest_half j q.there e f a) (q.smallest_half i p.there (sym e) (sym f) (sym a)) in
    omega (arith, p.earliest j q.there e f a b, q.earliest i p.there (sym e) (sym f) (sym a) (sym b))

-- ---- PickSeeds

-- PS2 with Req 05: "largest d", largest d in half perimeter, "then earliest first member, then earliest second"
pub record MostWasteful (rs : List Rect) (s : Seeds) : Type 0 where
  pub apart : s.first < s.second
  pub there : s.second < length rs
  pub largest : (i j : ℕ) → i < j → j < length rs → le_z (waste_of rs (seeds i j)) (waste_of rs s) ≡ true
  pub largest_half : (i j : ℕ) → i < j → j < length rs → waste_of rs (seeds i j) ≡ waste_of rs s
      → le_z (half_waste_of rs (seeds i j)) (half_waste_of rs s) ≡ true
  pub earliest : (i j : ℕ) → i < j → j < length rs → waste_of rs (seeds i j) ≡ waste_of rs s → half_waste_of rs (seeds i j) ≡ half_waste_of rs s
      → NotAfter s (seeds i j)

pub wastes_strict : (rs : List Rect) → Strict (wastes_more rs)
unfolding wastes_more
wastes_strict rs = reversed (then_strict (waste_of rs) (then_strict (half_waste_of rs) tied))

pub pick_seeds_lem : (rs : List Rect) → 2 ≤ length rs → MostWasteful rs (pick_seeds rs)
unfolding pick_seeds wastes_more
pick_seeds_lem rs two = record {
  apart = p.apart;
  there = p.there;
  largest = λ i j h l. at_most _ _ _ (p.best i j h l);
  largest_half = λ i j h l e. at_most _ _ _ (not_next e (p.best i j h l));
  earliest = λ i j h l e f. p.first i j h l (then_same _ _ _ e ∙ then_same _ _ _ f);
}
  where
    p : EarliestPair (wastes_more rs) (length rs) (pick_seeds rs)
    p = earliest_pair (wastes_strict rs) (length rs) two

-- no other pair is so
same_seeds : (s t : Seeds) → NotAfter s t → NotAfter t s → s ≡ t
same_seeds s t (inl p) (inl q) = absurd (omega arith)
same_seeds s t (inl p) (inr q) = absurd (omega arith)
same_seeds s t (inr p) (inl q) = absurd (omega arith)
same_seeds s t (inr p) (inr q) = let e : s.second ≡ t.second = omega arith in λ i. record { first = p.0 i; second = e i }

pub seeds_once : (rs : List Rect) (s t : Seeds) → MostWasteful rs s → MostWasteful rs t → s ≡ t
seeds_once rs s t p q =
    let d = both_at_most _ _ (q.largest s.first s.second p.apart p.there) (p.largest t.first t.second q.apart q.there) in
    let h = both_at_most _ _ (q.largest_half s.first s.second p.apart p.there d)
    (p.largest_half t.first t.second q.apart q.there (sym d)) in
    same_seeds s t (p.earliest t.first t.second q.apart q.there (sym d) (sym h))
    (q.earliest s.first s.second p.apart p.there d h)

-- ---- PickNext

-- what PN2 compares, of a place that is left
module _ (rs : List Rect) (a b : Rect) where
  abbrev pub preference_at : ℕ → ℤ
  preference_at i = preference a b (rect_from rs i)

  abbrev pub half_preference_at : ℕ → ℤ
  half_preference_at i = half_preference a b (rect_from rs i)

-- PN2 with Req 05: "largest absolute difference of the two enlargements", largest in half perimeter, "then earliest", of the places left
pub record MostPreferring (rs : List Rect) (a b : Rect) (left : List ℕ) (i : ℕ) : Type 0 where
  pub place : ℕ
  pub there : place < length left
  pub found : get_or left place 0 ≡ i
  pub largest : (k : ℕ) → k < length left → le_z (preference_at rs a b (get_or left k 0)) (preference_at rs a b i) ≡ true
  pub largest_half : (k : ℕ) → k < length left → preference_at rs a b (get_or left k 0) ≡ preference_at rs a b i
      → le_z (half_preference_at rs a b (get_or left k 0)) (half_preference_at rs a b i) ≡ true
  pub earliest : (k : ℕ) → k < length left → preference_at rs a b (get_or left k 0) ≡ preference_at rs a b i
      → half_preference_at rs a b (get_or left k 0) ≡ half_preference_at rs a b i → place ≤ k

prefers_strict : (a b : Rect) → Strict (prefers_more a b)
unfolding prefers_more
prefers_strict a b = reversed (then_strict (preference a b) (then_strict (half_preference a b) tied))

pub pick_next_lem : (rs : List Rect) (a b : Rect) (left : List ℕ) → 0 < length left → MostPreferring rs a b left (most_preferring rs a b left)
unfolding most_preferring prefers_more
pick_next_lem rs a b left some = record {
  place = e.place;
  there = e.there;
  found = e.found;
  largest = λ k h. at_most _ _ _ (e.best k h);
  largest_half = λ k h p. at_most _ _ _ (not_next p (e.best k h));
  earliest = λ k h p q. earliest k p q (dec_le e.place k);
}
  where
    i : ℕ
    i = most_preferring rs a b left

    e : Earliest (λ i j. prefers_more a b (rect_from rs i) (rect_from rs j)) left 0 i
    e = earliest_of (by_key (prefers_strict a b) (rect_from rs)) left some

    earliest : (k : ℕ) → preference_at rs a b (get_or left k 0) ≡ preference_at rs a b i
        → half_preference_at rs a b (get_or left k 0) ≡ half_preference_at rs a b i → Dec (e.place ≤ k) → e.place ≤ k
    earliest k p q (yes h) = h
    earliest k p q (no h) = never_both (e.first k (omega arith)) (then_same _ _ _ p ∙ then_same _ _ _ q)

-- no other place that is left is so
module _ (rs : List Rect) (a b : Rect) (left : List ℕ) where
  not_earlier : {i j : ℕ} (p : MostPreferring rs a b left i) (q : MostPreferring rs a b left j) → p.place ≤ q.place
  not_earlier {i} {j} p q =
      let e : preference_at rs a b j ≡ preference_at rs a b i =
      both_at_most _ _ (rw q.found at (p.largest q.place q.there)) (rw p.found at (q.largest p.place p.there)) in
      let f : half_preference_at rs a b j ≡ half_preference_at rs a b i =
      both_at_most _ _ (rw q.found at (p.largest_half q.place q.there) e) (rw p.found at (q.largest_half p.place p.there) (sym e)) in
      rw q.found at (p.earliest q.place q.there) e f

  pub next_once : (i j : ℕ) → MostPreferring rs a b left i → MostPreferring rs a b left j → i ≡ j
  next_once i j p q =
      let e : p.place ≡ q.place = omega (arith, not_earlier p q, not_earlier q p) in
      sym p.found ∙ ap (λ (k : ℕ). get_or left k 0) e ∙ q.found

pub next_among : (rs : List Rect) (a b : Rect) (left : List ℕ) → 0 < length left → Among (most_preferring rs a b left) left
next_among rs a b left some =
    let m = pick_next_lem rs a b left some in
    Memᴰ.cast (sym m.found) (at_place left m.place 0 m.there)

-- ---- the group that an entry joins

-- "least enlargement, then smaller area, then fewer entries, then group 1", with Req 05: when it is group 2, of cover b and n entries
pub second_first_lem : (a b : Rect) (m n : ℕ) (r : Rect) → (second_first a b m n r ≡ true)
    ↔ ((lt_z (enlargement b r) (enlargement a r) ≡ true) ⊎ ((enlargement b r ≡ enlargement a r)
    × ((lt_z (half_enlargement b r) (half_enlargement a r) ≡ true) ⊎ ((half_enlargement b r ≡ half_enlargement a r)
    × ((lt_z (area b) (area a) ≡ true) ⊎ ((area b ≡ area a)
    × ((lt_z (half_perimeter b) (half_perimeter a) ≡ true) ⊎ ((half_perimeter b ≡ half_perimeter a) × (n < m)))))))))
unfolding second_first
second_first_lem a b m n r = better_by _ _ _ (better_by _ _ _ (better_by _ _ _ (better_by _ _ _ (ltb-true n m, lt-ltb n m))))
