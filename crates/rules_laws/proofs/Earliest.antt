-- The earliest of the best, under a strict comparison. The candidate in hand gives way only to a better one: so what is in hand at the
-- end beats each that came before it, and none beats it.
use mathlib.Core.Path.{◌≡◌, refl, sym, ap, subst₂, ◌∙◌}
use mathlib.Core.Logic.{◌⊎◌, inl, inr}
use mathlib.Core.Bool.{Bool, true, false, cond}
use mathlib.Core.List.Memᴰ
use mathlib.Core.List.{List, [], ◌∷◌, ◌++◌, map}
use Prim.Native.Nat.{ℕ, zero, suc, ◌+◌, ◌≤◌, ◌<◌}
use native.Mathlib.Omega.{arith}
use native.Mathlib.Decide.{dec_le}
use lib.ListN.{length, get_or}
use Rattle.rules.specs.Lists.{earliest_best, up_from}
use Rattle.rules.specs.Choose.{earliest}
use Rattle.rules.specs.Split.{Seeds, seeds, pairs_from}
use Rattle.rules_laws.proofs.Orders.{Strict, never_both, not_itself, beats, beats_too}
use Rattle.rules_laws.proofs.Places.{Among, place_of_lem, length_up_from, get_d_up_from, up_from_among, Each, each_at, each_append}
use Rattle.rules_laws.proofs.Places.{each_also, each_up_from, Ordered, ordered_append, ordered_at, ordered_up_from}

-- x is among the candidates; none is better; it is better than each before it. (d is what is read beyond a list's end)
pub record Earliest {A : Type 0} (better : A → A → Bool) (candidates : List A) (d x : A) : Type 0 where
  pub place : ℕ
  pub there : place < length candidates
  pub found : get_or candidates place d ≡ x
  pub best : (k : ℕ) → k < length candidates → better (get_or candidates k d) x ≡ false
  pub first : (k : ℕ) → k < place → better x (get_or candidates k d) ≡ true

pub best_append : {A : Type 0} (better : A → A → Bool) (x : A) (ys zs : List A)
    → earliest_best better x (ys ++ zs) ≡ earliest_best better (earliest_best better x ys) zs
unfolding earliest_best
best_append better x [] zs = refl
best_append better x (y ∷ ys) zs = best_append better (cond (better y x) y x) ys zs

-- the candidate in hand, met again, changes nothing
pub best_again : {A : Type 0} {better : A → A → Bool} → Strict better → (x : A) (ys : List A)
    → earliest_best better x (x ∷ ys) ≡ earliest_best better x ys
unfolding earliest_best
best_again s x ys = rw (not_itself s x)

module _ {A : Type 0} {better : A → A → Bool} (s : Strict better) (d : A) where
  -- one candidate; a better one comes next; one not better comes next
  alone : (x : A) → Earliest better (x ∷ []) d x
  alone x = record { place = 0; there = omega arith; found = refl; best = best; first = λ k l. absurd (omega arith) }
    where
      best : (k : ℕ) → k < 1 → better (get_or (x ∷ []) k d) x ≡ false
      best zero l = not_itself s x
      best (suc k) l = absurd (omega arith)

  overtaken : (x y : A) (ys : List A) (r : A) → better y x ≡ true → Earliest better (y ∷ ys) d r → Earliest better (x ∷ y ∷ ys) d r
  overtaken x y ys r h e =
      record { place = suc e.place; there = omega arith; found = e.found; best = best; first = first }
    where
      best : (k : ℕ) → k < suc (suc (length ys)) → better (get_or (x ∷ y ∷ ys) k d) r ≡ false
      best zero l = s.onward x y r (s.one_way y x h) (e.best 0 (omega arith))
      best (suc k) l = e.best k (omega arith)

      first : (k : ℕ) → k < suc e.place → better r (get_or (x ∷ y ∷ ys) k d) ≡ true
      first zero l = beats_too s r y x h (e.best 0 (omega arith))
      first (suc k) l = e.first k (omega arith)

  kept : (x y : A) (ys : List A) (r : A) → better y x ≡ false → Earliest better (x ∷ ys) d r → Earliest better (x ∷ y ∷ ys) d r
  kept x y ys r h e = go e.place e.there e.found e.first
    where
      best : (k : ℕ) → k < suc (suc (length ys)) → better (get_or (x ∷ y ∷ ys) k d) r ≡ false
      best zero l = e.best 0 (omega arith)
      best (suc zero) l = s.onward y x r h (e.best 0 (omega arith))
      best (suc (suc k)) l = e.best (suc k) (omega arith)

      go : (p : ℕ) → p < suc (length ys) → get_or (x ∷ ys) p d ≡ r
          → ((k : ℕ) → k < p → better r (get_or (x ∷ ys) k d) ≡ true) → Earliest better (x ∷ y ∷ ys) d r
      go zero l f w = record { place = 0; there = omega arith; found = f; best = best; first = λ k z. absurd (omega arith) }
      go (suc p) l f w = record { place = suc (suc p); there = omega arith; found = f; best = best; first = first }
        where
          first : (k : ℕ) → k < suc (suc p) → better r (get_or (x ∷ y ∷ ys) k d) ≡ true
          first zero z = w 0 (omega arith)
          first (suc zero) z = beats s r y x (w 0 (omega arith)) h
          first (suc (suc k)) z = w (suc k) (omega arith)

  pub earliest_best_lem : (x : A) (ys : List A) → Earliest better (x ∷ ys) d (earliest_best better x ys)
  unfolding earliest_best
  earliest_best_lem x [] = alone x
  earliest_best_lem x (y ∷ ys) = go (better y x) refl (earliest_best_lem (cond (better y x) y x) ys)
    where
      go : (t : Bool) → better y x ≡ t → Earliest better (cond t y x ∷ ys) d (earliest_best better (cond t y x) ys)
          → Earliest better (x ∷ y ∷ ys) d (earliest_best better (cond t y x) ys)
      go true h e = overtaken x y ys _ h e
      go false h e = kept x y ys _ h e

pub earliest_of : {better : ℕ → ℕ → Bool} → Strict better → (is : List ℕ) → 0 < length is → Earliest better is 0 (earliest better is)
unfolding earliest
earliest_of s [] h = absurd (omega arith)
earliest_of s (i ∷ is) h = earliest_best_lem s 0 i is

-- ---- of the places below n

pub record EarliestPlace (better : ℕ → ℕ → Bool) (n i : ℕ) : Type 0 where
  pub there : i < n
  pub best : (j : ℕ) → j < n → better j i ≡ false
  pub first : (j : ℕ) → j < i → better i j ≡ true

pub earliest_place : {better : ℕ → ℕ → Bool} → Strict better → (n : ℕ) → 0 < n → EarliestPlace better n (earliest better (up_from 0 n))
earliest_place {better} s n some = record {
  there = omega (arith, below, itself);
  best = λ j h. rw (at j h) at (e.best j (rw length_up_from h));
  first = λ j h. rw (at j (omega (arith, below, itself))) at (e.first j (omega (arith, itself)));
}
  where
    e : Earliest better (up_from 0 n) 0 (earliest better (up_from 0 n))
    e = earliest_of s (up_from 0 n) (rw length_up_from some)

    at : (k : ℕ) → k < n → get_or (up_from 0 n) k 0 ≡ k
    at k h = get_d_up_from 0 n k 0 h ∙ omega arith

    below : e.place < n
    below = rw length_up_from at e.there

    itself : e.place ≡ earliest better (up_from 0 n)
    itself = sym (at e.place below) ∙ e.found

-- ---- of the pairs of places below n

-- s is t, or comes before it by "earliest first member, then earliest second"
abbrev pub NotAfter : Seeds → Seeds → Type 0
NotAfter s t = (s.first < t.first) ⊎ ((s.first ≡ t.first) × (s.second ≤ t.second))

-- each of the pairs is one of the places from i on; they are in order; every pair of those places is there
record PairFrom (i n : ℕ) (s : Seeds) : Type 0 where
  from : i ≤ s.first
  apart : s.first < s.second
  there : s.second < i + n

pairs_are : (i n : ℕ) → Each (PairFrom i n) (pairs_from i n)
unfolding pairs_from
pairs_are i zero = tt
pairs_are i (suc n) =
    each_append (PairFrom i (suc n)) (map (seeds i) (up_from (suc i) n)) (pairs_from (suc i) n)
    (each_up_from (PairFrom i (suc n)) (seeds i) (suc i) n (λ k a b. omega arith))
    (each_also (PairFrom (suc i) n) (PairFrom i (suc n)) (λ s h. omega arith) (pairs_from (suc i) n) (pairs_are (suc i) n))

pairs_ordered : (i n : ℕ) → Ordered NotAfter (pairs_from i n)
unfolding pairs_from
pairs_ordered i zero = tt
pairs_ordered i (suc n) =
    ordered_append NotAfter (map (seeds i) (up_from (suc i) n)) (pairs_from (suc i) n)
    (ordered_up_from NotAfter (seeds i) (suc i) n (λ j k a b c. inr (refl, omega arith)))
    (pairs_ordered (suc i) n)
    (each_up_from (λ s. Each (NotAfter s) (pairs_from (suc i) n)) (seeds i) (suc i) n
    (λ k a b. each_also (PairFrom (suc i) n) (NotAfter (seeds i k)) (λ s h. inl h.from) (pairs_from (suc i) n) (pairs_are (suc i) n)))

pair_among : (i n a b : ℕ) → i ≤ a → a < b → b < i + n → Among (seeds a b) (pairs_from i n)
unfolding pairs_from
pair_among i zero a b h l m = absurd (omega arith)
pair_among i (suc n) a b h l m = go (dec_le a i) (pair_among (suc i) n a b)
  where
    go : Dec (a ≤ i) → (suc i ≤ a → a < b → b < suc i + n → Among (seeds a b) (pairs_from (suc i) n))
        → Among (seeds a b) (map (seeds i) (up_from (suc i) n) ++ pairs_from (suc i) n)
    go (yes q) f =
        Memᴰ.append_left (pairs_from (suc i) n)
        (Memᴰ.cast (ap (λ (x : ℕ). seeds x b) (omega arith)) (Memᴰ.map (seeds i) (up_from_among (suc i) n b (omega arith) (omega arith))))
    go (no q) f = Memᴰ.append_right (map (seeds i) (up_from (suc i) n)) (f (omega arith) l (omega arith))

pub record EarliestPair (better : Seeds → Seeds → Bool) (n : ℕ) (s : Seeds) : Type 0 where
  pub apart : s.first < s.second
  pub there : s.second < n
  pub best : (i j : ℕ) → i < j → j < n → better (seeds i j) s ≡ false
  pub first : (i j : ℕ) → i < j → j < n → better s (seeds i j) ≡ false → NotAfter s (seeds i j)

-- the first pair is in hand, and is met again
pairs_earliest : {better : Seeds → Seeds → Bool} → Strict better → (n : ℕ) → 2 ≤ n
    → Earliest better (pairs_from 0 n) (seeds 0 1) (earliest_best better (seeds 0 1) (pairs_from 0 n))
unfolding pairs_from up_from
pairs_earliest s zero h = absurd (omega arith)
pairs_earliest s (suc zero) h = absurd (omega arith)
pairs_earliest s (suc (suc n)) h = rw (best_again s (seeds 0 1)) (earliest_best_lem s (seeds 0 1) (seeds 0 1) _)

pub earliest_pair : {better : Seeds → Seeds → Bool} → Strict better → (n : ℕ) → 2 ≤ n
    → EarliestPair better n (earliest_best better (seeds 0 1) (pairs_from 0 n))
earliest_pair {better} s n two = record {
  apart = within.apart;
  there = omega (arith, within.there);
  best = λ i j h l. best i j (place_of_lem (pair_among 0 n i j (omega arith) h (omega arith)));
  first = λ i j h l. first i j (place_of_lem (pair_among 0 n i j (omega arith) h (omega arith)));
}
  where
    pairs : List Seeds
    pairs = pairs_from 0 n

    r : Seeds
    r = earliest_best better (seeds 0 1) pairs

    e : Earliest better pairs (seeds 0 1) r
    e = pairs_earliest s n two

    within : PairFrom 0 n r
    within = rw e.found at (each_at (PairFrom 0 n) pairs e.place (seeds 0 1) e.there (pairs_are 0 n))

    best : (i j : ℕ) → (k : ℕ) × (k < length pairs) × ((d : Seeds) → get_or pairs k d ≡ seeds i j) → better (seeds i j) r ≡ false
    best i j p = rw (p.2 (seeds 0 1)) at (e.best p.0 p.1)

    ordered : (k : ℕ) → e.place ≤ k → k < length pairs → NotAfter (get_or pairs e.place (seeds 0 1)) (get_or pairs k (seeds 0 1))
    ordered k q l = ordered_at NotAfter (λ x. inr (refl, omega arith)) pairs e.place k (seeds 0 1) q l (pairs_ordered 0 n)

    first : (i j : ℕ) → (k : ℕ) × (k < length pairs) × ((d : Seeds) → get_or pairs k d ≡ seeds i j)
        → better r (seeds i j) ≡ false → NotAfter r (seeds i j)
    first i j p worse = go (dec_le e.place p.0)
      where
        go : Dec (e.place ≤ p.0) → NotAfter r (seeds i j)
        go (yes q) = subst₂ NotAfter e.found (p.2 (seeds 0 1)) (ordered p.0 q p.1)
        go (no q) = never_both (rw (p.2 (seeds 0 1)) at (e.first p.0 (omega arith))) worse
