-- Sums over lists: what each member adds, a member at a time. A sum is how many members count one at least, two at least, and so on; so
-- where two lists have as many members of every sort as a third, they have its sum.
use mathlib.Core.Path.{◌≡◌, refl, sym, ap, ◌∙◌}
use mathlib.Core.Logic.{◌≢◌}
use mathlib.Core.Bool.{Bool, true, false, cond}
use mathlib.Core.List.Memᴰ
use mathlib.Core.List.{List, [], ◌∷◌, ◌++◌, map}
use Prim.Native.Nat.{ℕ, zero, suc, ◌+◌, ◌*◌, ◌≤◌, ◌<◌, min}
use native.Mathlib.Nat.{mul-suc, mul-zero}
use native.Mathlib.Omega.{arith}
use lib.Dec.{ltb}
use lib.ListN.{length, get_or, set, length-set}
use lib.Seq.{get_or-set_same}
use borrow.Author.Tests.{ltb-true, ltb-false}
use Rattle.rules.specs.Lists.{those, total, without}
use Rattle.rules.specs.Lawful.{Parted}
use Rattle.rules_laws.proofs.Places.{Among, at_place, map_same}
use Rattle.rules_laws.proofs.Parts.{those_yes, those_no, those_none, those_append, count_append, count_cons, without_set}

module _ {A : Type 0} where
  pub total_none : (f : A → ℕ) → total (map f []) ≡ 0
  unfolding total
  total_none f = refl

  pub total_more : (f : A → ℕ) (x : A) (xs : List A) → total (map f (x ∷ xs)) ≡ f x + total (map f xs)
  unfolding total
  total_more f x xs = refl

  pub total_append : (f : A → ℕ) (xs ys : List A) → total (map f (xs ++ ys)) ≡ total (map f xs) + total (map f ys)
  total_append f [] ys = omega (arith, total_none f)
  total_append f (x ∷ xs) ys = omega (arith, total_more f x (xs ++ ys), total_more f x xs, total_append f xs ys)

  pub total_sum : (f g : A → ℕ) (xs : List A) → total (map (λ x. f x + g x) xs) ≡ total (map f xs) + total (map g xs)
  total_sum f g [] = omega (arith, total_none f, total_none g, total_none (λ x. f x + g x))
  total_sum f g (x ∷ xs) = omega (arith, total_more f x xs, total_more g x xs, total_more (λ y. f y + g y) x xs, total_sum f g xs)

  pub total_alike : (f g : A → ℕ) (xs : List A) → ((x : A) → Among x xs → f x ≡ g x) → total (map f xs) ≡ total (map g xs)
  total_alike f g xs h = ap total (map_same f g xs h)

  -- none of the members counts; each counts c at least; each counts c at most
  pub total_zero : (f : A → ℕ) (xs : List A) → ((x : A) → Among x xs → f x ≡ 0) → total (map f xs) ≡ 0
  total_zero f [] h = total_none f
  total_zero f (x ∷ xs) h = omega (arith, total_more f x xs, h x (Memᴰ.head refl), total_zero f xs (λ y m. h y (Memᴰ.tail m)))

  pub total_least : (f : A → ℕ) (c : ℕ) (xs : List A) → ((x : A) → Among x xs → c ≤ f x) → c * length xs ≤ total (map f xs)
  total_least f c [] h = omega (arith, mul-zero c)
  total_least f c (x ∷ xs) h =
      omega (arith, mul-suc c (length xs), total_more f x xs, h x (Memᴰ.head refl), total_least f c xs (λ y m. h y (Memᴰ.tail m)))

  pub total_most : (f : A → ℕ) (c : ℕ) (xs : List A) → ((x : A) → Among x xs → f x ≤ c) → total (map f xs) ≤ c * length xs
  total_most f c [] h = omega (arith, total_none f, mul-zero c)
  total_most f c (x ∷ xs) h =
      omega (arith, mul-suc c (length xs), total_more f x xs, h x (Memᴰ.head refl), total_most f c xs (λ y m. h y (Memᴰ.tail m)))

  -- a member counts in the sum
  pub total_member : (f : A → ℕ) {x : A} {xs : List A} → Among x xs → f x ≤ total (map f xs)
  total_member f {xs = []} x3 = elim x3 [ ]
  total_member f {xs = y ∷ ys} (Memᴰ.head e) = omega (arith, total_more f y ys, ap f e)
  total_member f {xs = y ∷ ys} (Memᴰ.tail m) = omega (arith, total_more f y ys, total_member f m)

  -- the member at a place, and the others
  pub total_without : (f : A → ℕ) (xs : List A) (i : ℕ) (d : A) → i < length xs
      → total (map f xs) ≡ f (get_or xs i d) + total (map f (without i xs))
  unfolding without
  total_without f [] i d h = absurd (omega arith)
  total_without f (x ∷ xs) zero d h = total_more f x xs
  total_without f (x ∷ xs) (suc i) d h =
      omega (arith, total_more f x xs, total_more f x (without i xs), total_without f xs i d (omega arith))

  -- the members at two places count both
  pub total_places : (f : A → ℕ) (xs : List A) (i j : ℕ) (d : A) → i < length xs → j < length xs → i ≢ j
      → f (get_or xs i d) + f (get_or xs j d) ≤ total (map f xs)
  total_places f [] i j d h k n = absurd (omega arith)
  total_places f (x ∷ xs) zero zero d h k n = absurd (n refl)
  total_places f (x ∷ xs) zero (suc j) d h k n = omega (arith, total_more f x xs, total_member f (at_place xs j d (omega arith)))
  total_places f (x ∷ xs) (suc i) zero d h k n = omega (arith, total_more f x xs, total_member f (at_place xs i d (omega arith)))
  total_places f (x ∷ xs) (suc i) (suc j) d h k n =
      omega (arith, total_more f x xs, total_places f xs i j d (omega arith) (omega arith) (λ e. n (ap suc e)))

  -- a member put in another's place
  pub total_set : (f : A → ℕ) (xs : List A) (i : ℕ) (y : A) → i < length xs → total (map f (set xs i y)) ≡ f y + total (map f (without i xs))
  total_set f xs i y h = rw (get_or-set_same xs i y y, without_set xs i y) at (total_without f (set xs i y) i y (rw length-set h))

  -- ---- sums and tests

  -- how many of a list: one at a time; and how many of those for which a test holds
  pub count_total : (q : A → Bool) (xs : List A) → length (those q xs) ≡ total (map (λ x. length (those q (x ∷ []))) xs)
  count_total q [] = rw (those_none q) (sym (total_none (λ (x : A). length (those q (x ∷ [])))))
  count_total q (x ∷ xs) = omega (arith, count_cons q x xs, total_more (λ (y : A). length (those q (y ∷ []))) x xs, count_total q xs)

  pub count_those : (q t : A → Bool) (xs : List A) → length (those q (those t xs)) ≡ total (map (λ x. length (those q (those t (x ∷ [])))) xs)
  count_those q t [] = rw (those_none t, those_none q) (sym (total_none (λ (x : A). length (those q (those t (x ∷ []))))))
  count_those q t (x ∷ xs) =
      rw (those_append t (x ∷ []) xs)
      (omega (
        arith,
        count_append q (those t (x ∷ [])) (those t xs),
        total_more (λ (y : A). length (those q (those t (y ∷ [])))) x xs,
        count_those q t xs,
      ))

  -- the sum over those for which a test holds: the others add nothing
  pub total_those : (f : A → ℕ) (t : A → Bool) (xs : List A) → total (map f (those t xs)) ≡ total (map (λ x. cond (t x) (f x) 0) xs)
  total_those f t [] = rw (those_none t) (total_none f ∙ sym (total_none (λ x. cond (t x) (f x) 0)))
  total_those f t (x ∷ xs) = go (t x) refl (total_those f t xs)
    where
      g : A → ℕ
      g y = cond (t y) (f y) 0

      go : (b : Bool) → t x ≡ b → total (map f (those t xs)) ≡ total (map g xs) → total (map f (those t (x ∷ xs))) ≡ total (map g (x ∷ xs))
      go true p e =
          let n : g x ≡ f x = rw p in
          rw (those_yes t x xs p) (omega (arith, total_more f x (those t xs), total_more g x xs))
      go false p e =
          let n : g x ≡ 0 = rw p in
          rw (those_no t x xs p) (omega (arith, total_more g x xs))

  -- ---- parts

  -- what counts up to n
  cut : (A → ℕ) → ℕ → A → ℕ
  cut f n x = min (f x) n

  cut_more : (f : A → ℕ) (n : ℕ) (xs : List A) → total (map (cut f (suc n)) xs) ≡ total (map (cut f n) xs) + length (those (λ x. ltb n (f x)) xs)
  unfolding cut
  cut_more f n [] = rw (those_none (λ x. ltb n (f x))) (omega (arith, total_none (cut f n), total_none (cut f (suc n))))
  cut_more f n (x ∷ xs) = go (ltb n (f x)) refl (cut_more f n xs)
    where
      q : A → Bool
      q y = ltb n (f y)

      go : (b : Bool) → ltb n (f x) ≡ b → total (map (cut f (suc n)) xs) ≡ total (map (cut f n) xs) + length (those q xs)
          → total (map (cut f (suc n)) (x ∷ xs)) ≡ total (map (cut f n) (x ∷ xs)) + length (those q (x ∷ xs))
      go true e h =
          let l = ltb-true n (f x) e in
          rw (those_yes q x xs e) (omega (arith, total_more (cut f n) x xs, total_more (cut f (suc n)) x xs))
      go false e h =
          let l = ltb-false n (f x) e in
          rw (those_no q x xs e) (omega (arith, total_more (cut f n) x xs, total_more (cut f (suc n)) x xs))

  module _ (f : A → ℕ) {whole one two : List A} (h : Parted whole one two) where
    cut_parted : (n : ℕ) → total (map (cut f n) one) + total (map (cut f n) two) ≡ total (map (cut f n) whole)
    unfolding cut
    cut_parted zero = omega (arith, none one, none two, none whole)
      where
        none : (xs : List A) → total (map (cut f 0) xs) ≡ 0
        none [] = total_none (cut f 0)
        none (x ∷ xs) = omega (arith, total_more (cut f 0) x xs, none xs)
    cut_parted (suc n) =
        omega (arith, cut_more f n one, cut_more f n two, cut_more f n whole, cut_parted n, h.each (λ x. ltb n (f x)))

    pub parted_total : total (map f one) + total (map f two) ≡ total (map f whole)
    unfolding cut
    parted_total = omega (arith, cut_parted n, all one (omega arith), all two (omega arith), all whole (omega arith))
      where
        n : ℕ
        n = total (map f one) + total (map f two) + total (map f whole)

        all : (xs : List A) → total (map f xs) ≤ n → total (map (cut f n) xs) ≡ total (map f xs)
        all xs k = total_alike (cut f n) f xs (λ x m. omega (arith, total_member f m))
