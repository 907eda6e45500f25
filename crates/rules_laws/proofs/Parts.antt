-- Which members of a list pass a test. Two lists together are a third where every test holds for as many members, so a part is proved by
-- counting: a member counts the same wherever it is.
use mathlib.Core.Path.{◌≡◌, refl, sym, ap, ◌∙◌}
use mathlib.Core.Logic.{◌↔◌, ◌≢◌, ◌⊎◌, inl, inr, ⊎_elim}
use mathlib.Core.Bool.{Bool, true, false, not, ◌&&◌}
use mathlib.Core.List.Memᴰ
use mathlib.Core.List.{List, [], ◌∷◌, ◌++◌, map}
use Prim.Native.Nat.{ℕ, zero, suc, ◌+◌, ◌≤◌, ◌<◌}
use native.Mathlib.Omega.{arith}
use lib.Dec.{eqb}
use lib.ListN.{length, get_or, set, length-append, length-map, length-set}
use lib.Seq.{get_or-set_same}
use borrow.Author.Tests.{eqb-true, eqb-false, ne_eqb, not-true}
use Rattle.rules.specs.Lists.{those, up_from, without}
use Rattle.rules.specs.Split.{leaving}
use Rattle.rules.specs.Lawful.{Parted}
use Rattle.rules_laws.proofs.Places.{Among, place_of_lem, nothing}

module _ {A : Type 0} where
  module _ (p : A → Bool) where
    pub those_yes : (x : A) (xs : List A) → p x ≡ true → those p (x ∷ xs) ≡ x ∷ those p xs
    unfolding those
    those_yes x xs h = rw h

    pub those_no : (x : A) (xs : List A) → p x ≡ false → those p (x ∷ xs) ≡ those p xs
    unfolding those
    those_no x xs h = rw h

    pub those_none : those p [] ≡ []
    unfolding those
    those_none = refl

    pub those_append : (xs ys : List A) → those p (xs ++ ys) ≡ those p xs ++ those p ys
    those_append [] ys = rw those_none
    those_append (x ∷ xs) ys = go (p x) refl (those_append xs ys)
      where
        go : (t : Bool) → p x ≡ t → those p (xs ++ ys) ≡ those p xs ++ those p ys → those p (x ∷ xs ++ ys) ≡ those p (x ∷ xs) ++ those p ys
        go true h e = rw (those_yes x (xs ++ ys) h, those_yes x xs h, e)
        go false h e = rw (those_no x (xs ++ ys) h, those_no x xs h, e)

    pub count_append : (xs ys : List A) → length (those p (xs ++ ys)) ≡ length (those p xs) + length (those p ys)
    count_append xs ys = rw (those_append xs ys) (length-append (those p xs) (those p ys))

    pub count_cons : (x : A) (xs : List A) → length (those p (x ∷ xs)) ≡ length (those p (x ∷ [])) + length (those p xs)
    count_cons x xs = count_append (x ∷ []) xs

  pub those_all : (xs : List A) → those (λ x. true) xs ≡ xs
  unfolding those
  those_all [] = refl
  those_all (x ∷ xs) = ap (λ (l : List A). x ∷ l) (those_all xs)

  -- a test that holds for a member holds for at least one
  pub counted : (p : A → Bool) {x : A} {xs : List A} → Among x xs → p x ≡ true → 0 < length (those p xs)
  counted p {xs = []} x6 h = elim x6 [ ]
  counted p {xs = y ∷ ys} (Memᴰ.head e) h = rw (those_yes p y ys (ap p (sym e) ∙ h)) (omega arith)
  counted p {xs = y ∷ ys} (Memᴰ.tail m) h = omega (arith, count_cons p y ys, counted p m h)

  -- a member of those is a member for which the test holds
  among_those_to : (p : A → Bool) {x : A} (xs : List A) → Among x (those p xs) → Among x xs × (p x ≡ true)
  among_those_to p [] m = absurd (Memᴰ.not-nil (rw (those_none p) at m))
  among_those_to p {x} (y ∷ ys) m = go (p y) refl (among_those_to p ys)
    where
      go : (t : Bool) → p y ≡ t → (Among x (those p ys) → Among x ys × (p x ≡ true)) → Among x (y ∷ ys) × (p x ≡ true)
      go true h f =
          ⊎_elim (λ e. (Memᴰ.head e, ap p e ∙ h)) (λ n. (Memᴰ.tail (f n).0, (f n).1)) (Memᴰ.cases_cons (rw (those_yes p y ys h) at m))
      go false h f = let n = f (rw (those_no p y ys h) at m) in (Memᴰ.tail n.0, n.1)

  among_those_from : (p : A → Bool) {x : A} {xs : List A} → Among x xs → p x ≡ true → Among x (those p xs)
  among_those_from p {x = x} {xs = []} x6 h = elim x6 [ ]
  among_those_from p {xs = y ∷ ys} (Memᴰ.head e) h = rw (those_yes p y ys (ap p (sym e) ∙ h)) (Memᴰ.head e)
  among_those_from p {x} {xs = y ∷ ys} (Memᴰ.tail m) h = go (p y) refl (among_those_from p m h)
    where
      go : (t : Bool) → p y ≡ t → Among x (those p ys) → Among x (those p (y ∷ ys))
      go true k n = rw (those_yes p y ys k) (Memᴰ.tail n)
      go false k n = rw (those_no p y ys k) n

  pub among_those : (p : A → Bool) (x : A) (xs : List A) → Among x (those p xs) ↔ (Among x xs × (p x ≡ true))
  among_those p x xs = (among_those_to p xs, λ h. among_those_from p h.0 h.1)

  pub those_every : (t : A → Bool) (xs : List A) → ((x : A) → Among x xs → t x ≡ true) → those t xs ≡ xs
  those_every t [] h = those_none t
  those_every t (x ∷ xs) h = rw (those_yes t x xs (h x (Memᴰ.head refl)), those_every t xs (λ y m. h y (Memᴰ.tail m)))

  pub those_nothing : (t : A → Bool) (xs : List A) → ((x : A) → Among x xs → t x ≡ false) → those t xs ≡ []
  those_nothing t [] h = those_none t
  those_nothing t (x ∷ xs) h = those_no t x xs (h x (Memᴰ.head refl)) ∙ those_nothing t xs (λ y m. h y (Memᴰ.tail m))

  -- two tests with the same answers
  pub those_same : (s t : A → Bool) (xs : List A) → ((x : A) → Among x xs → s x ≡ t x) → those s xs ≡ those t xs
  those_same s t [] h = rw (those_none s, those_none t)
  those_same s t (x ∷ xs) h = go (s x) refl (those_same s t xs (λ y m. h y (Memᴰ.tail m)))
    where
      here : s x ≡ t x
      here = h x (Memᴰ.head refl)

      go : (b : Bool) → s x ≡ b → those s xs ≡ those t xs → those s (x ∷ xs) ≡ those t (x ∷ xs)
      go true e r = rw (those_yes s x xs e, those_yes t x xs (sym here ∙ e), r)
      go false e r = rw (those_no s x xs e, those_no t x xs (sym here ∙ e), r)

  -- one test, and then another
  pub those_and : (a b : A → Bool) (xs : List A) → those (λ x. a x && b x) xs ≡ those b (those a xs)
  those_and a b [] = rw (those_none a, those_none b, those_none (λ x. a x && b x))
  those_and a b (x ∷ xs) = go (a x) (b x) refl refl (those_and a b xs)
    where
      both : A → Bool
      both y = a y && b y

      go : (s t : Bool) → a x ≡ s → b x ≡ t → those both xs ≡ those b (those a xs) → those both (x ∷ xs) ≡ those b (those a (x ∷ xs))
      go true true p q e = rw (those_yes both x xs (rw (p, q)), those_yes a x xs p, those_yes b x (those a xs) q, e)
      go true false p q e = rw (those_no both x xs (rw (p, q)), those_yes a x xs p, those_no b x (those a xs) q, e)
      go false t p q e = rw (those_no both x xs (rw p), those_no a x xs p, e)

  -- ---- parts

  pub parted_length : {whole one two : List A} → Parted whole one two → length one + length two ≡ length whole
  parted_length {whole} {one} {two} h = rw (those_all one, those_all two, those_all whole) at (h.each (λ x. true))

  pub parted_append : (xs ys : List A) → Parted (xs ++ ys) xs ys
  parted_append xs ys = record { each = λ p. sym (count_append p xs ys) }

  pub parted_swap : {whole one two : List A} → Parted whole one two → Parted whole two one
  parted_swap h = record { each = λ p. omega (arith, h.each p) }

  -- a test parts a list
  count_both : (p q : A → Bool) (xs : List A) → length (those q (those p xs)) + length (those q (those (λ x. not (p x)) xs)) ≡ length (those q xs)
  count_both p q [] = rw (those_none p, those_none (λ x. not (p x)), those_none q)
  count_both p q (x ∷ xs) = go (p x) refl (count_both p q xs)
    where
      n : A → Bool
      n y = not (p y)

      go : (t : Bool) → p x ≡ t → length (those q (those p xs)) + length (those q (those n xs)) ≡ length (those q xs)
          → length (those q (those p (x ∷ xs))) + length (those q (those n (x ∷ xs))) ≡ length (those q (x ∷ xs))
      go true h e = rw (those_yes p x xs h, those_no n x xs (ap not h)) (omega (arith, count_cons q x (those p xs), count_cons q x xs))
      go false h e = rw (those_no p x xs h, those_yes n x xs (ap not h)) (omega (arith, count_cons q x (those n xs), count_cons q x xs))

  pub those_parted : (p : A → Bool) (xs : List A) → Parted xs (those p xs) (those (λ x. not (p x)) xs)
  those_parted p xs = record { each = λ q. count_both p q xs }

  pub those_fewer : (t : A → Bool) (xs : List A) → length (those t xs) ≤ length xs
  those_fewer t xs = omega (arith, parted_length (those_parted t xs))

  pub count_fewer : (q t : A → Bool) (xs : List A) → length (those q (those t xs)) ≤ length (those q xs)
  count_fewer q t xs = omega (arith, (those_parted t xs).each q)

  -- the member at a place, and the others
  count_without : (p : A → Bool) (xs : List A) (i : ℕ) (d : A) → i < length xs
      → length (those p (get_or xs i d ∷ [])) + length (those p (without i xs)) ≡ length (those p xs)
  unfolding without
  count_without p [] i d h = absurd (omega arith)
  count_without p (x ∷ xs) zero d h = sym (count_cons p x xs)
  count_without p (x ∷ xs) (suc i) d h = omega (arith, count_cons p x xs, count_cons p x (without i xs), count_without p xs i d (omega arith))

  pub without_parted : (xs : List A) (i : ℕ) (d : A) → i < length xs → Parted xs (get_or xs i d ∷ []) (without i xs)
  without_parted xs i d h = record { each = λ p. count_without p xs i d h }

  pub length_without : (xs : List A) (i : ℕ) → i < length xs → suc (length (without i xs)) ≡ length xs
  length_without (x ∷ xs) i h = omega (arith, parted_length (without_parted (x ∷ xs) i x h))
  length_without [] i h = absurd (omega arith)

  -- ---- a list at one place

  -- a member put in another's place: the others stay
  pub without_set : (xs : List A) (i : ℕ) (y : A) → without i (set xs i y) ≡ without i xs
  unfolding without
  without_set [] i y = refl
  without_set (x ∷ xs) zero y = refl
  without_set (x ∷ xs) (suc i) y = ap (λ (l : List A). x ∷ l) (without_set xs i y)

  -- a member put in another's place
  pub count_set_lem : (q : A → Bool) (xs : List A) (i : ℕ) (y d : A) → i < length xs
      → length (those q (set xs i y)) + length (those q (get_or xs i d ∷ [])) ≡ length (those q xs) + length (those q (y ∷ []))
  count_set_lem q xs i y d h =
      let new = rw (get_or-set_same xs i y d, without_set xs i y) at (without_parted (set xs i y) i d (rw length-set h)) in
      omega (arith, new.each q, (without_parted xs i d h).each q)

  pub among_set : (xs : List A) (i : ℕ) (x y : A) → Among x (set xs i y) → (x ≡ y) ⊎ Among x (without i xs)
  unfolding without
  among_set [] i x y m = absurd (Memᴰ.not-nil m)
  among_set (z ∷ zs) zero x y m = Memᴰ.cases_cons m
  among_set (z ∷ zs) (suc i) x y m =
      ⊎_elim (λ e. inr (Memᴰ.head e)) (λ n. ⊎_elim inl (λ k. inr (Memᴰ.tail k)) (among_set zs i x y n)) (Memᴰ.cases_cons m)

  pub among_without : (xs : List A) (i : ℕ) (x : A) → Among x (without i xs)
      → (j : ℕ) × (j < length xs) × (j ≢ i) × ((d : A) → get_or xs j d ≡ x)
  unfolding without
  among_without [] i x m = absurd (Memᴰ.not-nil m)
  among_without (z ∷ zs) zero x m = let q = place_of_lem m in (suc q.0, omega (arith, q.1), (λ e. omega arith), q.2)
  among_without (z ∷ zs) (suc i) x m = go (Memᴰ.cases_cons m) (among_without zs i x)
    where
      go : (x ≡ z) ⊎ Among x (without i zs)
          → (Among x (without i zs) → (j : ℕ) × (j < length zs) × (j ≢ i) × ((d : A) → get_or zs j d ≡ x))
          → (j : ℕ) × (j < length (z ∷ zs)) × (j ≢ suc i) × ((d : A) → get_or (z ∷ zs) j d ≡ x)
      go (inl e) f = (zero, omega arith, (λ k. omega arith), λ d. sym e)
      go (inr n) f = let q = f n in let h = q.2 in (suc q.0, omega (arith, q.1), (λ k. h (omega arith)), q.3)

module _ {A B : Type 0} (f : A → B) where
  pub those_map : (p : B → Bool) (xs : List A) → those p (map f xs) ≡ map f (those (λ x. p (f x)) xs)
  those_map p [] = rw (those_none p, those_none (λ x. p (f x)))
  those_map p (x ∷ xs) = go (p (f x)) refl (those_map p xs)
    where
      q : A → Bool
      q y = p (f y)

      go : (t : Bool) → q x ≡ t → those p (map f xs) ≡ map f (those q xs) → those p (f x ∷ map f xs) ≡ map f (those q (x ∷ xs))
      go true h e = rw (those_yes p (f x) (map f xs) h, those_yes q x xs h, e)
      go false h e = rw (those_no p (f x) (map f xs) h, those_no q x xs h, e)

  pub count_map : (p : B → Bool) (xs : List A) → length (those p (map f xs)) ≡ length (those (λ x. p (f x)) xs)
  count_map p xs = rw (those_map p xs) (length-map (those (λ x. p (f x)) xs) f)

  pub parted_map : {whole one two : List A} → Parted whole one two → Parted (map f whole) (map f one) (map f two)
  parted_map {whole} {one} {two} h = record { each = λ p. rw (count_map p one, count_map p two, count_map p whole) (h.each (λ x. p (f x))) }

-- ---- how often a number occurs in a list

-- the test whether it is i
abbrev pub is : ℕ → ℕ → Bool
is i j = eqb j i

pub up_from_below : (i n k : ℕ) → k < i → length (those (is k) (up_from i n)) ≡ 0
unfolding up_from
up_from_below i zero k h = rw (those_none (is k))
up_from_below i (suc n) k h = rw (those_no (is k) i (up_from (suc i) n) (ne_eqb i k (omega arith))) (up_from_below (suc i) n k (omega arith))

pub up_from_most : (i n k : ℕ) → length (those (is k) (up_from i n)) ≤ 1
unfolding up_from
up_from_most i zero k = rw (those_none (is k)) (omega arith)
up_from_most i (suc n) k = go (eqb i k) refl (up_from_most (suc i) n k)
  where
    rest : List ℕ
    rest = up_from (suc i) n

    go : (t : Bool) → eqb i k ≡ t → length (those (is k) rest) ≤ 1 → length (those (is k) (i ∷ rest)) ≤ 1
    go true h m = let e = eqb-true i k h in rw (those_yes (is k) i rest h) (omega (arith, up_from_below (suc i) n k (omega arith)))
    go false h m = rw (those_no (is k) i rest h) m

-- ---- leaving

-- the one place of i is left out: i parts from the others
only_one : (i : ℕ) (l : List ℕ) → length (those (is i) l) ≡ 1 → those (is i) l ≡ i ∷ []
only_one i [] h = absurd (omega (arith, ap length (those_none (is i))))
only_one i (x ∷ l) h = go (eqb x i) refl (only_one i l)
  where
    go : (t : Bool) → eqb x i ≡ t → (length (those (is i) l) ≡ 1 → those (is i) l ≡ i ∷ []) → those (is i) (x ∷ l) ≡ i ∷ []
    go true e f =
        let y = those_yes (is i) x l e in
        let z = nothing (those (is i) l) (omega (arith, ap length y)) in
        rw (y, z, eqb-true x i e)
    go false e f = let n = those_no (is i) x l e in rw n (f (rw n at h))

pub leaving_parted : (i : ℕ) (l : List ℕ) → length (those (is i) l) ≡ 1 → Parted l (i ∷ []) (leaving i l)
unfolding leaving
leaving_parted i l h = rw (only_one i l h) at (those_parted (is i) l)

pub length_leaving : (i : ℕ) (l : List ℕ) → length (those (is i) l) ≡ 1 → suc (length (leaving i l)) ≡ length l
length_leaving i l h = omega (arith, parted_length (leaving_parted i l h))

pub among_leaving : (i k : ℕ) (l : List ℕ) → Among k (leaving i l) ↔ (Among k l × (k ≢ i))
unfolding leaving
among_leaving i k l = (
  λ m. let h = others.0 m in (h.0, eqb-false k i (not-true (eqb k i) h.1)),
  λ h. others.1 (h.0, ap not (ne_eqb k i h.1)),
)
  where
    others : Among k (those (λ j. not (eqb j i)) l) ↔ (Among k l × (not (eqb k i) ≡ true))
    others = among_those (λ j. not (eqb j i)) k l
