-- Lists joined: what is true of the parts is true of the whole, a part at a time.
use mathlib.Core.Path.{◌≡◌, refl, sym, ap, ◌∙◌}
use mathlib.Core.Logic.{◌⊎◌, inl, inr}
use mathlib.Core.Bool.{Bool, true, false, cond}
use mathlib.Core.List.Memᴰ
use mathlib.Core.List.{List, [], ◌∷◌, ◌++◌, map, append_assoc, map-append}
use Prim.Native.Nat.{ℕ, ◌<◌}
use native.Mathlib.Omega.{arith}
use lib.ListN.{length, get_or, set, length-append, length-set}
use lib.Seq.{get_or-set_same}
use Rattle.rules.specs.Lists.{those, joined, total, without}
use Rattle.rules.specs.Lawful.{Parted}
use Rattle.rules_laws.proofs.Places.{Among}
use Rattle.rules_laws.proofs.Parts.{those_yes, those_no, those_none, those_append, count_append, without_set}
use Rattle.rules_laws.proofs.Sums.{total_none, total_more, total_append, total_without}

pub joined_both : {A : Type 0} (xs ys : List (List A)) → joined (xs ++ ys) ≡ joined xs ++ joined ys
unfolding joined
joined_both [] ys = refl
joined_both {A} (x ∷ xs) ys = ap (λ (l : List A). x ++ l) (joined_both xs ys) ∙ sym (append_assoc x (joined xs) (joined ys))

module _ {A B : Type 0} where
  pub joined_none : (f : A → List B) → joined (map f []) ≡ []
  unfolding joined
  joined_none f = refl

  pub joined_more : (f : A → List B) (x : A) (xs : List A) → joined (map f (x ∷ xs)) ≡ f x ++ joined (map f xs)
  unfolding joined
  joined_more f x xs = refl

  pub joined_append : (f : A → List B) (xs ys : List A) → joined (map f (xs ++ ys)) ≡ joined (map f xs) ++ joined (map f ys)
  joined_append f xs ys = ap joined (map-append f xs ys) ∙ joined_both (map f xs) (map f ys)

  -- a member is in a part
  pub among_joined : (f : A → List B) (y : B) (xs : List A) → Among y (joined (map f xs)) → (x : A) × Among x xs × Among y (f x)
  unfolding joined
  among_joined f y [] m = absurd (Memᴰ.not-nil m)
  among_joined f y (x ∷ xs) m = go (Memᴰ.append_cases (f x) m) (among_joined f y xs)
    where
      go : Among y (f x) ⊎ Among y (joined (map f xs)) → (Among y (joined (map f xs)) → (z : A) × Among z xs × Among y (f z))
          → (z : A) × Among z (x ∷ xs) × Among y (f z)
      go (inl h) k = (x, Memᴰ.head refl, h)
      go (inr h) k = let q = k h in (q.0, Memᴰ.tail q.1, q.2)

  pub joined_among : (f : A → List B) (y : B) {x : A} {xs : List A} → Among x xs → Among y (f x) → Among y (joined (map f xs))
  unfolding joined
  joined_among f y {x} {xs = z ∷ zs} (Memᴰ.head e) m = let n : Among y (f z) = rw (← e) m in Memᴰ.append_left (joined (map f zs)) n
  joined_among f y {x = x} {xs = []} x6 m = elim x6 [ ]
  joined_among f y {xs = z ∷ zs} (Memᴰ.tail n) m = Memᴰ.append_right (f z) (joined_among f y n m)

pub joined_joined : {A B C : Type 0} (f : B → List C) (g : A → List B) (xs : List A)
    → joined (map f (joined (map g xs))) ≡ joined (map (λ x. joined (map f (g x))) xs)
unfolding joined
joined_joined f g [] = refl
joined_joined f g (x ∷ xs) = rw (joined_append f (g x) (joined (map g xs)), joined_joined f g xs)

-- the sum over a joined list: the sums of the parts
pub total_joined : {A B : Type 0} (f : A → ℕ) (g : B → List A) (xs : List B)
    → total (map f (joined (map g xs))) ≡ total (map (λ x. total (map f (g x))) xs)
total_joined f g [] = rw (joined_none g) (total_none f ∙ sym (total_none (λ x. total (map f (g x)))))
total_joined f g (x ∷ xs) =
    rw (joined_more g x xs)
    (omega (arith, total_append f (g x) (joined (map g xs)), total_more (λ y. total (map f (g y))) x xs, total_joined f g xs))

-- how many of a joined list: the sum of how many of the parts
module _ {A B : Type 0} (f : A → List B) where
  pub count_joined : (q : B → Bool) (xs : List A) → length (those q (joined (map f xs))) ≡ total (map (λ x. length (those q (f x))) xs)
  count_joined q [] = rw (joined_none f, those_none q) (sym (total_none (λ x. length (those q (f x)))))
  count_joined q (x ∷ xs) =
      rw (joined_more f x xs)
      (omega (arith, count_append q (f x) (joined (map f xs)), total_more (λ y. length (those q (f y))) x xs, count_joined q xs))

  pub joined_length : (xs : List A) → length (joined (map f xs)) ≡ total (map (λ x. length (f x)) xs)
  joined_length [] = rw (joined_none f) (sym (total_none (λ x. length (f x))))
  joined_length (x ∷ xs) =
      rw (joined_more f x xs)
      (omega (arith, length-append (f x) (joined (map f xs)), total_more (λ y. length (f y)) x xs, joined_length xs))

  -- the part of the member at a place, and the others' parts
  pub joined_parted : (xs : List A) (i : ℕ) (d : A) → i < length xs → Parted (joined (map f xs)) (f (get_or xs i d)) (joined (map f (without i xs)))
  joined_parted xs i d h = record {
    each = λ q.
        omega (arith, count_joined q xs, count_joined q (without i xs), total_without (λ x. length (those q (f x))) xs i d h);
  }

  pub joined_set : (xs : List A) (i : ℕ) (y : A) → i < length xs → Parted (joined (map f (set xs i y))) (f y) (joined (map f (without i xs)))
  joined_set xs i y h =
      rw (get_or-set_same xs i y y, without_set xs i y) at (joined_parted (set xs i y) i y (rw length-set h))

  -- the parts of those for which a test holds: the others' parts are empty
  pub joined_those : (t : A → Bool) (xs : List A) → joined (map f (those t xs)) ≡ joined (map (λ x. cond (t x) (f x) []) xs)
  joined_those t [] = rw (those_none t)
  joined_those t (x ∷ xs) = rw (joined_more (λ y. cond (t y) (f y) []) x xs) (go (t x) refl (joined_those t xs))
    where
      rest : List B
      rest = joined (map (λ y. cond (t y) (f y) []) xs)

      go : (b : Bool) → t x ≡ b → joined (map f (those t xs)) ≡ rest → joined (map f (those t (x ∷ xs))) ≡ cond b (f x) [] ++ rest
      go true e h = rw (those_yes t x xs e, joined_more f x (those t xs), h)
      go false e h = rw (those_no t x xs e, h)

pub those_joined : {A B : Type 0} (t : B → Bool) (f : A → List B) (xs : List A) → those t (joined (map f xs)) ≡ joined (map (λ x. those t (f x)) xs)
those_joined t f [] = rw (joined_none f) (those_none t)
those_joined t f (x ∷ xs) =
    rw (joined_more f x xs, joined_more (λ y. those t (f y)) x xs, those_append t (f x) (joined (map f xs)), those_joined t f xs)
