-- `every`: a test holds for every member where it holds for each, a member at a time; and two tests may be asked together.
use mathlib.Core.Path.{◌≡◌, refl, ap, ◌∙◌}
use mathlib.Core.Logic.{◌↔◌, ⊎_elim}
use mathlib.Core.Bool.{Bool, true, false, ◌&&◌}
use mathlib.Core.List.Memᴰ
use mathlib.Core.List.{List, [], ◌∷◌, ◌++◌}
use Rattle.rules.specs.Lists.{every}
use Rattle.rules_laws.proofs.Bools.{and_both, both_and}
use Rattle.rules_laws.proofs.Places.{Among}

module _ {A : Type 0} (p : A → Bool) where
  pub every_nil : every p [] ≡ true
  unfolding every
  every_nil = refl

  pub every_cons : (x : A) (xs : List A) → every p (x ∷ xs) ≡ (p x && every p xs)
  unfolding every
  every_cons x xs = refl

  -- all but one, and the first of them
  pub every_less : (xs : List A) (y : A) (ys : List A) → every p (xs ++ y ∷ ys) ≡ true → (p y ≡ true) × (every p (xs ++ ys) ≡ true)
  unfolding every
  every_less [] y ys h = and_both (p y) (every p ys) h
  every_less (x ∷ xs) y ys h =
      let a = and_both (p x) (every p (xs ++ y ∷ ys)) h in
      let b = every_less xs y ys a.1 in
      (b.0, both_and (p x) (every p (xs ++ ys)) a.0 b.1)

  pub every_first : (xs ys : List A) → every p (xs ++ ys) ≡ true → every p xs ≡ true
  unfolding every
  every_first [] ys h = refl
  every_first (x ∷ xs) ys h =
      let a = and_both (p x) (every p (xs ++ ys)) h in
      both_and (p x) (every p xs) a.0 (every_first xs ys a.1)

  every_to : (xs : List A) → every p xs ≡ true → (x : A) → Among x xs → p x ≡ true
  unfolding every
  every_to [] h x m = absurd (Memᴰ.not-nil m)
  every_to (y ∷ ys) h x m =
      let q = and_both (p y) (every p ys) h in
      ⊎_elim (λ e. ap p e ∙ q.0) (every_to ys q.1 x) (Memᴰ.cases_cons m)

  every_from : (xs : List A) → ((x : A) → Among x xs → p x ≡ true) → every p xs ≡ true
  unfolding every
  every_from [] h = refl
  every_from (y ∷ ys) h = both_and (p y) (every p ys) (h y (Memᴰ.head refl)) (every_from ys (λ x m. h x (Memᴰ.tail m)))

  pub every_is : (xs : List A) → (every p xs ≡ true) ↔ ((x : A) → Among x xs → p x ≡ true)
  every_is xs = (every_to xs, every_from xs)

module _ {A : Type 0} where
  pub every_both : (f g : A → Bool) (xs : List A) → every (λ x. f x && g x) xs ≡ (every f xs && every g xs)
  unfolding every
  every_both f g [] = refl
  every_both f g (x ∷ xs) = ap (λ (b : Bool). (f x && g x) && b) (every_both f g xs) ∙ cross (f x) (g x) (every f xs) (every g xs)
    where
      cross : (a b c d : Bool) → ((a && b) && (c && d)) ≡ ((a && c) && (b && d))
      cross true true c d = refl
      cross true false true d = refl
      cross true false false d = refl
      cross false b c d = refl

  -- four questions of each
  pub every_four : (f g h k : A → Bool) (xs : List A) → every (λ x. f x && g x && h x && k x) xs ≡ (every f xs && every g xs && every h xs && every k xs)
  every_four f g h k xs =
      every_both (λ x. f x && g x && h x) k xs
      ∙ ap (λ (b : Bool). b && every k xs) (every_both (λ x. f x && g x) h xs ∙ ap (λ (b : Bool). b && every h xs) (every_both f g xs))
