-- What is at the places of a list, and what is true of each member. All of it is by induction on the list, a place at a time.
use mathlib.Core.Path.{◌≡◌, refl, sym, ap, ap₂, subst, ◌∙◌}
use mathlib.Core.List.Memᴰ
use mathlib.Core.List.{List, [], ◌∷◌, ◌++◌, map, Memᴰ}
use Prim.Native.Nat.{ℕ, zero, suc, ◌+◌, ◌-◌, ◌≤◌, ◌<◌}
use native.Mathlib.Omega.{arith}
use lib.ListN.{length, get_or, replicate}
use Rattle.rules.specs.Lists.{without, up_from}

module _ {A : Type 0} where
  -- x is a member
  abbrev pub Among : A → List A → Type 0
  Among x xs = Memᴰ x xs

  -- what is at a place is a member, and a member is at a place
  pub at_place : (xs : List A) (k : ℕ) (d : A) → k < length xs → Among (get_or xs k d) xs
  at_place [] k d h = absurd (omega arith)
  at_place (x ∷ xs) zero d h = Memᴰ.head refl
  at_place (x ∷ xs) (suc k) d h = Memᴰ.tail (at_place xs k d (omega arith))

  pub place_of_lem : {x : A} {xs : List A} → Among x xs → (k : ℕ) × (k < length xs) × ((d : A) → get_or xs k d ≡ x)
  place_of_lem (Memᴰ.head e) = (0, omega arith, λ d. sym e)
  place_of_lem (Memᴰ.tail m) = let p = place_of_lem m in (suc p.0, omega (arith, p.1), p.2)

  pub get_d_any : (xs : List A) (k : ℕ) (d e : A) → k < length xs → get_or xs k d ≡ get_or xs k e
  get_d_any [] k d e h = absurd (omega arith)
  get_d_any (x ∷ xs) zero d e h = refl
  get_d_any (x ∷ xs) (suc k) d e h = get_d_any xs k d e (omega arith)

  -- one thing at every place, and read after the last as well
  pub get_d_alike : (n k : ℕ) (a : A) → get_or (replicate n a) k a ≡ a
  get_d_alike zero k a = refl
  get_d_alike (suc n) zero a = refl
  get_d_alike (suc n) (suc k) a = get_d_alike n k a

  pub nothing : (xs : List A) → length xs ≡ 0 → xs ≡ []
  nothing [] h = refl
  nothing (x ∷ xs) h = absurd (omega arith)

-- two functions that agree on the members
pub map_same : {A B : Type 0} (f g : A → B) (xs : List A) → ((x : A) → Among x xs → f x ≡ g x) → map f xs ≡ map g xs
map_same f g [] h = refl
map_same {B} f g (x ∷ xs) h = ap₂ (λ (y : B) (ys : List B). y ∷ ys) (h x (Memᴰ.head refl)) (map_same f g xs (λ y m. h y (Memᴰ.tail m)))

-- ---- the numbers from i on

pub length_up_from : (i n : ℕ) → length (up_from i n) ≡ n
unfolding up_from
length_up_from i zero = refl
length_up_from i (suc n) = ap suc (length_up_from (suc i) n)

pub get_d_up_from : (i n k d : ℕ) → k < n → get_or (up_from i n) k d ≡ i + k
unfolding up_from
get_d_up_from i zero k d h = absurd (omega arith)
get_d_up_from i (suc n) zero d h = omega arith
get_d_up_from i (suc n) (suc k) d h = get_d_up_from (suc i) n k d (omega arith) ∙ omega arith

pub up_from_among : (i n k : ℕ) → i ≤ k → k < i + n → Among k (up_from i n)
up_from_among i n k a b =
    let h : k - i < n = omega arith in
    Memᴰ.cast (omega (arith, get_d_up_from i n (k - i) 0 h)) (at_place (up_from i n) (k - i) 0 (rw length_up_from h))

pub map_next : {A : Type 0} (f : ℕ → A) (i n : ℕ) → map f (up_from (suc i) n) ≡ map (λ k. f (suc k)) (up_from i n)
unfolding up_from
map_next f i zero = refl
map_next {A} f i (suc n) = ap (λ (l : List A). f (suc i) ∷ l) (map_next f (suc i) n)

-- a list is what is at its places
pub map_up_from : {A : Type 0} (d : A) (xs : List A) → map (λ i. get_or xs i d) (up_from 0 (length xs)) ≡ xs
unfolding up_from
map_up_from d [] = refl
map_up_from {A} d (x ∷ xs) = ap (λ (l : List A). x ∷ l) (map_next (λ i. get_or (x ∷ xs) i d) 0 (length xs) ∙ map_up_from d xs)

-- ---- each member, and each pair of members

module _ {A : Type 0} (P : A → Type 0) where
  abbrev pub Each : List A → Type 0
  Each [] = Unit {0}
  Each (x ∷ xs) = P x × Each xs

  pub each_append : (xs ys : List A) → Each xs → Each ys → Each (xs ++ ys)
  each_append [] ys a b = b
  each_append (x ∷ xs) ys a b = (a.0, each_append xs ys a.1 b)

  pub each_without : (xs : List A) (k : ℕ) → Each xs → Each (without k xs)
  unfolding without
  each_without [] k a = a
  each_without (x ∷ xs) zero a = a.1
  each_without (x ∷ xs) (suc k) a = (a.0, each_without xs k a.1)

  pub each_at : (xs : List A) (k : ℕ) (d : A) → k < length xs → Each xs → P (get_or xs k d)
  each_at [] k d h a = absurd (omega arith)
  each_at (x ∷ xs) zero d h a = a.0
  each_at (x ∷ xs) (suc k) d h a = each_at xs k d (omega arith) a.1

pub each_also : {A : Type 0} (P Q : A → Type 0) → ((x : A) → P x → Q x) → (xs : List A) → Each P xs → Each Q xs
each_also P Q f [] a = tt
each_also P Q f (x ∷ xs) a = (f x a.0, each_also P Q f xs a.1)

pub each_of : {A : Type 0} (P : A → Type 0) {x : A} {xs : List A} → Each P xs → Among x xs → P x
each_of {A = A} P {xs = []} a x6 = elim x6 [ ]
each_of P {xs = y ∷ ys} a (Memᴰ.head e) = subst P (sym e) a.0
each_of P {xs = y ∷ ys} a (Memᴰ.tail m) = each_of P a.1 m

pub each_among : {A : Type 0} (P : A → Type 0) (xs : List A) → ((x : A) → Among x xs → P x) → Each P xs
each_among P [] h = tt
each_among P (x ∷ xs) h = (h x (Memᴰ.head refl), each_among P xs (λ y m. h y (Memᴰ.tail m)))

pub each_up_from : {A : Type 0} (P : A → Type 0) (f : ℕ → A) (i n : ℕ) → ((k : ℕ) → i ≤ k → k < i + n → P (f k)) → Each P (map f (up_from i n))
unfolding up_from
each_up_from P f i zero h = tt
each_up_from P f i (suc n) h = (h i (omega arith) (omega arith), each_up_from P f (suc i) n (λ k a b. h k (omega arith) (omega arith)))

-- each earlier member is so to each later one
module _ {A : Type 0} (R : A → A → Type 0) where
  abbrev pub Ordered : List A → Type 0
  Ordered [] = Unit {0}
  Ordered (x ∷ xs) = Each (R x) xs × Ordered xs

  pub ordered_append : (xs ys : List A) → Ordered xs → Ordered ys → Each (λ x. Each (R x) ys) xs → Ordered (xs ++ ys)
  ordered_append [] ys a b c = b
  ordered_append (x ∷ xs) ys a b c = (each_append (R x) xs ys a.0 c.0, ordered_append xs ys a.1 b c.1)

  pub ordered_at : ((x : A) → R x x) → (xs : List A) (k m : ℕ) (d : A) → k ≤ m → m < length xs → Ordered xs → R (get_or xs k d) (get_or xs m d)
  ordered_at r [] k m d h l a = absurd (omega arith)
  ordered_at r (x ∷ xs) zero zero d h l a = r x
  ordered_at r (x ∷ xs) zero (suc m) d h l a = each_at (R x) xs m d (omega arith) a.0
  ordered_at r (x ∷ xs) (suc k) zero d h l a = absurd (omega arith)
  ordered_at r (x ∷ xs) (suc k) (suc m) d h l a = ordered_at r xs k m d (omega arith) (omega arith) a.1

  pub ordered_up_from : (f : ℕ → A) (i n : ℕ) → ((j k : ℕ) → i ≤ j → j < k → k < i + n → R (f j) (f k)) → Ordered (map f (up_from i n))
  unfolding up_from
  ordered_up_from f i zero h = tt
  ordered_up_from f i (suc n) h = (
    each_up_from (R (f i)) f (suc i) n (λ k a b. h i k (omega arith) (omega arith) (omega arith)),
    ordered_up_from f (suc i) n (λ j k a b c. h j k (omega arith) (omega arith) (omega arith)),
  )
