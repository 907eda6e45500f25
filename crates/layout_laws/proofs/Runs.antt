-- Lists of a width, one after another, over any width: read apart again, and a store in one of them. Over any list: a run of stores,
-- zeros, and words moved down.
use mathlib.Core.Path.{◌≡◌, refl, sym, ap, ap₂, ◌∙◌}
use mathlib.Core.List.{List, [], ◌∷◌, ◌++◌, map, append_assoc, append-nil}
use Prim.Native.Nat.{ℕ, zero, suc, ◌+◌, ◌*◌, ◌-◌, ◌≤◌, ◌<◌}
use native.Mathlib.Nat.{add-zero, add-suc, suc-add, mul-zero, mul-suc}
use native.Mathlib.Omega.{arith}
use lib.ListN.{length, get_or, set, take, drop, replicate, length-append, length-map, length-replicate, length-take, length-drop, replicate-append-replicate}
use lib.Seq.{sets, length-sets, length-take-le, set-append_left, set-set, set_comm, get_or-set_other, take_at, drop_at, take-suc, take-append-le, drop-append-le, drop-append-add}
use lib.IntN.{ℤ, pos}
use Rattle.rules.specs.Lists.{joined}
use Rattle.rules.specs.Layout.{runs}

-- ---- runs of stores, over any list

module _ {A : Type 0} where
  set_right : (xs ys : List A) (i : ℕ) (a : A) → set (xs ++ ys) (length xs + i) a ≡ xs ++ set ys i a
  set_right [] ys i a = ap (λ (n : ℕ). set ys n a) (omega arith)
  set_right (x ∷ xs) ys i a = ap (λ (n : ℕ). set (x ∷ xs ++ ys) n a) (suc-add (length xs) i) ∙ ap (λ (l : List A). x ∷ l) (set_right xs ys i a)

  pub sets_right : (vs xs ys : List A) (i : ℕ) → sets (xs ++ ys) (length xs + i) vs ≡ xs ++ sets ys i vs
  sets_right [] xs ys i = refl
  sets_right (v ∷ vs) xs ys i =
      ap (λ (l : List A). sets l (suc (length xs + i)) vs) (set_right xs ys i v)
      ∙ ap (λ (n : ℕ). sets (xs ++ set ys i v) n vs) (sym (add-suc (length xs) i))
      ∙ sets_right vs xs (set ys i v) (suc i)

  pub sets_left : (vs xs ys : List A) (i : ℕ) → i + length vs ≤ length xs → sets (xs ++ ys) i vs ≡ sets xs i vs ++ ys
  sets_left [] xs ys i h = refl
  sets_left (v ∷ vs) xs ys i h =
      ap (λ (l : List A). sets l (suc i) vs) (set-append_left xs ys i v (omega arith))
      ∙ sets_left vs (set xs i v) ys (suc i) (omega (arith, length-sets xs i (v ∷ [])))

  -- a run over the whole list
  pub sets_all : (xs vs : List A) → length vs ≡ length xs → sets xs 0 vs ≡ vs
  sets_all [] [] e = refl
  sets_all [] (v ∷ vs) e = absurd (omega arith)
  sets_all (x ∷ xs) [] e = absurd (omega arith)
  sets_all (x ∷ xs) (v ∷ vs) e = sets_right vs (v ∷ []) xs 0 ∙ ap (λ (l : List A). v ∷ l) (sets_all xs vs (omega arith))

  -- one run after the other
  pub sets_more : (vs us l : List A) (i : ℕ) → sets (sets l i vs) (i + length vs) us ≡ sets l i (vs ++ us)
  sets_more [] us l i = ap (λ (n : ℕ). sets l n us) (add-zero i)
  sets_more (v ∷ vs) us l i = ap (λ (n : ℕ). sets (sets (set l i v) (suc i) vs) n us) (omega arith) ∙ sets_more vs us (set l i v) (suc i)

  -- a run, one more of it
  pub sets_taken : (l vs : List A) (i j : ℕ) (d : A) → j < length vs → set (sets l i (take j vs)) (i + j) (get_or vs j d) ≡ sets l i (take (suc j) vs)
  sets_taken l vs i j d h =
      let size : j ≡ length (take j vs) = sym (length-take-le j vs (omega arith)) in
      ap (λ (n : ℕ). set (sets l i (take j vs)) (i + n) (get_or vs j d)) size
      ∙ sets_more (take j vs) (get_or vs j d ∷ []) l i
      ∙ ap (sets l i) (sym (take-suc vs j d h))

  -- a store before a run
  set_early : (vs l : List A) (i j : ℕ) (a : A) → j < i → set (sets l i vs) j a ≡ sets (set l j a) i vs
  set_early [] l i j a h = refl
  set_early (v ∷ vs) l i j a h =
      set_early vs (set l i v) (suc i) j a (omega arith) ∙ ap (λ (x : List A). sets x (suc i) vs) (set_comm l i j v a (λ e. omega arith))

  -- others over the first of a run
  pub sets_over : (us vs rest l : List A) (i : ℕ) → length us ≡ length vs → sets (sets l i (us ++ rest)) i vs ≡ sets l i (vs ++ rest)
  sets_over [] [] rest l i e = refl
  sets_over [] (v ∷ vs) rest l i e = absurd (omega arith)
  sets_over (u ∷ us) [] rest l i e = absurd (omega arith)
  sets_over (u ∷ us) (v ∷ vs) rest l i e =
      ap (λ (x : List A). sets x (suc i) vs)
      (set_early (us ++ rest) (set l i u) (suc i) i v (omega arith) ∙ ap (λ (x : List A). sets x (suc i) (us ++ rest)) (set-set l i u v))
      ∙ sets_over us vs rest (set l i v) (suc i) (omega arith)

  -- what stands after a run
  pub after_sets : (vs l : List A) (i j : ℕ) (d : A) → i + length vs ≤ j → get_or (sets l i vs) j d ≡ get_or l j d
  after_sets [] l i j d h = refl
  after_sets (v ∷ vs) l i j d h = after_sets vs (set l i v) (suc i) j d (omega arith) ∙ get_or-set_other l i j v d (λ e. omega arith)

-- ---- zeros

-- n words of zero
abbrev pub zeros : ℕ → List ℤ
zeros n = replicate n (pos 0)

pub take_zeros : (m n : ℕ) → m ≤ n → take m (zeros n) ≡ zeros m
take_zeros zero n h = refl
take_zeros (suc m) zero h = absurd (omega arith)
take_zeros (suc m) (suc n) h = ap (λ (r : List ℤ). pos 0 ∷ r) (take_zeros m n (omega arith))

-- words over the first of the zeros
pub over_zeros : (vs : List ℤ) (k : ℕ) → sets (zeros (length vs + k)) 0 vs ≡ vs ++ zeros k
over_zeros vs k =
    let n = length vs in
    ap (λ (r : List ℤ). sets r 0 vs) (sym (replicate-append-replicate n k (pos 0)))
    ∙ sets_left vs (zeros n) (zeros k) 0 (omega (arith, length-replicate n (pos 0)))
    ∙ ap (λ (r : List ℤ). r ++ zeros k) (sets_all (zeros n) vs (sym (length-replicate n (pos 0))))

-- ---- words moved down

-- the n words from a place on become those that stood so many after them, and as many after these become zero
abbrev pub shifted : List ℤ → ℕ → ℕ → ℕ → List ℤ
shifted ws at by n = sets ws at (take n (drop (at + by) ws) ++ zeros by)

pub length_shifted : (ws : List ℤ) (at by n : ℕ) → length (shifted ws at by n) ≡ length ws
length_shifted ws at by n = length-sets ws at (take n (drop (at + by) ws) ++ zeros by)

-- in two runs: the words up to a place, and then the zeros from there on
pub shifted_twice : (ws : List ℤ) (at to by : ℕ) → at ≤ to → to + by ≤ length ws
    → sets (sets ws at (take (to - at) (drop (at + by) ws))) to (zeros (to + by - to)) ≡ shifted ws at by (to - at)
shifted_twice ws at to by low high =
    let part = take (to - at) (drop (at + by) ws) in
    let after : to ≡ at + length part = omega (arith, length-take (to - at) (drop (at + by) ws), length-drop (at + by) ws) in
    let many : to + by - to ≡ by = omega arith in
    ap₂ (λ (i n : ℕ). sets (sets ws at part) i (zeros n)) after many ∙ sets_more part (zeros by) ws at

pub shifted_right : (xs ys : List ℤ) (i by n : ℕ) → shifted (xs ++ ys) (length xs + i) by n ≡ xs ++ shifted ys i by n
shifted_right xs ys i by n =
    let next : length xs + i + by ≡ length xs + (i + by) = omega arith in
    ap (λ (r : List ℤ). sets (xs ++ ys) (length xs + i) (take n r ++ zeros by))
    (ap (λ (a : ℕ). drop a (xs ++ ys)) next ∙ drop-append-add xs ys (i + by))
    ∙ sets_right (take n (drop (i + by) ys) ++ zeros by) xs ys i

-- ---- lists of one width

abbrev pub Wide : ℕ → List (List ℤ) → Type 0
Wide k [] = Unit {0}
Wide k (l ∷ ls) = (length l ≡ k) × Wide k ls

-- the widths of its members
pub wide_at_lem : (k : ℕ) (ls : List (List ℤ)) (m : ℕ) → Wide k ls → m < length ls → length (get_or ls m []) ≡ k
wide_at_lem k [] m w h = absurd (omega arith)
wide_at_lem k (l ∷ ls) zero w h = w.0
wide_at_lem k (l ∷ ls) (suc m) w h = wide_at_lem k ls m w.1 (omega arith)

pub wide_set : (k : ℕ) (ls : List (List ℤ)) (m : ℕ) (x : List ℤ) → Wide k ls → length x ≡ k → Wide k (set ls m x)
wide_set k [] m x w e = tt
wide_set k (l ∷ ls) zero x w e = (e, w.1)
wide_set k (l ∷ ls) (suc m) x w e = (w.0, wide_set k ls m x w.1 e)

module _ (k : ℕ) where
  pub length_joined : (ls : List (List ℤ)) → Wide k ls → length (joined ls) ≡ k * length ls
  unfolding joined
  length_joined [] w = sym (mul-zero k)
  length_joined (l ∷ ls) w = omega (arith, length-append l (joined ls), length_joined ls w.1, w.0, mul-suc k (length ls))

  -- read apart again, whatever follows
  pub runs_joined : (ls : List (List ℤ)) → Wide k ls → (zs : List ℤ) → runs k (length ls) (joined ls ++ zs) ≡ ls
  unfolding runs joined
  runs_joined [] w zs = refl
  runs_joined (l ∷ ls) w zs =
      let e = append_assoc l (joined ls) zs in
      ap₂ (λ (a : List ℤ) (b : List (List ℤ)). a ∷ b)
      (ap (take k) e ∙ take_at l (joined ls ++ zs) k w.0)
      (ap (runs k (length ls)) (ap (drop k) e ∙ drop_at l (joined ls ++ zs) k w.0) ∙ runs_joined ls w.1 zs)

  pub take_runs : (m n : ℕ) (ws : List ℤ) → m ≤ n → take m (runs k n ws) ≡ runs k m ws
  unfolding runs
  take_runs zero n ws h = refl
  take_runs (suc m) zero ws h = absurd (omega arith)
  take_runs (suc m) (suc n) ws h = ap (λ (ls : List (List ℤ)). take k ws ∷ ls) (take_runs m n (drop k ws) (omega arith))

  -- a run of stores within one of them
  pub sets_joined : (ls : List (List ℤ)) → Wide k ls → (m j : ℕ) (vs : List ℤ) → m < length ls → j + length vs ≤ k
      → sets (joined ls) (k * m + j) vs ≡ joined (set ls m (sets (get_or ls m []) j vs))
  unfolding joined
  sets_joined [] w m j vs h l = absurd (omega arith)
  sets_joined (x ∷ ls) w zero j vs h l =
      ap (λ (n : ℕ). sets (x ++ joined ls) n vs) (omega (arith, mul-zero k)) ∙ sets_left vs x (joined ls) j (omega (arith, w.0))
  sets_joined (x ∷ ls) w (suc m) j vs h l =
      ap (λ (n : ℕ). sets (x ++ joined ls) n vs) (omega (arith, mul-suc k m, w.0))
      ∙ sets_right vs x (joined ls) (k * m + j)
      ∙ ap (λ (r : List ℤ). x ++ r) (sets_joined ls w.1 m j vs (omega arith) l)

  -- a part of one of them
  pub part_joined : (ls : List (List ℤ)) → Wide k ls → (m j n : ℕ) → m < length ls → j + n ≤ k
      → take n (drop (k * m + j) (joined ls)) ≡ take n (drop j (get_or ls m []))
  unfolding joined
  part_joined [] w m j n h l = absurd (omega arith)
  part_joined (x ∷ ls) w zero j n h l =
      let here : k * 0 + j ≡ j = omega (arith, mul-zero k) in
      ap (λ (i : ℕ). take n (drop i (x ++ joined ls))) here
      ∙ ap (take n) (drop-append-le j x (joined ls) (omega (arith, w.0)))
      ∙ take-append-le n (drop j x) (joined ls) (omega (arith, length-drop j x, w.0))
  part_joined (x ∷ ls) w (suc m) j n h l =
      let here : k * suc m + j ≡ length x + (k * m + j) = omega (arith, mul-suc k m, w.0) in
      ap (λ (i : ℕ). take n (drop i (x ++ joined ls))) here
      ∙ ap (take n) (drop-append-add x (joined ls) (k * m + j))
      ∙ part_joined ls w.1 m j n (omega arith) l

-- things written as lists of one width
module _ {A : Type 0} (k : ℕ) (f : A → List ℤ) (wide : (x : A) → length (f x) ≡ k) where
  pub map_wide : (xs : List A) → Wide k (map f xs)
  map_wide [] = tt
  map_wide (x ∷ xs) = (wide x, map_wide xs)

  pub length_parts : (xs : List A) → length (joined (map f xs)) ≡ k * length xs
  length_parts xs = length_joined k (map f xs) (map_wide xs) ∙ ap (λ (n : ℕ). k * n) (length-map xs f)

pub map_set : {A B : Type 0} (f : A → B) (xs : List A) (i : ℕ) (y : A) → set (map f xs) i (f y) ≡ map f (set xs i y)
map_set f [] i y = refl
map_set f (x ∷ xs) zero y = refl
map_set {B = B} f (x ∷ xs) (suc i) y = ap (λ (l : List B). f x ∷ l) (map_set f xs i y)

pub joined_snoc : (ls : List (List ℤ)) (l : List ℤ) → joined (ls ++ l ∷ []) ≡ joined ls ++ l
unfolding joined
joined_snoc [] l = append-nil l
joined_snoc (x ∷ ls) l = ap (λ (r : List ℤ). x ++ r) (joined_snoc ls l) ∙ sym (append_assoc x (joined ls) l)
