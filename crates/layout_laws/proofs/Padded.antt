-- Things written as lists of one width into a run of places, with zeros in the places after them: over any things, any width and any number
-- of places. What is written and the zeros are two parts of known lengths, so a store lies in one of them, or goes over the first zeros.
use mathlib.Core.Path.{◌≡◌, sym, ap, ap₂, ◌∙◌}
use mathlib.Core.List.{List, [], ◌∷◌, ◌++◌, map, map-append, append_assoc}
use Prim.Native.Nat.{ℕ, zero, suc, ◌+◌, ◌*◌, ◌-◌, ◌≤◌, ◌<◌}
use native.Mathlib.Nat.{mul-zero, mul-suc, mul_comm, mul-add}
use native.Mathlib.Omega.{arith}
use lib.ListN.{length, get_or, set, take, drop, length-append, length-take, length-map, length-set, length-replicate, replicate-append-replicate}
use lib.Seq.{sets, take_at, drop_at, take-append-add}
use lib.IntN.{ℤ, pos}
use Rattle.rules.specs.Lists.{joined, without}
use Rattle.rules.specs.Layout.{padded, runs}
use Rattle.rules_laws.proofs.Parts.{length_without}
use Rattle.layout_laws.proofs.Runs.{zeros, take_zeros, over_zeros, wide_at_lem, map_wide, map_set, length_parts, joined_snoc, runs_joined}
use Rattle.layout_laws.proofs.Runs.{take_runs, shifted, shifted_right, sets_right, sets_left, sets_all, sets_joined}

-- a place of so many ends before all of them do
place_inside : (k i n : ℕ) → i < n → k * i + k ≤ k * n
place_inside k i n h =
    let e : n ≡ suc i + (n - suc i) = omega arith in
    omega (arith, mul-suc k i, ap (λ (j : ℕ). k * j) e, mul-add k (suc i) (n - suc i))

-- one place fewer
place_less : (k m n : ℕ) → n < m → k * (m - n) ≡ k + k * (m - suc n)
place_less k m n h =
    let e : m - n ≡ suc (m - suc n) = omega arith in
    omega (arith, ap (λ (j : ℕ). k * j) e, mul-suc k (m - suc n))

module _ {A : Type 0} (k m : ℕ) (f : A → List ℤ) (wide : (x : A) → length (f x) ≡ k) where
  -- the words of m places, the first of which the xs have
  abbrev pub placed : List A → List ℤ
  placed xs = padded (m * k) (joined (map f xs))

  -- how many words the other places have
  abbrev pub unplaced : List A → ℕ
  unplaced xs = k * (m - length xs)

  all_places : (n : ℕ) → n ≤ m → m * k ≡ k * n + k * (m - n)
  all_places n h =
      let e : m ≡ n + (m - n) = omega arith in
      mul_comm m k ∙ ap (λ (j : ℕ). k * j) e ∙ mul-add k n (m - n)

  pub placed_size : (xs : List A) → length (placed xs) ≡ m * k
  unfolding padded
  placed_size xs =
      let ws = joined (map f xs) in
      omega (arith, length-take (m * k) (ws ++ zeros (m * k)), length-append ws (zeros (m * k)), length-replicate (m * k) (pos 0))

  -- the words written, and zeros after them
  pub placed_is : (xs : List A) → length xs ≤ m → placed xs ≡ joined (map f xs) ++ zeros (unplaced xs)
  unfolding padded
  placed_is xs h =
      let ws = joined (map f xs) in
      let e : m * k ≡ length ws + unplaced xs = all_places (length xs) h ∙ ap (λ (n : ℕ). n + unplaced xs) (sym (length_parts k f wide xs)) in
      ap (λ (n : ℕ). take n (ws ++ zeros (m * k))) e
      ∙ take-append-add ws (zeros (m * k)) (unplaced xs)
      ∙ ap (λ (r : List ℤ). ws ++ r) (take_zeros (unplaced xs) (m * k) (omega (arith, e)))

  -- read apart again
  pub placed_back : (xs : List A) → length xs ≤ m → take (length xs) (runs k m (placed xs)) ≡ map f xs
  placed_back xs h =
      let ls = map f xs in
      take_runs k (length xs) m (placed xs) h
      ∙ ap (runs k (length xs)) (placed_is xs h)
      ∙ ap (λ (n : ℕ). runs k n (joined ls ++ zeros (unplaced xs))) (sym (length-map xs f))
      ∙ runs_joined k ls (map_wide k f wide xs) (zeros (unplaced xs))

  -- another in the place of one of them
  pub placed_again : (xs : List A) (i : ℕ) (x : A) → i < length xs → length xs ≤ m → sets (placed xs) (k * i) (f x) ≡ placed (set xs i x)
  placed_again xs i x h few =
      let ls = map f xs in
      let vs = f x in
      let all = map_wide k f wide xs in
      let there : i < length ls = omega (arith, length-map xs f) in
      let same : length vs ≡ length (get_or ls i []) = wide x ∙ sym (wide_at_lem k ls i all there) in
      let here : k * i ≡ k * i + 0 = omega arith in
      let fits : k * i + length vs ≤ length (joined ls) = omega (arith, length_parts k f wide xs, wide x, place_inside k i (length xs) h) in
      ap (λ (r : List ℤ). sets r (k * i) vs) (placed_is xs few)
      ∙ sets_left vs (joined ls) (zeros (unplaced xs)) (k * i) fits
      ∙ ap (λ (r : List ℤ). r ++ zeros (unplaced xs))
      (ap (λ (n : ℕ). sets (joined ls) n vs) here
      ∙ sets_joined k ls all i 0 vs there (omega (arith, wide x))
      ∙ ap (λ (y : List ℤ). joined (set ls i y)) (sets_all (get_or ls i []) vs same)
      ∙ ap joined (map_set f xs i x))
      ∙ ap (λ (n : ℕ). joined (map f (set xs i x)) ++ zeros (k * (m - n))) (sym (length-set xs i x))
      ∙ sym (placed_is (set xs i x) (omega (arith, length-set xs i x)))

  -- one more after the last
  pub placed_more : (xs : List A) (x : A) → length xs < m → sets (placed xs) (k * length xs) (f x) ≡ placed (xs ++ x ∷ [])
  placed_more xs x h =
      let ws = joined (map f xs) in
      let vs = f x in
      let left = unplaced (xs ++ x ∷ []) in
      let long : length (xs ++ x ∷ []) ≡ suc (length xs) = omega (arith, length-append xs (x ∷ [])) in
      let more : unplaced xs ≡ length vs + left =
      place_less k m (length xs) h ∙ ap₂ (λ (a n : ℕ). a + k * (m - n)) (sym (wide x)) (sym long) in
      let here : k * length xs ≡ length ws + 0 = omega (arith, length_parts k f wide xs) in
      ap₂ (λ (r : List ℤ) (a : ℕ). sets r a vs) (placed_is xs (omega arith) ∙ ap (λ (n : ℕ). ws ++ zeros n) more) here
      ∙ sets_right vs ws (zeros (length vs + left)) 0
      ∙ ap (λ (r : List ℤ). ws ++ r) (over_zeros vs left)
      ∙ sym (append_assoc ws vs (zeros left))
      ∙ ap (λ (r : List ℤ). r ++ zeros left) (sym (joined_snoc (map f xs) vs) ∙ ap joined (sym (map-append f xs (x ∷ []))))
      ∙ sym (placed_is (xs ++ x ∷ []) (omega (arith, long)))

  -- the words of the n that are after place i go down by a place, whatever follows them
  closed_up : (xs : List A) (i n : ℕ) (zs : List ℤ) → length xs ≡ i + suc n
      → shifted (joined (map f xs) ++ zs) (k * i) k (k * n) ≡ joined (map f (without i xs)) ++ (zeros k ++ zs)
  unfolding joined without
  closed_up [] i n zs h = absurd (omega arith)
  closed_up (x ∷ xs) zero n zs h =
      let js = joined (map f xs) in
      let first : k * 0 ≡ 0 = mul-zero k in
      let second : k * 0 + k ≡ k = omega (arith, first) in
      let many : length xs ≡ n = omega arith in
      let size : length js ≡ k * n = length_parts k f wide xs ∙ ap (λ (j : ℕ). k * j) many in
      let all : length (js ++ zeros k) ≡ length (f x ++ js) =
      omega (arith, length-append js (zeros k), length-append (f x) js, wide x, length-replicate k (pos 0)) in
      let later : drop (k * 0 + k) ((f x ++ js) ++ zs) ≡ js ++ zs =
      ap₂ (λ (a : ℕ) (r : List ℤ). drop a r) second (append_assoc (f x) js zs) ∙ drop_at (f x) (js ++ zs) k (wide x) in
      ap₂ (λ (a : ℕ) (r : List ℤ). sets ((f x ++ js) ++ zs) a (r ++ zeros k)) first (ap (take (k * n)) later ∙ take_at js zs (k * n) size)
      ∙ sets_left (js ++ zeros k) (f x ++ js) zs 0 (omega (arith, all))
      ∙ ap (λ (r : List ℤ). r ++ zs) (sets_all (f x ++ js) (js ++ zeros k) all)
      ∙ append_assoc js (zeros k) zs
  closed_up (x ∷ xs) (suc i) n zs h =
      let js = joined (map f xs) in
      let here : k * suc i ≡ length (f x) + k * i = omega (arith, wide x, mul-suc k i) in
      ap₂ (λ (ws : List ℤ) (a : ℕ). shifted ws a k (k * n)) (append_assoc (f x) js zs) here
      ∙ shifted_right (f x) (js ++ zs) (k * i) k (k * n)
      ∙ ap (λ (r : List ℤ). f x ++ r) (closed_up xs i n zs (omega arith))
      ∙ sym (append_assoc (f x) (joined (map f (without i xs))) (zeros k ++ zs))

  -- one of them taken out: the words of the n after it go down by a place
  pub placed_less : (xs : List A) (i n : ℕ) → length xs ≡ i + suc n → length xs ≤ m → shifted (placed xs) (k * i) k (k * n) ≡ placed (without i xs)
  placed_less xs i n h few =
      let rest = without i xs in
      let long = length_without xs i (omega arith) in
      let more : k + unplaced xs ≡ unplaced rest =
      sym (place_less k m (length rest) (omega (arith, long)) ∙ ap (λ (j : ℕ). k + k * (m - j)) long) in
      ap (λ (ws : List ℤ). shifted ws (k * i) k (k * n)) (placed_is xs few)
      ∙ closed_up xs i n (zeros (unplaced xs)) h
      ∙ ap (λ (r : List ℤ). joined (map f rest) ++ r) (replicate-append-replicate k (unplaced xs) (pos 0) ∙ ap zeros more)
      ∙ sym (placed_is rest (omega (arith, long)))
