-- Where words stand in a list is asked a word at a time, or a part at a time: of two parts, one after the other, each where it begins.
use mathlib.Core.Path.{◌≡◌, refl, sym, ap, ap₂, ◌∙◌}
use mathlib.Core.Bool.{Bool, true, ◌&&◌, and_assoc, and-true}
use mathlib.Core.List.{List, [], ◌∷◌, ◌++◌, map}
use Prim.Native.Nat.{ℕ, zero, suc, ◌+◌, ◌*◌, ◌-◌, ◌≤◌, ◌<◌, min}
use native.Mathlib.Nat.{mul-zero, mul-suc, mul-le-mul_left}
use native.Mathlib.Numerals.{add-one}
use native.Mathlib.Omega.{arith}
use native.Mathlib.Decide.{dec_le}
use lib.Dec.{leb, leb-zero}
use lib.ListN.{length, get_or, take, drop, drop_of_length-le, length-replicate, replicate-append-replicate}
use lib.Seq.{drop-cons, take-length}
use lib.IntN.{ℤ, pos, negsuc}
use lib.Signed.{le_z}
use mir.Syntax.{w32}
use mir.Val.{SFits, to_z, of_z}
use mir.Facts.{to_z-of_z}
use borrow.Author.Tests.{le-leb, lt-leb}
use Rattle.rules.specs.Lists.{joined, same}
use Rattle.rules.specs.Layout.{natural, word_at, same_words}
use Rattle.rules_laws.proofs.Bools.{and_both, go_on}
use Rattle.pool.specs.Standing.{stand}
use Rattle.layout_laws.proofs.Runs.{zeros}

-- ---- a word at a time

pub stand_none : (w : List ℤ) (at : ℕ) → stand [] w at ≡ true
unfolding stand same_words
stand_none w at = refl

pub stand_cons : (v : ℤ) (vs w : List ℤ) (at : ℕ) → at < length w → stand (v ∷ vs) w at ≡ (same v (word_at w at) && stand vs w (at + 1))
unfolding stand same_words word_at
stand_cons v vs w at h = rw (add-one at, drop-cons w at (pos 0) h)

-- a part at a time
pub stand_append : (xs ys w : List ℤ) (at : ℕ) → at + length xs ≤ length w → stand (xs ++ ys) w at ≡ (stand xs w at && stand ys w (at + length xs))
stand_append [] ys w at h = rw (stand_none w at) (ap (stand ys w) (omega arith))
stand_append (x ∷ xs) ys w at h =
    let l : at < length w = omega arith in
    let e : at + 1 + length xs ≡ at + suc (length xs) = omega arith in
    stand_cons x (xs ++ ys) w at l
    ∙ ap (λ (b : Bool). same x (word_at w at) && b) (stand_append xs ys w (at + 1) (omega arith) ∙ ap (λ (k : ℕ). stand xs w (at + 1) && stand ys w k) e)
    ∙ sym (and_assoc (same x (word_at w at)) (stand xs w (at + 1)) (stand ys w (at + suc (length xs))))
    ∙ ap (λ (b : Bool). b && stand ys w (at + suc (length xs))) (sym (stand_cons x xs w at l))

pub stand_all : (vs w : List ℤ) → length vs ≡ length w → stand vs w 0 ≡ same_words vs w
unfolding stand
stand_all vs w e = ap (λ (n : ℕ). same_words vs (take n w)) e ∙ ap (same_words vs) (take-length w)

-- ---- zeros

-- one word more
pub zeros_next : (xs : List ℤ) (i : ℕ) → i < length xs
    → same_words (zeros (suc i)) (take (suc i) xs) ≡ (same_words (zeros i) (take i xs) && same (pos 0) (get_or xs i (pos 0)))
unfolding same_words
zeros_next [] i h = absurd (omega arith)
zeros_next (x ∷ xs) zero h = and-true (same (pos 0) x)
zeros_next (x ∷ xs) (suc i) h =
    ap (λ (b : Bool). same (pos 0) x && b) (zeros_next xs i (omega arith))
    ∙ sym (and_assoc (same (pos 0) x) (same_words (zeros i) (take i xs)) (same (pos 0) (get_or xs i (pos 0))))

-- .. of one width, one after another: those from the i-th of m on
module _ (k : ℕ) (w : List ℤ) (a m i : ℕ) where
  pub widths_more : i < m → a + k * i + k ≤ length w
      → stand (zeros (k * (m - i))) w (a + k * i) ≡ (stand (zeros k) w (a + k * i) && stand (zeros (k * (m - (i + 1)))) w (a + k * (i + 1)))
  widths_more h l =
      let left : m - i ≡ suc (m - (i + 1)) = omega arith in
      let rest = k * (m - (i + 1)) in
      let all : k * (m - i) ≡ k + rest = omega (arith, ap (λ (n : ℕ). k * n) left, mul-suc k (m - (i + 1))) in
      let size : length (zeros k) ≡ k = length-replicate k (pos 0) in
      let next : a + k * i + length (zeros k) ≡ a + k * (i + 1) = omega (arith, ap (λ (n : ℕ). k * n) (add-one i), mul-suc k i) in
      ap (λ (vs : List ℤ). stand vs w (a + k * i)) (ap zeros all ∙ sym (replicate-append-replicate k rest (pos 0)))
      ∙ stand_append (zeros k) (zeros rest) w (a + k * i) (omega arith)
      ∙ ap (λ (n : ℕ). stand (zeros k) w (a + k * i) && stand (zeros rest) w n) next

  pub widths_end : m ≤ i → stand (zeros (k * (m - i))) w (a + k * i) ≡ true
  widths_end h =
      let none : m - i ≡ 0 = omega arith in
      ap (λ (n : ℕ). stand (zeros n) w (a + k * i)) (ap (λ (n : ℕ). k * n) none ∙ mul-zero k) ∙ stand_none w (a + k * i)

-- ---- parts of one width

module _ {A : Type 0} (k : ℕ) (f : A → List ℤ) (wide : (x : A) → length (f x) ≡ k) where
  head_part : (w : List ℤ) (at : ℕ) (x : A) (ys : List A) → at + length (f x) ≤ length w
      → stand (joined (map f (x ∷ ys))) w at ≡ (stand (f x) w at && stand (joined (map f ys)) w (at + length (f x)))
  unfolding joined
  head_part w at x ys l = stand_append (f x) (joined (map f ys)) w at l

  none_part : (w : List ℤ) (at : ℕ) → stand (joined (map f [])) w at ≡ true
  unfolding joined
  none_part w at = stand_none w at

  module _ (w : List ℤ) (a : ℕ) (d : A) (xs : List A) (i : ℕ) where
    module _ (h : i < length xs) (l : a + k * i + k ≤ length w) where
      pub parts_more : stand (joined (map f (drop i xs))) w (a + k * i)
          ≡ (stand (f (get_or xs i d)) w (a + k * i) && stand (joined (map f (drop (i + 1) xs))) w (a + k * (i + 1)))
      parts_more =
          let x = get_or xs i d in
          ap (λ (zs : List A). stand (joined (map f zs)) w (a + k * i)) (drop-cons xs i d h)
          ∙ head_part w (a + k * i) x (drop (suc i) xs) (omega (arith, wide x))
          ∙ ap₂ (λ (m n : ℕ). stand (f x) w (a + k * i) && stand (joined (map f (drop m xs))) w n) (sym (add-one i)) (next k i (length (f x)) (wide x))
        where
          next : (k i n : ℕ) → n ≡ k → a + k * i + n ≡ a + k * (i + 1)
          next k i n e = omega (arith, add-one i, ap (λ (m : ℕ). k * m) (add-one i), mul-suc k i)

      pub parts_on : stand (f (get_or xs i d)) w (a + k * i) ≡ true → stand (joined (map f (drop i xs))) w (a + k * i) ≡ stand (joined (map f (drop (i + 1) xs))) w (a + k * (i + 1))
      parts_on e = parts_more ∙ go_on _ _ e

    pub parts_end : length xs ≤ i → stand (joined (map f (drop i xs))) w (a + k * i) ≡ true
    parts_end h = ap (λ (zs : List A). stand (joined (map f zs)) w (a + k * i)) (drop_of_length-le xs {i = i} h) ∙ none_part w (a + k * i)

  -- the parts stand where each does
  module _ (w : List ℤ) (a : ℕ) (d : A) (xs : List A) (l : a + k * length xs ≤ length w) where
    part_fits : (i : ℕ) → i < length xs → a + k * i + k ≤ length w
    part_fits i h = omega (arith, l, mul-suc k i, mul-le-mul_left k h)

    parts_from : (m i : ℕ) → i + m ≡ length xs → ((j : ℕ) → j < length xs → stand (f (get_or xs j d)) w (a + k * j) ≡ true)
        → stand (joined (map f (drop i xs))) w (a + k * i) ≡ true
    parts_from zero i e each = parts_end w a d xs i (omega arith)
    parts_from (suc m) i e each =
        parts_on w a d xs i (omega arith) (part_fits i (omega arith)) (each i (omega arith)) ∙ parts_from m (i + 1) (omega arith) each

    pub parts_all : ((j : ℕ) → j < length xs → stand (f (get_or xs j d)) w (a + k * j) ≡ true) → stand (joined (map f xs)) w a ≡ true
    parts_all each = ap (stand (joined (map f xs)) w) (omega arith) ∙ parts_from (length xs) 0 (omega arith) each

    two_parts : (i : ℕ) → i < length xs → stand (joined (map f (drop i xs))) w (a + k * i) ≡ true
        → (stand (f (get_or xs i d)) w (a + k * i) ≡ true) × (stand (joined (map f (drop (i + 1) xs))) w (a + k * (i + 1)) ≡ true)
    two_parts i h e =
        and_both (stand (f (get_or xs i d)) w (a + k * i)) (stand (joined (map f (drop (i + 1) xs))) w (a + k * (i + 1)))
        (sym (parts_more w a d xs i h (part_fits i h)) ∙ e)

    parts_left : stand (joined (map f xs)) w a ≡ true → (i : ℕ) → i ≤ length xs → stand (joined (map f (drop i xs))) w (a + k * i) ≡ true
    parts_left all zero h = ap (stand (joined (map f xs)) w) (omega arith) ∙ all
    parts_left all (suc i) h = rw (add-one i) at (two_parts i h (parts_left all i (omega arith))).1

    pub parts_each : stand (joined (map f xs)) w a ≡ true → (i : ℕ) → i < length xs → stand (f (get_or xs i d)) w (a + k * i) ≡ true
    parts_each all i h = (two_parts i h (parts_left all i (omega arith))).0

-- ---- a word read and written again

pub same_self : (z : ℤ) → same z z ≡ true
unfolding same
same_self (pos n) = rw (le-leb n n (omega arith))
same_self (negsuc n) = rw (le-leb n n (omega arith))

-- a word that one function gives and another takes is zero as it was
pub given_zero : {z : ℤ} {b : Bool} → SFits w32 z → same (pos 0) z ≡ b → same (pos 0) (to_z w32 (of_z w32 z)) ≡ b
given_zero f e = ap (same (pos 0)) (to_z-of_z f) ∙ e

pub natural_same : (z : ℤ) → same (pos (natural z)) z ≡ le_z (pos 0) z
unfolding same natural
natural_same (pos n) = rw (le-leb n n (omega arith)) (sym (leb-zero n))
natural_same (negsuc n) = refl

pub natural_some : (z : ℤ) → 1 ≤ natural z → le_z (pos 0) z ≡ true
unfolding natural
natural_some (pos n) h = leb-zero n
natural_some (negsuc n) h = absurd (omega arith)

pub count_same : (m : ℕ) (z : ℤ) → (le_z (pos 0) z && le_z z (pos m)) ≡ same (pos (min (natural z) m)) z
unfolding same natural
count_same m (pos n) = go (dec_le n m)
  where
    go : Dec (n ≤ m) → (leb 0 n && leb n m) ≡ (leb (min n m) n && leb n (min n m))
    go (yes h) = rw (le-leb 0 n (omega arith), le-leb n m h, le-leb (min n m) n (omega arith), le-leb n (min n m) (omega arith))
    go (no h) = rw (le-leb 0 n (omega arith), lt-leb n m (omega arith), le-leb (min n m) n (omega arith), lt-leb n (min n m) (omega arith))
count_same m (negsuc n) = refl
