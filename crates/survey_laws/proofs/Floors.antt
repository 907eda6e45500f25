-- The whole part of a double, put right by one test, is the largest whole number not above it.
use mathlib.Core.Path.{◌≡◌, refl, sym, ap, ◌∙◌, subst}
use mathlib.Core.Bool.{Bool, true, false, cond, ◌||◌, true≢false, false≢true}
use Prim.Native.Nat.{ℕ, zero, suc, ◌+◌, ◌-◌, ◌*◌, ◌/◌, ◌^◌, ◌≤◌, ◌<◌, min}
use native.Mathlib.Nat.{mul-one, mul_comm, mul_right_comm, add-mul, one-mul, zero-mul, mul-le-mul_right, mul-lt-mul_of_pos_right}
use native.Mathlib.Nat.{lt_of_le_of_lt, le_trans, div-mul-le_self, lt-div-mul-add, div-eq_of_lt-le, div-eq_of_lt, div-le_of_le-mul}
use native.Mathlib.Numerals.{add-one}
use native.Mathlib.Omega.{arith}
use lib.Dec.{T, ltb, lit<, lit≤, le→leb, lt→ltb}
use lib.IntN.{ℤ, pos, negsuc, neg_ℤ, ◌+ℤ◌, ◌-ℤ◌, ◌*ℤ◌}
use lib.Signed.{lt_z, le_z, mag}
use lib.Ieee.{Float, nan, inf, fin, binary64, up, down, to_signed, of_int, in_float, to_bits, round, neg, lt, le, eq}
use lib.Ieee.Back.{round_whole}
use lib.Ieee.Exact.{HasValue}
use lib.Ieee.Fits.{down_pos}
use lib.Ieee.Nearest.{div_same}
use borrow.Author.Tests.{ltb-true, ltb-false, lt-ltb, le-ltb}
use mir.Syntax.{w32, w64}
use mir.Val.{to_z, of_z}
use mir.Facts.{to_z-of_z}
use Rattle.rules.specs.Doubles.{Double, unit, minus_sign, with_sign, exact_of, floor_of, ceiling_of, LargestNotAbove, SmallestNotBelow}
use Rattle.survey_laws.specs.Sizes.{size_of, NumberWithin}
use Rattle.survey_laws.proofs.Values.{unit_pos, own_value, lt_value, exact_neg, within_neg}
use Rattle.survey_laws.proofs.Linear.{over, under, le_parts, parts_le, le_or, over_mul, under_mul, over_neg, under_neg}

-- ---- a value's whole part
whole_part : (m : ℕ) (e : ℤ) (a : ℕ) → m * up e * unit ≡ a * down e → m * up e / down e ≡ a / unit
whole_part m e a h = div_same (m * up e) (down e) a unit (down_pos e) unit_pos h

pub part_le : (a k : ℕ) → a ≤ k * unit → a / unit ≤ k
part_le a k h = div-le_of_le-mul unit (subst (λ (n : ℕ). a ≤ n) (mul_comm k unit) h)

uncapped : (u : Bool) (Q q : ℕ) → Q ≡ q → q < 2 ^ 63 → cond u (neg_ℤ (pos (min Q (2 ^ 63)))) (pos (min Q (2 ^ 63 - 1))) ≡ with_sign u q
uncapped true Q q e h = let c : min Q (2 ^ 63) ≡ q = omega arith in ap (λ (n : ℕ). neg_ℤ (pos n)) c
uncapped false Q q e h = let c : min Q (2 ^ 63 - 1) ≡ q = omega arith in ap pos c

pub part_of : (x : Float) (s : Bool) (a : ℕ) → HasValue x s a unit → a / unit < 2 ^ 63 → to_signed 63 x ≡ with_sign s (a / unit)
unfolding to_signed
part_of nan s a p h = absurd p
part_of (inf u) s a p h = absurd p
part_of (fin u m e) s a p h = uncapped u (m * up e / down e) (a / unit) (whole_part m e a p.1) h ∙ ap (λ (t : Bool). with_sign t (a / unit)) p.0

-- ---- the whole part as a double
pub scaled : (x : Float) (s : Bool) (q : ℕ) → HasValue x s q 1 → HasValue x s (q * unit) unit
scaled nan s q p = absurd p
scaled (inf u) s q p = absurd p
scaled (fin u m e) s q p = (p.0, ap (λ (n : ℕ). n * unit) (sym (mul-one (m * up e)) ∙ p.1) ∙ mul_right_comm q (down e) unit)

pub whole_value : (s : Bool) (q : ℕ) → q ≤ 2 ^ 53 → (t : Bool) × HasValue (of_int binary64 (with_sign s q)) t (q * unit) unit × (with_sign t (q * unit) ≡ with_sign s (q * unit))
unfolding of_int
whole_value false q h = (false, scaled (round binary64 false q 1) false q (round_whole binary64 false q h), refl)
whole_value true zero h = (false, scaled (round binary64 false 0 1) false 0 (round_whole binary64 false 0 h), rw (zero-mul unit))
whole_value true (suc q) h = (true, scaled (round binary64 true (suc q) 1) true (suc q) (round_whole binary64 true (suc q) h), refl)

-- the test that puts it right
pub part_test : (x : Float) (s : Bool) (a : ℕ) → HasValue x s a unit → a / unit ≤ 2 ^ 53
    → lt x (of_int binary64 (with_sign s (a / unit))) ≡ lt_z (with_sign s a) (with_sign s (a / unit * unit))
part_test x s a p h =
    let v = whole_value s (a / unit) h in
    lt_value x (of_int binary64 (with_sign s (a / unit))) s v.0 a (a / unit * unit) p v.1 ∙ ap (λ (z : ℤ). lt_z (with_sign s a) z) v.2

-- ---- the floor
div_at : (a q : ℕ) → q * unit ≤ a → a < q * unit + unit → a / unit ≡ q
div_at a q h k = div-eq_of_lt-le unit h (subst (λ (n : ℕ). a < n) (sym (add-mul q 1 unit ∙ ap (λ (n : ℕ). q * unit + n) (one-mul unit))) k)

neg_lt_fact : (a b : ℕ) → lt_z (neg_ℤ (pos a)) (neg_ℤ (pos b)) ≡ true → b < a
neg_lt_fact zero zero h = absurd (false≢true h)
neg_lt_fact zero (suc b) h = absurd (false≢true h)
neg_lt_fact (suc a) zero h = omega arith
neg_lt_fact (suc a) (suc b) h = omega (arith, ltb-true b a h)

neg_le_fact : (a b : ℕ) → lt_z (neg_ℤ (pos a)) (neg_ℤ (pos b)) ≡ false → a ≤ b
neg_le_fact zero b h = omega arith
neg_le_fact (suc a) zero h = absurd (true≢false h)
neg_le_fact (suc a) (suc b) h = omega (arith, ltb-false b a h)

one_less : (q : ℕ) → neg_ℤ (pos q) -ℤ pos 1 ≡ negsuc q
one_less zero = refl
one_less (suc q) = ap negsuc (omega arith)

at_zero : pos 0 ≡ floor_of (pos 0)
unfolding floor_of
at_zero = ap pos (sym (div-eq_of_lt unit_pos))

pub floor_less : (s : Bool) (a : ℕ) → lt_z (with_sign s a) (with_sign s (a / unit * unit)) ≡ true → with_sign s (a / unit) -ℤ pos 1 ≡ floor_of (with_sign s a)
unfolding floor_of
floor_less false a h = absurd (clash (ltb-true a (a / unit * unit) h) (div-mul-le_self a unit))
  where
    clash : {x y : ℕ} → x < y → y ≤ x → ⊥
    clash h k = omega arith
floor_less true zero h = absurd (clash (neg_lt_fact 0 (0 / unit * unit) h))
  where
    clash : {y : ℕ} → y < 0 → ⊥
    clash h = omega arith
floor_less true (suc k) h =
    let q = suc k / unit in
    let l : q * unit < suc k = neg_lt_fact (suc k) (q * unit) h in
    let u : suc k < q * unit + unit = lt-div-mul-add unit_pos in
    let e : k / unit ≡ q = div_at k q (omega arith) (omega arith) in
    one_less q ∙ ap negsuc (sym e)

pub floor_same : (s : Bool) (a : ℕ) → lt_z (with_sign s a) (with_sign s (a / unit * unit)) ≡ false → with_sign s (a / unit) ≡ floor_of (with_sign s a)
unfolding floor_of
floor_same false a h = refl
floor_same true zero h = ap (λ (n : ℕ). neg_ℤ (pos n)) (div-eq_of_lt unit_pos) ∙ at_zero
floor_same true (suc k) h = go (suc k / unit) refl
  where
    go : (q : ℕ) → suc k / unit ≡ q → neg_ℤ (pos q) ≡ negsuc (k / unit)
    go zero e = absurd (none (neg_le_fact (suc k) (suc k / unit * unit) h) (ap (λ (n : ℕ). n * unit) e ∙ zero-mul unit))
      where
        none : {y : ℕ} → suc k ≤ y → y ≡ 0 → ⊥
        none h e = omega arith
    go (suc j) e =
        let l : suc k ≤ suc k / unit * unit = neg_le_fact (suc k) (suc k / unit * unit) h in
        let m : suc k / unit * unit ≤ suc k = div-mul-le_self (suc k) unit in
        let n : suc k / unit * unit ≡ j * unit + unit = ap (λ (n : ℕ). n * unit) (e ∙ sym (add-one j)) ∙ add-mul j 1 unit ∙ ap (λ (n : ℕ). j * unit + n) (one-mul unit) in
        let d : k / unit ≡ j = div_at k j (omega (arith, unit_pos)) (omega arith) in
        ap negsuc (sym d)

-- ---- the floor is the largest whole number not above, and the ceiling the smallest not below
pub floor_parts : (z : ℤ) → (over (floor_of z) * unit + under z ≤ over z + under (floor_of z) * unit) × (over z + under (floor_of z) * unit < over (floor_of z) * unit + under z + unit)
unfolding floor_of
floor_parts (pos a) =
    let l : a / unit * unit ≤ a = div-mul-le_self a unit in
    let u : a < a / unit * unit + unit = lt-div-mul-add unit_pos in
    let z : 0 * unit ≡ 0 = zero-mul unit in
    (omega arith, omega arith)
floor_parts (negsuc a) =
    let l : a / unit * unit ≤ a = div-mul-le_self a unit in
    let u : a < a / unit * unit + unit = lt-div-mul-add unit_pos in
    let z : 0 * unit ≡ 0 = zero-mul unit in
    let n : suc (a / unit) * unit ≡ a / unit * unit + unit = ap (λ (n : ℕ). n * unit) (sym (add-one (a / unit))) ∙ add-mul (a / unit) 1 unit ∙ ap (λ (n : ℕ). a / unit * unit + n) (one-mul unit) in
    (omega arith, omega arith)

-- where n + 1 ≤ k, in parts, so are the products
pub more : (a b c d : ℕ) → a + d < c + b → a * unit + d * unit + unit ≤ c * unit + b * unit
more a b c d h =
    let e : (a + d + 1) * unit ≤ (c + b) * unit = mul-le-mul_right unit (omega arith) in
    let x : (a + d + 1) * unit ≡ a * unit + d * unit + unit = add-mul (a + d) 1 unit ∙ ap (λ (n : ℕ). n + 1 * unit) (add-mul a d unit) ∙ ap (λ (n : ℕ). a * unit + d * unit + n) (one-mul unit) in
    let y : (c + b) * unit ≡ c * unit + b * unit = add-mul c b unit in
    omega arith

pub floor_is : (z : ℤ) → LargestNotAbove z (floor_of z)
floor_is z = record {
  not_above = parts_le (floor_of z *ℤ pos unit) z (rw (over_mul (floor_of z) unit, under_mul (floor_of z) unit) (floor_parts z).0);
  largest = λ k h. le_or k (floor_of z) (λ g.
      let f = floor_parts z in
      let m = more (over (floor_of z)) (under (floor_of z)) (over k) (under k) g in
      let l : over k * unit + under z ≤ over z + under k * unit = rw (over_mul k unit, under_mul k unit) at (le_parts (k *ℤ pos unit) z h) in
      omega arith);
}

ceil_neg : (z k : ℤ) → le_z z (k *ℤ pos unit) ≡ true → le_z (neg_ℤ k *ℤ pos unit) (neg_ℤ z) ≡ true
ceil_neg z k h =
    let l : over z + under k * unit ≤ over k * unit + under z = rw (over_mul k unit, under_mul k unit) at (le_parts z (k *ℤ pos unit) h) in
    parts_le (neg_ℤ k *ℤ pos unit) (neg_ℤ z) (rw (over_mul (neg_ℤ k) unit, under_mul (neg_ℤ k) unit, over_neg k, under_neg k, over_neg z, under_neg z) (omega arith))

pub ceiling_is : (z : ℤ) → SmallestNotBelow z (ceiling_of z)
unfolding ceiling_of
ceiling_is z =
    let n = floor_of (neg_ℤ z) in
    let f = floor_is (neg_ℤ z) in
    record {
      not_below =
          let l : over n * unit + over z ≤ under z + under n * unit = rw (over_mul n unit, under_mul n unit, over_neg z, under_neg z) at (le_parts (n *ℤ pos unit) (neg_ℤ z) f.not_above) in
          parts_le z (neg_ℤ n *ℤ pos unit) (rw (over_mul (neg_ℤ n) unit, under_mul (neg_ℤ n) unit, over_neg n, under_neg n) (omega arith));
      smallest = λ k h.
          let l : under k + under n ≤ over n + over k = rw (over_neg k, under_neg k) at (le_parts (neg_ℤ k) n (f.largest (neg_ℤ k) (ceil_neg z k h))) in
          parts_le (neg_ℤ n) k (rw (over_neg n, under_neg n) (omega arith));
    }

-- ---- what `floor_of` needs of a double within two thousand million millimetres
with_sign_mag : (s : Bool) (q : ℕ) → mag (with_sign s q) ≤ q
with_sign_mag false q = omega arith
with_sign_mag true zero = omega arith
with_sign_mag true (suc q) = omega arith

pub less_mag : (t : ℤ) (k : ℕ) → mag t ≤ k → mag (t -ℤ pos 1) ≤ k + 1
less_mag (pos zero) k h = omega arith
less_mag (pos (suc n)) k h = let e : ltb (suc n) 1 ≡ false = le-ltb (suc n) 1 (omega arith) in rw e (omega arith)
less_mag (negsuc n) k h = omega arith

pub in_float_lem : (t : ℤ) → mag t ≤ 2000000000 → T (in_float binary64 t)
unfolding in_float
in_float_lem (pos n) h = le→leb n (2 ^ 53) (omega arith)
in_float_lem (negsuc n) h = lt→ltb n (2 ^ 53) (omega arith)

pub back64 : (t : ℤ) → mag t ≤ 2147483647 → to_z w64 (of_z w64 t) ≡ t
back64 t h = to_z-of_z {w = w64} (record { sfits = omega arith })

pub back32 : (t : ℤ) → mag t ≤ 2147483647 → to_z w32 (of_z w32 t) ≡ t
back32 t h = to_z-of_z {w = w32} (record { sfits = omega arith })

-- 2 ^ 63 either way
edge : (u : Bool) → HasValue (fin u 1 (pos 63)) u (2 ^ 63 * unit) unit
edge u = (refl, ap (λ (n : ℕ). n * unit) (one-mul (2 ^ 63)) ∙ sym (mul-one (2 ^ 63 * unit)))

with_sign_below : (u : Bool) (a b : ℕ) → a < b → lt_z (with_sign u a) (pos b) ≡ true
with_sign_below false a b h = lt-ltb a b h
with_sign_below true zero b h = lt-ltb 0 b h
with_sign_below true (suc a) b h = refl

with_sign_above : (u : Bool) (a b : ℕ) → a < b → lt_z (neg_ℤ (pos b)) (with_sign u a) ≡ true
with_sign_above u a zero h = absurd (none h)
  where
    none : a < 0 → ⊥
    none h = omega arith
with_sign_above false a (suc b) h = refl
with_sign_above true zero (suc b) h = refl
with_sign_above true (suc a) (suc b) h = lt-ltb a b (omega arith)

or_l : (a b : Bool) → a ≡ true → T (a || b)
or_l true b e = tt
or_l false b e = absurd (false≢true e)

module _ (x : Float) (h : Double x) (w : NumberWithin 2000000000 x) where
  value : HasValue x (minus_sign (to_bits binary64 x)) (size_of x) unit
  value = own_value x h w.number

  inside : size_of x < 2 ^ 63 * unit
  inside = lt_of_le_of_lt w.size (mul-lt-mul_of_pos_right {m = 2000000000} {n = 2 ^ 63} (lit< tt) unit_pos)

  few : size_of x / unit ≤ 2000000000
  few = part_le (size_of x) 2000000000 w.size

  pub over_low_end : T (le (fin true 1 (pos 63)) x)
  unfolding le
  over_low_end =
      or_l (lt (fin true 1 (pos 63)) x) (eq (fin true 1 (pos 63)) x)
      (lt_value (fin true 1 (pos 63)) x true (minus_sign (to_bits binary64 x)) (2 ^ 63 * unit) (size_of x) (edge true) value
      ∙ with_sign_above (minus_sign (to_bits binary64 x)) (size_of x) (2 ^ 63 * unit) inside)

  pub under_high_end : T (lt x (fin false 1 (pos 63)))
  under_high_end =
      subst T
      (sym
      (lt_value x (fin false 1 (pos 63)) (minus_sign (to_bits binary64 x)) false (size_of x) (2 ^ 63 * unit) value (edge false)
      ∙ with_sign_below (minus_sign (to_bits binary64 x)) (size_of x) (2 ^ 63 * unit) inside))
      tt

  part_is : to_signed 63 x ≡ with_sign (minus_sign (to_bits binary64 x)) (size_of x / unit)
  part_is = part_of x (minus_sign (to_bits binary64 x)) (size_of x) value (lt_of_le_of_lt few (lit< tt))

  part_small : mag (to_signed 63 x) ≤ 2000000000
  part_small = rw part_is (le_trans (with_sign_mag (minus_sign (to_bits binary64 x)) (size_of x / unit)) few)

  pub cut_small : (t : ℤ) → t ≡ to_signed 63 x → mag t ≤ 2000000000
  cut_small t e = rw e part_small

  test_is : lt x (of_int binary64 (to_signed 63 x)) ≡ lt_z (with_sign (minus_sign (to_bits binary64 x)) (size_of x)) (with_sign (minus_sign (to_bits binary64 x)) (size_of x / unit * unit))
  test_is = rw part_is (part_test x (minus_sign (to_bits binary64 x)) (size_of x) value (le_trans few (lit≤ tt)))

  floor_then : lt x (of_int binary64 (to_signed 63 x)) ≡ true → to_signed 63 x -ℤ pos 1 ≡ floor_of (exact_of x)
  unfolding exact_of size_of
  floor_then e = ap (λ (z : ℤ). z -ℤ pos 1) part_is ∙ floor_less (minus_sign (to_bits binary64 x)) (size_of x) (sym test_is ∙ e)

  floor_else : lt x (of_int binary64 (to_signed 63 x)) ≡ false → to_signed 63 x ≡ floor_of (exact_of x)
  unfolding exact_of size_of
  floor_else e = part_is ∙ floor_same (minus_sign (to_bits binary64 x)) (size_of x) (sym test_is ∙ e)

  -- what is cut off toward zero, put right by one test
  pub cut_above : (t : ℤ) → t ≡ to_signed 63 x → lt x (of_int binary64 t) ≡ true → t -ℤ pos 1 ≡ floor_of (exact_of x)
  cut_above t e l = ap (λ (z : ℤ). z -ℤ pos 1) e ∙ floor_then (rw e at l)

  pub cut_not_above : (t : ℤ) → t ≡ to_signed 63 x → lt x (of_int binary64 t) ≡ false → t ≡ floor_of (exact_of x)
  cut_not_above t e l = e ∙ floor_else (rw e at l)

-- ---- the size of what comes out
floor_mag_with_sign : (k : ℕ) (s : Bool) (a : ℕ) → a ≤ k * unit → mag (floor_of (with_sign s a)) ≤ k
unfolding floor_of
floor_mag_with_sign k false a h = part_le a k h
floor_mag_with_sign k true zero h = part_le 0 k h
floor_mag_with_sign k true (suc a) h = part_le a k (omega arith)

pub floor_mag : (k : ℕ) (x : Float) → NumberWithin k x → mag (floor_of (exact_of x)) ≤ k
unfolding exact_of size_of
floor_mag k x w = floor_mag_with_sign k (minus_sign (to_bits binary64 x)) (size_of x) w.size

pub neg_mag : (z : ℤ) (k : ℕ) → mag z ≤ k → mag (neg_ℤ z) ≤ k + 1
neg_mag (pos zero) k h = omega arith
neg_mag (pos (suc n)) k h = omega arith
neg_mag (negsuc n) k h = omega arith

pub more_mag : (t : ℤ) (k : ℕ) → mag t ≤ k → mag (t +ℤ pos 1) ≤ k + 1
more_mag (pos n) k h = omega arith
more_mag (negsuc zero) k h = omega arith
more_mag (negsuc (suc n)) k h = let e : ltb 1 (suc (suc n)) ≡ true = lt-ltb 1 (suc (suc n)) (omega arith) in rw e (omega arith)

pub ceil_mag : (k : ℕ) (x : Float) → Double x → NumberWithin k x → mag (ceiling_of (exact_of x)) ≤ k + 1
unfolding ceiling_of
ceil_mag k x h w = neg_mag (floor_of (neg_ℤ (exact_of x))) k (rw (sym (exact_neg x h w.number)) (floor_mag k (neg x) (within_neg k x h w)))

-- the ceiling of x is the floor of -x, negated
pub ceiling_by_floor : (x : Float) (t : ℤ) → Double x → NumberWithin 2000000000 x → t ≡ floor_of (exact_of (neg x)) → neg_ℤ t ≡ ceiling_of (exact_of x)
unfolding ceiling_of
ceiling_by_floor x t h w e = ap neg_ℤ (e ∙ ap floor_of (exact_neg x h w.number))

pub ceiling_small : (x : Float) (t : ℤ) → Double x → NumberWithin 2000000000 x → t ≡ floor_of (exact_of (neg x)) → mag t ≤ 2000000000
ceiling_small x t h w e = rw e (floor_mag 2000000000 (neg x) (within_neg 2000000000 x h w))
