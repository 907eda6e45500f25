-- The bits' fraction is the value that the format's definition reads from them, and it decides the order of doubles.
use mathlib.Core.Path.{◌≡◌, refl, sym, ap, ◌∙◌, subst}
use mathlib.Core.Bool.{Bool, true, false, not, cond, ◌||◌, ◌&&◌, false≢true}
use Prim.Native.Nat.{ℕ, zero, suc, ◌+◌, ◌*◌, ◌^◌, ◌≤◌, ◌<◌}
use native.Mathlib.Nat.{mul-one, mul_comm, mul_assoc, mul_right_comm, mul-pos, eq_of_mul-eq-mul_right, add-mul, mul-lt-mul_of_pos_right, lt_of_mul-lt-mul_right, zero-mul, zero-add}
use native.Mathlib.Omega.{arith}
use Rattle.std.specs.Prelude.{None, Some}
use lib.Dec.{T, ltb, leb, eqb, leb-suc-suc}
use lib.IntN.{ℤ, pos, neg_ℤ, ◌*ℤ◌}
use lib.Signed.{lt_z, le_z}
use lib.Arith.{lt_of_le-ne}
use lib.Pow.{pow_pos}
use lib.Ieee.{Float, nan, inf, fin, binary64, up, down, odd, of_fields, of_bits, to_bits, nan_bits, fits, neg, lt, le, below, level}
use lib.Ieee.Bits.{of_bits-to_bits, to_bits-of_bits, of_bits-fits, nan_bits_is}
use lib.Ieee.Exact.{HasValue, odd_sign}
use lib.Ieee.Fits.{down_pos, neg-fits}
use lib.Ieee.Scale.{finite}
use borrow.Author.Tests.{ltb-true, ltb-false, lt-ltb, le-ltb, eqb-true, eqb-false, eq-eqb, ne_eqb, le-leb, lt-leb}
use Rattle.rules.specs.Doubles.{Double, minus_sign, exponent, fraction, unit, size_from, with_sign, number_in, exact_in, is_number, exact_of, value_of}
use Rattle.rules_laws.proofs.Bools.{not_true}
use Rattle.survey_laws.specs.Kit.{SameValue}
use Rattle.survey_laws.specs.Sizes.{size_of, NumberWithin}

pub unit_pos : 0 < unit
unfolding unit
unit_pos = pow_pos 1074

-- what the code knows of each double that it is handed
pub is_double : (x : Float) → fits binary64 x ≡ true → Double x
is_double x e = subst T (sym e) tt

-- ---- what the fields stand for
odd_finite : (d : ℕ) (s : Bool) (q k l : ℕ) → finite (odd d s q k l) ≡ true
unfolding odd
odd_finite d s zero k l = refl
odd_finite d s (suc q) k l = refl

fields_value : (s : Bool) (x t : ℕ) → eqb x 2047 ≡ false → HasValue (of_fields binary64 s x t) s (size_from x t) unit
unfolding of_fields unit
fields_value s zero t h = subst (λ (a : ℕ). HasValue (odd 53 s t 0 1074) s a (2 ^ 1074)) (mul-one t) (odd_sign 53 s t 0 1074)
fields_value s (suc x) t h = rw h (odd_sign 53 s (2 ^ 52 + t) x 1074)

fields_finite : (s : Bool) (x t : ℕ) → finite (of_fields binary64 s x t) ≡ not (eqb x 2047)
unfolding of_fields
fields_finite s zero t = odd_finite 53 s t 0 1074
fields_finite s (suc x) t = go (eqb (suc x) 2047) (eqb t 0)
  where
    go : (b c : Bool) → finite (cond b (cond c (inf s) nan) (odd 53 s (2 ^ 52 + t) x 1074)) ≡ not b
    go true true = refl
    go true false = refl
    go false c = odd_finite 53 s (2 ^ 52 + t) x 1074

-- ---- a double that fits is read from its own bits
pub number_is : (x : Float) → Double x → is_number x ≡ finite x
unfolding is_number of_bits
number_is x h =
    let b = to_bits binary64 x in
    sym (fields_finite (minus_sign b) (exponent b) (fraction b)) ∙ ap finite (of_bits-to_bits binary64 x h)

pub own_value : (x : Float) → Double x → is_number x ≡ true → HasValue x (minus_sign (to_bits binary64 x)) (size_of x) unit
unfolding is_number of_bits size_of
own_value x h n =
    let b = to_bits binary64 x in
    subst (λ (y : Float). HasValue y (minus_sign b) (size_from (exponent b) (fraction b)) unit) (of_bits-to_bits binary64 x h)
    (fields_value (minus_sign b) (exponent b) (fraction b) (not_true (eqb (exponent b) 2047) n))

-- ---- a double has one value
pub one_value : (x : Float) (s t : Bool) (a b : ℕ) → HasValue x s a unit → HasValue x t b unit → (s ≡ t) × (a ≡ b)
one_value nan s t a b p q = absurd p
one_value (inf u) s t a b p q = absurd p
one_value (fin u m e) s t a b p q = (sym p.0 ∙ q.0, eq_of_mul-eq-mul_right (down e) (down_pos e) a b (sym p.1 ∙ q.1))

value_finite : (x : Float) (s : Bool) (a : ℕ) → HasValue x s a unit → finite x ≡ true
value_finite nan s a p = absurd p
value_finite (inf u) s a p = absurd p
value_finite (fin u m e) s a p = refl

pub value_number : (x : Float) (s : Bool) (a : ℕ) → Double x → HasValue x s a unit → is_number x ≡ true
value_number x s a h p = number_is x h ∙ value_finite x s a p

pub exact_is : (x : Float) (s : Bool) (a : ℕ) → Double x → HasValue x s a unit → exact_of x ≡ with_sign s a
unfolding exact_of size_of
exact_is x s a h p =
    let e = one_value x (minus_sign (to_bits binary64 x)) s (size_of x) a (own_value x h (value_number x s a h p)) p in
    ap (λ (u : Bool). with_sign u (size_of x)) e.0 ∙ ap (λ (n : ℕ). with_sign s n) e.1

pub size_is : (x : Float) (s : Bool) (a : ℕ) → Double x → HasValue x s a unit → size_of x ≡ a
size_is x s a h p = (one_value x (minus_sign (to_bits binary64 x)) s (size_of x) a (own_value x h (value_number x s a h p)) p).1

-- ---- the order of doubles is that of their exact values
ltb_same : (a b c d : ℕ) → (a < b → c < d) → (b ≤ a → d ≤ c) → ltb a b ≡ ltb c d
ltb_same a b c d f g = go (ltb a b) refl
  where
    go : (t : Bool) → ltb a b ≡ t → ltb a b ≡ ltb c d
    go true e = e ∙ sym (lt-ltb c d (f (ltb-true a b e)))
    go false e = e ∙ sym (le-ltb c d (g (ltb-false a b e)))

-- from x / E to a / unit
pub cross : (x E F a : ℕ) → x * unit ≡ a * E → x * F * unit ≡ a * (E * F)
cross x E F a p = mul_right_comm x F unit ∙ ap (λ (n : ℕ). n * F) p ∙ mul_assoc a E F

pub ltb_cross : (X Y a b C : ℕ) → 0 < C → X * unit ≡ a * C → Y * unit ≡ b * C → ltb X Y ≡ ltb a b
ltb_cross X Y a b C h p q =
    ltb_same X Y a b
    (λ l. lt_of_mul-lt-mul_right C (subst (λ (n : ℕ). n < b * C) p (subst (λ (n : ℕ). X * unit < n) q (mul-lt-mul_of_pos_right l unit_pos))))
    (λ l. le_of (λ k. l_irr (lt_of_mul-lt-mul_right unit (subst (λ (n : ℕ). n < Y * unit) (sym p) (subst (λ (n : ℕ). a * C < n) (sym q) (mul-lt-mul_of_pos_right k h)))) l))
  where
    le_of : {u v : ℕ} → (u < v → ⊥) → v ≤ u
    le_of {u} {v} f = go (ltb u v) refl
      where
        go : (t : Bool) → ltb u v ≡ t → v ≤ u
        go true e = absurd (f (ltb-true u v e))
        go false e = ltb-false u v e

    l_irr : {u v : ℕ} → u < v → v ≤ u → ⊥
    l_irr h k = omega arith

neg_lt : (a b : ℕ) → lt_z (neg_ℤ (pos a)) (neg_ℤ (pos b)) ≡ ltb b a
neg_lt zero zero = refl
neg_lt zero (suc b) = sym (le-ltb (suc b) 0 (omega arith))
neg_lt (suc a) zero = sym (lt-ltb 0 (suc a) (omega arith))
neg_lt (suc a) (suc b) = ltb_same b a (suc b) (suc a) (omega arith) (omega arith)

neg_pos : (a b : ℕ) → lt_z (neg_ℤ (pos a)) (pos b) ≡ ltb 0 (a + b)
neg_pos zero b = rw zero-add
neg_pos (suc a) b = sym (lt-ltb 0 (suc a + b) (omega arith))

pos_neg : (a b : ℕ) → lt_z (pos a) (neg_ℤ (pos b)) ≡ false
pos_neg a zero = le-ltb a 0 (omega arith)
pos_neg a (suc b) = refl

-- the sum over the common denominator
pub sum_cross : (A B C a b : ℕ) → A * unit ≡ a * C → B * unit ≡ b * C → (A + B) * unit ≡ (a + b) * C
sum_cross A B C a b p q = add-mul A B unit ∙ ap (λ (n : ℕ). n + B * unit) p ∙ ap (λ (n : ℕ). a * C + n) q ∙ sym (add-mul a b C)

zero_cross : (C : ℕ) → 0 * unit ≡ 0 * C
zero_cross C = zero-mul unit ∙ sym (zero-mul C)

below_cross : (s t : Bool) (X Y a b C : ℕ) → 0 < C → X * unit ≡ a * C → Y * unit ≡ b * C → below s X t Y ≡ below s a t b
below_cross false false X Y a b C h p q = ltb_cross X Y a b C h p q
below_cross false true X Y a b C h p q = refl
below_cross true false X Y a b C h p q = ltb_cross 0 (X + Y) 0 (a + b) C h (zero_cross C) (sum_cross X Y C a b p q)
below_cross true true X Y a b C h p q = ltb_cross Y X b a C h q p

below_less : (s t : Bool) (a b : ℕ) → below s a t b ≡ lt_z (with_sign s a) (with_sign t b)
below_less false false a b = refl
below_less false true a b = sym (pos_neg a b)
below_less true false a b = sym (neg_pos a b)
below_less true true a b = sym (neg_lt a b)

-- What is made of two doubles' signs and sizes, and is the same over any common denominator, is made of their sizes in units.
pub by_sizes : {R : Type 0} (make : Bool → ℕ → Bool → ℕ → ℕ → R)
    → ((s t : Bool) (X Y a b C : ℕ) → 0 < C → X * unit ≡ a * C → Y * unit ≡ b * C → make s X t Y C ≡ make s a t b unit)
    → (u v : Bool) (m n : ℕ) (e d : ℤ) (s t : Bool) (a b : ℕ) → HasValue (fin u m e) s a unit → HasValue (fin v n d) t b unit
    → make u (m * up e * down d) v (n * up d * down e) (down e * down d) ≡ make s a t b unit
by_sizes make same u v m n e d s t a b p q =
    same u v (m * up e * down d) (n * up d * down e) a b (down e * down d) (mul-pos (down_pos e) (down_pos d))
    (cross (m * up e) (down e) (down d) a p.1) (cross (n * up d) (down d) (down e) b q.1 ∙ ap (λ (k : ℕ). b * k) (mul_comm (down d) (down e)))
    ∙ ap (λ (z : Bool). make z a v b unit) p.0 ∙ ap (λ (z : Bool). make s a z b unit) q.0

pub lt_value : (x y : Float) (s t : Bool) (a b : ℕ) → HasValue x s a unit → HasValue y t b unit → lt x y ≡ lt_z (with_sign s a) (with_sign t b)
unfolding lt
lt_value nan y s t a b p q = absurd p
lt_value (inf u) y s t a b p q = absurd p
lt_value (fin u m e) nan s t a b p q = absurd q
lt_value (fin u m e) (inf v) s t a b p q = absurd q
lt_value (fin u m e) (fin v n d) s t a b p q =
    by_sizes (λ s X t Y C. below s X t Y) below_cross u v m n e d s t a b p q ∙ below_less s t a b

-- ---- at most
eqb_same : (a b c d : ℕ) → (a ≡ b → c ≡ d) → (c ≡ d → a ≡ b) → eqb a b ≡ eqb c d
eqb_same a b c d f g = go (eqb a b) refl
  where
    go : (t : Bool) → eqb a b ≡ t → eqb a b ≡ eqb c d
    go true e = e ∙ sym (eq-eqb c d (f (eqb-true a b e)))
    go false e = e ∙ sym (ne_eqb c d (λ h. eqb-false a b e (g h)))

eqb_cross : (X Y a b C : ℕ) → 0 < C → X * unit ≡ a * C → Y * unit ≡ b * C → eqb X Y ≡ eqb a b
eqb_cross X Y a b C h p q =
    eqb_same X Y a b
    (λ e. eq_of_mul-eq-mul_right C h a b (sym p ∙ ap (λ (n : ℕ). n * unit) e ∙ q))
    (λ e. eq_of_mul-eq-mul_right unit unit_pos X Y (p ∙ ap (λ (n : ℕ). n * C) e ∙ sym q))

-- the same test over whole numbers
less_or_same : (a b : ℕ) → (ltb a b || (eqb a b && true)) ≡ leb a b
less_or_same a b = go (ltb a b) (eqb a b) refl refl
  where
    go : (x y : Bool) → ltb a b ≡ x → eqb a b ≡ y → (x || (y && true)) ≡ leb a b
    go true y e f = sym (le-leb a b (omega (arith, ltb-true a b e)))
    go false true e f = sym (le-leb a b (omega (arith, eqb-true a b f)))
    go false false e f = sym (lt-leb a b (lt_of_le-ne (ltb-false a b e) (λ g. eqb-false a b f (sym g))))

both_zero : (a b : ℕ) → (eqb a b && eqb a 0) ≡ le_z (pos a) (neg_ℤ (pos b))
both_zero zero zero = refl
both_zero zero (suc b) = rw (ne_eqb 0 (suc b) (λ (e : 0 ≡ suc b). omega arith))
both_zero (suc a) zero = rw (ne_eqb (suc a) 0 (λ (e : suc a ≡ 0). omega arith), lt-leb (suc a) 0 (omega arith))
both_zero (suc a) (suc b) = rw (ne_eqb (suc a) 0 (λ (e : suc a ≡ 0). omega arith)) (and_false (eqb (suc a) (suc b)))
  where
    and_false : (x : Bool) → (x && false) ≡ false
    and_false true = refl
    and_false false = refl

neg_le : (a b : ℕ) → le_z (neg_ℤ (pos a)) (neg_ℤ (pos b)) ≡ leb b a
neg_le zero zero = refl
neg_le zero (suc b) = sym (lt-leb (suc b) 0 (omega arith))
neg_le (suc a) zero = sym (le-leb 0 (suc a) (omega arith))
neg_le (suc a) (suc b) = sym (leb-suc-suc b a)

at_most : (s t : Bool) (a b : ℕ) → (below s a t b || level s a t b) ≡ le_z (with_sign s a) (with_sign t b)
at_most false false a b = less_or_same a b
at_most false true a b = both_zero a b
at_most true false zero zero = refl
at_most true false zero (suc b) = rw (lt-ltb 0 (0 + suc b) (omega arith)) (sym (le-leb 0 (suc b) (omega arith)))
at_most true false (suc a) b = rw (lt-ltb 0 (suc a + b) (omega arith))
at_most true true a b = rw (eqb_same a b b a sym sym) (less_or_same b a ∙ sym (neg_le a b))

level_cross : (s t : Bool) (X Y a b C : ℕ) → 0 < C → X * unit ≡ a * C → Y * unit ≡ b * C
    → (below s X t Y || level s X t Y) ≡ (below s a t b || level s a t b)
level_cross s t X Y a b C h p q =
    let x : level s X t Y ≡ level s a t b = rw (eqb_cross X Y a b C h p q, eqb_cross X 0 a 0 C h p (zero_cross C)) in
    rw (x, below_cross s t X Y a b C h p q)

pub le_value : (x y : Float) (s t : Bool) (a b : ℕ) → HasValue x s a unit → HasValue y t b unit → le x y ≡ le_z (with_sign s a) (with_sign t b)
unfolding le
le_value nan y s t a b p q = absurd p
le_value (inf u) y s t a b p q = absurd p
le_value (fin u m e) nan s t a b p q = absurd q
le_value (fin u m e) (inf v) s t a b p q = absurd q
le_value (fin u m e) (fin v n d) s t a b p q =
    by_sizes (λ s X t Y C. below s X t Y || level s X t Y) level_cross u v m n e d s t a b p q ∙ at_most s t a b

-- ---- the double with the other sign
pub neg_value : (x : Float) (s : Bool) (a : ℕ) → HasValue x s a unit → HasValue (neg x) (not s) a unit
unfolding neg
neg_value nan s a p = absurd p
neg_value (inf u) s a p = absurd p
neg_value (fin u m e) s a p = (ap not p.0, p.1)

with_sign_not : (s : Bool) (a : ℕ) → with_sign (not s) a ≡ neg_ℤ (with_sign s a)
with_sign_not false a = refl
with_sign_not true zero = refl
with_sign_not true (suc a) = refl

pub exact_neg : (x : Float) → Double x → is_number x ≡ true → exact_of (neg x) ≡ neg_ℤ (exact_of x)
unfolding exact_of size_of
exact_neg x h n =
    let s = minus_sign (to_bits binary64 x) in
    exact_is (neg x) (not s) (size_of x) (neg-fits binary64 x h) (neg_value x s (size_of x) (own_value x h n)) ∙ with_sign_not s (size_of x)

pub within_neg : (k : ℕ) (x : Float) → Double x → NumberWithin k x → NumberWithin k (neg x)
within_neg k x h w =
    let s = minus_sign (to_bits binary64 x) in
    let v = neg_value x s (size_of x) (own_value x h w.number) in
    let f = neg-fits binary64 x h in
    record { number = value_number (neg x) (not s) (size_of x) f v; size = rw (size_is (neg x) (not s) (size_of x) f v) w.size }

-- ---- a double that was read from a pattern
pub no_nan : (b : ℕ) → number_in b ≡ true → T (not (nan_bits binary64 b))
unfolding nan_bits
no_nan b h = go (eqb (exponent b) 2047) (not (eqb (fraction b) 0)) h
  where
    go : (p q : Bool) → not p ≡ true → T (not (p && q))
    go true q e = absurd (false≢true e)
    go false q e = tt

pub bits_back : (b : ℕ) → b < 2 ^ 64 → number_in b ≡ true → to_bits binary64 (of_bits binary64 b) ≡ b
bits_back b h n = to_bits-of_bits binary64 b h (subst (λ (t : Bool). T (not t)) (nan_bits_is binary64 b) (no_nan b n))

pub read_number : (b : ℕ) → b < 2 ^ 64 → number_in b ≡ true → is_number (of_bits binary64 b) ≡ true
unfolding is_number
read_number b h n = rw (bits_back b h n) n

pub read_exact : (b : ℕ) → b < 2 ^ 64 → number_in b ≡ true → exact_of (of_bits binary64 b) ≡ exact_in b
unfolding exact_of size_of
read_exact b h n = ap exact_in (bits_back b h n)

-- ---- and so of any pattern of 64 bits, a NaN's and an infinity's too
pub bits_number : (b : ℕ) → is_number (of_bits binary64 b) ≡ number_in b
unfolding of_bits
bits_number b = number_is (of_bits binary64 b) (of_bits-fits binary64 b) ∙ fields_finite (minus_sign b) (exponent b) (fraction b)

-- ---- what the kit's logic takes a double to be
sign_times : (s : Bool) (a d : ℕ) → with_sign s a *ℤ pos d ≡ with_sign s (a * d)
sign_times false a d = refl
sign_times true zero d = rw (zero-mul d)
sign_times true (suc a) d = refl

no_value : (x : Float) → is_number x ≡ false → value_of x ≡ None
unfolding value_of
no_value x e = rw e

pub has_value : (x : Float) → is_number x ≡ true → value_of x ≡ Some (exact_of x)
unfolding value_of
has_value x e = rw e

pub same_value : (x : Float) → Double x → SameValue x
same_value nan h = no_value nan (number_is nan h)
same_value (inf s) h = no_value (inf s) (number_is (inf s) h)
same_value (fin s m e) h =
    let x = fin s m e in
    let n = number_is x h in
    let v = own_value x h n in
    let times = sign_times s (size_of x) (down e) ∙ ap (with_sign s) (sym v.1) ∙ sym (sign_times s (m * up e) unit) in
    (exact_of x, has_value x n, rw (exact_is x s (size_of x) h (refl, v.1)) times)
