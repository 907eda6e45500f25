-- The tests that the code makes of doubles are those of its specification, which speak of exact values.
use mathlib.Core.Path.{◌≡◌, refl, sym, ◌∙◌}
use mathlib.Core.Bool.{Bool, true, false, ◌&&◌, false≢true}
use Prim.Native.Nat.{◌+◌, ◌*◌, ◌≤◌}
use native.Mathlib.Nat.{mul-one, mul-le-mul_right, add-mul, le_trans}
use native.Mathlib.Omega.{arith}
use lib.Dec.{lit≤}
use lib.IntN.{ℤ, pos, negsuc, neg_ℤ, ◌*ℤ◌}
use lib.Signed.{le_z}
use lib.Ieee.{Float, nan, inf, fin, binary64, to_bits, le}
use lib.Ieee.Exact.{HasValue}
use lib.Ieee.Scale.{finite}
use borrow.Author.Tests.{leb-true}
use Rattle.rules.specs.Doubles.{Double, unit, minus_sign, with_sign, millimetres, is_number, exact_of, floor_of, ceiling_of}
use Rattle.rules_laws.proofs.Bools.{and_both, both_and, same_test}
use Rattle.rules_laws.proofs.Orders.{at_most_on}
use Rattle.survey_laws.specs.Sizes.{size_of, NumberWithin, spans}
use Rattle.rules.specs.Numbers.{in_range}
use Rattle.rules.specs.Survey.{in_order, moderate}
use Rattle.survey_laws.proofs.Values.{unit_pos, number_is, own_value, le_value}
use Rattle.survey_laws.proofs.Linear.{over, under, le_parts, parts_le, le_or, over_mul, under_mul, over_neg, under_neg}
use Rattle.survey_laws.proofs.Floors.{more, floor_is, ceiling_is}

-- ---- whole millimetres
pub whole_le : (n k : ℤ) → le_z (millimetres n) (millimetres k) ≡ true → le_z n k ≡ true
whole_le n k h =
    let l : over n * unit + under k * unit ≤ over k * unit + under n * unit =
    rw (over_mul n unit, under_mul n unit, over_mul k unit, under_mul k unit) at (le_parts (millimetres n) (millimetres k) h) in
    le_or n k (λ g. let m = more (over k) (under k) (over n) (under n) g in omega (arith, unit_pos))

pub whole_mono : (n k : ℤ) → le_z n k ≡ true → le_z (millimetres n) (millimetres k) ≡ true
whole_mono n k h =
    let m : (over n + under k) * unit ≤ (over k + under n) * unit = mul-le-mul_right unit (le_parts n k h) in
    let x = add-mul (over n) (under k) unit in
    let y = add-mul (over k) (under n) unit in
    parts_le (millimetres n) (millimetres k) (rw (over_mul n unit, under_mul n unit, over_mul k unit, under_mul k unit) (omega arith))

-- ---- the ends of the range, as doubles and in units
abbrev pub end : Bool → Float
end u = fin u 1953125 (pos 9)

end_value : (u : Bool) → HasValue (end u) u (1000000000 * unit) unit
end_value u = (refl, sym (mul-one (1000000000 * unit)))

abbrev pub least : ℤ
least = negsuc 999999999 *ℤ pos unit

abbrev pub most : ℤ
most = pos 1000000000 *ℤ pos unit

-- the tests of a number
pub low_test : (x : Float) → Double x → is_number x ≡ true → le (end true) x ≡ le_z least (exact_of x)
unfolding exact_of size_of
low_test x h n = le_value (end true) x true (minus_sign (to_bits binary64 x)) (1000000000 * unit) (size_of x) (end_value true) (own_value x h n)

pub high_test : (x : Float) → Double x → is_number x ≡ true → le x (end false) ≡ le_z (exact_of x) most
unfolding exact_of size_of
high_test x h n = le_value x (end false) (minus_sign (to_bits binary64 x)) false (size_of x) (1000000000 * unit) (own_value x h n) (end_value false)

pub order_test : (x y : Float) → Double x → Double y → is_number x ≡ true → is_number y ≡ true → le x y ≡ le_z (exact_of x) (exact_of y)
unfolding exact_of size_of
order_test x y h k n m = le_value x y (minus_sign (to_bits binary64 x)) (minus_sign (to_bits binary64 y)) (size_of x) (size_of y) (own_value x h n) (own_value y k m)

-- only numbers pass
chain_finite : (x y : Float) → le (end true) x ≡ true → le x y ≡ true → le y (end false) ≡ true → (finite x ≡ true) × (finite y ≡ true)
unfolding le
chain_finite nan y a b c = absurd (false≢true a)
chain_finite (inf true) y a b c = absurd (false≢true a)
chain_finite (inf false) nan a b c = absurd (false≢true b)
chain_finite (inf false) (inf true) a b c = absurd (false≢true b)
chain_finite (inf false) (inf false) a b c = absurd (false≢true c)
chain_finite (inf false) (fin u m e) a b c = absurd (false≢true b)
chain_finite (fin u m e) nan a b c = absurd (false≢true b)
chain_finite (fin u m e) (inf true) a b c = absurd (false≢true b)
chain_finite (fin u m e) (inf false) a b c = absurd (false≢true c)
chain_finite (fin u m e) (fin v n d) a b c = (refl, refl)

-- a number between the ends is of moderate size
pub within_of : (x : Float) → is_number x ≡ true → le_z least (exact_of x) ≡ true → le_z (exact_of x) most ≡ true → NumberWithin 1000000000 x
unfolding exact_of size_of
within_of x n h k = record { number = n; size = go (minus_sign (to_bits binary64 x)) h k }
  where
    go : (s : Bool) → le_z least (with_sign s (size_of x)) ≡ true → le_z (with_sign s (size_of x)) most ≡ true → size_of x ≤ 1000000000 * unit
    go false a b = leb-true (size_of x) (1000000000 * unit) b
    go true a b =
        let l = le_parts least (neg_ℤ (pos (size_of x))) a in
        let h1 = over_neg (pos (size_of x)) in
        let h2 = under_neg (pos (size_of x)) in
        let h3 = over_neg (pos (1000000000 * unit)) in
        let h4 = under_neg (pos (1000000000 * unit)) in
        omega arith

pub wider : (x : Float) → NumberWithin 1000000000 x → NumberWithin 2000000000 x
wider x w = record { number = w.number; size = le_trans w.size (mul-le-mul_right {m = 1000000000} {n = 2000000000} unit (lit≤ tt)) }

-- ---- two ends of a box along one axis
pub record Spans (low high : Float) : Type 0 where
  pub number_low : is_number low ≡ true
  pub number_high : is_number high ≡ true
  pub at_most : le_z (exact_of low) (exact_of high) ≡ true
  pub range_low : in_range (floor_of (exact_of low)) ≡ true
  pub range_high : in_range (ceiling_of (exact_of high)) ≡ true

pub spans_parts : (low high : Float) → spans low high ≡ true → Spans low high
unfolding spans in_order
spans_parts low high e =
    let a = and_both (in_order low high && in_range (floor_of (exact_of low))) (in_range (ceiling_of (exact_of high))) e in
    let b = and_both (in_order low high) (in_range (floor_of (exact_of low))) a.0 in
    let c = and_both (is_number low && is_number high) (le_z (exact_of low) (exact_of high)) b.0 in
    let d = and_both (is_number low) (is_number high) c.0 in
    record { number_low = d.0; number_high = d.1; at_most = c.1; range_low = b.1; range_high = a.1 }

parts_spans : (low high : Float) → Spans low high → spans low high ≡ true
unfolding spans in_order
parts_spans low high s = rw (s.number_low, s.number_high, s.at_most, s.range_low, s.range_high)

-- .. and its order
pub order_parts : (low high : Float) → in_order low high ≡ true → le_z (exact_of low) (exact_of high) ≡ true
unfolding in_order
order_parts low high e = (and_both (is_number low && is_number high) (le_z (exact_of low) (exact_of high)) e).1

pub spans_of : (low high : Float) → in_order low high ≡ true → in_range (floor_of (exact_of low)) ≡ true → in_range (ceiling_of (exact_of high)) ≡ true → spans low high ≡ true
unfolding spans
spans_of low high o l h = rw (o, l, h)

pub spans_order : (low high : Float) → Spans low high → in_order low high ≡ true
unfolding in_order
spans_order low high s = rw (s.number_low, s.number_high, s.at_most)

-- its ends in units
spans_least : (low high : Float) → Spans low high → le_z least (exact_of low) ≡ true
unfolding in_range
spans_least low high s =
    let n = floor_of (exact_of low) in
    let h = and_both (le_z (negsuc 999999999) n) (le_z n (pos 1000000000)) s.range_low in
    at_most_on least (millimetres n) (exact_of low) (whole_mono (negsuc 999999999) n h.0) (floor_is (exact_of low)).not_above

spans_most : (low high : Float) → Spans low high → le_z (exact_of high) most ≡ true
unfolding in_range
spans_most low high s =
    let n = ceiling_of (exact_of high) in
    let h = and_both (le_z (negsuc 999999999) n) (le_z n (pos 1000000000)) s.range_high in
    at_most_on (exact_of high) (millimetres n) most (ceiling_is (exact_of high)).not_below (whole_mono n (pos 1000000000) h.1)

pub spans_low : (low high : Float) → Spans low high → NumberWithin 1000000000 low
spans_low low high s =
    within_of low s.number_low (spans_least low high s) (at_most_on (exact_of low) (exact_of high) most s.at_most (spans_most low high s))

pub spans_high : (low high : Float) → Spans low high → NumberWithin 1000000000 high
spans_high low high s =
    within_of high s.number_high (at_most_on least (exact_of low) (exact_of high) (spans_least low high s) s.at_most) (spans_most low high s)

-- what three tests of doubles find
tests_spans : (low high : Float) → Double low → Double high
    → le (end true) low ≡ true → le low high ≡ true → le high (end false) ≡ true → Spans low high
unfolding in_range
tests_spans low high h k a b c =
    let f = chain_finite low high a b c in
    let n = number_is low h ∙ f.0 in
    let m = number_is high k ∙ f.1 in
    let x = sym (low_test low h n) ∙ a in
    let y = sym (order_test low high h k n m) ∙ b in
    let z = sym (high_test high k m) ∙ c in
    let fl = floor_is (exact_of low) in
    let ce = ceiling_is (exact_of high) in
    let i = floor_of (exact_of low) in
    let j = ceiling_of (exact_of high) in
    record {
      number_low = n;
      number_high = m;
      at_most = y;
      range_low =
          both_and (le_z (negsuc 999999999) i) (le_z i (pos 1000000000)) (fl.largest (negsuc 999999999) x)
          (whole_le i (pos 1000000000) (at_most_on (millimetres i) (exact_of low) most fl.not_above (at_most_on (exact_of low) (exact_of high) most y z)));
      range_high =
          both_and (le_z (negsuc 999999999) j) (le_z j (pos 1000000000))
          (whole_le (negsuc 999999999) j (at_most_on least (exact_of high) (millimetres j) (at_most_on least (exact_of low) (exact_of high) x y) ce.not_below))
          (ce.smallest (pos 1000000000) z);
    }

pub spans_is : (low high : Float) → Double low → Double high
    → (le (end true) low && (le low high && le high (end false))) ≡ spans low high
spans_is low high h k =
    same_test (le (end true) low && (le low high && le high (end false))) (spans low high)
    (λ e.
    let p = and_both (le (end true) low) (le low high && le high (end false)) e in
    let q = and_both (le low high) (le high (end false)) p.1 in
    parts_spans low high (tests_spans low high h k p.0 q.0 q.1))
    (λ e.
    let s = spans_parts low high e in
    rw (low_test low h s.number_low ∙ spans_least low high s, order_test low high h k s.number_low s.number_high ∙ s.at_most, high_test high k s.number_high ∙ spans_most low high s))

-- ---- a centre or a radius
pub moderate_within : (x : Float) → moderate x ≡ true → NumberWithin 1000000000 x
unfolding moderate
moderate_within x e =
    let a = and_both (is_number x && le_z least (exact_of x)) (le_z (exact_of x) most) e in
    let b = and_both (is_number x) (le_z least (exact_of x)) a.0 in
    within_of x b.0 b.1 a.1

self_finite : (x : Float) → le (end true) x ≡ true → le x (end false) ≡ true → finite x ≡ true
unfolding le
self_finite nan a b = absurd (false≢true a)
self_finite (inf true) a b = absurd (false≢true a)
self_finite (inf false) a b = absurd (false≢true b)
self_finite (fin u m e) a b = refl

pub moderate_is : (x : Float) → Double x → (le (end true) x && le x (end false)) ≡ moderate x
unfolding moderate
moderate_is x h =
    same_test (le (end true) x && le x (end false)) (is_number x && le_z least (exact_of x) && le_z (exact_of x) most)
    (λ e.
    let p = and_both (le (end true) x) (le x (end false)) e in
    let n = number_is x h ∙ self_finite x p.0 p.1 in
    rw (n, sym (low_test x h n) ∙ p.0, sym (high_test x h n) ∙ p.1))
    (λ e.
    let a = and_both (is_number x && le_z least (exact_of x)) (le_z (exact_of x) most) e in
    let b = and_both (is_number x) (le_z least (exact_of x)) a.0 in
    rw (low_test x h b.0 ∙ b.1, high_test x h b.0 ∙ a.1))
