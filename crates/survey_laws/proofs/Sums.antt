-- A sum or a difference of two doubles is the exact one, roundsTo once, and is within 2 ^ -22 of a millimetre of it. So the window of a disc holds the disc.
use mathlib.Core.Path.{◌≡◌, refl, sym, ap, ◌∙◌, subst}
use mathlib.Core.Bool.{Bool, true, false}
use Prim.Native.Nat.{ℕ, ◌+◌, ◌-◌, ◌*◌, ◌/◌, ◌^◌, ◌≤◌, ◌<◌}
use native.Mathlib.Nat.{one-mul, mul_comm, mul-sub, zero-mul, add-mul, mul-le-mul_right, le_trans, le_of_eq}
use native.Mathlib.Nat.{div-mul-le_self, lt-div-mul-add, div-le_of_le-mul, mul_assoc, mul_right_comm, lt_of_lt_of_le}
use native.Mathlib.Omega.{arith}
use lib.Dec.{T, ltb, lit≤}
use lib.IntN.{ℤ, pos, negsuc, neg_ℤ, ◌+ℤ◌, ◌-ℤ◌, +ℤ_comm}
use lib.Signed.{le_z, lt_z}
use lib.Pow.{pow_pos, pow_mono, shl_lt}
use lib.Ieee.{Float, nan, inf, fin, binary64, prec, low, up, down, round, sum, add, sub, neg, le, to_bits}
use lib.Ieee.Exact.{HasValue, units_val, round_exact}
use lib.Ieee.Fits.{round_is, add-fits, neg-fits}
use lib.Ieee.Order.{round_mono, kept, drop}
use lib.Ieee.Scale.{round_same, finite, grid, overflow, round_under}
use borrow.Author.Tests.{ltb-true, ltb-false, leb-true}
use Rattle.rules.specs.Doubles.{Double, unit, minus_sign, millimetres, with_sign, exact_of, floor_of, ceiling_of}
use Rattle.survey_laws.specs.Sizes.{size_of, NumberWithin}
use Rattle.survey_laws.proofs.Values.{by_sizes, unit_pos, sum_cross, own_value, exact_is, size_is, value_number, ltb_cross, le_value, exact_neg, within_neg}
use Rattle.survey_laws.proofs.Linear.{over, under, parts_le, parts_lt, parts_eq, sum_parts, over_mul, under_mul, over_neg, under_neg}
use Rattle.survey_laws.proofs.Floors.{floor_parts}

-- ---- the difference over the common denominator
sub_mul : (m n k : ℕ) → (m - n) * k ≡ m * k - n * k
sub_mul m n k = mul_comm (m - n) k ∙ mul-sub k m n ∙ ap (λ (x : ℕ). x - k * n) (mul_comm k m) ∙ ap (λ (x : ℕ). m * k - x) (mul_comm k n)

dif_cross : (A B C a b : ℕ) → A * unit ≡ a * C → B * unit ≡ b * C → (A - B) * unit ≡ (a - b) * C
dif_cross A B C a b p q = sub_mul A B unit ∙ ap (λ (n : ℕ). n - B * unit) p ∙ ap (λ (n : ℕ). a * C - n) q ∙ sym (sub_mul a b C)

sum_same : (s t : Bool) (A B a b C : ℕ) → 0 < C → A * unit ≡ a * C → B * unit ≡ b * C → sum binary64 s A t B C ≡ sum binary64 s a t b unit
unfolding sum
sum_same false false A B a b C h p q = round_same binary64 false (A + B) C (a + b) unit h unit_pos (sum_cross A B C a b p q)
sum_same true true A B a b C h p q = round_same binary64 true (A + B) C (a + b) unit h unit_pos (sum_cross A B C a b p q)
sum_same false true A B a b C h p q =
    let more = round_same binary64 true (B - A) C (b - a) unit h unit_pos (dif_cross B A C b a q p) in
    let less = round_same binary64 false (A - B) C (a - b) unit h unit_pos (dif_cross A B C a b p q) in
    rw (ltb_cross A B a b C h p q, more, less)
sum_same true false A B a b C h p q =
    let more = round_same binary64 false (B - A) C (b - a) unit h unit_pos (dif_cross B A C b a q p) in
    let less = round_same binary64 (ltb b a) (A - B) C (a - b) unit h unit_pos (dif_cross A B C a b p q) in
    rw (ltb_cross A B a b C h p q, ltb_cross B A b a C h q p, more, less)

pub add_value : (x y : Float) (s t : Bool) (a b : ℕ) → HasValue x s a unit → HasValue y t b unit → add binary64 x y ≡ sum binary64 s a t b unit
unfolding add
add_value nan y s t a b p q = absurd p
add_value (inf u) y s t a b p q = absurd p
add_value (fin u m e) nan s t a b p q = absurd q
add_value (fin u m e) (inf v) s t a b p q = absurd q
add_value (fin u m e) (fin v n d) s t a b p q = by_sizes (sum binary64) sum_same u v m n e d s t a b p q

-- ---- the sum is one rounding of the exact sum
pub record OneRounding (s t : Bool) (a b : ℕ) : Type 0 where
  pub sign : Bool
  pub size : ℕ
  pub is : sum binary64 s a t b unit ≡ round binary64 sign size unit
  pub exact : with_sign s a +ℤ with_sign t b ≡ with_sign sign size
  pub most : size ≤ a + b

neg_sum : (a b : ℕ) → neg_ℤ (pos a) +ℤ neg_ℤ (pos b) ≡ neg_ℤ (pos (a + b))
neg_sum a b =
    let x = neg_ℤ (pos a) in
    let y = neg_ℤ (pos b) in
    let z = neg_ℤ (pos (a + b)) in
    let h = sum_parts x y in
    let h1 = over_neg (pos a) in
    let h2 = under_neg (pos a) in
    let h3 = over_neg (pos b) in
    let h4 = under_neg (pos b) in
    let h5 = over_neg (pos (a + b)) in
    let h6 = under_neg (pos (a + b)) in
    parts_eq (x +ℤ y) z (omega arith)

dif_pos : (a b : ℕ) → b ≤ a → pos a +ℤ neg_ℤ (pos b) ≡ pos (a - b)
dif_pos a b l =
    let h = sum_parts (pos a) (neg_ℤ (pos b)) in
    let h3 = over_neg (pos b) in
    let h4 = under_neg (pos b) in
    parts_eq (pos a +ℤ neg_ℤ (pos b)) (pos (a - b)) (omega arith)

dif_neg : (a b : ℕ) → a ≤ b → pos a +ℤ neg_ℤ (pos b) ≡ neg_ℤ (pos (b - a))
dif_neg a b l =
    let h = sum_parts (pos a) (neg_ℤ (pos b)) in
    let h3 = over_neg (pos b) in
    let h4 = under_neg (pos b) in
    let h5 = over_neg (pos (b - a)) in
    let h6 = under_neg (pos (b - a)) in
    parts_eq (pos a +ℤ neg_ℤ (pos b)) (neg_ℤ (pos (b - a))) (omega arith)

once_mixed : (a b : ℕ) (t : Bool) → ltb a b ≡ t → OneRounding false true a b
unfolding sum
once_mixed a b true e = record { sign = true; size = b - a; is = rw e; exact = dif_neg a b (omega (arith, ltb-true a b e)); most = omega arith }
once_mixed a b false e = record { sign = false; size = a - b; is = rw e; exact = dif_pos a b (ltb-false a b e); most = omega arith }

once_other : (a b : ℕ) (t u : Bool) → ltb a b ≡ t → ltb b a ≡ u → OneRounding true false a b
unfolding sum
once_other a b true u e f = record { sign = false; size = b - a; is = rw e; exact = +ℤ_comm (neg_ℤ (pos a)) (pos b) ∙ dif_pos b a (omega (arith, ltb-true a b e)); most = omega arith }
once_other a b false true e f = record { sign = true; size = a - b; is = rw (e, f); exact = +ℤ_comm (neg_ℤ (pos a)) (pos b) ∙ dif_neg b a (ltb-false a b e); most = omega arith }
once_other a b false false e f =
    let g : b - a ≡ a - b = omega (arith, ltb-false a b e, ltb-false b a f) in
    record {
      sign = false;
      size = a - b;
      is = rw (e, f);
      exact = +ℤ_comm (neg_ℤ (pos a)) (pos b) ∙ dif_pos b a (ltb-false b a f) ∙ ap pos g;
      most = omega arith;
    }

pub once : (s t : Bool) (a b : ℕ) → OneRounding s t a b
unfolding sum
once false false a b = record { sign = false; size = a + b; is = refl; exact = refl; most = omega arith }
once true true a b = record { sign = true; size = a + b; is = refl; exact = neg_sum a b; most = omega arith }
once false true a b = once_mixed a b (ltb a b) refl
once true false a b = once_other a b (ltb a b) (ltb b a) refl refl

-- ---- rounding never passes a multiple of 2 ^ -22 of a millimetre, up to 2 ^ 31 millimetres, since each is a double
unfoldable pub step : ℕ
step = 2 ^ 1052

unit_steps : unit ≡ 4194304 * step
unfolding unit step
unit_steps = refl

steps_in : (k : ℕ) → k * unit ≡ k * 4194304 * step
steps_in k = ap (λ (n : ℕ). k * n) unit_steps ∙ sym (mul_assoc k 4194304 step)

step_pos : 0 < step
unfolding step
step_pos = pow_pos 1052

pub step_le : step ≤ unit
step_le = let e = unit_steps in omega arith

step_scaled : (x : Float) (k : ℕ) → HasValue x false k 4194304 → HasValue x false (k * step) unit
step_scaled nan k p = absurd p
step_scaled (inf u) k p = absurd p
step_scaled (fin u m e) k p = (
  p.0,
  ap (λ (n : ℕ). m * up e * n) unit_steps
      ∙ sym (mul_assoc (m * up e) 4194304 step)
      ∙ ap (λ (n : ℕ). n * step) p.1
      ∙ mul_right_comm k (down e) step,
)

step_value : (k : ℕ) → k < 2 ^ 53 → HasValue (round binary64 false k 4194304) false (k * step) unit
unfolding step
step_value k h =
    step_scaled (round binary64 false k 4194304) k
    (round_exact binary64 false k 4194304 k 1052 (lit≤ tt) h (lt_of_lt_of_le (shl_lt 53 1052 h) (pow_mono {i = 1105} {j = 2098} (lit≤ tt))) (sym (mul_assoc k (2 ^ 1052) 4194304)))

between : (x y z : Float) (a b : ℕ) → HasValue x false a unit → HasValue z false b unit → T (le x y) → T (le y z) → T (finite y)
unfolding le
between nan y z a b p q h k = absurd p
between (inf u) y z a b p q h k = absurd p
between (fin u m e) nan z a b p q h k = absurd h
between (fin u m e) (inf true) z a b p q h k = absurd h
between (fin u m e) (inf false) nan a b p q h k = absurd q
between (fin u m e) (inf false) (inf v) a b p q h k = absurd q
between (fin u m e) (inf false) (fin v n d) a b p q h k = absurd k
between (fin u m e) (fin v n d) z a b p q h k = tt

-- z units roundsTo once to a double, in units
unfoldable pub rounds_to : ℕ → ℕ
rounds_to z = grid binary64 z unit

rounded_value : (u : Bool) (z : ℕ) → grid binary64 z unit < overflow binary64 → HasValue (round binary64 u z unit) u (rounds_to z) unit
unfolding unit rounds_to
rounded_value u z h =
    subst (λ (x : Float). HasValue x u (grid binary64 z unit) (2 ^ low binary64)) (sym (round_is binary64 u z unit))
    (units_val binary64 u (kept (prec binary64) (z * 2 ^ low binary64) unit) (drop (prec binary64) (z * 2 ^ low binary64) unit) h)

pub record RoundsTo (u : Bool) (z j k : ℕ) : Type 0 where
  pub value : HasValue (round binary64 u z unit) u (rounds_to z) unit
  pub least : j * step ≤ rounds_to z
  pub most : rounds_to z ≤ k * step

is_true : (b : Bool) → T b → b ≡ true
is_true true t = refl
is_true false t = absurd t

-- from steps to a fraction over 2 ^ 22
to_fraction : (j : ℕ) → j * step * 4194304 ≡ j * unit
to_fraction j = mul_right_comm j step 4194304 ∙ sym (steps_in j)

pub rounds : (u : Bool) (z j k : ℕ) → j < 2 ^ 53 → k < 2 ^ 53 → j * step ≤ z → z ≤ k * step → RoundsTo u z j k
rounds u z j k J K l h =
    let x = round binary64 false j 4194304 in
    let y = round binary64 false z unit in
    let w = round binary64 false k 4194304 in
    let p : T (le x y) = round_mono binary64 j 4194304 z unit (lit≤ tt) unit_pos (le_trans (le_of_eq (sym (to_fraction j))) (mul-le-mul_right 4194304 l)) in
    let q : T (le y w) = round_mono binary64 z unit k 4194304 unit_pos (lit≤ tt) (le_trans (mul-le-mul_right 4194304 h) (le_of_eq (to_fraction k))) in
    let vx = step_value j J in
    let vw = step_value k K in
    let fine = round_under binary64 z unit (between x y w (j * step) (k * step) vx vw p q) in
    let vy = rounded_value false z fine in
    record {
      value = rounded_value u z fine;
      least = leb-true (j * step) (rounds_to z) (sym (le_value x y false false (j * step) (rounds_to z) vx vy) ∙ is_true (le x y) p);
      most = leb-true (rounds_to z) (k * step) (sym (le_value y w false false (rounds_to z) (k * step) vy vw) ∙ is_true (le y w) q);
    }

-- ---- f is within 2 ^ -22 of a millimetre of v
pub record Close (f v : ℤ) : Type 0 where
  pub not_over : over f + under v ≤ over v + under f + step
  pub not_under : over v + under f ≤ over f + under v + step

close_sized : (u : Bool) (z g : ℕ) → g ≤ z + step → z ≤ g + step → Close (with_sign u g) (with_sign u z)
close_sized false z g h k = record { not_over = omega arith; not_under = omega arith }
close_sized true z g h k =
    let h1 = over_neg (pos g) in
    let h2 = under_neg (pos g) in
    let h3 = over_neg (pos z) in
    let h4 = under_neg (pos z) in
    record { not_over = omega arith; not_under = omega arith }

pub record Added (x : Float) (v : ℤ) : Type 0 where
  pub within : NumberWithin 2000000000 x
  pub close : Close (exact_of x) v

next_step : (z : ℕ) → (z / step * step ≤ z) × (z ≤ (z / step + 1) * step)
next_step z =
    let u : z < z / step * step + step = lt-div-mul-add step_pos in
    let e : (z / step + 1) * step ≡ z / step * step + step = add-mul (z / step) 1 step ∙ ap (λ (n : ℕ). z / step * step + n) (one-mul step) in
    (div-mul-le_self z step, omega arith)

pub added : (x y : Float) → Double x → Double y → NumberWithin 1000000000 x → NumberWithin 1000000000 y → Added (add binary64 x y) (exact_of x +ℤ exact_of y)
unfolding exact_of size_of
added x y hx hy wx wy =
    let s = minus_sign (to_bits binary64 x) in
    let t = minus_sign (to_bits binary64 y) in
    let a = size_of x in
    let b = size_of y in
    let o = once s t a b in
    let z = o.size in
    let u = o.sign in
    let is : add binary64 x y ≡ round binary64 u z unit = add_value x y s t a b (own_value x hx wx.number) (own_value y hy wy.number) ∙ o.is in
    let d : 2000000000 * unit ≡ 1000000000 * unit + 1000000000 * unit = add-mul 1000000000 1000000000 unit in
    let i : 2000000000 * unit ≡ 8388608000000000 * step = steps_in 2000000000 in
    let m : z ≤ 8388608000000000 * step = omega (arith, o.most, wx.size, wy.size) in
    let q : z / step ≤ 8388608000000000 = div-le_of_le-mul step (le_trans m (le_of_eq (mul_comm 8388608000000000 step))) in
    let all = rounds u z 0 8388608000000000 (lit≤ tt) (lit≤ tt) (omega (arith, zero-mul step)) m in
    let n = next_step z in
    let one = rounds u z (z / step) (z / step + 1) (omega arith) (omega arith) n.0 n.1 in
    let v : HasValue (add binary64 x y) u (rounds_to z) unit = subst (λ (r : Float). HasValue r u (rounds_to z) unit) (sym is) all.value in
    let f = add-fits binary64 x y in
    let e : (z / step + 1) * step ≡ z / step * step + step = add-mul (z / step) 1 step ∙ ap (λ (k : ℕ). z / step * step + k) (one-mul step) in
    let near : Close (with_sign u (rounds_to z)) (with_sign u z) = close_sized u z (rounds_to z) (omega (arith, one.most, n.0)) (omega (arith, one.least, n.1)) in
    record {
      within = record { number = value_number (add binary64 x y) u (rounds_to z) f v; size = rw (size_is (add binary64 x y) u (rounds_to z) f v) (le_trans all.most (le_of_eq (sym i))) };
      close = rw (exact_is (add binary64 x y) u (rounds_to z) f v, o.exact) near;
    }

-- the difference is the sum with the other sign
pub subtracted : (x y : Float) → Double x → Double y → NumberWithin 1000000000 x → NumberWithin 1000000000 y → Added (sub binary64 x y) (exact_of x -ℤ exact_of y)
unfolding sub
subtracted x y hx hy wx wy =
    subst (λ (z : ℤ). Added (add binary64 x (neg y)) (exact_of x +ℤ z)) (exact_neg y hy wy.number)
    (added x (neg y) hx (neg-fits binary64 y hy) wx (within_neg 1000000000 y hy wy))

-- ---- the sides of a disc's window
times : (n k : ℤ) → over (n +ℤ k) * unit + (under n * unit + under k * unit) ≡ over n * unit + over k * unit + under (n +ℤ k) * unit
times n k =
    let s = n +ℤ k in
    ap (λ (m : ℕ). over s * unit + m) (sym (add-mul (under n) (under k) unit))
    ∙ sym (add-mul (over s) (under n + under k) unit)
    ∙ ap (λ (m : ℕ). m * unit) (sum_parts n k)
    ∙ add-mul (over n + over k) (under s) unit
    ∙ ap (λ (m : ℕ). m + under s * unit) (add-mul (over n) (over k) unit)

-- a difference that is below k
below : (v m : ℤ) (k : ℕ) → over v + under m < over m + under v + k → lt_z (v -ℤ m) (pos k) ≡ true
below v m k h =
    let s = sum_parts v (neg_ℤ m) in
    let o = over_neg m in
    let u = under_neg m in
    parts_lt (v -ℤ m) (pos k) (omega arith)

pub low_side : (f v : ℤ) → Close f v
    → (le_z (millimetres (floor_of f -ℤ pos 1)) v ≡ true) × (lt_z (v -ℤ millimetres (floor_of f -ℤ pos 1)) (millimetres (pos 3)) ≡ true)
low_side f v c =
    let n = floor_of f in
    let l = n -ℤ pos 1 in
    let p = floor_parts f in
    let a = times n (negsuc 0) in
    let o : 1 * unit ≡ unit = one-mul unit in
    let e : 0 * unit ≡ 0 = zero-mul unit in (
      parts_le (millimetres l) v (rw (over_mul l unit, under_mul l unit) (omega (arith, c.not_over, step_le))),
      below v (millimetres l) (3 * unit) (rw (over_mul l unit, under_mul l unit) (omega (arith, c.not_under, step_le))),
    )

ceiling_parts : (z : ℤ) → (over z + under (ceiling_of z) * unit ≤ over (ceiling_of z) * unit + under z) × (over (ceiling_of z) * unit + under z < over z + under (ceiling_of z) * unit + unit)
unfolding ceiling_of
ceiling_parts z =
    let n = floor_of (neg_ℤ z) in
    let p = rw (over_neg z, under_neg z) at (floor_parts (neg_ℤ z)) in
    rw (over_neg n, under_neg n) (omega arith, omega arith)

pub high_side : (f v : ℤ) → Close f v
    → (le_z v (millimetres (ceiling_of f +ℤ pos 1)) ≡ true) × (lt_z (millimetres (ceiling_of f +ℤ pos 1) -ℤ v) (millimetres (pos 3)) ≡ true)
high_side f v c =
    let n = ceiling_of f in
    let l = n +ℤ pos 1 in
    let p = ceiling_parts f in
    let a = times n (pos 1) in
    let o : 1 * unit ≡ unit = one-mul unit in
    let e : 0 * unit ≡ 0 = zero-mul unit in (
      parts_le v (millimetres l) (rw (over_mul l unit, under_mul l unit) (omega (arith, c.not_under, step_le))),
      below (millimetres l) v (3 * unit) (rw (over_mul l unit, under_mul l unit) (omega (arith, c.not_over, step_le))),
    )
