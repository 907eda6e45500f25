-- Req 03: "the double's exact value defined as a whole fraction from its bits", and the whole numbers next to it.
use Rattle.std.specs.Prelude.{◌≡◌, Bool, true, not, cond, ℕ, zero, suc, ◌+◌, ◌*◌, ◌/◌, ◌%◌, ◌^◌, T, leb, eqb, ℤ, pos, negsuc, neg_ℤ, ◌*ℤ◌, Float, Option, None, Some}
use Rattle.std.specs.Int.Signed.{le_z}
use Rattle.std.specs.Float.{binary64}
use Rattle.std.specs.Float.Ieee.{fits, to_bits}

-- a double: one of the kit's floats that 64 bits can hold
abbrev pub Double : Float → Type 0
Double x = T (fits binary64 x)

-- ---- the fields of the 64 bits: one of sign, eleven of exponent, fifty-two of fraction

abbrev pub minus_sign : ℕ → Bool
minus_sign bits = leb (2 ^ 63) bits

abbrev pub exponent : ℕ → ℕ
exponent bits = bits % 2 ^ 63 / 2 ^ 52

abbrev pub fraction : ℕ → ℕ
fraction bits = bits % 2 ^ 52

-- "a NaN, an infinity": their exponent is all ones, and they have no value
abbrev pub number_in : ℕ → Bool
number_in bits = not (eqb (exponent bits) 2047)

-- ---- the value: a whole number of units, of which a millimetre has 2 ^ 1074. One unit is the smallest double above zero, so that every
-- double is a whole number of them, and `exact_of x / unit` is the fraction that x is

unfoldable pub unit : ℕ
unit = 2 ^ 1074

-- a whole number of millimetres, in units
abbrev pub millimetres : ℤ → ℤ
millimetres n = n *ℤ pos unit

-- the size: a fraction with a one before it, as often doubled as the exponent says; where the exponent is 0 no one is before it, and nothing
-- is doubled
abbrev pub size_from : ℕ → ℕ → ℕ
size_from zero f = f
size_from (suc e) f = (2 ^ 52 + f) * 2 ^ e

-- the size with its sign. "Minus zero is 0."
abbrev pub with_sign : Bool → ℕ → ℤ
with_sign minus size = cond minus (neg_ℤ (pos size)) (pos size)

abbrev pub exact_in : ℕ → ℤ
exact_in bits = with_sign (minus_sign bits) (size_from (exponent bits) (fraction bits))

-- of a double, by its bits
unfoldable pub is_number : Float → Bool
is_number x = number_in (to_bits binary64 x)

unfoldable pub exact_of : Float → ℤ
exact_of x = exact_in (to_bits binary64 x)

-- "the double's exact value": so many units; a NaN and the infinities have none
unfoldable pub value_of : Float → Option ℤ
value_of x = cond (is_number x) (Some (exact_of x)) None

-- ---- whole millimetres

-- so many units rounded down, and up. (`negsuc a` is -1 - a)
unfoldable pub floor_of : ℤ → ℤ
floor_of (pos a) = pos (a / unit)
floor_of (negsuc a) = negsuc (a / unit)

unfoldable pub ceiling_of : ℤ → ℤ
unfolding floor_of
ceiling_of z = neg_ℤ (floor_of (neg_ℤ z))

-- "the largest whole number not above it": it is not above, and every whole number that is not above is at most it
pub record LargestNotAbove (z n : ℤ) : Type 0 where
  pub not_above : le_z (millimetres n) z ≡ true
  pub largest : (k : ℤ) → le_z (millimetres k) z ≡ true → le_z k n ≡ true

-- "the smallest not below"
pub record SmallestNotBelow (z n : ℤ) : Type 0 where
  pub not_below : le_z z (millimetres n) ≡ true
  pub smallest : (k : ℤ) → le_z z (millimetres k) ≡ true → le_z n k ≡ true
