-- A whole number as a double has that value exactly, and comes back unchanged.
use mathlib.Core.Path.{◌≡◌, ◌∙◌}
use mathlib.Core.Bool.{Bool, true, false}
use Prim.Native.Nat.{ℕ, suc, ◌*◌, ◌^◌, ◌≤◌}
use native.Mathlib.Omega.{arith}
use lib.IntN.{ℤ, pos, negsuc, ◌*ℤ◌}
use lib.Ieee.{binary64, of_int}
use lib.Ieee.Fits.{of_int-fits}
use mir.Syntax.{w32}
use mir.Val.{SFits}
use Rattle.rules.specs.Doubles.{unit, is_number, with_sign, exact_of, floor_of, ceiling_of}
use Rattle.rules_laws.proofs.Orders.{both_at_most, at_most_self}
use Rattle.survey_laws.proofs.Values.{exact_is, value_number}
use Rattle.survey_laws.proofs.Floors.{whole_value, floor_is, ceiling_is}
use Rattle.survey_laws.proofs.Ranges.{whole_le}

-- ---- exactly
whole_with_sign : (s : Bool) (q : ℕ) → q ≤ 2 ^ 53 → exact_of (of_int binary64 (with_sign s q)) ≡ with_sign s (q * unit)
whole_with_sign s q h =
    let v = whole_value s q h in
    exact_is (of_int binary64 (with_sign s q)) v.0 (q * unit) (of_int-fits binary64 (with_sign s q)) v.1 ∙ v.2

pub whole_exact : (n : ℤ) → SFits w32 n → exact_of (of_int binary64 n) ≡ n *ℤ pos unit
whole_exact (pos n) h = whole_with_sign false n (omega (arith, h.sfits))
whole_exact (negsuc n) h = whole_with_sign true (suc n) (omega (arith, h.sfits))

number_signed : (s : Bool) (q : ℕ) → q ≤ 2 ^ 53 → is_number (of_int binary64 (with_sign s q)) ≡ true
number_signed s q h = let v = whole_value s q h in value_number (of_int binary64 (with_sign s q)) v.0 (q * unit) (of_int-fits binary64 (with_sign s q)) v.1

pub whole_number : (n : ℤ) → SFits w32 n → is_number (of_int binary64 n) ≡ true
whole_number (pos n) h = number_signed false n (omega (arith, h.sfits))
whole_number (negsuc n) h = number_signed true (suc n) (omega (arith, h.sfits))

-- ---- by rounding down or up
pub floor_whole : (n : ℤ) → floor_of (n *ℤ pos unit) ≡ n
floor_whole n =
    let f = floor_is (n *ℤ pos unit) in
    both_at_most (floor_of (n *ℤ pos unit)) n (whole_le (floor_of (n *ℤ pos unit)) n f.not_above) (f.largest n (at_most_self (n *ℤ pos unit)))

pub ceil_whole : (n : ℤ) → ceiling_of (n *ℤ pos unit) ≡ n
ceil_whole n =
    let f = ceiling_is (n *ℤ pos unit) in
    both_at_most (ceiling_of (n *ℤ pos unit)) n (f.smallest n (at_most_self (n *ℤ pos unit))) (whole_le n (ceiling_of (n *ℤ pos unit)) f.not_below)
