-- Words joined bit by bit: the result is zero where each of them is.
use mathlib.Core.Path.{◌≡◌, refl, sym, ap, ap₂, ◌∙◌}
use mathlib.Core.Bool.{Bool, true, false, ◌&&◌}
use Prim.Native.Nat.{ℕ, zero, suc, ◌-◌, ◌^◌}
use native.Mathlib.Omega.{arith}
use lib.Bits.{bit_or, or_add_and, and_le_r}
use lib.Dec.{eqb, leb, ltb}
use lib.IntN.{ℤ, pos, negsuc}
use mir.Syntax.{w32}
use mir.Val.{SFits, to_z, of_z, sel, hbits, bits}
use mir.Facts.{to_z-of_z}
use borrow.Author.Tests.{ne_eqb, lt-leb}
use Rattle.rules.specs.Lists.{same}
use Rattle.rules_laws.proofs.Bools.{stop}

stops : (b : Bool) → (b && false) ≡ false
stops true = refl
stops false = refl

-- a word is zero where its bits are
pub zero_bits : (n : ℕ) → same (pos 0) (to_z w32 n) ≡ eqb n 0
unfolding same
zero_bits zero = refl
zero_bits (suc n) = go (ltb (suc n) (2 ^ hbits w32)) ∙ sym (ne_eqb (suc n) 0 (λ e. omega arith))
  where
    go : (b : Bool) → same (pos 0) (sel b (pos (suc n)) (negsuc (2 ^ bits w32 - suc (suc n)))) ≡ false
    go true = rw (lt-leb (suc n) 0 (omega arith)) (stops (leb 0 (suc n)))
    go false = refl

or_zero : (a b : ℕ) → eqb (bit_or a b) 0 ≡ (eqb a 0 && eqb b 0)
or_zero zero b = refl
or_zero (suc a) b =
    ne_eqb (bit_or (suc a) b) 0 (λ e. omega (arith, e, or_add_and (suc a) b, and_le_r (suc a) b))
    ∙ sym (stop (eqb (suc a) 0) (eqb b 0) (ne_eqb (suc a) 0 (λ e. omega arith)))

-- whether a word is zero, as the code asks it
pub zero_asked : (z : ℤ) → SFits w32 z → eqb (of_z w32 z) 0 ≡ same (pos 0) z
zero_asked z s = sym (zero_bits (of_z w32 z)) ∙ ap (same (pos 0)) (to_z-of_z s)

-- .. and of two sets of bits joined
pub bits_joined : (a b : ℕ) → same (pos 0) (to_z w32 (bit_or a b)) ≡ (same (pos 0) (to_z w32 a) && same (pos 0) (to_z w32 b))
bits_joined a b = zero_bits (bit_or a b) ∙ or_zero a b ∙ ap₂ ◌&&◌ (sym (zero_bits a)) (sym (zero_bits b))

pub joined_zero : (a b : ℤ) → SFits w32 a → SFits w32 b
    → same (pos 0) (to_z w32 (bit_or (of_z w32 a) (of_z w32 b))) ≡ (same (pos 0) a && same (pos 0) b)
joined_zero a b f g = zero_bits (bit_or (of_z w32 a) (of_z w32 b)) ∙ or_zero (of_z w32 a) (of_z w32 b) ∙ ap₂ ◌&&◌ (zero_asked a f) (zero_asked b g)
