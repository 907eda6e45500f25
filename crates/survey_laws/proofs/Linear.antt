-- Integers as differences of two natural numbers, so that facts of order become facts that `omega` reads.
use mathlib.Core.Path.{◌≡◌, refl, sym, ap, ◌∙◌}
use mathlib.Core.Bool.{Bool, true, false, false≢true}
use Prim.Native.Nat.{ℕ, zero, suc, ◌+◌, ◌*◌, ◌≤◌, ◌<◌}
use native.Mathlib.Nat.{zero-mul}
use native.Mathlib.Omega.{arith}
use lib.Dec.{ltb}
use lib.IntN.{ℤ, pos, negsuc, neg_ℤ, sub_ℕ, ◌+ℤ◌, ◌*ℤ◌}
use lib.Signed.{le_z, lt_z}
use borrow.Author.Tests.{ltb-true, ltb-false, leb-true, le-leb, lt-leb, lt-ltb}

-- z is over z - under z, and one of the two is 0
abbrev pub over : ℤ → ℕ
over (pos a) = a
over (negsuc a) = 0

abbrev pub under : ℤ → ℕ
under (pos a) = 0
under (negsuc a) = suc a

-- ---- the order
pub le_parts : (a b : ℤ) → le_z a b ≡ true → over a + under b ≤ over b + under a
le_parts (pos a) (pos b) h = omega (arith, leb-true a b h)
le_parts (pos a) (negsuc b) h = absurd (false≢true h)
le_parts (negsuc a) (pos b) h = omega arith
le_parts (negsuc a) (negsuc b) h = omega (arith, leb-true b a h)

pub parts_le : (a b : ℤ) → over a + under b ≤ over b + under a → le_z a b ≡ true
parts_le (pos a) (pos b) h = le-leb a b (omega arith)
parts_le (pos a) (negsuc b) h = absurd (omega arith)
parts_le (negsuc a) (pos b) h = refl
parts_le (negsuc a) (negsuc b) h = le-leb b a (omega arith)

pub parts_lt : (a b : ℤ) → over a + under b < over b + under a → lt_z a b ≡ true
parts_lt (pos a) (pos b) h = lt-ltb a b (omega arith)
parts_lt (pos a) (negsuc b) h = absurd (omega arith)
parts_lt (negsuc a) (pos b) h = refl
parts_lt (negsuc a) (negsuc b) h = lt-ltb b a (omega arith)

pub parts_le_not : (a b : ℤ) → over b + under a < over a + under b → le_z a b ≡ false
parts_le_not (pos a) (pos b) h = lt-leb a b (omega arith)
parts_le_not (pos a) (negsuc b) h = refl
parts_le_not (negsuc a) (pos b) h = absurd (omega arith)
parts_le_not (negsuc a) (negsuc b) h = lt-leb b a (omega arith)

-- a ≤ b, or b < a by the parts
pub le_or : (a b : ℤ) → (over b + under a < over a + under b → ⊥) → le_z a b ≡ true
le_or a b f = parts_le a b (go (ltb (over b + under a) (over a + under b)) refl)
  where
    go : (t : Bool) → ltb (over b + under a) (over a + under b) ≡ t → over a + under b ≤ over b + under a
    go true e = absurd (f (ltb-true (over b + under a) (over a + under b) e))
    go false e = ltb-false (over b + under a) (over a + under b) e

-- ---- equality
pub parts_eq : (a b : ℤ) → over a + under b ≡ over b + under a → a ≡ b
parts_eq (pos a) (pos b) h = ap pos (omega arith)
parts_eq (pos a) (negsuc b) h = absurd (omega arith)
parts_eq (negsuc a) (pos b) h = absurd (omega arith)
parts_eq (negsuc a) (negsuc b) h = ap negsuc (omega arith)

-- ---- sums, negation, products with a natural number
sub_parts : (a b : ℕ) → over (sub_ℕ a b) + b ≡ a + under (sub_ℕ a b)
sub_parts a b = go (ltb a b) refl
  where
    go : (t : Bool) → ltb a b ≡ t → over (sub_ℕ a b) + b ≡ a + under (sub_ℕ a b)
    go true e = let l : a < b = ltb-true a b e in rw e (omega arith)
    go false e = let l : b ≤ a = ltb-false a b e in rw e (omega arith)

pub sum_parts : (a b : ℤ) → over (a +ℤ b) + (under a + under b) ≡ over a + over b + under (a +ℤ b)
sum_parts (pos a) (pos b) = omega arith
sum_parts (pos a) (negsuc b) = omega (arith, sub_parts a (suc b))
sum_parts (negsuc a) (pos b) = omega (arith, sub_parts b (suc a))
sum_parts (negsuc a) (negsuc b) = omega arith

pub over_neg : (a : ℤ) → over (neg_ℤ a) ≡ under a
over_neg (pos zero) = refl
over_neg (pos (suc a)) = refl
over_neg (negsuc a) = refl

pub under_neg : (a : ℤ) → under (neg_ℤ a) ≡ over a
under_neg (pos zero) = refl
under_neg (pos (suc a)) = refl
under_neg (negsuc a) = refl

pub over_mul : (a : ℤ) (d : ℕ) → over (a *ℤ pos d) ≡ over a * d
over_mul (pos a) d = refl
over_mul (negsuc a) d = over_neg (pos (suc a * d)) ∙ sym (zero-mul d)

pub under_mul : (a : ℤ) (d : ℕ) → under (a *ℤ pos d) ≡ under a * d
under_mul (pos a) d = sym (zero-mul d)
under_mul (negsuc a) d = under_neg (pos (suc a * d))
