-- Whole numbers in range as naturals counted from -1,000,000,000, so that `omega` can work; and differences of two naturals.
use mathlib.Core.Path.{◌≡◌, refl, sym, ap, ◌∙◌}
use mathlib.Core.Bool.{Bool, true, false}
use Prim.Native.Nat.{ℕ, zero, suc, ◌≤◌, ◌<◌, ◌-◌, ◌+◌}
use native.Mathlib.Omega.{arith}
use lib.Dec.{leb, ltb}
use lib.IntN.{ℤ, pos, negsuc, ◌-ℤ◌, sub_ℕ}
use lib.Signed.{le_z, lt_z}
use borrow.Author.Tests.{ltb-true, ltb-false, leb-true, le-leb, lt-leb, le-ltb, lt-ltb}
use mir.Syntax.{w32}
use mir.Val.{SFits, to_z, of_z}
use mir.Facts.{to_z-of_z}
use Rattle.rules.specs.Numbers.{in_range}
use Rattle.rules_laws.proofs.Bools.{and_both, leb_same}

-- ---- differences of two naturals

-- a - b, where it is not negative and where it is
pub sub_pos : (a b : ℕ) → b ≤ a → sub_ℕ a b ≡ pos (a - b)
sub_pos a b h = rw (le-ltb a b)

pub sub_neg : (a b : ℕ) → a < b → sub_ℕ a b ≡ negsuc (b - suc a)
sub_neg a b h = rw (lt-ltb a b)

-- the same difference
pub sub_same : (a b c d : ℕ) → a + d ≡ c + b → sub_ℕ a b ≡ sub_ℕ c d
sub_same a b c d e = go (ltb a b) refl
  where
    go : (t : Bool) → ltb a b ≡ t → sub_ℕ a b ≡ sub_ℕ c d
    go true t = let l : a < b = ltb-true a b t in sub_neg a b l ∙ ap negsuc (omega arith) ∙ sym (sub_neg c d (omega arith))
    go false t = let l : b ≤ a = ltb-false a b t in sub_pos a b l ∙ ap pos (omega arith) ∙ sym (sub_pos c d (omega arith))

pub pos_minus : (a b : ℕ) → pos a -ℤ pos b ≡ sub_ℕ a b
pos_minus a zero = ap pos (omega arith) ∙ sym (sub_pos a 0 (omega arith))
pos_minus a (suc b) = refl

pub sub_minus : (a b c : ℕ) → sub_ℕ a b -ℤ pos c ≡ sub_ℕ a (b + c)
sub_minus a b c = go (ltb a b) refl c
  where
    go : (t : Bool) → ltb a b ≡ t → (c : ℕ) → sub_ℕ a b -ℤ pos c ≡ sub_ℕ a (b + c)
    go true t zero = let l : a < b = ltb-true a b t in
        rw (sub_neg a b l) (sub_same 0 (suc (b - suc a)) a (b + 0) (omega arith))
    go true t (suc c) = let l : a < b = ltb-true a b t in
        rw (sub_neg a b l, sub_neg a (b + suc c) (omega arith)) (ap negsuc (omega arith))
    go false t c = let l : b ≤ a = ltb-false a b t in
        rw (sub_pos a b l) (pos_minus (a - b) c ∙ sub_same (a - b) c a (b + c) (omega arith))

pub sub_lt : (a b c d : ℕ) → lt_z (sub_ℕ a b) (sub_ℕ c d) ≡ ltb (a + d) (c + b)
sub_lt a b c d = go (ltb a b) (ltb c d) refl refl
  where
    go : (s t : Bool) → ltb a b ≡ s → ltb c d ≡ t → lt_z (sub_ℕ a b) (sub_ℕ c d) ≡ ltb (a + d) (c + b)
    go true true s t =
        let l : a < b = ltb-true a b s in
        let m : c < d = ltb-true c d t in
        rw (sub_neg a b l, sub_neg c d m) (leb_same (suc (d - suc c)) (b - suc a) (suc (a + d)) (c + b) (omega arith) (omega arith))
    go true false s t =
        let l : a < b = ltb-true a b s in
        let m : d ≤ c = ltb-false c d t in
        rw (sub_neg a b l, sub_pos c d m) (sym (lt-ltb (a + d) (c + b) (omega arith)))
    go false true s t =
        let l : b ≤ a = ltb-false a b s in
        let m : c < d = ltb-true c d t in
        rw (sub_pos a b l, sub_neg c d m) (sym (le-ltb (a + d) (c + b) (omega arith)))
    go false false s t =
        let l : b ≤ a = ltb-false a b s in
        let m : d ≤ c = ltb-false c d t in
        rw (sub_pos a b l, sub_pos c d m) (leb_same (suc (a - b)) (c - d) (suc (a + d)) (c + b) (omega arith) (omega arith))

-- ---- numbers in range

-- the whole number z, counted from -1,000,000,000
abbrev pub off : ℤ → ℕ
off (pos n) = n + 1000000000
off (negsuc n) = 999999999 - n

-- what a negative number in range is at least
low : (n : ℕ) → in_range (negsuc n) ≡ true → n ≤ 999999999
unfolding in_range
low n h = leb-true n 999999999 (and_both (leb n 999999999) true h).0

high : (n : ℕ) → in_range (pos n) ≡ true → n ≤ 1000000000
unfolding in_range
high n h = leb-true n 1000000000 h

pub off_le : (z : ℤ) → in_range z ≡ true → off z ≤ 2000000000
off_le (pos n) h = omega (arith, high n h)
off_le (negsuc n) h = omega arith

pub le_off : (a b : ℤ) → in_range a ≡ true → in_range b ≡ true → le_z a b ≡ leb (off a) (off b)
le_off (pos a) (pos b) h k = leb_same a b (a + 1000000000) (b + 1000000000) (omega arith) (omega arith)
le_off (pos a) (negsuc b) h k = sym (lt-leb (a + 1000000000) (999999999 - b) (omega arith))
le_off (negsuc a) (pos b) h k = sym (le-leb (999999999 - a) (b + 1000000000) (omega arith))
le_off (negsuc a) (negsuc b) h k =
    let x : a ≤ 999999999 = low a h in
    let y : b ≤ 999999999 = low b k in
    leb_same b a (999999999 - a) (999999999 - b) (omega arith) (omega arith)

pub off_order : (a b : ℤ) → in_range a ≡ true → in_range b ≡ true → le_z a b ≡ true → off a ≤ off b
off_order a b h k e = leb-true (off a) (off b) (sym (le_off a b h k) ∙ e)

pub sub_off : (a b : ℤ) → in_range a ≡ true → in_range b ≡ true → off b ≤ off a → a -ℤ b ≡ pos (off a - off b)
sub_off (pos a) (pos zero) h k l = ap pos (omega arith)
sub_off (pos a) (pos (suc b)) h k l = sub_pos a (suc b) (omega arith) ∙ ap pos (omega arith)
sub_off (pos a) (negsuc b) h k l = let y : b ≤ 999999999 = low b k in ap pos (omega arith)
sub_off (negsuc a) (pos zero) h k l = absurd (omega arith)
sub_off (negsuc a) (pos (suc b)) h k l = absurd (omega arith)
sub_off (negsuc a) (negsuc b) h k l =
    let x : a ≤ 999999999 = low a h in
    let y : b ≤ 999999999 = low b k in
    sub_pos (suc b) (suc a) (omega arith) ∙ ap pos (omega arith)

-- ---- .. and their bits: a number in range is read back at 32 bits

pub range_fits : (z : ℤ) → in_range z ≡ true → SFits w32 z
range_fits (pos n) h = record { sfits = omega (arith, high n h) }
range_fits (negsuc n) h = record { sfits = omega (arith, low n h) }

pub read_back : (z : ℤ) → in_range z ≡ true → to_z w32 (of_z w32 z) ≡ z
read_back z h = to_z-of_z (range_fits z h)

-- the difference of two ends fits 32 bits
pub span_fits : (a b : ℤ) → in_range a ≡ true → in_range b ≡ true → le_z a b ≡ true → SFits w32 (b -ℤ a)
span_fits a b h k l = rw (sub_off b a k h (off_order a b h k l)) (record { sfits = omega (arith, off_le b k) })

-- .. and is a natural of 2,000,000,000 at most
pub span_small : (a b : ℤ) (n : ℕ) → in_range a ≡ true → in_range b ≡ true → le_z a b ≡ true → pos n ≡ b -ℤ a → n ≤ 2000000000
span_small a b n h k l e =
    let q = sub_off b a k h (off_order a b h k l) in
    let same : n ≡ off b - off a = cc in
    omega (arith, off_le b k)
