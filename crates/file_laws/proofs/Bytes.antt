-- Numbers in bytes, there and back. The bytes are the digits of the number to the base 256, so what they make is the number again, and a
-- number made of such digits has these.
use mathlib.Core.Path.{◌≡◌, ap, ◌∙◌}
use mathlib.Core.List.{[], ◌∷◌}
use Prim.Native.Nat.{ℕ, ◌+◌, ◌*◌, ◌-◌, ◌/◌, ◌%◌, ◌≤◌, ◌<◌}
use native.Mathlib.Omega.{arith}
use native.Mathlib.Decide.{dec_le}
use lib.IntN.{ℤ, pos, negsuc}
use borrow.Author.Tests.{lt-ltb, le-ltb}
use Rattle.rules.specs.Frames.{byte_at, pair_value, signed, word_value}
use Rattle.rules.specs.File.{pair_bytes, unsigned, word_bytes}
use Rattle.file_laws.specs.Bytes.{Word}

-- ---- two bytes

pub pair_value_bytes : (n : ℕ) → n < 65536 → pair_value (pair_bytes n) ≡ n
unfolding pair_value pair_bytes byte_at
pair_value_bytes n h = omega arith

-- the digits of what two bytes make
module _ (a b : ℕ) (ha : a < 256) (hb : b < 256) where
  low_of_two : (a + 256 * b) % 256 ≡ a
  low_of_two = omega arith

  high_of_two : (a + 256 * b) / 256 % 256 ≡ b
  high_of_two = omega arith

  pub pair_bytes_value : pair_bytes (pair_value (a ∷ b ∷ [])) ≡ a ∷ b ∷ []
  unfolding pair_value pair_bytes byte_at
  pair_bytes_value = rw (low_of_two, high_of_two)

-- ---- the sign: a number from 2147483648 on stands for itself less 4294967296

-- a word's bits make a number below 4294967296
pub unsigned_small : (z : ℤ) → Word z → unsigned z < 4294967296
unfolding unsigned
unsigned_small (pos n) w = omega (arith, w.small)
unsigned_small (negsuc n) w = omega arith

-- the lower half, and the upper
signed_low : (n : ℕ) → n < 2147483648 → signed n ≡ pos n
unfolding signed
signed_low n h = rw (signed, lt-ltb n 2147483648 h)

signed_high : (n : ℕ) → 2147483648 ≤ n → n < 4294967296 → signed n ≡ negsuc (4294967295 - n)
unfolding signed
signed_high n h l = rw (signed, le-ltb n 2147483648 h, lt-ltb n 4294967296 l) (ap negsuc (omega arith))

-- there and back, both ways
pub signed_unsigned : (z : ℤ) → Word z → signed (unsigned z) ≡ z
unfolding unsigned
signed_unsigned (pos n) w = signed_low n w.small
signed_unsigned (negsuc n) w =
    let s = w.small in
    signed_high (4294967295 - n) (omega arith) (omega arith) ∙ ap negsuc (omega arith)

pub unsigned_signed : (n : ℕ) → n < 4294967296 → unsigned (signed n) ≡ n
unfolding unsigned
unsigned_signed n h = go (dec_le 2147483648 n)
  where
    go : Dec (2147483648 ≤ n) → unsigned (signed n) ≡ n
    go (no l) = ap unsigned (signed_low n (omega arith))
    go (yes l) = ap unsigned (signed_high n l h) ∙ omega arith

-- what 32 bits make is a word
pub signed_word : (n : ℕ) → n < 4294967296 → Word (signed n)
signed_word n h = go (dec_le 2147483648 n)
  where
    go : Dec (2147483648 ≤ n) → Word (signed n)
    go (no l) = rw (signed_low n (omega arith)) (record { small = omega arith })
    go (yes l) = rw (signed_high n l h) (record { small = omega arith })

-- ---- four bytes

-- the upper digits, a byte at a time
two_down : (n : ℕ) → n / 65536 ≡ n / 256 / 256
two_down n = omega arith

three_down : (n : ℕ) → n / 16777216 ≡ n / 256 / 256 / 256
three_down n = omega arith

by_digits : (n : ℕ) → n < 4294967296 → n % 256 + 256 * (n / 256 % 256) + 65536 * (n / 65536 % 256) + 16777216 * (n / 16777216 % 256) ≡ n
by_digits n h = rw (two_down n, three_down n) (omega arith)

pub word_value_bytes : (z : ℤ) → Word z → word_value (word_bytes z) ≡ z
unfolding word_value word_bytes byte_at
word_value_bytes z w = ap signed (by_digits (unsigned z) (unsigned_small z w)) ∙ signed_unsigned z w

-- the digits of what four bytes make
module _ (a b c d : ℕ) (ha : a < 256) (hb : b < 256) (hc : c < 256) (hd : d < 256) where
  abbrev sum : ℕ
  sum = a + 256 * b + 65536 * c + 16777216 * d

  pub word_value_word : Word (word_value (a ∷ b ∷ c ∷ d ∷ []))
  unfolding word_value byte_at
  word_value_word = signed_word sum (omega arith)

  -- a word is written by the digits of its bits
  bytes_of : word_bytes (signed sum) ≡ sum % 256 ∷ sum / 256 % 256 ∷ sum / 65536 % 256 ∷ sum / 16777216 % 256 ∷ []
  unfolding word_bytes
  bytes_of = rw (unsigned_signed sum (omega arith))

  -- each digit by itself
  first_of : sum % 256 ≡ a
  first_of = omega arith

  second_of : sum / 256 % 256 ≡ b
  second_of = omega arith

  third_of : sum / 65536 % 256 ≡ c
  third_of = omega arith

  fourth_of : sum / 16777216 % 256 ≡ d
  fourth_of = omega arith

  pub word_bytes_value : word_bytes (word_value (a ∷ b ∷ c ∷ d ∷ [])) ≡ a ∷ b ∷ c ∷ d ∷ []
  unfolding word_value byte_at
  word_bytes_value = bytes_of ∙ rw (first_of, second_of, third_of, fourth_of)
