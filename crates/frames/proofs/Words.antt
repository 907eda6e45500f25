-- A word from its four bytes, and its bytes again. From 2,147,483,648 on a number of 32 bits stands for itself less 4,294,967,296.
use mathlib.Core.Path.{◌≡◌, refl, sym, ap, ◌∙◌}
use mathlib.Core.List.{List, [], ◌∷◌}
use Prim.Native.Nat.{ℕ, zero, suc, ◌+◌, ◌*◌, ◌-◌, ◌^◌, ◌≤◌, ◌<◌}
use native.Mathlib.Omega.{arith}
use native.Mathlib.Decide.{dec_le}
use lib.ListN.{take, drop, get_or}
use lib.Seq.{get_or-take, get_or-drop, drop-drop}
use lib.IntN.{ℤ, pos, negsuc}
use lib.Signed.{mag}
use borrow.Author.Tests.{lt-ltb, le-ltb}
use mir.Syntax.{w16, w32, w64}
use mir.Val.{to_z, of_z}
use mir.Facts.{to_z-of_z, to_z_pos, to_z-neg}
use Rattle.std.specs.Int.{from_le_bytes, to_le_bytes}
use Rattle.rules.specs.File.{pair_bytes, unsigned, word_bytes}
use Rattle.rules.specs.Layout.{word_at}
use Rattle.rules.specs.Frames.{byte_at, pair_value, signed, word_value, word_values}
use Rattle.frames.specs.Places.{word_from}

-- ---- the sign

signed_low : (n : ℕ) → n < 2147483648 → signed n ≡ pos n
unfolding signed
signed_low n h = rw (signed, lt-ltb n 2147483648 h)

signed_high : (n : ℕ) → 2147483648 ≤ n → n < 4294967296 → signed n ≡ negsuc (4294967295 - n)
unfolding signed
signed_high n l h = rw (signed, le-ltb n 2147483648 l, lt-ltb n 4294967296 h) (ap negsuc (omega arith))

-- the machine reads 32 bits as the definition does
pub signed_is : (n : ℕ) → n < 4294967296 → to_z w32 n ≡ signed n
signed_is n h = go (dec_le 2147483648 n)
  where
    go : Dec (2147483648 ≤ n) → to_z w32 n ≡ signed n
    go (no l) = to_z_pos w32 (omega arith) ∙ sym (signed_low n (omega arith))
    go (yes l) =
        let k = 4294967295 - n in
        let e : n ≡ 4294967296 - suc k = omega arith in
        ap (to_z w32) e ∙ to_z-neg w32 k (omega arith) ∙ sym (signed_high n l h)

-- a word that a call gave, as the code goes on with it
pub word_kept : {z : ℤ} → mag z < 2 ^ 31 → to_z w32 (of_z w32 z) ≡ z
word_kept {z} h = to_z-of_z {w = w32} {z = z} (record { sfits = h })

-- two words of the same bits
pub bits_same : {y z : ℤ} → mag y < 2 ^ 31 → mag z < 2 ^ 31 → of_z w32 y ≡ of_z w32 z → y ≡ z
bits_same {y} {z} h k e = sym (word_kept h) ∙ ap (to_z w32) e ∙ word_kept k

-- ---- the bytes, as the library takes a number apart and puts it together

pub two_bytes : (a b : ℕ) → from_le_bytes w16 (a ∷ b ∷ []) ≡ a + 256 * b
two_bytes a b = omega arith

pub four_bytes : (a b c d : ℕ) → from_le_bytes w32 (a ∷ b ∷ c ∷ d ∷ []) ≡ a + 256 * b + 65536 * c + 16777216 * d
four_bytes a b c d = omega arith

pub bytes_of_pair : (n : ℕ) → take 2 (to_le_bytes w64 n) ≡ pair_bytes n
unfolding pair_bytes
bytes_of_pair n = refl

-- the bits of a word
bits_are : (z : ℤ) → mag z < 2 ^ 31 → of_z w32 z ≡ unsigned z
unfolding unsigned
bits_are (pos n) h = refl
bits_are (negsuc n) h = omega arith

pub bytes_of_word : (z : ℤ) → mag z < 2 ^ 31 → to_le_bytes w32 (of_z w32 z) ≡ word_bytes z
unfolding word_bytes
bytes_of_word z h = ap (to_le_bytes w32) (bits_are z h)

-- byte k of n that are taken from a place on
byte_is : (n : ℕ) (bs : List ℕ) (at k : ℕ) → k < n → byte_at (take n (drop at bs)) k ≡ get_or bs (at + k) 0
unfolding byte_at
byte_is n bs at k h = get_or-take n (drop at bs) k 0 h ∙ get_or-drop at bs k 0

first_byte : (n : ℕ) (bs : List ℕ) (at : ℕ) → 0 < n → byte_at (take n (drop at bs)) 0 ≡ get_or bs at 0
first_byte n bs at h = byte_is n bs at 0 h ∙ ap (λ (k : ℕ). get_or bs k 0) (omega arith)

pub pair_is : (bs : List ℕ) (at : ℕ) → pair_value (take 2 (drop at bs)) ≡ get_or bs at 0 + 256 * get_or bs (at + 1) 0
unfolding pair_value
pair_is bs at = rw (pair_value, first_byte 2 bs at (omega arith), byte_is 2 bs at 1 (omega arith))

pub word_is : (bs : List ℕ) (at : ℕ)
    → word_value (take 4 (drop at bs)) ≡ signed (get_or bs at 0 + 256 * get_or bs (at + 1) 0 + 65536 * get_or bs (at + 2) 0 + 16777216 * get_or bs (at + 3) 0)
unfolding word_value
word_is bs at =
    let byte = byte_is 4 bs at in
    rw (word_value, first_byte 4 bs at (omega arith), byte 1 (omega arith), byte 2 (omega arith), byte 3 (omega arith))

-- the word at a place is made of the four bytes there
pub words_at : (n i : ℕ) (bs : List ℕ) → i < n → word_at (word_values n bs) i ≡ word_value (take 4 (drop (4 * i) bs))
unfolding word_at word_values
words_at zero i bs h = absurd (omega arith)
words_at (suc n) zero bs h = refl
words_at (suc n) (suc i) bs h =
    let e : 4 + 4 * i ≡ 4 * suc i = omega arith in
    words_at n i (drop 4 bs) (omega arith)
    ∙ ap (λ (l : List ℕ). word_value (take 4 l)) (drop-drop (4 * i) 4 bs ∙ ap (λ (k : ℕ). drop k bs) e)

-- the words of a frame stand from byte 4 on
pub word_in : (bs : List ℕ) (n i : ℕ) → i < n → word_at (word_values n (take (4 * n) (drop 4 bs))) i ≡ word_from bs (4 + 4 * i)
word_in bs n i h =
    let body = take (4 * n) (drop 4 bs) in
    let same : (k : ℕ) → k < 4 → get_or body (4 * i + k) 0 ≡ get_or bs (4 + 4 * i + k) 0 =
    λ k l. get_or-take (4 * n) (drop 4 bs) (4 * i + k) 0 (omega arith) ∙ get_or-drop 4 bs (4 * i + k) 0 ∙ ap (λ (j : ℕ). get_or bs j 0) (omega arith) in
    let first : get_or body (4 * i) 0 ≡ get_or bs (4 + 4 * i) 0 =
    ap (λ (j : ℕ). get_or body j 0) (omega arith) ∙ same 0 (omega arith) ∙ ap (λ (j : ℕ). get_or bs j 0) (omega arith) in
    words_at n i body h ∙ word_is body (4 * i)
    ∙ rw (first, same 1 (omega arith), same 2 (omega arith), same 3 (omega arith)) (sym (word_is bs (4 + 4 * i)))
