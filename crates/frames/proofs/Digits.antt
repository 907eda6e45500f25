-- What the library prints of a number are the digits that the document's definition gives: both put
-- the last digit before those that follow it, and go on with the tenth.
use mathlib.Core.Path.{◌≡◌, sym, ap, ◌∙◌}
use mathlib.Core.List.{List, [], ◌∷◌, append-nil}
use Prim.Native.Nat.{ℕ, suc, ◌^◌, ◌<◌}
use native.Mathlib.Omega.{arith}
use lib.IntN.{ℤ, pos, negsuc}
use lib.Signed.{mag}
use mir.Syntax.{w32}
use mir.Val.{to_z, of_z}
use borrow.Author.Tests.{lt-ltb, le-ltb}
use Rattle.std.specs.Fmt.{decimal, signed_decimal}
use Rattle.std.proofs.lemmas.Fmt.{PrependsLastDigit, decimal_from_prepends, length-decimal-le}
use Rattle.rules.specs.Frames.{digits, nat_shown, int_shown}
use Rattle.frames.proofs.Words.{word_kept}

last_first : PrependsLastDigit digits
unfolding digits
last_first =
    record {
      one = λ k n b h. rw (digits, lt-ltb n 10 h);
      more = λ k n b h. rw (digits, le-ltb n 10 h);
    }

pub decimal_shown : (n : ℕ) → n < 2 ^ 64 → decimal n ≡ nat_shown n
unfolding nat_shown
decimal_shown n h =
    let short = length-decimal-le 20 n (omega arith) (omega arith) h in
    sym (decimal_from_prepends digits last_first 20 n [] h short ∙ append-nil (decimal n))

pub signed_shown : (z : ℤ) → mag z < 2 ^ 63 → signed_decimal z ≡ int_shown z
unfolding int_shown
signed_shown (pos n) h = decimal_shown n (omega arith)
signed_shown (negsuc n) h =
    ap (λ (ds : List ℕ). 45 ∷ ds) (decimal_shown (suc n) (omega arith))

-- a word, as it is passed to the library
pub word_shown : (z : ℤ) → mag z < 2 ^ 31 → signed_decimal (to_z w32 (of_z w32 z)) ≡ int_shown z
word_shown z h = rw (word_kept {z = z} h) (signed_shown z (omega arith))
