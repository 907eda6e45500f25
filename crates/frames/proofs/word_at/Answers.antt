-- `word_at`: the four bytes that a word's definition takes are the four that the library puts together, with the sign of the upper half.
use mathlib.Core.Path.{sym, ap, ◌∙◌}
use native.Mathlib.Omega.{arith}
use Prim.Native.Nat.{◌+◌}
use lib.ListN.{get_or}
use Rattle.rules.specs.Frames.{signed}
use Rattle.frames.proofs.Words.{word_kept, signed_is, four_bytes, word_is}
use Rattle.frames.proofs.word_at.Goals as goal

pub returns : goal.returns
returns c =
    let bytes = c.args.bytes.now in
    let at = c.args.at in
    let small = c.type_inv.bytes in
    word_kept c.from_le_bytes.type_inv
    ∙ c.from_le_bytes.ensures
    ∙ signed_is _ (omega (arith, (small at).fits, (small (at + 1)).fits, (small (at + 2)).fits, (small (at + 3)).fits))
    ∙ ap signed (four_bytes (get_or bytes at 0) _ _ _)
    ∙ sym (word_is bytes at)
