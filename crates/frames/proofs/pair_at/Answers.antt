-- `pair_at`: the two bytes that the definition takes are the two that the library puts together.
use mathlib.Core.Path.{sym, ◌∙◌}
use Rattle.frames.proofs.Words.{two_bytes, pair_is}
use Rattle.frames.proofs.pair_at.Goals as goal

pub returns : goal.returns
returns c =
    c.from_le_bytes.ensures ∙ two_bytes _ _ ∙ sym (pair_is c.args.bytes.now c.args.at)
