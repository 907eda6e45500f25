-- `put_word`: the library's bytes of a word are those of the definition.
use mathlib.Core.Path.{ap, ◌∙◌}
use lib.IntN.{ℤ}
use mir.Syntax.{w32}
use mir.Val.{of_z}
use mir.Facts.{to_z-of_z}
use Rattle.std.specs.Int.{to_le_bytes}
use Rattle.frames.proofs.Texts.{wrote_as}
use Rattle.frames.proofs.Words.{bytes_of_word}
use Rattle.frames.proofs.put_word.Goals as goal

pub returns : goal.returns
returns c =
    wrote_as
    (c.to_le_bytes.ensures
    ∙ ap (λ (z : ℤ). to_le_bytes w32 (of_z w32 z)) (to_z-of_z c.ranges.z)
    ∙ bytes_of_word c.args.z c.ranges.z.sfits) c.put_bytes.ensures
