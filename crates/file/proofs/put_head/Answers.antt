use mathlib.Core.Path.{ap₂, ◌∙◌}
use mathlib.Core.List.{◌++◌}
use native.Mathlib.Omega.{arith}
use lib.IntN.{ℤ}
use mir.Syntax.{w32}
use mir.Facts.{to_z_pos}
use Rattle.rules.specs.File.{word_bytes}
use Rattle.frames.proofs.Texts.{wrote_then, wrote_as}
use Rattle.frames.proofs.Words.{word_kept}
use Rattle.file.proofs.Sizes.{word_next}
use Rattle.file.proofs.Frames.{start, start_next, head_text}
use Rattle.file.proofs.put_head.Goals as goal

pub put_word-number-requires : goal.put_word-number-requires
put_word-number-requires c =
    omega (arith, c.requires.in_bounds, start_next _ _ c.put_start-start.ensures, c.put_start-start.auto.file)

pub put_word-requires : goal.put_word-requires
put_word-requires c =
    omega (
      arith,
      c.requires.in_bounds,
      start_next _ _ c.put_start-start.ensures,
      c.put_start-start.auto.file,
      word_next _ c.put_word-number.ensures,
      c.put_word-number.auto.out,
    )

pub returns : goal.returns
returns c =
    wrote_as (ap₂ (λ (y z : ℤ). start 16 2 ++ word_bytes y ++ word_bytes z) (word_kept c.number.type_inv ∙ c.number.ensures)
    (to_z_pos w32 {n = c.args.count} (omega (arith, c.requires.count_bound)))
    ∙ head_text c.args.edition c.args.count)
    (wrote_then (wrote_then c.put_start-start.ensures c.put_word-number.ensures) c.put_word.ensures)
