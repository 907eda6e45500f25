use mathlib.Core.Path.{◌∙◌}
use mathlib.Core.List.{◌++◌}
use native.Mathlib.Omega.{arith}
use Rattle.rules.specs.File.{word_bytes}
use Rattle.frames.proofs.Texts.{wrote_then, wrote_as}
use Rattle.frames.proofs.Words.{word_kept}
use Rattle.file.proofs.Sizes.{word_next}
use Rattle.file.proofs.Frames.{pair_text}
use Rattle.file.proofs.put_pair_words.Goals as goal

pub put_word-lowY-requires : goal.put_word-lowY-requires
put_word-lowY-requires c =
    omega (arith, c.requires, word_next _ c.put_word-lowX.ensures, c.put_word-lowX.auto.out)

pub put_word-highX-requires : goal.put_word-highX-requires
put_word-highX-requires c =
    omega (
      arith,
      c.requires,
      word_next _ c.put_word-lowX.ensures,
      c.put_word-lowX.auto.out,
      word_next _ c.put_word-lowY.ensures,
      c.put_word-lowY.auto.out,
    )

pub put_word-highY-requires : goal.put_word-highY-requires
put_word-highY-requires c =
    omega (
      arith,
      c.requires,
      word_next _ c.put_word-lowX.ensures,
      c.put_word-lowX.auto.out,
      word_next _ c.put_word-lowY.ensures,
      c.put_word-lowY.auto.out,
      word_next _ c.put_word-highX.ensures,
      c.put_word-highX.auto.out,
    )

pub put_word-requires : goal.put_word-requires
put_word-requires c =
    omega (
      arith,
      c.requires,
      word_next _ c.put_word-lowX.ensures,
      c.put_word-lowX.auto.out,
      word_next _ c.put_word-lowY.ensures,
      c.put_word-lowY.auto.out,
      word_next _ c.put_word-highX.ensures,
      c.put_word-highX.auto.out,
      word_next _ c.put_word-highY.ensures,
      c.put_word-highY.auto.out,
    )

pub returns : goal.returns
returns c =
    let r = c.args.r in
    let number = word_kept {z = r.number.0} c.struct_told-1.given.0.1 in
    let lowX = word_kept {z = r.rect.lowX} c.struct_told-2-1.given.0.1 in
    let lowY = word_kept {z = r.rect.lowY} c.struct_told-3-1.given.1.0.1 in
    let highX = word_kept {z = r.rect.highX} c.struct_told-4-1.given.1.1.0.1 in
    let highY = word_kept {z = r.rect.highY} c.struct_told-5-1.given.1.1.1.0.1 in
    wrote_as ((λ i. word_bytes (number i) ++ word_bytes (lowX i) ++ word_bytes (lowY i) ++ word_bytes (highX i) ++ word_bytes (highY i))
    ∙ pair_text r)
    (wrote_then (wrote_then (wrote_then (wrote_then c.put_word-lowX.ensures c.put_word-lowY.ensures) c.put_word-highX.ensures)
    c.put_word-highY.ensures) c.put_word.ensures)
