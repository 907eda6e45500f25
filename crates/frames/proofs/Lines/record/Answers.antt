-- `Lines::record`: five fields, each written after the one before. Every number fits 32 bits, so it
-- is printed as it is.
use mathlib.Core.Path.{◌∙◌}
use mathlib.Core.List.{[], ◌∷◌}
use native.Mathlib.Omega.{arith}
use Rattle.rules.specs.Frames.{line}
use Rattle.frames.proofs.Fields.{line_of_five, record_line_lem}
use Rattle.frames.proofs.Digits.{word_shown}
use Rattle.frames.proofs.Texts.{adds_then, adds_as}
use Rattle.frames.proofs.Lines.record.Goals as goal

pub returns : goal.returns
returns c =
    let r = c.args.listed.now in
    let shown = line_of_five _ _ _ _ _
    ∙ (λ i. line (word_shown r.number.0 (omega arith) i
    ∷ word_shown r.rect.lowX (omega arith) i
    ∷ word_shown r.rect.lowY (omega arith) i
    ∷ word_shown r.rect.highX (omega arith) i
    ∷ word_shown r.rect.highY (omega arith) i
    ∷ []))
    ∙ record_line_lem r in
    let three = adds_then (adds_then c.field.ensures c.field-2.ensures) c.field-3.ensures in
    adds_as (omega arith) shown (adds_then (adds_then three c.field-4.ensures) c.field-5.ensures)
