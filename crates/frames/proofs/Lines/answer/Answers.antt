-- `Lines::answer`: four fields, each written after the one before.
use mathlib.Core.Path.{◌∙◌}
use mathlib.Core.List.{[], ◌∷◌}
use Prim.Native.Nat.{suc, ◌+◌}
use native.Mathlib.Omega.{arith}
use native.Mathlib.Numerals.{add-one}
use Rattle.rules.specs.Frames.{nat_shown, line}
use Rattle.frames.proofs.Fields.{line_of_four, answer_is}
use Rattle.frames.proofs.Digits.{decimal_shown}
use Rattle.frames.proofs.Texts.{adds_then, adds_as}
use Rattle.frames.proofs.Lines.answer.Goals as goal

pub returns : goal.returns
returns c =
    let a = c.args.answer in
    let shown = line_of_four _ _ _ _
    ∙ (λ i. line (decimal_shown (c.args.before + 1) (omega arith) i
    ∷ decimal_shown a.number (omega arith) i
    ∷ decimal_shown a.found (omega arith) i
    ∷ decimal_shown a.opened (omega arith) i
    ∷ []))
    ∙ (λ i. line (nat_shown (add-one c.args.before i)
    ∷ nat_shown a.number
    ∷ nat_shown a.found
    ∷ nat_shown a.opened
    ∷ []))
    ∙ answer_is (suc c.args.before) a in
    let three = adds_then (adds_then c.field.ensures c.field-2.ensures) c.field-3.ensures in
    adds_as (omega arith) shown (adds_then three c.field-4.ensures)
