-- `Lines::field`: the digits are copied from the library's buffer, and the byte is written after
-- them.
use mathlib.Core.Path.{ap, ◌∙◌}
use mathlib.Core.List.{List, [], ◌∷◌, ◌++◌}
use Prim.Native.Nat.{ℕ}
use native.Mathlib.Omega.{arith}
use Rattle.frames.proofs.Texts.{adds_then, adds_as}
use Rattle.frames.proofs.Lines.field.Goals as goal

pub returns : goal.returns
returns g c =
    let digits = c.as_bytes.ensures.value ∙ c.format.ensures.text in
    let shown = ap (λ (t : List ℕ). t ++ c.args.after ∷ []) digits in
    adds_as (omega (arith, c.format.ensures.fits, c.as_bytes.ensures.len)) shown
    (adds_then c.text.ensures c.byte.ensures)
