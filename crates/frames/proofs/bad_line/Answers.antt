-- `bad_line`: the words, and the place written after them.
use mathlib.Core.Path.{sym, ap, ◌∙◌}
use mathlib.Core.List.{List, [], ◌∷◌, ◌++◌}
use Prim.Native.Nat.{ℕ, suc, ◌+◌}
use native.Mathlib.Omega.{arith}
use native.Mathlib.Numerals.{add-one}
use borrow.Author.Rules.{rules}
use Rattle.rules.specs.Frames.{nat_shown}
use Rattle.frames.proofs.Digits.{decimal_shown}
use Rattle.frames.proofs.Fields.{bad_is}
use Rattle.frames.proofs.Texts.{adds_then, adds_as}
use Rattle.frames.proofs.bad_line.Goals as goal

pub returns-clause-wrote : goal.returns-clause-wrote
returns-clause-wrote c =
    let shown = decimal_shown (c.args.before + 1) (omega arith) ∙ ap nat_shown (add-one c.args.before) in
    let words : List ℕ = 98 ∷ 97 ∷ 100 ∷ 32 ∷ 102 ∷ 114 ∷ 97 ∷ 109 ∷ 101 ∷ 32 ∷ [] in
    let line = ap (λ (t : List ℕ). words ++ (t ++ 10 ∷ [])) shown ∙ bad_is (suc c.args.before) in
    let a = adds_as {n = 31} (omega arith) line (adds_then c.text.ensures c.field.ensures) in
    let w = a.wrote in
    let same = sym a.same in
    search rules
