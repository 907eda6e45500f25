-- `is_due`: too few bytes, another length, or else the kind decides.
use mathlib.Core.Path.{sym, ap, ◌∙◌}
use mathlib.Core.List.{List}
use Prim.Native.Nat.{ℕ}
use native.Mathlib.Omega.{arith}
use lib.ListN.{take, drop, length-drop}
use lib.Seq.{drop-drop}
use borrow.Author.Tests.{ne_eqb}
use Rattle.rules.specs.Frames.{pair_value}
use Rattle.file.proofs.Dues.{due_cut, due_other, due_kinds}
use Rattle.file.proofs.is_due.Goals as goal

pub returns-then-file-at : goal.returns-then-file-at
returns-then-file-at c =
    due_cut c.args.kind c.args.words (drop c.args.at c.args.file.now)
    (omega (arith, length-drop c.args.at c.args.file.now, c.from.ensures, c.if-file-at.true))

pub returns-else-pair_at-long : goal.returns-else-pair_at-long
returns-else-pair_at-long c =
    ne_eqb _ _ c.if-pair_at-long.false ∙ due_other c.args.kind c.args.words (drop c.args.at c.args.file.now)
    (λ e. c.if-pair_at-long.false (c.pair_at.ensures ∙ e))

pub returns-then-pair_at-long : goal.returns-then-pair_at-long
returns-then-pair_at-long c =
    let at = c.args.at in
    let file = c.args.file.now in
    let d = length-drop at file in
    due_kinds c.args.kind c.args.words (drop at file)
    (omega (arith, d, c.if-file-at.false, c.from.ensures, c.requires.at_in_bounds))
    (sym c.pair_at.ensures ∙ c.if-pair_at-long.true)
    (c.pair_at-then-pair_at-long.ensures ∙ ap (λ (l : List ℕ). pair_value (take 2 l)) (sym (drop-drop 2 at file)))
