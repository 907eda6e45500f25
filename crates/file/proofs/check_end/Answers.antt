-- `check_end`: the frame is not there, or something comes after it; or neither.
use mathlib.Core.Path.{sym, ◌∙◌}
use native.Mathlib.Omega.{arith}
use lib.ListN.{drop, length-drop}
use Rattle.rules_laws.proofs.Bools.{not_true, not_false}
use Rattle.file.proofs.Takes.{end_not_due, end_goes_on, end_right}
use Rattle.file.proofs.check_end.Goals as goal

pub returns-then-not-is_due : goal.returns-then-not-is_due
returns-then-not-is_due c =
    end_not_due (drop c.args.at c.args.file.now) (sym c.is_due.ensures ∙ not_true _ c.if-not-is_due.true-raw)

pub returns-then-file-at-ne-END_BYTES : goal.returns-then-file-at-ne-END_BYTES
returns-then-file-at-ne-END_BYTES c =
    end_goes_on (drop c.args.at c.args.file.now) (sym c.is_due.ensures ∙ not_false _ c.if-not-is_due.false-raw)
    (λ e. c.if-file-at-ne-END_BYTES.true (omega (arith, e, length-drop c.args.at c.args.file.now)))

pub returns : goal.returns
returns c =
    end_right (drop c.args.at c.args.file.now) (sym c.is_due.ensures ∙ not_false _ c.if-not-is_due.false-raw)
    (omega (arith, c.if-file-at-ne-END_BYTES.false, length-drop c.args.at c.args.file.now))
