use mathlib.Core.Path.{sym, ◌∙◌}
use Rattle.request.proofs.Rows.{other_same, other_new}
use Rattle.request.proofs.other_held.Goals as goal

pub returns-then-is_equal : goal.returns-then-is_equal
returns-then-is_equal c = other_same _ _ _ (sym (rw c.compare.ensures at c.is_equal.ensures) ∙ c.if-is_equal.true)

pub returns : goal.returns
returns c =
    rw c.moved.ensures at c.holds.ensures
    ∙ other_new _ _ _ (sym (rw c.compare.ensures at c.is_equal.ensures) ∙ c.if-is_equal.false)
