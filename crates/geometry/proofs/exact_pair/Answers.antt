-- Two pairs are the same where their numbers are, their rectangles are equal by the comparison, and their owners are the same.
use mathlib.Core.Path.{sym, ◌∙◌}
use Rattle.rules.specs.Owners.{owned_by}
use Rattle.rules.specs.Compare.{exact_pair}
use Rattle.rules_laws.proofs.Bools.{not_true, not_false}
use Rattle.rules.proofs.Derived.{number_same}
use Rattle.geometry.proofs.exact_pair.Goals as goal

pub returns-then-ne : goal.returns-then-ne
unfolding exact_pair
returns-then-ne c =
    let number = sym (number_same c.args.a.number.0 c.args.b.number.0) ∙ not_true _ (sym c.ne.ensures ∙ c.if-ne.true) in
    rw number

pub returns : goal.returns
unfolding exact_pair owned_by
returns c =
    let number = sym (number_same c.args.a.number.0 c.args.b.number.0) ∙ not_false _ (sym c.ne.ensures ∙ c.if-ne.false) in
    rw (number, c.is_equal.ensures, c.compare.ensures, c.eq.ensures, number_same c.args.b.owner.0 c.args.a.owner.0)
