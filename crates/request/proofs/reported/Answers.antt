use mathlib.Core.Path.{sym, ap, ◌∙◌}
use native.Mathlib.Omega.{arith}
use Rattle.rules.specs.declared.Edition.{Edition}
use Rattle.rules.specs.Search.{reported}
use Rattle.pool.proofs.Lengths.{some_word}
use Rattle.request.proofs.reported.Goals as goal

pub edition_of-requires : goal.edition_of-requires
edition_of-requires c = some_word c.args.pool.words.now c.args.pool.right

pub overflow_cast-result : goal.overflow_cast-result
overflow_cast-result c = record { fits = omega (arith, c.requires) }

pub returns-in-One : goal.returns-in-One
unfolding reported
returns-in-One c =
    ap (λ (e : Edition). reported e c.args.opened) (sym c.in-One.is ∙ c.edition_of.ensures)

pub returns-in-Two : goal.returns-in-Two
unfolding reported
returns-in-Two c =
    ap (λ (e : Edition). reported e c.args.opened) (sym c.in-Two.is ∙ c.edition_of.ensures)
