-- The check answers what a call with no request would be refused for.
use mathlib.Core.Path.{ap, ◌∙◌}
use mir.Facts.{to_z-of_z}
use mir.Syntax.{w32}
use borrow.Author.Rules.{sfits_of}
use Rattle.rules.specs.Answers.{call_number}
use Rattle.batch.proofs.Verdicts.{check_number}
use Rattle.map.proofs.Numbers.{called}
use Rattle.map.proofs.dustmap_check.Goals as goal

pub returns : goal.returns
returns c =
    to_z-of_z {w = w32} {z = c.number.result} (sfits_of c.number.type_inv)
    ∙ called c.refusal.result c.number.result c.number.ensures
    ∙ ap call_number c.refusal.ensures
    ∙ check_number c.args.pool.now
