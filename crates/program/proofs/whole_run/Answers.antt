-- `whole_run`: what all the rounds came to, by its status.
use mathlib.Core.Path.{◌∙◌}
use mir.Syntax.{w32}
use mir.Facts.{to_z-of_z}
use borrow.Author.Rules.{sfits_of}
use Rattle.program.proofs.Rests.{runs_by, prints_all}
use Rattle.program.proofs.whole_run.Goals as goal

pub returns-clause-ran : goal.returns-clause-ran
returns-clause-ran g c =
    runs_by c.answer_all-end.ensures (to_z-of_z {w = w32} {z = c.status.result} (sfits_of c.status.type_inv) ∙ c.status.ensures)

pub returns-clause-whole : goal.returns-clause-whole
returns-clause-whole g c =
    prints_all c.answer_all-end.ensures (to_z-of_z {w = w32} {z = c.status.result} (sfits_of c.status.type_inv) ∙ c.status.ensures)
