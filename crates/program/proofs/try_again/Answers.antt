-- `try_again`: the two kinds of errors after which a call is made again.
use mathlib.Core.Path.{ap, ◌∙◌}
use Rattle.program.specs.Moving.{passing, again}
use Rattle.program.proofs.Moves.{passing_so, passing_not}
use Rattle.program.proofs.try_again.Goals as goal

pub returns-in-Interrupted : goal.returns-in-Interrupted
unfolding again
returns-in-Interrupted c = passing_so c.kind.result c.in-Interrupted.is ∙ ap passing c.kind.ensures

pub returns-in_default : goal.returns-in_default
unfolding again
returns-in_default c = passing_not c.kind.result c.in_default.not-Interrupted c.in_default.not-WouldBlock ∙ ap passing c.kind.ensures
