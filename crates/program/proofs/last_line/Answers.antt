-- `last_line`: no byte is left, or the line of a cut frame is written.
use mathlib.Core.Path.{refl}
use native.Mathlib.Omega.{arith}
use Rattle.program.specs.Running.{none, cut}
use Rattle.program.proofs.last_line.Goals as goal

pub returns-then-run : goal.returns-then-run
returns-then-run g c = none c.if-run.true refl

pub returns : goal.returns
returns g c =
    cut _ c.close.result c.if-run.false c.bad_line-filled.ensures.wrote (omega (arith, c.requires.room, c.bad_line-filled.ensures.short))
    c.close.ensures
