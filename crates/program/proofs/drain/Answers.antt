-- `drain`: by what `flush` did.
use Rattle.program.proofs.Rests.{drains_on, drains_stuck}
use Rattle.program.proofs.drain.Goals as goal

pub returns-in-Ok : goal.returns-in-Ok
returns-in-Ok g c = drains_on c.args.run c.flush.ensures c.in-Ok.is

pub returns-in-Err : goal.returns-in-Err
returns-in-Err g c = drains_stuck c.args.run c.flush.ensures c.in-Err.is
