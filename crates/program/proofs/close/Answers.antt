-- `close`: by what `flush` did.
use Rattle.program.proofs.Rests.{closes_all, closes_stopped}
use Rattle.program.proofs.close.Goals as goal

pub returns-in-Ok : goal.returns-in-Ok
returns-in-Ok g c = closes_all c.args.run c.flush.ensures c.in-Ok.is

pub returns-in-Err : goal.returns-in-Err
returns-in-Err g c = closes_stopped c.args.run c.flush.ensures c.in-Err.is
