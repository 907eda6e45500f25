-- `round`: each way on from a frame keeps the claim (Rests).
use native.Mathlib.Omega.{arith}
use Rattle.program.specs.Running.{Moves}
use Rattle.program.proofs.Rests.{full_on, waits_on, waits_few, waits_counted, ends_within, rounds_goes, rounds_full, rounds_waits, rounds_ends}
use Rattle.program.proofs.round.Goals as goal

pub drain-requires : goal.drain-requires
drain-requires g c =
    (full_on c.args.pool.now c.args.input.now c.args.out.now c.args.run c.turn.new.pool c.turn.new.out c.turn.result c.turn.ensures
    c.in-Full.r c.in-Full.is).stands.room

pub wait-requires-clause-bytes : goal.wait-requires-clause-bytes
wait-requires-clause-bytes g c =
    let k = (waits_on c.args.pool.now c.args.input.now c.args.out.now c.args.run c.turn.new.pool c.turn.new.out c.turn.result
    c.turn.ensures c.in-Waits.r c.in-Waits.is).stands in
    (k.low, k.high)

pub wait-requires-clause-room : goal.wait-requires-clause-room
wait-requires-clause-room g c =
    omega (
      arith,
      waits_few c.args.pool.now c.args.input.now c.args.out.now c.args.run c.turn.new.pool c.turn.new.out c.turn.result c.turn.ensures
          c.in-Waits.r c.in-Waits.is,
      c.requires.bytes,
    )

pub wait-requires-clause-lines : goal.wait-requires-clause-lines
wait-requires-clause-lines g c =
    let k = (waits_on c.args.pool.now c.args.input.now c.args.out.now c.args.run c.turn.new.pool c.turn.new.out c.turn.result
    c.turn.ensures c.in-Waits.r c.in-Waits.is).stands in
    (k.room, omega (arith, c.requires.room, c.turn.auto.out))

pub wait-requires-clause-counted : goal.wait-requires-clause-counted
wait-requires-clause-counted g c =
    omega (
      arith,
      waits_counted c.args.pool.now c.args.input.now c.args.out.now c.args.run c.turn.new.pool c.turn.new.out c.turn.result c.turn.ensures
          c.in-Waits.r c.in-Waits.is,
      c.requires.counted,
    )

pub close-requires : goal.close-requires
close-requires g c =
    ends_within c.args.pool.now c.args.input.now c.args.out.now c.args.run c.turn.new.pool c.turn.new.out c.turn.result c.turn.ensures
    c.in-Ends.r c.in-Ends.is

pub returns-in-Goes : goal.returns-in-Goes
returns-in-Goes g c =
    rounds_goes c.args.pool.now c.args.input.now c.args.out.now c.args.run c.turn.new.pool c.turn.new.out c.turn.result c.turn.ensures
    c.in-Goes.r (g.R.Read.remaining c.args.reader.now) (g.W.Write.contents c.args.writer.now) c.in-Goes.is

pub returns-in-Full : goal.returns-in-Full
returns-in-Full g c =
    rounds_full c.args.pool.now c.args.input.now c.args.out.now c.args.run c.turn.new.pool c.turn.new.out c.turn.result c.turn.ensures
    c.in-Full.r (g.R.Read.remaining c.args.reader.now) c.in-Full.is c.drain.result c.drain.ensures

pub returns-in-Waits : goal.returns-in-Waits
returns-in-Waits g c =
    rounds_waits c.args.pool.now c.args.input.now c.args.out.now c.args.run c.turn.new.pool c.turn.new.out c.turn.result c.turn.ensures
    c.in-Waits.r
    (Moves (g.R.Read.remaining c.args.reader.now) (g.R.Read.remaining c.wait.new.reader) (g.W.Write.contents c.args.writer.now)
    (g.W.Write.contents c.wait.new.writer)) (g.R.Read.remaining c.wait.new.reader) c.in-Waits.is c.wait.new.input c.wait.new.out
    c.wait.result c.wait.ensures

pub returns-in-Ends : goal.returns-in-Ends
returns-in-Ends g c =
    rounds_ends c.args.pool.now c.args.input.now c.args.out.now c.args.run c.turn.new.pool c.turn.new.out c.turn.result c.turn.ensures
    c.in-Ends.r (g.R.Read.remaining c.args.reader.now) c.in-Ends.is c.close.result c.close.ensures
