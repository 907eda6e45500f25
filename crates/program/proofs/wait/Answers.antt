-- `wait`: the claim goes on with what was written and what came (Rests).
use Rattle.std.proofs.Common.{arith}
use Rattle.program.proofs.Rests.{emptied, waited_stopped, waited_came, waited_failed, waited_ended}
use Rattle.program.proofs.wait.Goals as goal

pub returns-in_err-next : goal.returns-in_err-next
returns-in_err-next g c =
    rw c.from_residual.ensures
    (waited_stopped (g.R.Read.remaining c.args.reader.now) (g.W.Write.contents c.args.writer.now) (g.W.Write.contents c.drain.new.writer)
    c.args.input.now c.args.out.now c.args.run c.requires.lines.0 c.drain.ensures c.in_err-next.was)

pub receive-requires : goal.receive-requires
receive-requires g c =
    let e = emptied (g.W.Write.contents c.args.writer.now) (g.W.Write.contents c.drain.new.writer) c.args.input.now c.args.out.now
    c.args.run c.in_ok-next.next c.drain.ensures c.in_ok-next.was in
    record {
      bytes = (omega (arith, e.at, e.end, c.requires.bytes.0), omega (arith, e.end, c.requires.bytes.1));
      room = omega (arith, e.at, e.end, c.requires.room);
    }

pub last_line-requires : goal.last_line-requires
last_line-requires g c =
    let e = emptied (g.W.Write.contents c.args.writer.now) (g.W.Write.contents c.drain.new.writer) c.args.input.now c.args.out.now
    c.args.run c.in_ok-next.next c.drain.ensures c.in_ok-next.was in
    record { counted = omega (arith, e.before, c.requires.counted); room = c.requires.lines.1 }

pub returns-in-Ok-Some : goal.returns-in-Ok-Some
returns-in-Ok-Some g c =
    waited_came (g.W.Write.contents c.args.writer.now) (g.W.Write.contents c.drain.new.writer) c.args.input.now c.args.out.now c.args.run
    c.in_ok-next.next c.drain.ensures c.in_ok-next.was c.receive.new.input c.receive.ensures c.receive.auto.input c.in-Ok-Some.more
    (rw c.in-Ok-Some.field-0-is at c.in-Ok-Some.is)

pub returns-in-Ok-None : goal.returns-in-Ok-None
returns-in-Ok-None g c =
    waited_ended (g.W.Write.contents c.args.writer.now) (g.W.Write.contents c.drain.new.writer) c.args.input.now c.args.out.now c.args.run
    c.in_ok-next.next c.drain.ensures c.in_ok-next.was c.receive.new.input c.receive.ensures c.receive.auto.input
    (rw c.in-Ok-None.field-0-is at c.in-Ok-None.is) c.last_line.new.out c.last_line.result c.last_line.auto.out c.requires.room
    c.last_line.ensures

pub returns-in-Err : goal.returns-in-Err
returns-in-Err g c =
    waited_failed (g.W.Write.contents c.args.writer.now) (g.W.Write.contents c.drain.new.writer) c.args.input.now c.args.out.now c.args.run
    c.in_ok-next.next c.drain.ensures c.in_ok-next.was c.receive.new.input c.receive.ensures c.receive.auto.input c.in-Err.error c.in-Err.is
