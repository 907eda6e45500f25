-- `answer_all`: the claim holds at the start, goes through each round, and says at the end what was printed. The rounds are counted.
use mathlib.Core.Path.{◌∙◌}
use mathlib.Core.List.{[], ◌++◌}
use native.Mathlib.Omega.{arith}
use borrow.Author.Rules.{rules}
use Rattle.program.specs.Running.{Moves}
use Rattle.program.proofs.Rests.{moves_none, moves_both, step_goes, step_ends, run_endless}
use Rattle.program.proofs.answer_all.Goals as goal

pub loop-init : goal.loop-init
loop-init g c =
    record {
      inputs = search rules;
      outs = search rules;
      stands = c.first_run-run.ensures.stands _ _;
      counted = omega (arith, c.first_run-run.ensures.counted);
      arrived = [];
      printed = [];
      moves = moves_none;
      claims = c.first_run-run.ensures.claims _ _;
    }

pub loop-preserved : goal.loop-preserved
loop-preserved g c =
    let t = c.loop.invariant in
    let moves = Moves (g.R.Read.remaining c.loop.reader) (g.R.Read.remaining c.round.new.reader)
    (g.W.Write.contents c.loop.writer) (g.W.Write.contents c.round.new.writer) in
    let o = step_goes {M = moves} (g.R.Read.remaining c.round.new.reader) c.loop.pool c.loop.input c.loop.out
    c.loop.run c.round.new.pool c.round.new.input c.round.new.out c.round.result c.round.ensures c.in-Continue.next c.in-Continue.is in
    record {
      inputs = c.round.auto.input ∙ t.inputs;
      outs = c.round.auto.out ∙ t.outs;
      stands = o.stands;
      counted = omega (arith, t.counted, o.counted);
      arrived = t.arrived ++ o.piece;
      printed = t.printed ++ o.sent;
      moves = moves_both t.moves o.moves;
      claims = o.keeps t.arrived t.printed t.claims;
    }

pub returns-in-Break : goal.returns-in-Break
returns-in-Break g c =
    let t = c.loop.invariant in
    let moves = Moves (g.R.Read.remaining c.loop.reader) (g.R.Read.remaining c.round.new.reader)
    (g.W.Write.contents c.loop.writer) (g.W.Write.contents c.round.new.writer) in
    let o = step_ends {M = moves} (g.R.Read.remaining c.round.new.reader) c.loop.pool c.loop.input c.loop.out
    c.loop.run c.round.new.pool c.round.new.input c.round.new.out c.round.result c.round.ensures c.in-Break.end c.in-Break.is in
    record {
      arrived = t.arrived ++ o.piece;
      printed = t.printed ++ o.sent;
      moves = moves_both t.moves o.moves;
      finished = o.finished t.arrived t.printed t.claims;
      whole = λ w. o.whole w t.arrived t.printed t.claims;
    }

pub returns : goal.returns
returns g c =
    let t = c.loop.invariant in
    run_endless c.loop.pool c.loop.input c.loop.out c.loop.run t.arrived t.printed t.moves t.claims c.loop.counter
    (omega (arith, c.loop-test.false, c.loop.auto.counter-end))
