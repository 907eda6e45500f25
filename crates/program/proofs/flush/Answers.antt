-- `flush`: a turn takes what one `write` takes. All is taken where the run goes on.
use Rattle.std.proofs.Common.{rules, ◌≡◌, ℕ, refl, subst, arith}
use Rattle.program.specs.Moving.{Taken, none, more, tired, Flushes}
use Rattle.std.proofs.lemmas.Result.{err_from_is_err_and}
use Rattle.program.proofs.Moves.{taken_within, stops_by, ok_within, err_within}
use Rattle.program.proofs.flush.Goals as goal

pub loop-init : goal.loop-init
loop-init g c = none

pub returns-then-sent-run : goal.returns-then-sent-run
unfolding Flushes
returns-then-sent-run g c = (
  subst
      (λ (n : ℕ). Taken (g.W.Write.contents c.args.writer.now) c.args.out.now c.args.run.filled n (g.W.Write.contents c.loop.writer))
      c.if-sent-run.true c.loop.invariant,
  record { before = refl; free = refl; at = refl; end = refl; filled = refl },
)

pub send-requires : goal.send-requires
send-requires g c = (taken_within c.loop.invariant, c.requires)

pub returns-in_err-sent : goal.returns-in_err-sent
unfolding Flushes
returns-in_err-sent g c =
    let p = err_from_is_err_and c.from_residual.result c.from_residual.ensures.1 in
    let q = err_within _ c.send.result c.map_err.result c.map_err.ensures.cases c.in_err-sent.was in
    let r : c.in_err-sent.field-0.0 ≡ record { sent = c.loop.sent; error = q.0 } = search (rules, q.2) in
    rw (p.1, p.2, r) (stops_by c.loop.invariant c.send.ensures q.1)

pub loop-preserved : goal.loop-preserved
loop-preserved g c =
    more c.loop.sent c.in_ok-sent.sent (g.W.Write.contents c.loop.writer) (g.W.Write.contents c.send.new.writer)
    c.loop.invariant (rw (← ok_within _ c.send.result c.map_err.result c.map_err.ensures.cases c.in_ok-sent.was) c.send.ensures)

pub returns : goal.returns
unfolding Flushes
returns g c =
    record {
      at = g.W.Write.contents c.loop.writer;
      taken = c.loop.invariant;
      stuck = tired c.loop.counter (omega (arith, c.loop-test.false, c.loop.auto.counter-end)) refl;
    }
