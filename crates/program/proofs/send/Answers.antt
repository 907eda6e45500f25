-- `send`: up to where the output is written, by what `write` answered (Moves).
use Rattle.std.proofs.Common.{Ok, ◌∙◌, refl, sym, ap, arith}
use Rattle.std.proofs.lemmas.Result.{err_from_is_err_and}
use Rattle.program.specs.Moving.{bytes_of, sent_by}
use Rattle.program.proofs.Moves.{sends_by, sends_few, sent_some}
use Rattle.program.proofs.send.Goals as goal

pub returns-in-Some : goal.returns-in-Some
returns-in-Some g c =
    sends_by c.args.sent c.args.filled c.args.out.now c.write-answer.result c.what_moved.result c.requires.0 c.requires.1
    c.write-answer.ensures.bound c.what_moved.ensures c.write-answer.ensures.bytes
    (sent_some c.args.sent c.in-Some.n c.in-Some.n-test.1 ∙ ap (sent_by c.args.sent) (sym (c.in_ok-what_moved.was ∙ ap Ok c.in-Some.is)))

pub returns-in_err-what_moved : goal.returns-in_err-what_moved
unfolding sent_by
returns-in_err-what_moved g c =
    let p = err_from_is_err_and c.from_residual.result c.from_residual.ensures.1 in
    sends_by c.args.sent c.args.filled c.args.out.now c.write-answer.result c.what_moved.result c.requires.0 c.requires.1
    c.write-answer.ensures.bound c.what_moved.ensures c.write-answer.ensures.bytes (rw (p.1, p.2, c.in_err-what_moved.was) refl)

pub returns-in-Some-eq0 : goal.returns-in-Some-eq0
unfolding sent_by
returns-in-Some-eq0 g c =
    sends_by c.args.sent c.args.filled c.args.out.now c.write-answer.result c.what_moved.result c.requires.0 c.requires.1
    c.write-answer.ensures.bound c.what_moved.ensures c.write-answer.ensures.bytes (rw (c.in_ok-what_moved.was, c.in-Some-eq0.is, c.in-Some-eq0.field-0-test) refl)

pub returns-in-None : goal.returns-in-None
unfolding sent_by
returns-in-None g c =
    sends_by c.args.sent c.args.filled c.args.out.now c.write-answer.result c.what_moved.result c.requires.0 c.requires.1
    c.write-answer.ensures.bound c.what_moved.ensures c.write-answer.ensures.bytes (rw (c.in_ok-what_moved.was, c.in-None.is) refl)

pub overflow_add-result : goal.overflow_add-result
overflow_add-result g c =
    record {
      fits = omega (
        arith,
        sends_few c.args.sent c.args.filled c.args.out.now c.write-answer.result c.what_moved.result c.requires.0 c.requires.1
            c.write-answer.ensures.bound c.what_moved.ensures,
        ap bytes_of (c.in_ok-what_moved.was ∙ ap Ok c.in-Some.is),
        c.ranges.filled.fits,
      );
    }
