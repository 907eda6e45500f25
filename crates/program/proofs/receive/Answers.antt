-- `receive`: the bytes that wait are at the front, and what `read` answered says how many came after them.
use Rattle.std.proofs.Common.{Ok, ap, arith, refl}
use Rattle.std.proofs.lemmas.Result.{err_from_is_err_and}
use Rattle.program.specs.Moving.{bytes_of}
use Rattle.program.proofs.Rests.{received, received_few}
use Rattle.program.proofs.receive.Goals as goal

pub returns-in_err-what_moved : goal.returns-in_err-what_moved
returns-in_err-what_moved g c =
    let p = err_from_is_err_and c.from_residual.result c.from_residual.ensures.1 in
    received c.args.input.now c.keep_rest-rest.new.buffer c.read-answer.new.buf c.args.run c.keep_rest-rest.result c.read-answer.result
    c.requires.bytes.0 c.requires.bytes.1 c.keep_rest-rest.ensures.many c.keep_rest-rest.auto.buffer c.keep_rest-rest.ensures.front
    c.read-answer.auto.buf c.read-answer.ensures.bound c.read-answer.ensures.bytes c.what_moved.ensures
    (rw (p.1, p.2, c.in_err-what_moved.was) refl)

pub returns : goal.returns
returns g c =
    received c.args.input.now c.keep_rest-rest.new.buffer c.read-answer.new.buf c.args.run c.keep_rest-rest.result c.read-answer.result
    c.requires.bytes.0 c.requires.bytes.1 c.keep_rest-rest.ensures.many c.keep_rest-rest.auto.buffer c.keep_rest-rest.ensures.front
    c.read-answer.auto.buf c.read-answer.ensures.bound c.read-answer.ensures.bytes c.what_moved.ensures
    (rw c.in_ok-what_moved.was (ap Ok c.after_read.ensures))

pub after_read-requires : goal.after_read-requires
after_read-requires g c =
    omega (
      arith,
      received_few c.keep_rest-rest.new.buffer c.read-answer.new.buf c.keep_rest-rest.result c.read-answer.result
          (omega (arith, c.keep_rest-rest.ensures.many, c.keep_rest-rest.auto.buffer, c.requires.bytes.1)) c.read-answer.auto.buf
          c.read-answer.ensures.bound c.what_moved.ensures,
      ap bytes_of c.in_ok-what_moved.was,
      c.keep_rest-rest.auto.buffer,
    )
