-- `turn`: each way on keeps what has to hold (Steps), with what the reader says of the bytes.
use mathlib.Core.Path.{sym}
use native.Mathlib.Omega.{arith}
use Rattle.frames.proofs.Pieces.{asks_request}
use Rattle.program.specs.Moving.{held_in}
use Rattle.program.proofs.Steps.{onward_full, onward_waits, onward_goes, onward_ends, asks_in}
use Rattle.program.proofs.turn.Goals as goal

pub returns-then-out-run-lt-ROOM : goal.returns-then-out-run-lt-ROOM
returns-then-out-run-lt-ROOM c = onward_full c.requires.stands

pub answer-requires-clause-asks : goal.answer-requires-clause-asks
answer-requires-clause-asks c =
    let told = sym (rw c.in-Ok-Some.field-0-is at c.in-Ok-Some.ensures) in
    asks_request (held_in c.args.input.now c.args.run) c.in-Ok-Some.frame.request c.in-Ok-Some.frame.size told

pub answer-requires-clause-within : goal.answer-requires-clause-within
answer-requires-clause-within c =
    let told = sym (rw c.in-Ok-Some.field-0-is at c.in-Ok-Some.ensures) in
    asks_in c.requires.stands c.in-Ok-Some.frame.request c.in-Ok-Some.frame.size told

pub returns-in-Ok-Some : goal.returns-in-Ok-Some
returns-in-Ok-Some c =
    let told = sym (rw c.in-Ok-Some.field-0-is at c.in-Ok-Some.ensures) in
    onward_goes c.requires.stands c.in-Ok-Some.frame.request c.in-Ok-Some.frame.size c.answer.result told
    (omega (arith, c.if-out-run-lt-ROOM.false, c.requires.stands.room)) c.answer.ensures.reply c.answer.ensures.passed

pub returns-in-Ok-None : goal.returns-in-Ok-None
returns-in-Ok-None c =
    let told = sym (rw c.in-Ok-None.field-0-is at c.in-Ok-None.ensures) in
    onward_waits c.requires.stands told

pub returns-in-Err : goal.returns-in-Err
returns-in-Err c =
    onward_ends c.requires.stands c.bad_frame.result (sym c.in-Err.ensures) c.bad_frame.ensures.line.1 c.bad_frame.ensures.line.0
