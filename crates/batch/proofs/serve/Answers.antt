-- A turn is that of `Batches.antt`: the request is done by `one_request`, and `carry` stores its
-- records.
use Rattle.std.proofs.Common.{arith, subst, ℤ}
use mir.Syntax.{w32}
use mir.Facts.{to_z-of_z}
use Rattle.rules.specs.Owners.{owner}
use Rattle.promises.specs.Calls.{lent}
use Rattle.batch.specs.Batching.{batch_of, Batched}
use Rattle.batch.proofs.Batches.{fine_told, started, q_asked, many, same_long}
use Rattle.batch.proofs.Batches.{listed, listed_few, next, finished}
use Rattle.batch.proofs.serve.Goals as goal

pub over-requires : goal.over-requires
over-requires c = (fine_told c.ranges.owner c.requires).right

pub loop-i-init : goal.loop-i-init
loop-i-init c =
    started (fine_told c.ranges.owner c.requires) c.free_slots-free.result
    (rw c.over.ensures at c.free_slots-free.ensures)

pub one_request-s-requires : goal.one_request-s-requires
one_request-s-requires c =
    let f = fine_told c.ranges.owner c.requires in
    let s = c.loop-i.invariant in
    record {
      ready = s.ready;
      work_len = same_long f s c.loop-i-test.true;
      q_value = q_asked f s c.loop-i-test.true;
      owner_value = f.owner;
      filled_bound = many f s c.loop-i-test.true;
    }

pub carry-requires : goal.carry-requires
carry-requires c =
    let f = fine_told c.ranges.owner c.requires in
    let room = listed f c.loop-i.invariant c.loop-i-test.true c.one_request-s.ensures in
    (room.0, room.1, omega (arith, room.2))

pub bounds-answers-i : goal.bounds-answers-i
bounds-answers-i c =
    let f = fine_told c.ranges.owner c.requires in
    omega (arith, c.loop-i-test.true, c.loop-i.invariant.answers_long, f.answers)

pub overflow_add-filled : goal.overflow_add-filled
overflow_add-filled c =
    let f = fine_told c.ranges.owner c.requires in
    let most = listed_few f c.loop-i.invariant c.loop-i-test.true c.one_request-s.ensures in
    record { fits = omega (arith, most) }

pub loop-i-preserved : goal.loop-i-preserved
loop-i-preserved c =
    next (fine_told c.ranges.owner c.requires) c.loop-i.invariant c.loop-i-test.true
    c.one_request-s.ensures c.carry.ensures

pub returns : goal.returns
returns c =
    let p = c.args.pool.now in
    let w = c.args.work.now in
    let q = c.args.requests.now in
    let a = c.args.answers.now in
    let f = c.args.found.now in
    let fine = fine_told c.ranges.owner c.requires in
    let done = finished fine c.loop-i.invariant c.loop-i-test.false in
    subst (λ (o : ℤ).
    Batched (batch_of (lent (owner o) p w q a f)) c.loop-i.pool c.loop-i.answers c.loop-i.found)
    (to_z-of_z {w = w32} c.ranges.owner) done
