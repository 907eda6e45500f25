-- What the check answers tells whether a row refuses the call; where none does, the requests are done
-- and the pool is copied to the workspace.
use Rattle.std.proofs.Common.{◌≡◌, ◌∙◌, ℤ, sym, subst}
use Rattle.std.specs.Prelude.{None}
use Rattle.std.proofs.lemmas.Result.{err_from_is_err_and}
use mir.Syntax.{w32}
use mir.Facts.{to_z-of_z}
use Rattle.rules.specs.Owners.{owner}
use Rattle.rules.specs.Call.{call_fault}
use Rattle.promises.specs.Calls.{lent}
use Rattle.batch.specs.Batching.{batch_of, Batched}
use Rattle.batch.proofs.Batches.{fine}
use Rattle.batch.proofs.Calls.{when_refused, when_served, left_served}
use Rattle.batch.proofs.one_call.Goals as goal

pub returns-in_err-refusal : goal.returns-in_err-refusal
returns-in_err-refusal c =
    let told = rw (to_z-of_z {w = w32} c.ranges.owner) at c.refusal.ensures in
    let p = err_from_is_err_and c.from_residual.result c.from_residual.ensures.1 in
    rw (p.1, p.2)
    (when_refused _ c.all_asked-all.result c.all_asked-all.ensures c.refusal.result told _
    c.in_err-refusal.was)

pub serve-requires : goal.serve-requires
serve-requires c =
    let e = to_z-of_z {w = w32} c.ranges.owner in
    let told = rw e at c.refusal.ensures in
    subst (λ (o : ℤ). call_fault (lent (owner o) c.args.pool.now c.args.work.now c.args.requests.now
    c.args.answers.now c.args.found.now) ≡ None) (sym e)
    (when_served _ c.all_asked-all.result c.all_asked-all.ensures c.refusal.result told _
    c.in_ok-refusal.was)

pub copy-requires : goal.copy-requires
copy-requires c =
    let told = rw (to_z-of_z {w = w32} c.ranges.owner) at c.refusal.ensures in
    let l = lent (owner c.args.owner) c.args.pool.now c.args.work.now c.args.requests.now
    c.args.answers.now c.args.found.now in
    let known = when_served l c.all_asked-all.result c.all_asked-all.ensures c.refusal.result told _
    c.in_ok-refusal.was in
    c.serve.auto.pool ∙ sym (fine l known).workspace ∙ sym c.serve.auto.work

pub returns : goal.returns
returns c =
    let e = to_z-of_z {w = w32} c.ranges.owner in
    let told = rw e at c.refusal.ensures in
    let done = subst (λ (o : ℤ). Batched (batch_of (lent (owner o) c.args.pool.now c.args.work.now
    c.args.requests.now c.args.answers.now c.args.found.now)) c.serve.new.pool c.serve.new.answers
    c.serve.new.found) e c.serve.ensures in
    left_served _
    (when_served _ c.all_asked-all.result c.all_asked-all.ensures c.refusal.result told _
    c.in_ok-refusal.was) c.serve.new.pool c.copy.new.target c.serve.new.answers c.serve.new.found
    done c.copy.ensures
