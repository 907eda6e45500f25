-- A turn stores one item more behind those that stand.
use Rattle.std.proofs.Common.{◌+◌, set, ap, ◌∙◌, arith}
use Rattle.batch.proofs.Carries.{stored, stored_none, stored_more}
use Rattle.batch.proofs.carry.Goals as goal

pub loop-k-init : goal.loop-k-init
loop-k-init c = stored_none c.args.pool.now c.args.work.now c.args.found.now c.args.at

pub loop-k-preserved : goal.loop-k-preserved
loop-k-preserved c =
    let p = c.args.pool.now in
    let w = c.args.work.now in
    let fs = c.args.found.now in
    let at = c.args.at in
    let k = c.loop-k.k in
    (λ j. set (c.loop-k.invariant j) (at + k) (c.item.ensures j))
    ∙ stored_more p w fs at k ∙ ap (stored p w fs at) (omega arith)
