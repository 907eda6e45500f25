-- `fill_list`: a turn fills one place more.
use Rattle.std.proofs.Common.{◌≡◌, min, arith}
use Rattle.program.proofs.Calls.{filled_none, filled_more}
use Rattle.program.proofs.fill_list.Goals as goal

pub loop-k-init : goal.loop-k-init
loop-k-init c = filled_none c.args.found.now c.args.pool.now c.args.work.now

pub loop-k-preserved : goal.loop-k-preserved
loop-k-preserved c =
    rw (c.item.ensures, c.loop-k.invariant) (filled_more c.args.found.now c.args.pool.now c.args.work.now c.loop-k.k)

pub returns : goal.returns
returns c =
    let all : c.loop-k.k ≡ min c.args.listed 64 = omega (arith, c.loop-k-test.false, c.min-k-end.ensures) in
    rw (← all) c.loop-k.invariant
