-- A slot that was marked is refused; another is marked, whatever is found there.
use native.Mathlib.Omega.{arith}
use Rattle.layout_laws.proofs.Parts.{few}
use Rattle.sound.proofs.Nodes.{met_before, met_now}
use Rattle.sound.proofs.meet.Goals as goal

pub bounds-seen-n : goal.bounds-seen-n
bounds-seen-n c = omega (arith, few c.args.node.now.in_pool, c.args.node.now.in_pool.low, c.requires.seen_len)

pub returns-then-seen-n-ne0 : goal.returns-then-seen-n-ne0
returns-then-seen-n-ne0 c = met_before c.args.node.now.in_pool c.args.level c.args.seen.now c.if-seen-n-ne0.true

pub bounds-seen-n-2 : goal.bounds-seen-n-2
bounds-seen-n-2 c = omega (arith, few c.args.node.now.in_pool, c.args.node.now.in_pool.low, c.requires.seen_len)

pub returns : goal.returns
returns c =
    met_now c.args.node.now.in_pool c.args.level c.args.seen.now c.node_fits.result c.requires.seen_len c.if-seen-n-ne0.false
    c.node_fits.ensures
