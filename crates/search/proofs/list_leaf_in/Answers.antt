-- A leaf, an entry at a time.
use native.Mathlib.Omega.{arith}
use Rattle.search.proofs.Turns.{leaf_begins, leaf_turn, leaf_ends}
use Rattle.search.proofs.list_leaf_in.Goals as goal

pub loop-i-init : goal.loop-i-init
loop-i-init c = leaf_begins c.args.node.now.words.now c.args.window c.args.node.now.slot c.requires.item_room

pub loop-i-preserved : goal.loop-i-preserved
loop-i-preserved c =
    leaf_turn c.args.node.now.words.now c.args.window c.args.node.now.slot c.loop-i.i c.loop-i.invariant
    (omega (arith, c.loop-i-test.true, c.count-i-end.ensures.is)) c.list_entry-next.ensures

pub returns : goal.returns
returns c =
    leaf_ends c.args.node.now.words.now c.args.window c.args.node.now.slot c.loop-i.i c.loop-i.invariant
    (omega (arith, c.loop-i-test.false, c.count-i-end.ensures.is))
