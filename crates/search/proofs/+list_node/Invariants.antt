use Rattle.std.proofs.Common.{◌-◌}
use Rattle.search.proofs.Turns.{ChildWalk}
use Rattle.search.proofs.+list_node.Given as goal

abbrev pub decreases-list_node : goal.decreases-list_node
decreases-list_node l = l.level

abbrev pub invariant-loop-i : goal.invariant-loop-i
invariant-loop-i l =
    ChildWalk l.pool.words.now l.window (l.level - 1) l.fn.s l.meeting
    l.initial.items l.items l.initial.w l.w l.i-index
