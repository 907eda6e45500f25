use Rattle.rules.specs.Layout.{read}
use Rattle.find_leaf.proofs.Down.{GoesDown}
use Rattle.find_leaf.proofs.find_leaf.Given as goal

abbrev pub invariant-loop-l : goal.invariant-loop-l
invariant-loop-l l =
    GoesDown (read l.pool.words.now) l.h l.initial.s l.w (record { steps = l.steps }) l.s l.l
