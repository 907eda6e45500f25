-- What a turn keeps: the lists lent hold what the requests done have left, and what is known of
-- them lets the next be done.
use Rattle.rules.specs.Owners as O
use Rattle.promises.specs.Calls.{lent}
use Rattle.batch.proofs.Batches.{Going}
use Rattle.batch.proofs.serve.Given as goal

abbrev pub invariant-loop-i : goal.invariant-loop-i
invariant-loop-i l =
    Going (lent (O.owner l.fn.owner) l.fn.pool l.fn.work l.requests l.fn.answers l.fn.found)
    l.i l.filled l.free l.pool l.work l.answers l.found
