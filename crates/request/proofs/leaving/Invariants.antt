use Rattle.rules.specs.Layout.{read}
use Rattle.request.proofs.Leaves.{Thins}
use Rattle.request.proofs.leaving.Given as goal

abbrev pub invariant-loop-k : goal.invariant-loop-k
invariant-loop-k l = Thins (read l.pool.words.now) l.height l.way.steps l.k
