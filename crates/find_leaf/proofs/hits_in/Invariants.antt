use lib.ListN.{length}
use Rattle.rules.specs.Compare.{lies_in}
use Rattle.pool.specs.Reading.{entries_of, entry_of}
use Rattle.find_leaf.proofs.Gather.{Gathered}
use Rattle.find_leaf.proofs.hits_in.Given as goal

abbrev pub invariant-loop-i : goal.invariant-loop-i
invariant-loop-i l =
    Gathered (λ k. lies_in l.r (entry_of l.node k).rect) (length (entries_of l.node)) l.places l.count l.i
