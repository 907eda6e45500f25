use Rattle.search.proofs.Turns.{Gathered}
use Rattle.search.proofs.gather_in.Given as goal

abbrev pub invariant-loop-i : goal.invariant-loop-i
invariant-loop-i l = Gathered l.node.words.now l.window l.node.slot l.places l.count l.i
