use Rattle.split.proofs.Choices.{Held}
use Rattle.split.proofs.choice.tied.Given as goal

abbrev pub invariant-loop-i : goal.invariant-loop-i
invariant-loop-i g l = let m = g.C.Choice in Held (m.better l.c) (m.item l.c) (m.Right l.c) l.from l.to l.initial.b l.b l.i
