-- `split::choice::best_of` meets its contract: a turn keeps the item with the larger key, or hands
-- a tie on.
use mathlib.Core.Path.{sym, ap}
use mathlib.Core.Bool.{Bool, cond}
use native.Mathlib.Omega.{arith}
use Rattle.split.proofs.Choices.{held_more, held_all}
use Rattle.split.proofs.choice.best_of.Goals as goal

pub loop-i-preserved : goal.loop-i-preserved
loop-i-preserved g c =
    let m = g.C.Choice in
    rw (
      c.larger-b.ensures,
      ap (λ (t : Bool). cond t c.at-other.result c.loop-i.b)
          (sym (g.met.C.Choice.by_key c.args.c.now _ _ _ _ c.at-other.ensures.right c.loop-i.invariant.right c.if-other-b.false)),
    ) (held_more (m.better c.args.c.now) (m.item c.args.c.now) c.loop-i.invariant c.loop-i-test.true c.at-other.ensures.is c.at-other.ensures.right)

pub returns-clause-is : goal.returns-clause-is
returns-clause-is g c =
    let m = g.C.Choice in
    held_all (m.better c.args.c.now) (m.item c.args.c.now) c.loop-i.invariant (omega (arith, c.loop-i-test.false))
