-- `split::choice::better` meets its contract: the keys decide, and where they tie, the measure by
-- half perimeter.
use mathlib.Core.Path.{sym, ap, ◌∙◌}
use mathlib.Core.Bool.{Bool, cond}
use Rattle.split.proofs.choice.better.Goals as goal

pub returns-then-other-best : goal.returns-then-other-best
returns-then-other-best g c =
    c.larger.ensures
    ∙ ap (λ (t : Bool). cond t c.args.other c.args.best)
    (sym (g.met.C.Choice.by_key c.args.c.now c.args.other.item c.args.best.item c.args.other.key c.args.best.key c.requires.right_2 c.requires.right
    c.if-other-best.true))
