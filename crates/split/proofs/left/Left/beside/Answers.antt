-- `split::left::Left::beside` meets its contract: of nine places in order the one of the first seed
-- is left out, then the one of the second.
use mathlib.Core.Path.{ap, ◌∙◌}
use Prim.Native.Nat.{◌-◌}
use Rattle.rules.specs.Lists.{without}
use Rattle.split.proofs.Lefts.{seeds_leaving}
use Rattle.split.proofs.left.Left.beside.Goals as goal

pub returns-clause-is : goal.returns-clause-is
returns-clause-is c =
    seeds_leaving c.requires.0 c.requires.1 _ (c.take-2.ensures.rest ∙ ap (without (c.args.j - 1)) c.take.ensures.rest)
