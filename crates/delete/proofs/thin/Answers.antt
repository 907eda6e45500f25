-- `delete::thin` meets its contract: the two tests are those of the definition, of the count and the height that were read.
use mathlib.Core.Bool.{◌&&◌}
use lib.Dec.{leb, ltb}
use Rattle.rules.specs.Numbers.{least}
use Rattle.delete.specs.Aside.{thin_at}
use Rattle.delete.proofs.thin.Goals as goal

pub node-requires : goal.node-requires
node-requires c = c.requires

pub returns : goal.returns
unfolding thin_at
returns c =
    let count = rw (c.node.ensures.words, c.node.ensures.slot) at c.count.ensures.is in
    λ i. leb (count i) least && ltb 1 (c.height.ensures i)
