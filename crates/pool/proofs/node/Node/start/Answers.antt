-- A node is a slot of its pool, so one from 1 to 4,096; its edition is the pool's.
use mathlib.Core.Path.{ap, ◌∙◌}
use Rattle.rules.specs.Layout.{slot_start}
use Rattle.layout_laws.proofs.Parts.{few}
use Rattle.pool.proofs.node.Node.start.Goals as goal

pub start_in-requires : goal.start_in-requires
start_in-requires c = let n = c.args.self.now in (n.in_pool.low, few n.in_pool)

pub returns : goal.returns
returns c = let n = c.args.self.now in c.start_in.ensures ∙ ap (λ e. slot_start e n.slot) n.told
