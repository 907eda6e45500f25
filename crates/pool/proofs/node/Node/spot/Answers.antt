-- A node is a slot of its pool, so one from 1 to 4,096; its edition is the pool's.
use mathlib.Core.Path.{ap, ◌∙◌}
use native.Mathlib.Omega.{arith}
use Rattle.rules.specs.Layout.{entry_place}
use Rattle.layout_laws.proofs.Parts.{few}
use Rattle.pool.proofs.node.Node.spot.Goals as goal

pub spot_in-requires : goal.spot_in-requires
spot_in-requires c =
    let n = c.args.self.now in
    record { le_s = (n.in_pool.low, few n.in_pool); i_lt_most = omega (arith, c.requires) }

pub returns : goal.returns
returns c =
    let n = c.args.self.now in
    c.spot_in.ensures ∙ ap (λ e. entry_place e n.slot c.args.i) n.told
