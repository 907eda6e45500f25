use Rattle.pool.proofs.Stores.{spot_inside}
use Rattle.pool.proofs.node.Node.owner.Goals as goal

pub owner_in-requires : goal.owner_in-requires
owner_in-requires c =
    let n = c.args.self.now in
    rw (c.spot.ensures, n.told) (spot_inside n.in_pool c.args.i c.requires)
