use native.Mathlib.Omega.{arith}
use Rattle.layout_laws.proofs.Parts.{few}
use Rattle.rules.specs.Layout.{edition_of}
use Rattle.pool.proofs.Lengths.{spot_few}
use Rattle.pool.proofs.node.Node.pointer_place.Goals as goal

pub overflow_add-result : goal.overflow_add-result
overflow_add-result c =
    let n = c.args.self.now in
    let at = spot_few (edition_of n.words.now) n.slot c.args.i (few n.in_pool) (omega (arith, c.requires)) in
    record { fits = omega (arith, c.spot.ensures, at) }

pub returns : goal.returns
returns c = omega (arith, c.spot.ensures)
