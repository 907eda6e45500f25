-- The number and the place become the next item, and it is found where the entry meets the window.
use native.Mathlib.Omega.{arith}
use mathlib.Core.Path.{ap}
use Rattle.rules.specs.Layout.{entry_place}
use Rattle.layout_laws.proofs.Parts.{few, slot_few}
use Rattle.pool.proofs.Lengths.{spot_few}
use Rattle.search.proofs.Steps.{went_entry}
use Rattle.search.proofs.list_entry.Goals as goal

pub spot-requires : goal.spot-requires
spot-requires c = omega (arith, slot_few c.args.node.now.in_pool, c.requires.i_in_bounds)

pub invariant_of-item : goal.invariant_of-item
invariant_of-item c =
    let n = c.args.node.now in
    let at = spot_few n.edition n.slot c.args.i (few n.in_pool)
    (omega (arith, slot_few n.in_pool, c.requires.i_in_bounds)) in
    record { spot_fits = omega (arith, c.spot.ensures, ap (λ e. entry_place e n.slot c.args.i) n.told, at) }

pub write-requires : goal.write-requires
write-requires c = omega (arith, c.requires.next_in_bounds)

pub returns : goal.returns
returns c =
    let r = c.requires in
    went_entry c.args.items.now c.args.node.now.in_pool r.leaf c.args.i r.i_in_bounds c.args.next
    (omega (arith, r.next_in_bounds)) c.args.window c.write.new.items c.number.result
    c.spot.result c.met.result c.number.ensures c.spot.ensures c.write.ensures c.met.ensures.is
