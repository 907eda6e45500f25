use native.Mathlib.Omega.{arith}
use mathlib.Core.Path.{ap, ◌∙◌}
use Rattle.rules.specs.Layout.{natural, word_at}
use Rattle.layout_laws.proofs.Parts.{slot_few, slot_pointer}
use Rattle.layout_laws.proofs.Written.{pointer_child, child_is, leaf_not}
use Rattle.pool.specs.Reading.{node_of, entry_of}
use Rattle.pool.proofs.Stores.{spot_inside}
use Rattle.pool.proofs.node.Node.child.Goals as goal

pub pointer_place-requires : goal.pointer_place-requires
pointer_place-requires c = omega (arith, slot_few c.args.self.now.in_pool, c.requires.i_in_bounds)

pub number_at-requires : goal.number_at-requires
number_at-requires c =
    let in_pool = c.args.self.now.in_pool in
    let inside = spot_inside in_pool c.args.i (omega (arith, slot_few in_pool, c.requires.i_in_bounds)) in
    omega (arith, c.pointer_place.ensures, inside)

pub returns : goal.returns
returns c =
    let n = c.args.self.now in
    let i = c.args.i in
    let e = slot_pointer n.in_pool i c.requires.i_in_bounds ∙ pointer_child _ _ _ (leaf_not (node_of n) c.requires.inner) in
    let is = c.number_at.ensures ∙ ap (λ k. natural (word_at n.words.now k)) c.pointer_place.ensures in
    child_is (entry_of n i) c.number_at.result _ e is
