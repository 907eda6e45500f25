use mathlib.Core.Path.{ap, ◌∙◌}
use Prim.Native.Nat.{ℕ}
use native.Mathlib.Omega.{arith}
use lib.IntN.{pos}
use lib.Signed.{le_z}
use Rattle.rules.specs.Layout.{word_at}
use Rattle.layout_laws.proofs.Parts.{slot_few}
use Rattle.pool.proofs.Stores.{spot_inside}
use Rattle.pool.proofs.Tidied.{pointer_one}
use Rattle.pool.proofs.node.Node.numbered.Goals as goal

pub pointer_place-requires : goal.pointer_place-requires
pointer_place-requires c = omega (arith, slot_few c.args.self.now.in_pool, c.requires)

pub at_least-requires : goal.at_least-requires
at_least-requires c =
    let in_pool = c.args.self.now.in_pool in
    let inside = spot_inside in_pool c.args.i (omega (arith, slot_few in_pool, c.requires)) in
    omega (arith, c.pointer_place.ensures, inside)

pub returns : goal.returns
returns c =
    let n = c.args.self.now in
    c.at_least.ensures
    ∙ ap (λ (k : ℕ). le_z (pos 1) (word_at n.words.now k)) c.pointer_place.ensures
    ∙ pointer_one n.in_pool c.args.i c.requires
