use native.Mathlib.Omega.{arith}
use mathlib.Core.Path.{ap, ◌∙◌}
use Prim.Native.Nat.{ℕ}
use lib.ListN.{drop}
use Rattle.rules.specs.Layout.{rect_of}
use Rattle.layout_laws.proofs.Parts.{slot_few}
use Rattle.pool.proofs.Stores.{rect_inside, spot_rect}
use Rattle.pool.proofs.node.Node.rect.Goals as goal

pub spot-requires : goal.spot-requires
spot-requires c = omega (arith, slot_few c.args.self.now.in_pool, c.requires)

pub rect_at-requires : goal.rect_at-requires
rect_at-requires c =
    let in_pool = c.args.self.now.in_pool in
    let inside = rect_inside in_pool c.args.i (omega (arith, slot_few in_pool, c.requires)) in
    omega (arith, c.spot.ensures, inside)

pub returns : goal.returns
returns c =
    let n = c.args.self.now in
    c.rect_at.ensures
    ∙ ap (λ (k : ℕ). rect_of (drop k n.words.now)) c.spot.ensures
    ∙ spot_rect n.in_pool c.args.i c.requires
