-- Each turn joins the words of the next place: what is joined is zero where each place was.
use mathlib.Core.Path.{sym, ap, ◌∙◌}
use mathlib.Core.Bool.{Bool, ◌&&◌, and_assoc, and-true}
use Prim.Native.Nat.{◌+◌}
use native.Mathlib.Omega.{arith}
use lib.IntN.{pos}
use mir.Syntax.{w32}
use mir.Val.{to_z, of_z}
use borrow.Author.Rules.{sfits_of}
use Rattle.rules.specs.Lists.{same}
use Rattle.rules.specs.Layout.{entry_size, entry_place, edition_of}
use Rattle.layout_laws.proofs.Runs.{zeros}
use Rattle.pool.specs.Standing.{stand, zero_from}
use Rattle.pool.proofs.Bits.{zero_bits, bits_joined}
use Rattle.pool.proofs.Stand.{same_self, given_zero}
use Rattle.pool.proofs.Stores.{spot_inside}
use Rattle.pool.proofs.Tidied.{zero_more, zero_end}
use Rattle.pool.proofs.node.Node.unused_zero.Goals as goal

pub loop-i-init : goal.loop-i-init
loop-i-init c =
    let w = c.args.self.now.words.now in
    let s = c.args.self.now.slot in
    ap (λ (b : Bool). b && zero_from w s c.count-i.result) (same_self (pos 0)) ∙ ap (zero_from w s) c.count-i.ensures.is

pub entry_bits-all-requires : goal.entry_bits-all-requires
entry_bits-all-requires c =
    let inside = spot_inside c.args.self.now.in_pool c.loop-i.i c.loop-i-test.true in
    rw (c.spot.ensures, c.args.self.now.told) inside

pub loop-i-preserved : goal.loop-i-preserved
loop-i-preserved c =
    let w = c.args.self.now.words.now in
    let s = c.args.self.now.slot in
    let ed = edition_of w in
    let z = c.entry_bits-all.result in
    let a = same (pos 0) (to_z w32 c.loop-i.all-bits) in
    let here = stand (zeros (entry_size ed)) w (entry_place ed s c.loop-i.i) in
    let rest = zero_from w s (c.loop-i.i + 1) in
    let this = given_zero (sfits_of c.entry_bits-all.type_inv) (rw (c.spot.ensures, c.args.self.now.told) at c.entry_bits-all.ensures) in
    ap (λ (b : Bool). b && rest) (bits_joined c.loop-i.all-bits (of_z w32 z) ∙ ap (λ (b : Bool). a && b) this)
    ∙ and_assoc a here rest
    ∙ ap (λ (b : Bool). a && b) (sym (zero_more c.args.self.now.in_pool c.loop-i.i c.loop-i-test.true))
    ∙ c.loop-i.invariant

pub returns : goal.returns
returns c =
    let a = same (pos 0) (to_z w32 c.loop-i.all-bits) in
    sym (zero_bits c.loop-i.all-bits) ∙ sym (and-true a)
    ∙ ap (λ (b : Bool). a && b) (sym (zero_end c.args.self.now.in_pool c.loop-i.i (omega (arith, c.loop-i-test.false))))
    ∙ c.loop-i.invariant
