use native.Mathlib.Omega.{arith}
use mathlib.Core.Path.{ap, ◌∙◌}
use borrow.Author.Rules.{sfits_of}
use borrow.Author.Tests.{eq-eqb}
use lib.IntN.{ℤ}
use Rattle.rules.specs.Pool.{number}
use Rattle.rules.specs.Layout.{word_at}
use Rattle.layout_laws.proofs.Parts.{slot_few, slot_pointer}
use Rattle.layout_laws.proofs.Written.{pointer_number, number_of_word}
use Rattle.pool.specs.Reading.{node_of, entry_of}
use Rattle.pool.proofs.Naturals.{word_read}
use Rattle.pool.proofs.Stores.{spot_inside}
use Rattle.pool.proofs.node.Node.number.Goals as goal

pub pointer_place-requires : goal.pointer_place-requires
pointer_place-requires c = omega (arith, slot_few c.args.self.now.in_pool, c.requires.i_in_bounds)

pub word-requires : goal.word-requires
word-requires c =
    let in_pool = c.args.self.now.in_pool in
    let inside = spot_inside in_pool c.args.i (omega (arith, slot_few in_pool, c.requires.i_in_bounds)) in
    omega (arith, c.pointer_place.ensures, inside)

pub returns : goal.returns
returns c =
    let n = c.args.self.now in
    let i = c.args.i in
    let leaf = eq-eqb (node_of n).level 1 c.requires.leaf in
    let e = slot_pointer n.in_pool i c.requires.i_in_bounds ∙ pointer_number _ _ _ leaf in
    let is = word_read (sfits_of c.word.type_inv) c.word.ensures ∙ ap (λ k. word_at n.words.now k) c.pointer_place.ensures in
    ap (λ (z : ℤ). number z) is ∙ number_of_word (entry_of n i) _ _ e
