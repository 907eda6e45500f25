use native.Mathlib.Omega.{arith}
use mathlib.Core.Path.{sym}
use borrow.Author.Rules.{sfits_of}
use Rattle.layout_laws.proofs.Parts.{slot_few, slot_pointer}
use Rattle.pool.proofs.Naturals.{word_read}
use Rattle.pool.proofs.Stores.{spot_inside}
use Rattle.pool.proofs.node.Node.pointer.Goals as goal

pub pointer_place-requires : goal.pointer_place-requires
pointer_place-requires c = omega (arith, slot_few c.args.self.now.in_pool, c.requires)

pub word-z-requires : goal.word-z-requires
word-z-requires c =
    let in_pool = c.args.self.now.in_pool in
    let inside = spot_inside in_pool c.args.i (omega (arith, slot_few in_pool, c.requires)) in
    omega (arith, c.pointer_place.ensures, inside)

pub owner-owner-requires : goal.owner-owner-requires
owner-owner-requires c = omega (arith, slot_few c.args.self.now.in_pool, c.requires)

pub returns : goal.returns
returns c =
    rw (
      c.pointer_of.ensures,
      word_read (sfits_of c.word-z.type_inv) c.word-z.ensures,
      word_read (sfits_of c.owner-owner.type_inv) c.owner-owner.ensures,
      c.level-level.ensures,
      c.pointer_place.ensures,
    ) (sym (slot_pointer c.args.self.now.in_pool c.args.i c.requires))
