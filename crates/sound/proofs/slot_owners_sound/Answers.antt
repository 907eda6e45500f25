-- Each turn asks the next entry for its owner.
use mathlib.Core.Path.{refl, ap, ◌∙◌}
use Prim.Native.Nat.{ℕ, ◌≤◌, ◌<◌}
use native.Mathlib.Omega.{arith}
use lib.Dec.{eqb}
use lib.ListN.{length}
use Rattle.rules.specs.Pool.{entries_at}
use Rattle.rules.specs.Layout.{read}
use Rattle.layout_laws.proofs.Parts.{slot_few}
use Rattle.rules_laws.proofs.Places.{length_up_from}
use Rattle.sound.specs.Walked.{places_of}
use Rattle.sound.proofs.Everies.{asked_more, asked_end}
use Rattle.pool.proofs.Naturals.{word_read}
use Rattle.sound.proofs.Owners.{fits_at, fits_next, fits_all}
use borrow.Author.Rules.{sfits_of}
use Rattle.sound.proofs.slot_owners_sound.Goals as goal

pub loop-i-init : goal.loop-i-init
loop-i-init c = record { leaf_is = ap (λ (l : ℕ). eqb l 1) c.level-leaf.ensures; size = c.count-n.ensures.is; asked = refl }

pub owner-requires : goal.owner-requires
owner-requires c = omega (arith, c.loop-i-test.true, c.loop-i.invariant.size, slot_few c.args.node.now.in_pool)

pub loop-i-preserved : goal.loop-i-preserved
loop-i-preserved c =
    let w = c.args.node.now.words.now in
    let s = c.args.node.now.slot in
    let here : c.loop-i.i < length (entries_at (read w) s) = omega (arith, c.loop-i-test.true, c.loop-i.invariant.size) in
    let in_list : c.loop-i.i < length (places_of w s) = omega (arith, length_up_from 0 (length (entries_at (read w) s))) in
    let asked = rw (word_read (sfits_of c.owner.type_inv) c.owner.ensures, c.loop-i.invariant.leaf_is) at c.owner_fits-all.ensures in
    record {
      leaf_is = c.loop-i.invariant.leaf_is;
      size = c.loop-i.invariant.size;
      asked = asked_more (fits_at w s) (places_of w s) c.loop-i.i c.loop-i.all 0 in_list c.owner_fits-all.result _
          (asked ∙ fits_next w s c.loop-i.i here) refl c.loop-i.invariant.asked;
    }

pub returns : goal.returns
returns c =
    let w = c.args.node.now.words.now in
    let s = c.args.node.now.slot in
    let done : length (places_of w s) ≤ c.loop-i.i =
    omega (arith, c.loop-i-test.false, c.loop-i.invariant.size, length_up_from 0 (length (entries_at (read w) s))) in
    asked_end (fits_at w s) (places_of w s) c.loop-i.i c.loop-i.all done c.loop-i.invariant.asked ∙ fits_all c.args.node.now.in_pool
