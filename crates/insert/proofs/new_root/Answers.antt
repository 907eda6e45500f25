-- `insert::new_root` meets its contract: the new root is put into the lowest free slot with the two entries, and then the head.
use borrow.Author.Rules.{rules}
use mathlib.Core.Path.{sym}
use Prim.Native.Nat.{◌+◌}
use native.Mathlib.Omega.{arith}
use Rattle.rules.specs.Layout.{read}
use Rattle.sound_laws.proofs.Free.{at_some, lowest_slot}
use Rattle.nodes.proofs.Slots.{most_slots_lem}
use Rattle.insert.proofs.Fitted.{slot_in}
use Rattle.insert.proofs.Roots.{two_small, two_kind, beside_slot, old_stored, partner_stored, new_stuck, new_made}
use Rattle.insert.proofs.new_root.Goals as goal

pub node-requires : goal.node-requires
node-requires c =
    let root = rw c.over-tree.ensures at c.root-root.ensures in
    let height = rw c.over-tree.ensures at c.height-height.ensures in
    let w = c.args.pool.now in
    let few = most_slots_lem w c.requires.fitted.fit.right in
    rw c.over-tree.ensures
    (slot_in w c.root-root.result c.requires.fitted.fit.right
    (beside_slot c.requires.beside few c.root-root.result root c.height-height.result height))

pub put_node-requires : goal.put_node-requires
put_node-requires c =
    let root = rw c.over-tree.ensures at c.root-root.ensures in
    let height = rw c.over-tree.ensures at c.height-height.ensures in
    let w = c.args.pool.now in
    let few = most_slots_lem w c.requires.fitted.fit.right in
    let low = sym (rw c.over-tree.ensures at c.in_ok-t.ensures) in
    let a =
    old_stored c.requires.beside few c.root-root.result root c.height-height.result height in
    let b = partner_stored c.requires.beside few c.root-root.result root c.height-height.result
    height in
    record {
      fit_2 = c.requires.fitted.fit;
      in_pool = slot_in w c.in_ok-t.t c.requires.fitted.fit.right (lowest_slot (read w) c.in_ok-t.t low);
      level_le_most_slots = omega (arith, c.requires.beside.few, height);
      few = omega arith;
      small_all = two_small _ _ _ (c.height-height.result + 1) (search rules) (search rules);
      kind_all = two_kind _ _ _ (c.height-height.result + 1) (search rules) (search rules) _;
    }

pub put_root-requires : goal.put_root-requires
put_root-requires c =
    let root = rw c.over-tree.ensures at c.root-root.ensures in
    let height = rw c.over-tree.ensures at c.height-height.ensures in
    let w = c.args.pool.now in
    let few = most_slots_lem w c.requires.fitted.fit.right in
    let low = sym (rw c.over-tree.ensures at c.in_ok-t.ensures) in
    let a =
    beside_slot c.requires.beside few c.root-root.result root c.height-height.result height in
    record {
      fit_2 = c.put_node.ensures.fit;
      s_le_most_slots = (
        omega (arith, (lowest_slot (read w) c.in_ok-t.t low).high, few, a.high),
        omega (arith, c.requires.beside.few, height),
      );
    }

pub less_slot-requires : goal.less_slot-requires
less_slot-requires c =
    let w = c.args.pool.now in
    let few = most_slots_lem w c.requires.fitted.fit.right in
    let low = sym (rw c.over-tree.ensures at c.in_ok-t.ensures) in
    record {
      count_nonzero = omega (arith, at_some (read w) c.in_ok-t.t low, c.requires.fitted.known.many);
      t_le_most_slots = omega (arith, (lowest_slot (read w) c.in_ok-t.t low).high, few);
    }

pub returns : goal.returns
returns c =
    let root = rw c.over-tree.ensures at c.root-root.ensures in
    let height = rw c.over-tree.ensures at c.height-height.ensures in
    let cover = rw (c.node.ensures.words, c.node.ensures.slot, c.over-tree.ensures) at c.cover_of.ensures in
    let low = sym (rw c.over-tree.ensures at c.in_ok-t.ensures) in
    new_made c.requires.fitted c.args.partner c.in_ok-t.t low c.root-root.result root c.height-height.result
    height c.cover_of.result cover (read c.put_node.new.pool) c.put_node.ensures.is
    c.put_root.new.pool c.put_root.ensures.fit c.put_root.ensures.is c.less_slot.result c.less_slot.ensures

pub returns-in_err-t : goal.returns-in_err-t
returns-in_err-t c =
    rw c.from_residual.ensures (new_stuck c.requires.fitted c.args.partner (sym (rw c.over-tree.ensures at c.in_err-t.ensures)))
