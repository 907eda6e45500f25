-- The root is a leaf, or has one child, or has more.
use mathlib.Core.Path.{◌≡◌, sym, ap, subst, ◌∙◌}
use mathlib.Core.Logic.{◌≢◌}
use mathlib.Core.Bool.{false}
use native.Mathlib.Omega.{arith}
use lib.ListN.{length}
use Rattle.rules.specs.declared.SlotNumber.{SlotNumber}
use Rattle.rules.specs.Pool.{node_at, entries_at, entry_at, child_of, is_leaf}
use Rattle.rules.specs.Layout.{read}
use Rattle.sound_laws.specs.Tree.{Slot}
use Rattle.sound_laws.proofs.Walk.{tree_positive}
use Rattle.delete.proofs.Nodes.{few_read, in_pool_lem, free_few}
use Rattle.delete.proofs.Shorts.{root_slot, root_inner, only_slot, short_leaf, short_more, holds_same, holds_lower}
use Rattle.delete.proofs.shorten.Goals as goal

pub returns-then-height-eq1 : goal.returns-then-height-eq1
returns-then-height-eq1 c =
    let height = rw c.over-tree.ensures at c.height-height.ensures in
    let p = read c.args.pool.now in
    holds_same c.args.pool.now c.args.free c.requires.known c.requires.fit
    (short_leaf p c.requires.standing (sym height ∙ c.if-height-eq1.true))

pub node-root-requires : goal.node-root-requires
node-root-requires c =
    let root = rw c.over-tree.ensures at c.root-s.ensures in
    let p = read c.args.pool.now in
    rw c.over-tree.ensures
    (in_pool_lem c.requires.fit (subst (Slot p) (sym root) (root_slot p c.requires.standing)))

pub child-t-requires : goal.child-t-requires
child-t-requires c =
    let root = rw c.over-tree.ensures at c.root-s.ensures in
    let height = rw c.over-tree.ensures at c.height-height.ensures in
    let p = read c.args.pool.now in
    let inner = subst (λ (x : SlotNumber). is_leaf (node_at p x) ≡ false) (sym root)
    (root_inner p c.requires.standing (λ e. c.if-height-eq1.false (height ∙ e))) in
    record {
      i_in_bounds = omega (arith, c.count.ensures.is, c.if-count-eq1.true);
      inner = rw (c.node-root.ensures.words, c.node-root.ensures.slot, c.over-tree.ensures) inner;
    }

pub zero_slot-requires : goal.zero_slot-requires
zero_slot-requires c =
    let root = rw c.over-tree.ensures at c.root-s.ensures in
    let p = read c.args.pool.now in
    record {
      fit_2 = c.requires.fit;
      in_pool = in_pool_lem c.requires.fit (subst (Slot p) (sym root) (root_slot p c.requires.standing));
    }

pub overflow_sub-height : goal.overflow_sub-height
overflow_sub-height c =
    let height = rw c.over-tree.ensures at c.height-height.ensures in
    let p = read c.args.pool.now in
    omega (arith, height, tree_positive p p.height p.root c.requires.standing.tree)

pub put_root-requires : goal.put_root-requires
put_root-requires c =
    let root = rw c.over-tree.ensures at c.root-s.ensures in
    let height = rw c.over-tree.ensures at c.height-height.ensures in
    let count = rw (c.node-root.ensures.words, c.node-root.ensures.slot, c.over-tree.ensures) at c.count.ensures.is in
    let leads = rw (c.node-root.ensures.words, c.node-root.ensures.slot, c.over-tree.ensures) at c.child-t.ensures in
    let p = read c.args.pool.now in
    let one : length (entries_at p p.root) ≡ 1 =
    subst (λ (x : SlotNumber). length (entries_at p x) ≡ 1) root (sym count ∙ c.if-count-eq1.true) in
    let k = only_slot p c.requires.standing (λ e. c.if-height-eq1.false (height ∙ e)) one in
    let child : c.child-t.result ≡ child_of (entry_at p p.root 0) =
    leads ∙ ap (λ (x : SlotNumber). child_of (entry_at p x 0)) root in record {
      fit_2 = c.zero_slot.ensures.fit;
      s_le_most_slots = (
        omega (
          arith,
          ap (λ (x : SlotNumber). x.0) child,
          k.high,
          few_read c.requires.fit,
          ap (λ (x : SlotNumber). x.0) root,
          (root_slot p c.requires.standing).high,
        ),
        omega (arith, height, c.requires.pool_bound),
      );
    }

pub more_slot-requires : goal.more_slot-requires
more_slot-requires c =
    let p = read c.args.pool.now in
    free_few p c.args.free c.requires.known (few_read c.requires.fit)

pub returns-then-count-eq1 : goal.returns-then-count-eq1
returns-then-count-eq1 c =
    let root = rw c.over-tree.ensures at c.root-s.ensures in
    let height = rw c.over-tree.ensures at c.height-height.ensures in
    let count = rw (c.node-root.ensures.words, c.node-root.ensures.slot, c.over-tree.ensures) at c.count.ensures.is in
    let leads = rw (c.node-root.ensures.words, c.node-root.ensures.slot, c.over-tree.ensures) at c.child-t.ensures in
    let p = read c.args.pool.now in
    let one : length (entries_at p p.root) ≡ 1 =
    subst (λ (x : SlotNumber). length (entries_at p x) ≡ 1) root (sym count ∙ c.if-count-eq1.true) in
    holds_lower c.args.pool.now c.args.free c.requires.known c.requires.standing
    (λ e. c.if-height-eq1.false (height ∙ e)) one c.root-s.result root c.child-t.result leads
    c.height-height.result height (read c.zero_slot.new.pool) c.zero_slot.ensures.is c.put_root.new.pool c.put_root.ensures.is
    c.put_root.ensures.fit c.more_slot.result c.more_slot.ensures

pub returns : goal.returns
returns c =
    let root = rw c.over-tree.ensures at c.root-s.ensures in
    let height = rw c.over-tree.ensures at c.height-height.ensures in
    let count = rw (c.node-root.ensures.words, c.node-root.ensures.slot, c.over-tree.ensures) at c.count.ensures.is in
    let p = read c.args.pool.now in
    let more : length (entries_at p p.root) ≢ 1 =
    λ e. c.if-count-eq1.false (count ∙ ap (λ (x : SlotNumber). length (entries_at p x)) root ∙ e) in
    holds_same c.args.pool.now c.args.free c.requires.known c.requires.fit
    (short_more p c.requires.standing (λ e. c.if-height-eq1.false (height ∙ e)) more)
