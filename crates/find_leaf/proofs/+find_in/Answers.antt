-- A leaf is looked through; an inner node goes hit by hit, and the level falls from call to call.
use Rattle.std.proofs.Common.{ap, arith, ◌-◌, ◌∙◌}
use Rattle.rules.specs.declared.SlotNumber.{SlotNumber}
use Rattle.rules.specs.Delete.{find_leaf}
use Rattle.rules.specs.Layout.{read}
use Rattle.sound_laws.proofs.Walk.{tree_node, tree_positive}
use Rattle.find_leaf.specs.Packed.{packed_way}
use Rattle.find_leaf.proofs.Inner.{tree_in, above_leaf, no_leaf, child_tree, way_fits, hit_there, left_first, left_found, left_next, left_end}
use Rattle.find_leaf.proofs.+find_in.Goals as goal

pub node-node-requires : goal.node-node-requires
node-node-requires t c = tree_in c.args.pool.words.now c.args.level c.args.s c.args.pool.right c.requires.tree

pub find_entry-requires : goal.find_entry-requires
find_entry-requires t c =
    rw (c.node-node.ensures.words, c.node-node.ensures.slot)
    ((tree_node (read c.args.pool.words.now) c.args.level c.args.s c.requires.tree).level ∙ c.if-level-eq1.true)

pub returns-then-level-eq1 : goal.returns-then-level-eq1
returns-then-level-eq1 t c =
    rw c.if-level-eq1.true (rw (c.node-node.ensures.words, c.node-node.ensures.slot) at c.find_entry.ensures)

pub loop-i-init : goal.loop-i-init
loop-i-init t c =
    let p = read c.args.pool.words.now in
    let two = above_leaf p c.args.level c.args.s c.requires.tree c.if-level-eq1.false in
    left_first p c.args.r c.args.level c.args.s _
    (rw (c.node-node.ensures.words, c.node-node.ensures.slot) at c.hits-hits.ensures) two c.requires.tree

pub overflow_sub-level : goal.overflow_sub-level
overflow_sub-level t c =
    omega (arith, tree_positive (read c.args.pool.words.now) c.args.level c.args.s c.requires.tree)

pub child-requires-clause-i_in_bounds : goal.child-requires-clause-i_in_bounds
child-requires-clause-i_in_bounds t c =
    let are = rw (c.node-node.ensures.words, c.node-node.ensures.slot) at c.hits-hits.ensures in
    rw (c.node-node.ensures.words, c.node-node.ensures.slot)
    (hit_there (read c.args.pool.words.now) c.args.r c.args.level c.args.s _ c.loop-i.i-index c.loop-i-test.true are)

pub child-requires-clause-inner : goal.child-requires-clause-inner
child-requires-clause-inner t c =
    let p = read c.args.pool.words.now in
    let two = above_leaf p c.args.level c.args.s c.requires.tree c.if-level-eq1.false in
    rw (c.node-node.ensures.words, c.node-node.ensures.slot) (no_leaf p c.args.level c.args.s two c.requires.tree)

pub find_in-w-requires : goal.find_in-w-requires
find_in-w-requires t c =
    let p = read c.args.pool.words.now in
    let two = above_leaf p c.args.level c.args.s c.requires.tree c.if-level-eq1.false in
    let are = rw (c.node-node.ensures.words, c.node-node.ensures.slot) at c.hits-hits.ensures in
    let there = hit_there p c.args.r c.args.level c.args.s _ c.loop-i.i-index c.loop-i-test.true are in
    let is = rw (c.node-node.ensures.words, c.node-node.ensures.slot) at c.child.ensures in (
      omega (arith, c.decreases, two),
      (rw is (child_tree p c.args.level c.args.s two c.requires.tree _ there), omega (arith, c.requires.level_bound)),
    )

pub with_place-requires : goal.with_place-requires
with_place-requires t c =
    let p = read c.args.pool.words.now in
    let two = above_leaf p c.args.level c.args.s c.requires.tree c.if-level-eq1.false in
    let are = rw (c.node-node.ensures.words, c.node-node.ensures.slot) at c.hits-hits.ensures in
    let there = hit_there p c.args.r c.args.level c.args.s _ c.loop-i.i-index c.loop-i-test.true are in
    let is = rw (c.node-node.ensures.words, c.node-node.ensures.slot) at c.child.ensures in
    record {
      le_level = omega (arith, two);
      level_bound = c.requires.level_bound;
      i_bound = omega (arith, there, (tree_node p c.args.level c.args.s c.requires.tree).few);
      w_bound = rw (c.find_in-w.ensures, is)
          (way_fits p c.args.r (c.args.level - 1) _ (child_tree p c.args.level c.args.s two c.requires.tree _ there)
          (omega (arith, c.requires.level_bound)));
    }

pub returns-then-w-ne0 : goal.returns-then-w-ne0
returns-then-w-ne0 t c =
    let p = read c.args.pool.words.now in
    let is = rw (c.node-node.ensures.words, c.node-node.ensures.slot) at c.child.ensures in
    c.with_place.ensures
    ∙ left_found p c.args.r c.args.level c.args.s _ c.loop-i.i-index c.loop-i-test.true c.loop-i.invariant c.find_in-w.result
    (c.find_in-w.ensures ∙ ap (λ (t : SlotNumber). packed_way (find_leaf p c.args.r (c.args.level - 1) t)) is)
    c.if-w-ne0.true

pub loop-i-preserved : goal.loop-i-preserved
loop-i-preserved t c =
    let p = read c.args.pool.words.now in
    let is = rw (c.node-node.ensures.words, c.node-node.ensures.slot) at c.child.ensures in
    left_next p c.args.r c.args.level c.args.s _ c.loop-i.i-index c.loop-i-test.true c.loop-i.invariant c.find_in-w.result
    (c.find_in-w.ensures ∙ ap (λ (t : SlotNumber). packed_way (find_leaf p c.args.r (c.args.level - 1) t)) is)
    c.if-w-ne0.false

pub returns : goal.returns
returns t c =
    left_end (read c.args.pool.words.now) c.args.r c.args.level c.args.s _ c.loop-i.i-index
    c.loop-i-test.false c.loop-i.invariant
