-- The walk: a node, and the children gathered, one level lower. Each turn of the loop is a walk of
-- its own, and the room for the rest stays.
use Rattle.std.proofs.Common.{arith, sym, subst, ◌-◌}
use Rattle.rules.specs.declared.SlotNumber.{SlotNumber}
use Rattle.rules.specs.Layout.{read}
use Rattle.sound_laws.specs.Tree.{Tree}
use Rattle.search.proofs.Trees.{tree_in, leaf_level, above_leaf, no_leaf, child_tree}
use Rattle.search.proofs.Turns.{leaf_room, leaf_went, node_room, node_went}
use Rattle.search.proofs.Turns.{children_begin, children_end, child_there, child_room, child_turn}
use Rattle.search.proofs.+list_node.Goals as goal

pub node-node-requires : goal.node-node-requires
node-node-requires t c = tree_in c.args.pool.words.now c.args.level c.args.s c.args.pool.right c.requires.tree

pub list_leaf-requires-clause-leaf : goal.list_leaf-requires-clause-leaf
list_leaf-requires-clause-leaf t c =
    rw (c.node-node.ensures.words, c.node-node.ensures.slot)
    (leaf_level (read c.args.pool.words.now) c.args.level c.args.s c.requires.tree c.if-level-eq1.true)

pub list_leaf-requires-clause-item_room : goal.list_leaf-requires-clause-item_room
list_leaf-requires-clause-item_room t c =
    rw (c.node-node.ensures.words, c.node-node.ensures.slot)
    (leaf_room c.args.pool.words.now c.args.window c.args.level c.args.s c.if-level-eq1.true c.requires.item_room)

pub returns-then-level-eq1 : goal.returns-then-level-eq1
returns-then-level-eq1 t c =
    leaf_went c.args.pool.words.now c.args.window c.args.level c.args.s c.if-level-eq1.true
    (rw (c.node-node.ensures.words, c.node-node.ensures.slot) at c.list_leaf.ensures)

pub loop-i-init : goal.loop-i-init
loop-i-init t c =
    let pool = c.args.pool.words.now in
    let places = c.gather-meeting.result.now in
    let two = above_leaf (read pool) c.args.level c.args.s c.requires.tree c.if-level-eq1.false in
    children_begin pool c.args.window (c.args.level - 1) c.args.s places
    (node_room pool c.args.window c.args.level c.args.s two places
    (rw (c.node-node.ensures.words, c.node-node.ensures.slot) at c.gather-meeting.ensures) c.requires.item_room)

pub child-requires-clause-i_in_bounds : goal.child-requires-clause-i_in_bounds
child-requires-clause-i_in_bounds t c =
    let places = c.gather-meeting.result.now in
    rw (c.node-node.ensures.words, c.node-node.ensures.slot)
    (child_there c.args.pool.words.now c.args.window (c.args.level - 1) c.args.s places
    c.loop-i.i-index c.loop-i-test.true (rw (c.node-node.ensures.words, c.node-node.ensures.slot) at c.gather-meeting.ensures))

pub child-requires-clause-inner : goal.child-requires-clause-inner
child-requires-clause-inner t c =
    rw (c.node-node.ensures.words, c.node-node.ensures.slot)
    (no_leaf (read c.args.pool.words.now) c.args.level c.args.s c.requires.tree c.if-level-eq1.false)

pub overflow_sub-level : goal.overflow_sub-level
overflow_sub-level t c =
    omega (arith, above_leaf (read c.args.pool.words.now) c.args.level c.args.s c.requires.tree c.if-level-eq1.false)

pub list_node-w-requires : goal.list_node-w-requires
list_node-w-requires t c =
    let pool = c.args.pool.words.now in
    let level = c.args.level in
    let s = c.args.s in
    let places = c.gather-meeting.result.now in
    let two = above_leaf (read pool) level s c.requires.tree c.if-level-eq1.false in
    let is = rw (c.node-node.ensures.words, c.node-node.ensures.slot) at c.child.ensures in
    let there =
    child_there pool c.args.window (level - 1) s places c.loop-i.i-index c.loop-i-test.true
    (rw (c.node-node.ensures.words, c.node-node.ensures.slot) at c.gather-meeting.ensures) in (
      omega (arith, c.decreases, two),
      (
        subst (λ (x : SlotNumber). Tree (read pool) (level - 1) x) (sym is)
            (child_tree (read pool) level s two c.requires.tree _ there),
        child_room pool c.args.window (level - 1) s places c.loop-i.i-index
            c.loop-i-test.true c.child.result is c.loop-i.invariant,
      ),
    )

pub loop-i-preserved : goal.loop-i-preserved
loop-i-preserved t c =
    let places = c.gather-meeting.result.now in
    child_turn c.args.pool.words.now c.args.window (c.args.level - 1) c.args.s places c.loop-i.i-index
    c.loop-i-test.true c.child.result (rw (c.node-node.ensures.words, c.node-node.ensures.slot) at c.child.ensures)
    c.loop-i.invariant c.list_node-w.ensures

pub returns : goal.returns
returns t c =
    let pool = c.args.pool.words.now in
    let level = c.args.level in
    let places = c.gather-meeting.result.now in
    let two = above_leaf (read pool) level c.args.s c.requires.tree c.if-level-eq1.false in
    node_went pool c.args.window level c.args.s two places
    (rw (c.node-node.ensures.words, c.node-node.ensures.slot) at c.gather-meeting.ensures)
    (children_end pool c.args.window (level - 1) c.args.s places c.loop-i.i-index
    c.loop-i-test.false c.loop-i.invariant)
