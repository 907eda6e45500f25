-- From the root down, a level at a time: the digit of the level is the place in the node that is passed.
use mathlib.Core.Path.{◌≡◌}
use Prim.Native.Nat.{◌+◌, ◌-◌}
use native.Mathlib.Omega.{arith}
use Rattle.rules.specs.Layout.{read}
use Rattle.sound_laws.proofs.Walk.{tree_positive}
use Rattle.find_leaf.proofs.Held.{whole_tree}
use Rattle.find_leaf.proofs.Inner.{tree_in, no_leaf}
use Rattle.find_leaf.proofs.Down.{gives_none, from_root, start_down, down_there, down_on, down_end}
use Rattle.find_leaf.proofs.find_leaf.Goals as goal

pub find_in-w-requires : goal.find_in-w-requires
find_in-w-requires c =
    let a = whole_tree c.args.pool.words.now c.height-h.result c.root-s.result c.args.pool.right c.requires
    c.height-h.ensures c.root-s.ensures in
    record {
      tree = a.0;
      level_bound = a.1;
    }

pub returns-then-w-eq0 : goal.returns-then-w-eq0
returns-then-w-eq0 c =
    let p = read c.args.pool.words.now in
    from_root p c.args.r c.height-h.result c.root-s.result _ c.height-h.ensures c.root-s.ensures
    (gives_none _ c.height-h.result c.find_in-w.result c.find_in-w.ensures c.if-w-eq0.true)

pub loop-l-init : goal.loop-l-init
loop-l-init c =
    let p = read c.args.pool.words.now in
    let a = whole_tree c.args.pool.words.now c.height-h.result c.root-s.result c.args.pool.right c.requires
    c.height-h.ensures c.root-s.ensures in
    λ r e. start_down p r c.height-h.result c.root-s.result c.find_in-w.result e c.if-w-eq0.false (tree_positive p _ _ a.0)
    a.1 a.0

pub place_in-place-requires : goal.place_in-place-requires
place_in-place-requires c =
    let p = read c.args.pool.words.now in
    let d = c.loop-l.invariant c.args.r c.find_in-w.ensures in
    record {
      le_level = omega arith;
      level_bound = omega (arith, c.loop-l-test.true, d.high, d.few);
    }

pub node-requires : goal.node-requires
node-requires c =
    let d = c.loop-l.invariant c.args.r c.find_in-w.ensures in
    tree_in c.args.pool.words.now c.loop-l.l c.loop-l.s c.args.pool.right d.tree

pub child-s-requires : goal.child-s-requires
child-s-requires c =
    let p = read c.args.pool.words.now in
    let z : c.loop-l.l - 1 + 1 ≡ c.loop-l.l = omega (arith, c.loop-l-test.true) in
    let d = c.loop-l.invariant c.args.r c.find_in-w.ensures in
    rw (c.node.ensures.words, c.node.ensures.slot) record {
      i_in_bounds = down_there p c.args.r _ _ _ _ _ _ d _ (rw z at c.place_in-place.ensures);
      inner = no_leaf p c.loop-l.l c.loop-l.s c.loop-l-test.true d.tree;
    }

pub loop-l-preserved : goal.loop-l-preserved
loop-l-preserved c =
    let p = read c.args.pool.words.now in
    let z : c.loop-l.l - 1 + 1 ≡ c.loop-l.l = omega (arith, c.loop-l-test.true) in
    λ r e. down_on p r _ _ _ _ _ _ (c.loop-l.invariant r e) _ (rw z at c.place_in-place.ensures) c.loop-l-test.true _ (rw (c.node.ensures.words, c.node.ensures.slot) at c.child-s.ensures)

pub returns : goal.returns
returns c =
    let p = read c.args.pool.words.now in
    let d = c.loop-l.invariant c.args.r c.find_in-w.ensures in
    let leaf : c.loop-l.l ≡ 1 = omega (arith, c.loop-l-test.false, d.one) in
    from_root p c.args.r _ _ _ c.height-h.ensures c.root-s.ensures
    (down_end p c.args.r _ _ _ _ _ _ d leaf _ c.place_in-place-2.ensures)
