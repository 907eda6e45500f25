-- The run below goes on through the node where it has come to it. The levels to go down fall.
use mathlib.Core.Path.{sym, ◌∙◌}
use Prim.Native.Nat.{◌≤◌}
use native.Mathlib.Omega.{arith}
use Rattle.insert.proofs.Fitted.{slot_in}
use Rattle.insert.proofs.Ways.{way_node, way_choosable, way_inner, way_down, run_here, run_shorter, run_longer}
use Rattle.insert.proofs.+full_run.Goals as goal

pub node-node-requires : goal.node-node-requires
node-node-requires t c =
    slot_in c.args.pool.words.now c.args.s c.args.pool.right (way_node c.requires).slot

pub returns-then-n-eq0 : goal.returns-then-n-eq0
returns-then-n-eq0 t c =
    let one = rw (c.node-node.ensures.words, c.node-node.ensures.slot) at c.one_if_full.ensures.is in
    record {
      is = one ∙ sym (run_here c.requires c.if-n-eq0.true);
      most = omega (arith, c.one_if_full.ensures.most);
    }

pub choose_child-i-requires : goal.choose_child-i-requires
choose_child-i-requires t c =
    let more : 1 ≤ c.args.n = omega (arith, c.if-n-eq0.false) in
    record {
      choosable = rw (c.node-node.ensures.words, c.node-node.ensures.slot) (way_choosable c.requires more);
      value = c.requires.good;
    }

pub child-c-requires : goal.child-c-requires
child-c-requires t c =
    let more : 1 ≤ c.args.n = omega (arith, c.if-n-eq0.false) in
    record {
      i_in_bounds = c.choose_child-i.ensures.there;
      inner = rw (c.node-node.ensures.words, c.node-node.ensures.slot) (way_inner c.requires more);
    }

pub overflow_sub-n : goal.overflow_sub-n
overflow_sub-n t c = omega (arith, c.if-n-eq0.false)

pub full_run-r-requires : goal.full_run-r-requires
full_run-r-requires t c =
    let more : 1 ≤ c.args.n = omega (arith, c.if-n-eq0.false) in
    let i = rw (c.node-node.ensures.words, c.node-node.ensures.slot) at c.choose_child-i.ensures.is in
    let child = rw (c.node-node.ensures.words, c.node-node.ensures.slot) at c.child-c.ensures in
    (omega (arith, c.decreases), way_down c.requires more c.choose_child-i.result c.child-c.result i child)

pub returns-then-r-n : goal.returns-then-r-n
returns-then-r-n t c =
    let more : 1 ≤ c.args.n = omega (arith, c.if-n-eq0.false) in
    let i = rw (c.node-node.ensures.words, c.node-node.ensures.slot) at c.choose_child-i.ensures.is in
    let child = rw (c.node-node.ensures.words, c.node-node.ensures.slot) at c.child-c.ensures in
    record {
      is = run_shorter c.requires more c.choose_child-i.result c.child-c.result i child
          c.full_run-r.result c.full_run-r.ensures.is c.if-r-n.true;
      most = omega (arith, c.if-r-n.true);
    }

pub overflow_add-result : goal.overflow_add-result
overflow_add-result t c = omega (arith, c.requires.few, c.one_if_full-2.ensures.most)

pub returns : goal.returns
returns t c =
    let more : 1 ≤ c.args.n = omega (arith, c.if-n-eq0.false) in
    let i = rw (c.node-node.ensures.words, c.node-node.ensures.slot) at c.choose_child-i.ensures.is in
    let child = rw (c.node-node.ensures.words, c.node-node.ensures.slot) at c.child-c.ensures in
    let one = rw (c.node-node.ensures.words, c.node-node.ensures.slot) at c.one_if_full-2.ensures.is in
    record {
      is = run_longer c.requires more c.choose_child-i.result c.child-c.result i child
          c.full_run-r.result c.full_run-r.ensures.is
          (omega (arith, c.if-r-n.false, c.full_run-r.ensures.most)) c.one_if_full-2.result one;
      most = omega (arith, c.one_if_full-2.ensures.most);
    }
