-- `insert::insert_below` meets its contract: at the end of the way the entry comes to the node; above that it goes below the chosen child,
-- and the way back is `adjust`. The levels to go down fall.
use mathlib.Core.Path.{subst⁻¹}
use Prim.Native.Nat.{◌≤◌}
use native.Mathlib.Omega.{arith}
use Rattle.rules.specs.Insert as I
use Rattle.insert.specs.Left.{GrewTo}
use Rattle.insert.proofs.Fitted.{slot_in}
use Rattle.insert.proofs.Ways.{way_node, way_choosable, way_inner}
use Rattle.insert.proofs.Steps.{way_end, way_ends, goes_down, way_back, way_up_lem, way_full}
use Rattle.insert.proofs.+insert_below.Goals as goal

pub install-requires : goal.install-requires
install-requires t c =
    record {
      fitted = c.requires.fitted;
      here = way_end c.requires.goes_down c.if-n-eq0.true;
    }

pub returns-then-n-eq0 : goal.returns-then-n-eq0
returns-then-n-eq0 t c =
    subst⁻¹ (λ (o : I.Grown). GrewTo o c.install.result c.install.new.pool) (way_ends c.requires.goes_down c.if-n-eq0.true) c.install.ensures

pub at-node-requires : goal.at-node-requires
at-node-requires t c =
    slot_in c.args.pool.now c.args.s c.requires.fitted.fit.right (way_node c.requires.goes_down.way).slot

pub choose_child-i-requires : goal.choose_child-i-requires
choose_child-i-requires t c =
    let more : 1 ≤ c.args.n = omega (arith, c.if-n-eq0.false) in
    record {
      choosable = rw (c.at-node.ensures.words, c.at-node.ensures.slot) (way_choosable c.requires.goes_down.way more);
      value = c.requires.goes_down.way.good;
    }

pub child-c-requires : goal.child-c-requires
child-c-requires t c =
    let more : 1 ≤ c.args.n = omega (arith, c.if-n-eq0.false) in
    record {
      i_in_bounds = c.choose_child-i.ensures.there;
      inner = rw (c.at-node.ensures.words, c.at-node.ensures.slot) (way_inner c.requires.goes_down.way more);
    }

pub overflow_sub-n : goal.overflow_sub-n
overflow_sub-n t c =
    omega (arith, c.if-n-eq0.false)

pub insert_below-requires : goal.insert_below-requires
insert_below-requires t c =
    let i = rw (c.at-node.ensures.words, c.at-node.ensures.slot) at c.choose_child-i.ensures.is in
    let child = rw (c.at-node.ensures.words, c.at-node.ensures.slot) at c.child-c.ensures in
    let more : 1 ≤ c.args.n = omega (arith, c.if-n-eq0.false) in (
      omega (arith, c.decreases),
      (
        c.requires.fitted,
        goes_down c.requires.goes_down more c.choose_child-i.result c.child-c.result i child,
      ),
    )

pub returns-in_err-grown : goal.returns-in_err-grown
returns-in_err-grown t c =
    let i = rw (c.at-node.ensures.words, c.at-node.ensures.slot) at c.choose_child-i.ensures.is in
    let child = rw (c.at-node.ensures.words, c.at-node.ensures.slot) at c.child-c.ensures in
    let more : 1 ≤ c.args.n = omega (arith, c.if-n-eq0.false) in
    rw c.from_residual.ensures (way_full c.requires.goes_down more c.choose_child-i.result c.child-c.result i child
    c.insert_below.new.pool c.in_err-grown.ensures)

pub adjust-requires : goal.adjust-requires
adjust-requires t c =
    let i = rw (c.at-node.ensures.words, c.at-node.ensures.slot) at c.choose_child-i.ensures.is in
    let child = rw (c.at-node.ensures.words, c.at-node.ensures.slot) at c.child-c.ensures in
    let more : 1 ≤ c.args.n = omega (arith, c.if-n-eq0.false) in
    way_back c.requires.goes_down more c.choose_child-i.result c.child-c.result i child
    c.in_ok-grown.grown c.insert_below.new.pool c.in_ok-grown.ensures

pub returns : goal.returns
returns t c =
    let i = rw (c.at-node.ensures.words, c.at-node.ensures.slot) at c.choose_child-i.ensures.is in
    let child = rw (c.at-node.ensures.words, c.at-node.ensures.slot) at c.child-c.ensures in
    let more : 1 ≤ c.args.n = omega (arith, c.if-n-eq0.false) in
    way_up_lem c.requires.goes_down more c.choose_child-i.result c.child-c.result i child
    c.in_ok-grown.grown c.insert_below.new.pool c.in_ok-grown.ensures c.adjust.result c.adjust.new.pool
    c.adjust.ensures
