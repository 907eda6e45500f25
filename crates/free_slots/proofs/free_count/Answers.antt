-- A turn adds what its slot adds to the count.
use mathlib.Core.Path.{sym, ◌∙◌}
use borrow.Author.Tests.{eq-eqb, ne_eqb}
use Prim.Native.Nat.{◌≤◌, ◌<◌}
use native.Mathlib.Omega.{arith}
use lib.ListN.{length}
use Rattle.layout_laws.proofs.Parts.{few_slots}
use Rattle.layout_laws.proofs.Written.{read_slots}
use Rattle.pool.specs.Reading.{read}
use Rattle.free_slots.proofs.Frees.{count_next, count_end, count_all}
use Rattle.free_slots.proofs.free_count.Goals as goal
use Rattle.free_slots.proofs.free_count.Goals.{then-level-eq0, else-level-eq0}

pub loop-at-init : goal.loop-at-init
loop-at-init c = record {
  low = omega arith;
  small = omega arith;
  rest = omega (arith, count_all (read c.args.pool));
}

pub node-requires : goal.node-requires
node-requires c = record {
  right = c.args.pool.right;
  low = c.loop-at.invariant.low;
  high = omega (arith, c.loop-at-test.true, c.slots-at-end.ensures);
}

pub overflow_add-free : goal.overflow_add-free
overflow_add-free c =
    let few = few_slots c.args.pool.words.now c.args.pool.right in
    omega (arith, c.loop-at.invariant.small, c.loop-at-test.true, c.slots-at-end.ensures, few)

pub overflow_add-at-end : goal.overflow_add-at-end
overflow_add-at-end c =
    omega (arith, c.slots-at-end.ensures, few_slots c.args.pool.words.now c.args.pool.right)

pub loop-at-preserved : goal.loop-at-preserved
loop-at-preserved c =
    let v = c.loop-at.invariant in
    let level = rw (c.node.ensures.words, c.node.ensures.slot) at c.level.ensures in
    let high : c.loop-at.at ≤ length (read c.args.pool).slots = omega (
      arith,
      c.loop-at-test.true,
      c.slots-at-end.ensures,
      read_slots c.args.pool.words.now,
    ) in
    let n = count_next (read c.args.pool) c.loop-at.at v.low high in
    elim c.if-level-eq0.branch [
      | then-level-eq0 t ↦ record {
        low = omega arith;
        small = omega (arith, v.small);
        rest = omega (arith, rw (eq-eqb _ 0 (sym level ∙ t.if-level-eq0.true)) at n, v.rest);
      }
      | else-level-eq0 t ↦ record {
        low = omega arith;
        small = omega (arith, v.small);
        rest = omega (
          arith,
          rw (ne_eqb _ 0 (λ e. t.if-level-eq0.false (level ∙ e))) at n,
          v.rest,
        );
      }
    ]

pub returns : goal.returns
returns c =
    let end : length (read c.args.pool).slots < c.loop-at.at = omega (
      arith,
      c.loop-at-test.false,
      c.slots-at-end.ensures,
      read_slots c.args.pool.words.now,
    ) in
    omega (arith, count_end (read c.args.pool) c.loop-at.at end, c.loop-at.invariant.rest)
