-- A free slot is the lowest of those from it on, and one in use gives way to the next.
use mathlib.Core.Path.{refl, sym, ◌∙◌}
use Prim.Native.Nat.{◌≤◌, ◌<◌}
use native.Mathlib.Omega.{arith}
use lib.ListN.{length}
use borrow.Author.Tests.{eq-eqb, ne_eqb}
use Rattle.layout_laws.proofs.Parts.{few_slots}
use Rattle.layout_laws.proofs.Written.{read_slots}
use Rattle.pool.specs.Reading.{read}
use Rattle.free_slots.proofs.Frees.{lowest_here, lowest_next, lowest_end}
use Rattle.free_slots.proofs.lowest_free_from.Goals as goal

pub loop-s-init : goal.loop-s-init
loop-s-init c = record { low = c.requires; rest = refl }

pub node-requires : goal.node-requires
node-requires c = record {
  right = c.args.pool.right;
  low = c.loop-s.invariant.low;
  high = omega (arith, c.loop-s-test.true, c.slots-s-end.ensures);
}

pub returns-then-level-eq0 : goal.returns-then-level-eq0
returns-then-level-eq0 c =
    let level = rw (c.node.ensures.words, c.node.ensures.slot) at c.level.ensures in
    let high : c.loop-s.s ≤ length (read c.args.pool).slots = omega (
      arith,
      c.loop-s-test.true,
      c.slots-s-end.ensures,
      read_slots c.args.pool.words.now,
    ) in
    let free = eq-eqb _ 0 (sym level ∙ c.if-level-eq0.true) in
    sym (lowest_here (read c.args.pool) c.loop-s.s c.loop-s.invariant.low high free)
    ∙ c.loop-s.invariant.rest

pub overflow_add-s-end : goal.overflow_add-s-end
overflow_add-s-end c =
    omega (arith, c.slots-s-end.ensures, few_slots c.args.pool.words.now c.args.pool.right)

pub loop-s-preserved : goal.loop-s-preserved
loop-s-preserved c =
    let level = rw (c.node.ensures.words, c.node.ensures.slot) at c.level.ensures in
    let high : c.loop-s.s ≤ length (read c.args.pool).slots = omega (
      arith,
      c.loop-s-test.true,
      c.slots-s-end.ensures,
      read_slots c.args.pool.words.now,
    ) in
    let used = ne_eqb _ 0 (λ e. c.if-level-eq0.false (level ∙ e)) in
    record {
      low = omega arith;
      rest = sym (lowest_next (read c.args.pool) c.loop-s.s c.loop-s.invariant.low high used)
          ∙ c.loop-s.invariant.rest;
    }

pub returns : goal.returns
returns c =
    let end : length (read c.args.pool).slots < c.loop-s.s = omega (
      arith,
      c.loop-s-test.false,
      c.slots-s-end.ensures,
      read_slots c.args.pool.words.now,
    ) in
    sym (lowest_end (read c.args.pool) c.loop-s.s end) ∙ c.loop-s.invariant.rest
