-- `leaving` meets its contract: what the count passes is thin.
use Rattle.std.proofs.Common.{arith, ◌-◌, ◌≡◌}
use Rattle.rules.specs.Layout.{read}
use Rattle.delete.proofs.Climb.{down_high}
use Rattle.request.proofs.Leaves.{one_thinner, counted_root, counted_kept, level_in}
use Rattle.request.proofs.leaving.Goals as goal

pub overflow_sub-root : goal.overflow_sub-root
overflow_sub-root c =
    omega (arith, down_high (read c.args.pool.words.now) c.args.way c.args.height c.requires)

pub loop-k-init : goal.loop-k-init
loop-k-init c =
    record {
      thin = λ j low. absurd (omega arith);
      low = omega (arith, down_high (read c.args.pool.words.now) c.args.way c.args.height c.requires);
    }

pub node-requires : goal.node-requires
node-requires c =
    level_in c.args.pool.words.now c.args.pool.right c.args.way c.args.height c.requires c.loop-k.k c.loop-k.invariant.low

pub returns-then-count-gt-LEAST : goal.returns-then-count-gt-LEAST
returns-then-count-gt-LEAST c =
    let many = rw (c.node.ensures.words, c.node.ensures.slot) at c.count.ensures.is in
    record {
      is = counted_kept (read c.args.pool.words.now) c.args.way c.args.height c.loop-k.k c.loop-k.invariant
          (omega (arith, c.loop-k-test.true))
          (omega (arith, c.if-count-gt-LEAST.true, many));
      few = omega (arith, c.loop-k.invariant.low, c.requires.high);
    }

pub loop-k-preserved : goal.loop-k-preserved
loop-k-preserved c =
    let many = rw (c.node.ensures.words, c.node.ensures.slot) at c.count.ensures.is in
    one_thinner c.loop-k.invariant (omega (arith, c.loop-k-test.true)) (omega (arith, c.if-count-gt-LEAST.false, many))

pub returns : goal.returns
returns c =
    let end : c.loop-k.k ≡ c.args.height - 1 = omega (arith, c.loop-k-test.false, c.loop-k.invariant.low) in
    record {
      is = rw end at (counted_root (read c.args.pool.words.now) c.args.way c.args.height c.loop-k.k c.loop-k.invariant
          (omega (arith, c.loop-k-test.false)));
      few = omega (arith, c.loop-k.invariant.low, c.requires.high);
    }
