use native.Mathlib.Omega.{arith}
use Rattle.file.proofs.News.{bool_byte_most, count_first, count_next, count_all}
use Rattle.file.proofs.count_new.Goals as goal

pub loop-k-init : goal.loop-k-init
loop-k-init c = count_first c.args.pool.now c.args.items.now c.args.n

pub is_new-requires : goal.is_new-requires
is_new-requires c = record {
  listed = c.requires;
  k_lt_n = omega (arith, c.loop-k-test.true);
}

pub overflow_add-count : goal.overflow_add-count
overflow_add-count c =
    omega (
      arith,
      c.loop-k.invariant.few,
      c.loop-k-test.true,
      c.requires.few,
      c.from-count.ensures,
      bool_byte_most c.is_new.result,
    )

pub loop-k-preserved : goal.loop-k-preserved
loop-k-preserved c =
    count_next _ c.loop-k.invariant c.loop-k-test.true c.is_new.ensures c.from-count.ensures

pub returns : goal.returns
returns c =
    let both = count_all c.loop-k.invariant c.loop-k-test.false in
    record { is = both.0; most = both.1 }
