-- `delete::reinsert` meets its contract: each turn puts the next entry back; what is left gives what the whole gives.
use borrow.Author.Rules.{rules}
use native.Mathlib.Omega.{arith}
use Rattle.delete.proofs.Backs.{upright, next_level, next_goes, returning_next, returning_refused, returning_last}
use Rattle.delete.proofs.reinsert.Goals as goal

pub insert_at-requires : goal.insert_at-requires
insert_at-requires c =
    let t = c.loop-a.invariant in
    record {
      fit = t.fit;
      upright = upright t;
      level_bound = (next_level t c.loop-a-test.true _, omega (arith, t.high, t.few, c.loop-a-test.true));
      may_go = next_goes t c.loop-a-test.true _;
      known = t.known;
    }

pub returns-in_err-free : goal.returns-in_err-free
returns-in_err-free c =
    let both = returning_refused c.loop-a.invariant c.loop-a-test.true _ c.insert_at.new.pool c.in_err-free.ensures in
    rw c.from_residual.ensures (record { is = both.0; high = both.1 })

pub loop-a-preserved : goal.loop-a-preserved
loop-a-preserved c =
    returning_next c.loop-a.invariant c.loop-a-test.true _ c.insert_at.new.pool (search rules) c.in_ok-free.free c.in_ok-free.ensures

pub returns : goal.returns
returns c =
    let both = returning_last c.loop-a.invariant (omega (arith, c.loop-a-test.false)) in
    record { is = both.0; high = both.1 }
