-- `delete::put_back` meets its contract: where all are back, the tree that stands is shortened.
use borrow.Author.Rules.{rules}
use native.Mathlib.Omega.{arith}
use Rattle.delete.proofs.Deleted.{back_refused, made_fit, made_stands, made_known, back_made}
use Rattle.delete.proofs.put_back.Goals as goal

pub returns-in_err-after : goal.returns-in_err-after
returns-in_err-after c =
    rw c.from_residual.ensures
    (back_refused c.args.pool.now c.args.asides.now c.requires.waiting.0 c.reinsert.new.pool c.in_err-after.ensures.is (search rules))

pub shorten-requires : goal.shorten-requires
shorten-requires c =
    record {
      fit = made_fit c.args.pool.now c.args.asides.now c.requires.waiting.0 c.reinsert.new.pool c.in_ok-after.after
          c.in_ok-after.ensures.is;
      standing = made_stands c.args.pool.now c.args.asides.now c.requires.waiting.0 c.reinsert.new.pool c.in_ok-after.after
          c.in_ok-after.ensures.is;
      pool_bound = omega (arith, c.reinsert.ensures.high);
      known = made_known c.args.pool.now c.args.asides.now c.requires.waiting.0 c.reinsert.new.pool c.in_ok-after.after
          c.in_ok-after.ensures.is;
    }

pub returns : goal.returns
returns c =
    back_made c.args.pool.now c.args.asides.now c.requires.waiting.0 c.reinsert.new.pool c.in_ok-after.after c.in_ok-after.ensures.is
    c.shorten.result c.shorten.new.pool c.shorten.ensures
