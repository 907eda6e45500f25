use native.Mathlib.Omega.{arith}
use Rattle.file.proofs.Sizes.{place_before}
use Rattle.file.proofs.Dues.{first_follows, later_follows}
use Rattle.file.proofs.is_after.Goals as goal

pub returns-then-k-eq0 : goal.returns-then-k-eq0
returns-then-k-eq0 c = first_follows c.args.edition c.args.file.now c.args.k c.if-k-eq0.true

pub record_at-last-requires : goal.record_at-last-requires
record_at-last-requires c =
    record {
      edition_in_bounds = omega (arith, c.requires.edition_in_bounds, place_before c.args.edition c.args.k c.if-k-eq0.false);
      k_bound = omega (arith, c.requires.k_bound);
    }

pub returns : goal.returns
returns c =
    later_follows c.args.edition c.args.file.now c.args.k c.if-k-eq0.false c.record_at-last.ensures
    c.record_at-r.ensures c.before_in_file.ensures
