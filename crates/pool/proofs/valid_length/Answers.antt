-- Fewer words than a head has are no pool.
use mathlib.Core.Path.{sym}
use lib.ListN.{length}
use borrow.Author.Tests.{lt-leb}
use Rattle.rules.specs.Layout.{head_size}
use Rattle.pool.proofs.Lengths.{short_wrong}
use Rattle.pool.proofs.valid_length.Goals as goal

pub returns-else-n-ge-HEAD_SIZE : goal.returns-else-n-ge-HEAD_SIZE
returns-else-n-ge-HEAD_SIZE c =
    let short = c.if-n-ge-HEAD_SIZE.false in
    rw (lt-leb head_size (length c.args.pool.now) short) (sym (short_wrong c.args.pool.now short))
