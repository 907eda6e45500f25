use mathlib.Core.Path.{sym, ap, ◌∙◌}
use native.Mathlib.Omega.{arith}
use lib.ListN.{length}
use Rattle.rules.specs.declared.Edition.{Edition}
use Rattle.rules.specs.Layout.{slots_fitting, slot_count}
use Rattle.pool.proofs.Lengths.{short_count}
use Rattle.pool.proofs.slot_count.Goals as goal

pub returns-then-n-lt-HEAD_SIZE : goal.returns-then-n-lt-HEAD_SIZE
returns-then-n-lt-HEAD_SIZE c = sym (short_count c.args.pool.now c.if-n-lt-HEAD_SIZE.true)

pub edition_of-requires : goal.edition_of-requires
edition_of-requires c = omega (arith, c.if-n-lt-HEAD_SIZE.false)

pub returns : goal.returns
unfolding slot_count
returns c =
    c.slots_fitting.ensures ∙ ap (λ (e : Edition). slots_fitting e (length c.args.pool.now)) c.edition_of.ensures
