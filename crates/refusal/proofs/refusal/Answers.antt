use mathlib.Core.Path.{sym, ◌∙◌}
use mir.Facts.{to_z-of_z}
use lib.Dec.{eqb}
use lib.ListN.{length}
use Rattle.rules.specs.Layout.{valid_length}
use Rattle.rules_laws.proofs.Bools.{not_true, not_false}
use Rattle.refusal.proofs.Refusals.{bad_lists, bad_owner, bad_length, right_first, not_sound, no_request, none_refuses}
use Rattle.refusal.proofs.refusal.Goals as goal

-- the lists do not fit
pub returns-then-not-lists : goal.returns-then-not-lists
returns-then-not-lists c =
    sym (bad_lists c.args.pool.now c.args.owner c.args.workspace c.args.requests c.args.answers c.args.asked
    (sym c.lists_fit-lists.ensures ∙ c.if-not-lists.true-raw))

-- the owner is none
pub returns-then-not-known : goal.returns-then-not-known
returns-then-not-known c =
    sym (bad_owner c.args.pool.now c.args.owner c.args.workspace c.args.requests c.args.answers c.args.asked
    (sym c.lists_fit-lists.ensures ∙ c.if-not-lists.false-raw)
    (sym (rw (to_z-of_z c.ranges.owner) at c.good_owner-known.ensures) ∙ not_true _ c.if-not-known.true-raw))

-- the lengths do not fit
pub returns-then-not-lengths : goal.returns-then-not-lengths
returns-then-not-lengths c =
    sym (bad_length c.args.pool.now c.args.owner c.args.workspace c.args.requests c.args.answers c.args.asked
    (sym c.lists_fit-lists.ensures ∙ c.if-not-lists.false-raw)
    (sym (rw (to_z-of_z c.ranges.owner) at c.good_owner-known.ensures) ∙ not_false _ c.if-not-known.false-raw)
    (sym c.lengths_fit-lengths.ensures ∙ c.if-not-lengths.true-raw))

pub over-requires : goal.over-requires
over-requires c =
    right_first (valid_length c.args.pool.now) (eqb c.args.workspace (length c.args.pool.now))
    (sym c.lengths_fit-lengths.ensures ∙ c.if-not-lengths.false-raw)

-- the pool is not sound
pub returns-then-not-sound : goal.returns-then-not-sound
returns-then-not-sound c =
    sym (not_sound c.args.pool.now c.args.owner c.args.workspace c.args.requests c.args.answers c.args.asked
    (sym c.lists_fit-lists.ensures ∙ c.if-not-lists.false-raw)
    (sym (rw (to_z-of_z c.ranges.owner) at c.good_owner-known.ensures) ∙ not_false _ c.if-not-known.false-raw)
    (sym c.lengths_fit-lengths.ensures ∙ c.if-not-lengths.false-raw) (sym (rw c.over.ensures at c.sound.ensures) ∙ not_true _ c.if-not-sound.true-raw))

-- something that is asked is no request
pub returns-then-not-asked : goal.returns-then-not-asked
returns-then-not-asked c =
    sym (no_request c.args.pool.now c.args.owner c.args.workspace c.args.requests c.args.answers c.args.asked
    (sym c.lists_fit-lists.ensures ∙ c.if-not-lists.false-raw)
    (sym (rw (to_z-of_z c.ranges.owner) at c.good_owner-known.ensures) ∙ not_false _ c.if-not-known.false-raw)
    (sym c.lengths_fit-lengths.ensures ∙ c.if-not-lengths.false-raw) (sym (rw c.over.ensures at c.sound.ensures) ∙ not_false _ c.if-not-sound.false-raw)
    (not_true _ c.if-not-asked.true-raw))

-- nothing refuses
pub returns : goal.returns
returns c =
    sym (none_refuses c.args.pool.now c.args.owner c.args.workspace c.args.requests c.args.answers c.args.asked
    (sym c.lists_fit-lists.ensures ∙ c.if-not-lists.false-raw)
    (sym (rw (to_z-of_z c.ranges.owner) at c.good_owner-known.ensures) ∙ not_false _ c.if-not-known.false-raw)
    (sym c.lengths_fit-lengths.ensures ∙ c.if-not-lengths.false-raw) (sym (rw c.over.ensures at c.sound.ensures) ∙ not_false _ c.if-not-sound.false-raw)
    (not_false _ c.if-not-asked.false-raw))
