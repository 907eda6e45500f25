-- `good_record`: each test that fails says what refuses the record, and where none does it is the record.
use mathlib.Core.Path.{sym, ◌∙◌}
use native.Mathlib.Omega.{arith}
use lib.ListN.{drop, length-drop}
use Rattle.rules.specs.File.{record_kind, record_size}
use Rattle.rules_laws.proofs.Bools.{not_true, not_false}
use Rattle.file.specs.Loading.{place_of}
use Rattle.file.proofs.Dues.{due_told, due_long, not_there, bad_rectangle, bad_number, bad_owner, not_after, no_fault}
use Rattle.file.proofs.good_record.Goals as goal

pub returns-then-not-is_due : goal.returns-then-not-is_due
returns-then-not-is_due c =
    not_there c.args.edition c.args.file.now c.args.k
    (due_told c.args.edition c.args.file.now c.args.k c.of-form.ensures.kind c.of-form.ensures.words
    c.place_of-at.ensures.is c.is_due.ensures
    ∙ not_true _ c.if-not-is_due.true-raw)

pub record_at-r-requires : goal.record_at-r-requires
record_at-r-requires c =
    let there = due_told c.args.edition c.args.file.now c.args.k c.of-form.ensures.kind c.of-form.ensures.words
    c.place_of-at.ensures.is c.is_due.ensures ∙ not_false _ c.if-not-is_due.false-raw in
    record {
      edition_in_bounds = omega (
        arith,
        c.requires.k_in_bounds,
        due_long (record_kind c.args.edition) (record_size c.args.edition) (drop (place_of c.args.edition c.args.k) c.args.file.now) there,
        length-drop (place_of c.args.edition c.args.k) c.args.file.now,
      );
      k_bound = c.requires.k_bound;
    }

pub returns-then-not-valid : goal.returns-then-not-valid
returns-then-not-valid c =
    let there = due_told c.args.edition c.args.file.now c.args.k c.of-form.ensures.kind c.of-form.ensures.words
    c.place_of-at.ensures.is c.is_due.ensures ∙ not_false _ c.if-not-is_due.false-raw in
    bad_rectangle c.args.edition c.args.file.now c.args.k there c.record_at-r.ensures
    (sym c.valid.ensures ∙ not_true _ c.if-not-valid.true-raw)

pub returns-then-not-good_number : goal.returns-then-not-good_number
returns-then-not-good_number c =
    let there = due_told c.args.edition c.args.file.now c.args.k c.of-form.ensures.kind c.of-form.ensures.words
    c.place_of-at.ensures.is c.is_due.ensures ∙ not_false _ c.if-not-is_due.false-raw in
    bad_number c.args.edition c.args.file.now c.args.k there c.record_at-r.ensures
    (sym c.valid.ensures ∙ not_false _ c.if-not-valid.false-raw)
    (sym c.good_number.ensures ∙ not_true _ c.if-not-good_number.true-raw)

pub returns-then-not-owner_sound : goal.returns-then-not-owner_sound
returns-then-not-owner_sound c =
    let there = due_told c.args.edition c.args.file.now c.args.k c.of-form.ensures.kind c.of-form.ensures.words
    c.place_of-at.ensures.is c.is_due.ensures ∙ not_false _ c.if-not-is_due.false-raw in
    bad_owner c.args.edition c.args.file.now c.args.k there c.record_at-r.ensures
    (sym c.valid.ensures ∙ not_false _ c.if-not-valid.false-raw)
    (sym c.good_number.ensures ∙ not_false _ c.if-not-good_number.false-raw)
    (sym c.owner_sound.ensures ∙ not_true _ c.if-not-owner_sound.true-raw)

pub is_after-requires : goal.is_after-requires
is_after-requires c =
    let there = due_told c.args.edition c.args.file.now c.args.k c.of-form.ensures.kind c.of-form.ensures.words
    c.place_of-at.ensures.is c.is_due.ensures ∙ not_false _ c.if-not-is_due.false-raw in
    record {
      edition_in_bounds = omega (
        arith,
        c.requires.k_in_bounds,
        due_long (record_kind c.args.edition) (record_size c.args.edition) (drop (place_of c.args.edition c.args.k) c.args.file.now) there,
        length-drop (place_of c.args.edition c.args.k) c.args.file.now,
      );
      k_bound = c.requires.k_bound;
    }

pub returns-then-not-is_after : goal.returns-then-not-is_after
returns-then-not-is_after c =
    let there = due_told c.args.edition c.args.file.now c.args.k c.of-form.ensures.kind c.of-form.ensures.words
    c.place_of-at.ensures.is c.is_due.ensures ∙ not_false _ c.if-not-is_due.false-raw in
    not_after c.args.edition c.args.file.now c.args.k there c.record_at-r.ensures
    (sym c.valid.ensures ∙ not_false _ c.if-not-valid.false-raw)
    (sym c.good_number.ensures ∙ not_false _ c.if-not-good_number.false-raw)
    (sym c.owner_sound.ensures ∙ not_false _ c.if-not-owner_sound.false-raw)
    (sym c.is_after.ensures ∙ not_true _ c.if-not-is_after.true-raw)

pub returns : goal.returns
returns c =
    let there = due_told c.args.edition c.args.file.now c.args.k c.of-form.ensures.kind c.of-form.ensures.words
    c.place_of-at.ensures.is c.is_due.ensures ∙ not_false _ c.if-not-is_due.false-raw in
    no_fault c.args.edition c.args.file.now c.args.k there c.record_at-r.ensures
    (sym c.valid.ensures ∙ not_false _ c.if-not-valid.false-raw)
    (sym c.good_number.ensures ∙ not_false _ c.if-not-good_number.false-raw)
    (sym c.owner_sound.ensures ∙ not_false _ c.if-not-owner_sound.false-raw)
    (sym c.is_after.ensures ∙ not_false _ c.if-not-is_after.false-raw)
