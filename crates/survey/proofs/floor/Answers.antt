use Rattle.std.proofs.Common.{◌≡◌, true, false, pos, ◌-ℤ◌, arith}
use lib.Ieee.{binary64, lt, of_int}
use Rattle.survey_laws.proofs.Floors.{in_float_lem, less_mag, back32, back64, over_low_end, under_high_end, cut_small, cut_above, cut_not_above}
use Rattle.survey_laws.proofs.Values.{is_double}
use Rattle.survey.proofs.floor.Goals as goal

pub truncating_f64_to_i64-cut-requires : goal.truncating_f64_to_i64-cut-requires
truncating_f64_to_i64-cut-requires c = record {
  lower_bound = over_low_end c.args.x (is_double c.args.x c.well_formed.0.1) c.requires;
  upper_bound = under_high_end c.args.x (is_double c.args.x c.well_formed.0.1) c.requires;
}

pub int_to_float-whole : goal.int_to_float-whole
int_to_float-whole c =
    let m = cut_small c.args.x (is_double c.args.x c.well_formed.0.1) c.requires c.truncating_f64_to_i64-cut.result
    c.truncating_f64_to_i64-cut.ensures in
    rw (back64 c.truncating_f64_to_i64-cut.result (omega arith)) (in_float_lem c.truncating_f64_to_i64-cut.result m)

pub overflow_sub-result : goal.overflow_sub-result
overflow_sub-result c =
    let s = cut_small c.args.x (is_double c.args.x c.well_formed.0.1) c.requires c.truncating_f64_to_i64-cut.result
    c.truncating_f64_to_i64-cut.ensures in
    let m = less_mag c.truncating_f64_to_i64-cut.result 2000000000 s in
    rw (back64 c.truncating_f64_to_i64-cut.result (omega arith)) (record { sfits = omega arith })

pub overflow_cast-result : goal.overflow_cast-result
overflow_cast-result c =
    let s = cut_small c.args.x (is_double c.args.x c.well_formed.0.1) c.requires c.truncating_f64_to_i64-cut.result
    c.truncating_f64_to_i64-cut.ensures in
    let m = less_mag c.truncating_f64_to_i64-cut.result 2000000000 s in
    rw (back64 c.truncating_f64_to_i64-cut.result (omega arith), back64 (c.truncating_f64_to_i64-cut.result -ℤ pos 1) (omega arith))
    (record { sfits = omega arith })

pub overflow_cast-result-else-x-whole : goal.overflow_cast-result-else-x-whole
overflow_cast-result-else-x-whole c =
    let s = cut_small c.args.x (is_double c.args.x c.well_formed.0.1) c.requires c.truncating_f64_to_i64-cut.result
    c.truncating_f64_to_i64-cut.ensures in
    rw (back64 c.truncating_f64_to_i64-cut.result (omega arith)) (record { sfits = omega arith })

pub returns-then-x-whole : goal.returns-then-x-whole
returns-then-x-whole c =
    let x = c.args.x in
    let s = cut_small c.args.x (is_double c.args.x c.well_formed.0.1) c.requires c.truncating_f64_to_i64-cut.result
    c.truncating_f64_to_i64-cut.ensures in
    let m = less_mag c.truncating_f64_to_i64-cut.result 2000000000 s in
    let above : lt x (of_int binary64 c.truncating_f64_to_i64-cut.result) ≡ true =
    rw (back64 c.truncating_f64_to_i64-cut.result (omega arith)) at c.if-x-whole.true in
    rw (
      back64 c.truncating_f64_to_i64-cut.result (omega arith),
      back64 (c.truncating_f64_to_i64-cut.result -ℤ pos 1) (omega arith),
      back32 (c.truncating_f64_to_i64-cut.result -ℤ pos 1) (omega arith),
    )
    (cut_above x (is_double c.args.x c.well_formed.0.1) c.requires c.truncating_f64_to_i64-cut.result c.truncating_f64_to_i64-cut.ensures
    above)

pub returns-else-x-whole : goal.returns-else-x-whole
returns-else-x-whole c =
    let x = c.args.x in
    let s = cut_small c.args.x (is_double c.args.x c.well_formed.0.1) c.requires c.truncating_f64_to_i64-cut.result
    c.truncating_f64_to_i64-cut.ensures in
    let not-above : lt x (of_int binary64 c.truncating_f64_to_i64-cut.result) ≡ false =
    rw (back64 c.truncating_f64_to_i64-cut.result (omega arith)) at c.if-x-whole.false in
    rw (back64 c.truncating_f64_to_i64-cut.result (omega arith), back32 c.truncating_f64_to_i64-cut.result (omega arith))
    (cut_not_above x (is_double c.args.x c.well_formed.0.1) c.requires c.truncating_f64_to_i64-cut.result
    c.truncating_f64_to_i64-cut.ensures not-above)
