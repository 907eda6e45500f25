use Rattle.survey_laws.proofs.Floors.{ceiling_by_floor, ceiling_small, neg_mag, back32}
use Rattle.survey_laws.proofs.Values.{is_double, within_neg}
use Rattle.std.proofs.Common.{neg_ℤ, arith}
use lib.IntN.{+ℤ_idl}
use Rattle.survey.proofs.ceiling.Goals as goal

pub floor-requires : goal.floor-requires
floor-requires c = within_neg 2000000000 c.args.x (is_double c.args.x c.well_formed.0.1) c.requires

pub overflow_sub-result : goal.overflow_sub-result
overflow_sub-result c =
    let x = c.args.x in
    let h = is_double c.args.x c.well_formed.0.1 in
    let m = ceiling_small x c.floor.result h c.requires c.floor.ensures in
    rw (back32 c.floor.result (omega arith), +ℤ_idl (neg_ℤ c.floor.result)) (record { sfits = omega (arith, neg_mag c.floor.result 2000000000 m) })

pub returns : goal.returns
returns c =
    let x = c.args.x in
    let h = is_double c.args.x c.well_formed.0.1 in
    let m = ceiling_small x c.floor.result h c.requires c.floor.ensures in
    rw (
      back32 c.floor.result (omega arith),
      +ℤ_idl (neg_ℤ c.floor.result),
      back32 (neg_ℤ c.floor.result) (omega (arith, neg_mag c.floor.result 2000000000 m)),
    ) (ceiling_by_floor x c.floor.result h c.requires c.floor.ensures)
