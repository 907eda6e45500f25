-- One beyond a coordinate of at most 2,000,000,001 fits 32 bits, and so it reads back as it is.
use Rattle.std.proofs.Common.{pos, ◌+ℤ◌, ◌-ℤ◌, arith}
use Rattle.rules.specs.Survey.{further}
use Rattle.geometry.proofs.Rects.{rect_back}
use Rattle.survey_laws.proofs.Floors.{less_mag, more_mag, back32}
use Rattle.survey.proofs.further.Goals as goal

pub returns : goal.returns
unfolding further
returns c =
    let r = c.args.r in
    let a = rect_back r c.struct_told-1.given in
    rw (
      a.lowX,
      a.lowY,
      a.highX,
      a.highY,
      back32 (r.lowX -ℤ pos 1) (omega (arith, less_mag r.lowX 2000000001 c.requires.lowX)),
      back32 (r.lowY -ℤ pos 1) (omega (arith, less_mag r.lowY 2000000001 c.requires.lowY)),
      back32 (r.highX +ℤ pos 1) (omega (arith, more_mag r.highX 2000000001 c.requires.highX)),
      back32 (r.highY +ℤ pos 1) (omega (arith, more_mag r.highY 2000000001 c.requires.highY)),
    )
