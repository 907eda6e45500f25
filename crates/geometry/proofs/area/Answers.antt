use mathlib.Core.Path.{◌≡◌, ap₂, ◌∙◌}
use Prim.Native.Nat.{◌*◌}
use lib.IntN.{pos, ◌*ℤ◌}
use native.Mathlib.Nat.{mul-le-mul, lt_of_le_of_lt}
use native.Mathlib.Omega.{arith}
use Rattle.rules.specs.Geometry.{area}
use Rattle.rules_laws.proofs.Ints.{read_back}
use Rattle.rules_laws.proofs.Measures.{valid_parts, areas}
use Rattle.geometry.proofs.area.Goals as goal

pub span-requires : goal.span-requires
span-requires c =
    let v = valid_parts c.args.r c.requires in
    let r = c.args.r in
    rw (read_back r.lowX v.lowX, read_back r.highX v.highX) record {
      low_value = v.lowX;
      high_value = v.highX;
      high_value_2 = v.x;
    }

pub span-requires-2 : goal.span-requires-2
span-requires-2 c =
    let v = valid_parts c.args.r c.requires in
    let r = c.args.r in
    rw (read_back r.lowY v.lowY, read_back r.highY v.highY) record {
      low_value = v.lowY;
      high_value = v.highY;
      high_value_2 = v.y;
    }

pub overflow_mul-result : goal.overflow_mul-result
overflow_mul-result c =
    record {
      fits = lt_of_le_of_lt (mul-le-mul {n₂ = 2000000000} {m₂ = 2000000000} c.span.ensures.small c.span-2.ensures.small) (omega arith);
    }

pub returns : goal.returns
unfolding area
returns c =
    let v = valid_parts c.args.r c.requires in
    let r = c.args.r in
    let e : pos (c.span.result * c.span-2.result) ≡ area r = ap₂ ◌*ℤ◌ c.span.ensures.is c.span-2.ensures.is
    ∙ rw (read_back r.lowX v.lowX, read_back r.highX v.highX, read_back r.lowY v.lowY, read_back r.highY v.highY) in
    record {
      is = e;
      small = areas.small r (c.span.result * c.span-2.result) c.requires e;
    }
