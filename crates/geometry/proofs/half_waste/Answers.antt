use native.Mathlib.Omega.{arith}
use Rattle.rules.specs.Geometry.{half_waste}
use Rattle.rules_laws.proofs.Measures.{cover_valid, halves, wasted}
use Rattle.geometry.proofs.half_waste.Goals as goal

pub half_perimeter-requires : goal.half_perimeter-requires
half_perimeter-requires c =
    rw c.cover.ensures (cover_valid c.args.a c.args.b c.requires.a_value c.requires.b_value)

pub overflow_add-result : goal.overflow_add-result
overflow_add-result c = omega (arith, c.half_perimeter-2.ensures.small, c.half_perimeter-3.ensures.small)

pub overflow_sub-result : goal.overflow_sub-result
overflow_sub-result c = omega (arith, c.half_perimeter-2.ensures.small, c.half_perimeter-3.ensures.small)

pub overflow_add-result-2 : goal.overflow_add-result-2
overflow_add-result-2 c = omega (arith, c.half_perimeter.ensures.small)

pub returns : goal.returns
unfolding half_waste
returns c =
    wasted halves c.args.a c.args.b c.requires.a_value c.requires.b_value c.half_perimeter-2.result c.half_perimeter.result
    c.half_perimeter-2.ensures.is (rw c.cover.ensures at c.half_perimeter.ensures.is) c.half_perimeter-3.result
    c.half_perimeter-3.ensures.is
