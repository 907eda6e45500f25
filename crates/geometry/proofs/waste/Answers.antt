use native.Mathlib.Omega.{arith}
use Rattle.rules.specs.Geometry.{waste}
use Rattle.rules_laws.proofs.Measures.{cover_valid, areas, wasted}
use Rattle.geometry.proofs.waste.Goals as goal

pub area-requires : goal.area-requires
area-requires c = rw c.cover.ensures (cover_valid c.args.a c.args.b c.requires.a_value.0 c.requires.a_value.1)

pub overflow_add-result : goal.overflow_add-result
overflow_add-result c =
    omega (
      arith,
      areas.small c.args.a c.args.m c.requires.a_value.0 c.requires.m_value.0,
      areas.small c.args.b c.args.n c.requires.a_value.1 c.requires.m_value.1,
    )

pub overflow_sub-result : goal.overflow_sub-result
overflow_sub-result c =
    omega (
      arith,
      areas.small c.args.a c.args.m c.requires.a_value.0 c.requires.m_value.0,
      areas.small c.args.b c.args.n c.requires.a_value.1 c.requires.m_value.1,
    )

pub overflow_add-result-2 : goal.overflow_add-result-2
overflow_add-result-2 c = omega (arith, c.area.ensures.small)

pub returns : goal.returns
unfolding waste
returns c =
    wasted areas c.args.a c.args.b c.requires.a_value.0 c.requires.a_value.1 c.args.m c.area.result
    c.requires.m_value.0 (rw c.cover.ensures at c.area.ensures.is) c.args.n c.requires.m_value.1
