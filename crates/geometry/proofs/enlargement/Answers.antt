use native.Mathlib.Omega.{arith}
use Rattle.rules.specs.Geometry.{enlargement}
use Rattle.rules_laws.proofs.Measures.{cover_valid, areas, enlarged}
use Rattle.geometry.proofs.enlargement.Goals as goal

pub area-requires : goal.area-requires
area-requires c =
    rw c.cover.ensures (cover_valid c.args.a c.args.b c.requires.a_value c.requires.b_value)

pub overflow_sub-result : goal.overflow_sub-result
overflow_sub-result c =
    areas.grows c.args.a c.args.b c.area-2.result c.area.result c.requires.a_value c.requires.b_value c.area-2.ensures.is
    (rw c.cover.ensures at c.area.ensures.is)

pub returns : goal.returns
unfolding enlargement
returns c =
    record {
      is = enlarged areas c.args.a c.args.b c.requires.a_value c.requires.b_value c.area-2.result c.area.result
          c.area-2.ensures.is (rw c.cover.ensures at c.area.ensures.is);
      small = omega (arith, c.area.ensures.small);
    }
