use Rattle.rules.specs.Geometry.{half_enlargement}
use Rattle.rules_laws.proofs.Measures.{cover_valid, halves, enlarged}
use Rattle.geometry.proofs.half_enlargement.Goals as goal

pub half_perimeter-requires : goal.half_perimeter-requires
half_perimeter-requires c =
    rw c.cover.ensures (cover_valid c.args.a c.args.b c.requires.a_value c.requires.b_value)

pub overflow_sub-result : goal.overflow_sub-result
overflow_sub-result c =
    halves.grows c.args.a c.args.b c.half_perimeter-2.result c.half_perimeter.result c.requires.a_value c.requires.b_value
    c.half_perimeter-2.ensures.is (rw c.cover.ensures at c.half_perimeter.ensures.is)

pub returns : goal.returns
unfolding half_enlargement
returns c =
    enlarged halves c.args.a c.args.b c.requires.a_value c.requires.b_value c.half_perimeter-2.result c.half_perimeter.result
    c.half_perimeter-2.ensures.is (rw c.cover.ensures at c.half_perimeter.ensures.is)
