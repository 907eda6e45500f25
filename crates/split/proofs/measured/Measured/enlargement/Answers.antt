-- `split::measured::Measured::enlargement` meets its contract: the cover's area is no less, and
-- both areas are kept.
use Rattle.rules.specs.Geometry.{enlargement}
use Rattle.rules_laws.proofs.Measures.{areas, enlarged}
use Rattle.split.proofs.measured.Measured.enlargement.Goals as goal

pub overflow_sub-result : goal.overflow_sub-result
overflow_sub-result c =
    areas.grows _ _ _ _ c.args.self.valid c.args.other.valid c.args.self.right (rw c.cover.ensures at c.cover.result.right)

pub returns : goal.returns
unfolding enlargement
returns c =
    enlarged areas _ _ c.args.self.valid c.args.other.valid _ _ c.args.self.right (rw c.cover.ensures at c.cover.result.right)
