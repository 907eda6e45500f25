-- `split::measured::Measured::cover` meets its contract: the cover of two valid rectangles is
-- valid.
use Rattle.rules_laws.proofs.Measures.{cover_valid}
use Rattle.split.proofs.measured.Measured.cover.Goals as goal

pub new-requires : goal.new-requires
new-requires c = rw c.cover.ensures (cover_valid _ _ c.args.self.valid c.args.other.valid)
