-- `at` of `split::nexts::Nexts` meets its contract: the difference of the two enlargements kept for
-- the place.
use Rattle.split.proofs.Preferences.{preferring}
use Rattle.split.proofs.nexts.NextsChoiceUsize.at.Goals as goal

pub returns-clause-right : goal.returns-clause-right
returns-clause-right c = preferring c.requires _ (rw c.at-place.ensures.is at c.abs_diff-key.ensures)
