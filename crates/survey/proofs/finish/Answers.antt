use Rattle.std.proofs.Common.{sym, ◌∙◌}
use Rattle.survey_laws.proofs.Finished.{finished_yes, finished_no}
use Rattle.survey.proofs.finish.Goals as goal

pub returns-then-all_in_range : goal.returns-then-all_in_range
returns-then-all_in_range c = finished_yes c.args.r (sym c.all_in_range.ensures ∙ c.if-all_in_range.true)

pub returns-else-all_in_range : goal.returns-else-all_in_range
returns-else-all_in_range c = finished_no c.args.r (sym c.all_in_range.ensures ∙ c.if-all_in_range.false)
