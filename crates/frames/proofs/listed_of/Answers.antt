-- `listed_of`: no lines after a refusal; after an accepted search as many as were found, and never more than 64.
use mathlib.Core.Path.{◌∙◌}
use Rattle.frames.proofs.Fields.{told_none, told_some}
use Rattle.frames.proofs.listed_of.Goals as goal

pub returns-then-answer-ne0 : goal.returns-then-answer-ne0
returns-then-answer-ne0 c = told_none c.args.answer c.if-answer-ne0.true

pub returns : goal.returns
returns c = c.min.ensures ∙ told_some c.args.answer c.if-answer-ne0.false
