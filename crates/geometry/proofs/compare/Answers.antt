use mathlib.Core.Path.{sym, ◌∙◌}
use Rattle.rules_laws.proofs.Compares.{compared_apart, compared_as}
use Rattle.geometry.proofs.compare.Goals as goal

pub returns-then-meeting : goal.returns-then-meeting
returns-then-meeting c =
    rw (c.meeting_as.ensures, c.lies_in-inside.ensures, c.lies_in-enclosing.ensures)
    (sym (compared_as _ _ (sym c.meets-meeting.ensures ∙ c.if-meeting.true)))

pub returns-else-meeting : goal.returns-else-meeting
returns-else-meeting c = sym (compared_apart _ _ (sym c.meets-meeting.ensures ∙ c.if-meeting.false))
