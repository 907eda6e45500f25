use Rattle.rules.specs.Compare.{wanted}
use Rattle.geometry.proofs.wanted.Goals as goal

pub returns-in-Meeting : goal.returns-in-Meeting
unfolding wanted
returns-in-Meeting c = rw (c.is_meeting.ensures, c.compare.ensures, c.in-Meeting.is)

pub returns-in-OnlyInside : goal.returns-in-OnlyInside
unfolding wanted
returns-in-OnlyInside c = rw (c.is_inside.ensures, c.compare-in-OnlyInside.ensures, c.in-OnlyInside.is)

pub returns-in-OnlyEnclosing : goal.returns-in-OnlyEnclosing
unfolding wanted
returns-in-OnlyEnclosing c = rw (c.is_enclosing.ensures, c.compare-in-OnlyEnclosing.ensures, c.in-OnlyEnclosing.is)
