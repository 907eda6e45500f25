-- The kinds are told apart as the table does.
use Rattle.std.proofs.Common.{rules}
use Rattle.rules.specs.Lists.{same}
use Rattle.rules.specs.Answers.{first_row}
use Rattle.rules.specs.Request.{asked}
use Rattle.request.proofs.Cases.{asks_search}
use Rattle.request.proofs.asked.Goals as goal

pub returns-in-1 : goal.returns-in-1
unfolding asked first_row same
returns-in-1 c = search rules

pub returns-in-2 : goal.returns-in-2
unfolding asked first_row same
returns-in-2 c = search rules

pub returns-in-3 : goal.returns-in-3
unfolding asked first_row same
returns-in-3 c = search rules

pub returns-in_default : goal.returns-in_default
unfolding same
returns-in_default c = search (rules, asks_search)
