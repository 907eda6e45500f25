-- `split::assign` meets its contract: the place and the group are those of the rules, and what
-- stands for the groups stands for them again.
use Rattle.split.proofs.Turns.{one_assigned, one_stays, two_assigned, two_stays}
use Rattle.split.proofs.assign.Goals as goal

pub returns-in-One-clause-is : goal.returns-in-One-clause-is
returns-in-One-clause-is c =
    let next = rw c.in-One.is at c.next_joining.ensures in
    let join = c.join.ensures in
    one_stays c.requires.assigned c.requires.some c.in-One.at next.there c.join.new.left join.left join.fewer
    c.join.new.self join.ok join.grows next join.joined join.count

pub returns-in-One-clause-ok : goal.returns-in-One-clause-ok
returns-in-One-clause-ok c =
    let next = rw c.in-One.is at c.next_joining.ensures in
    let join = c.join.ensures in
    one_assigned c.requires.assigned c.requires.some c.in-One.at next.there c.join.new.left join.left join.fewer
    c.join.new.self join.ok join.grows next join.joined join.count

pub returns-in-Two-clause-is : goal.returns-in-Two-clause-is
returns-in-Two-clause-is c =
    let next = rw c.in-Two.is at c.next_joining.ensures in
    let join = c.join-in-Two.ensures in
    two_stays c.requires.assigned c.requires.some c.in-Two.at next.there c.join-in-Two.new.left join.left join.fewer
    c.join-in-Two.new.self join.ok join.grows next join.joined join.count

pub returns-in-Two-clause-ok : goal.returns-in-Two-clause-ok
returns-in-Two-clause-ok c =
    let next = rw c.in-Two.is at c.next_joining.ensures in
    let join = c.join-in-Two.ensures in
    two_assigned c.requires.assigned c.requires.some c.in-Two.at next.there c.join-in-Two.new.left join.left join.fewer
    c.join-in-Two.new.self join.ok join.grows next join.joined join.count
