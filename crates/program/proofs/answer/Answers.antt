-- `answer`: the request does the call of the frame (Calls), and its lines are written after those that wait.
use mathlib.Core.Path.{refl}
use lib.IntN.{pos}
use Rattle.rules.specs.Numbers.{good_owner}
use Rattle.rules.specs.Owners.{owner, owner_in}
use Rattle.rules.specs.Layout.{edition_of}
use Rattle.in_force_laws.proofs.Asks.{asks_something}
use Rattle.program.proofs.Calls.{replies_by}
use Rattle.program.proofs.answer.Goals as goal

pub one_request-served-requires-clause-owner_value : goal.one_request-served-requires-clause-owner_value
unfolding good_owner
one_request-served-requires-clause-owner_value c = refl

pub fill_list-requires : goal.fill_list-requires
fill_list-requires c =
    let x = asks_something (owner_in (edition_of c.args.pool.now) (owner (pos 1))) c.args.q c.requires.asks in
    (c.one_request-served.ensures x.0 x.1).pointing

pub returns-clause-reply : goal.returns-clause-reply
returns-clause-reply c =
    let x = asks_something (owner_in (edition_of c.args.pool.now) (owner (pos 1))) c.args.q c.requires.asks in
    replies_by c.args.pool.now c.args.q x.0 c.args.run.before c.args.run.filled c.args.out.now c.reply_lines-filled.new.out
    c.one_request-served.new.pool c.one_request-served.new.work c.one_request-served.result c.reply_lines-filled.result
    c.fill_list.new.found c.requires.ready.right c.requires.ready.sound c.requires.asks x.1 (c.one_request-served.ensures x.0 x.1)
    (rw c.no_record-found.ensures at c.fill_list.ensures) c.reply_lines-filled.ensures.wrote c.reply_lines-filled.ensures.short
