-- `request_in`: each arm has its words, and its kind's request is the definition's.
use mathlib.Core.Path.{sym, ap, ◌∙◌}
use native.Mathlib.Omega.{arith}
use Rattle.frames.specs.Reading.{kind_number}
use Rattle.frames.proofs.Requests.{length_3, from_update, changes_long, changes_from, searches_long, searches_from}
use Rattle.frames.proofs.request_in.Goals as goal

pub change_in-requires : goal.change_in-requires
change_in-requires c = omega (arith, c.requires, changes_long c.args.kind c.args.bytes.now c.in-Insert.is)

pub update_in-requires : goal.update_in-requires
update_in-requires c = omega (arith, c.requires, length_3 (kind_number c.args.kind) (ap kind_number c.in-Update.is))

pub search_in-requires : goal.search_in-requires
search_in-requires c = omega (arith, c.requires, searches_long c.args.kind c.args.bytes.now c.in-Search.is)

pub returns-in-Insert : goal.returns-in-Insert
returns-in-Insert c = c.change_in.ensures ∙ sym (changes_from c.args.kind c.args.bytes.now c.in-Insert.is)

pub returns-in-Update : goal.returns-in-Update
returns-in-Update c =
    c.update_in.ensures ∙ sym (from_update (kind_number c.args.kind) c.args.bytes.now (ap kind_number c.in-Update.is))

pub returns-in-Search : goal.returns-in-Search
returns-in-Search c = c.search_in.ensures ∙ sym (searches_from c.args.kind c.args.bytes.now c.in-Search.is)
