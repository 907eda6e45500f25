-- What is asked is done by its kind.
use mathlib.Core.Path.{◌≡◌, subst, ◌∙◌}
use Rattle.request.proofs.Listing.{serves_as, changes_as}
use mathlib.Core.Bool.{true}
use Rattle.rules.specs.declared.Asked.{Asked}
use Rattle.rules.specs.Owners.{owner_sound}
use Rattle.rules.specs.Layout.{read}
use Rattle.in_force_laws.specs.Force.{asked_by}
use Rattle.request.proofs.serve_asked.Goals as goal

pub insert-requires-clause-owner_value : goal.insert-requires-clause-owner_value
unfolding asked_by
insert-requires-clause-owner_value c =
    subst (λ (a : Asked). owner_sound (read c.args.pool.now).edition (asked_by a) ≡ true) c.in-Insert.is c.requires.a_value

pub search-requires-clause-ready : goal.search-requires-clause-ready
search-requires-clause-ready c = rw c.over.ensures c.requires.ready

pub search-requires-clause-work_len : goal.search-requires-clause-work_len
search-requires-clause-work_len c = rw c.over.ensures c.requires.work_len

pub search-requires-clause-owner_value : goal.search-requires-clause-owner_value
unfolding asked_by
search-requires-clause-owner_value c =
    rw c.over.ensures (subst (λ (a : Asked). owner_sound (read c.args.pool.now).edition (asked_by a) ≡ true) c.in-Search.is c.requires.a_value)

pub returns-in-Insert : goal.returns-in-Insert
returns-in-Insert c =
    rw c.changed.ensures
    (changes_as c.args.pool.now c.args.filled c.args.room c.in-Insert.is c.requires.work_len c.insert.ensures)

pub returns-in-Delete : goal.returns-in-Delete
returns-in-Delete c =
    rw c.changed-in-Delete.ensures
    (changes_as c.args.pool.now c.args.filled c.args.room c.in-Delete.is (c.delete.ensures.long ∙ c.requires.work_len)
    c.delete.ensures.is)

pub returns-in-Update : goal.returns-in-Update
returns-in-Update c =
    rw c.changed-in-Update.ensures
    (changes_as c.args.pool.now c.args.filled c.args.room c.in-Update.is (c.update.ensures.long ∙ c.requires.work_len)
    c.update.ensures.is)

pub returns-in-Search : goal.returns-in-Search
returns-in-Search c =
    serves_as c.args.pool.now c.args.filled c.args.room c.in-Search.is (rw c.over.ensures at c.search.ensures)
