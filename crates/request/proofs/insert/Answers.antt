-- A row refuses, or the record goes in: by the laws of `insert`.
use mathlib.Core.Path.{sym, ◌∙◌}
use Rattle.std.proofs.lemmas.Result.{err_from_is_err_and}
use Rattle.rules.specs.declared.Asked.TheVariants.{Insert}
use Rattle.rules.specs.declared.RequestFault.TheVariants.{BadRectangle, BadNumber, Held}
use Rattle.rules.specs.Numbers.{good_number}
use Rattle.rules.specs.Geometry.{valid}
use Rattle.request.proofs.Turns.{ready_fit, ready_whole, row_applies, insert_changes}
use Rattle.request.proofs.Checks.{passed, check_refuses}
use Rattle.request.proofs.Rows.{insert_3, insert_4, insert_6}
use Rattle.request.proofs.insert.Goals as goal

pub returns-in_err-valid : goal.returns-in_err-valid
returns-in_err-valid c =
    let p = err_from_is_err_and c.from_residual.result c.from_residual.ensures.1 in
    rw (p.1, p.2)
    (check_refuses (valid c.args.r.rect) BadRectangle c.valid.ensures c.args.pool.now c.args.free c.requires.ready (Insert c.args.r)
    c.in_err-valid.was (λ no filled room. insert_3 _ filled room c.args.r no))

pub returns-in_err-numbered : goal.returns-in_err-numbered
returns-in_err-numbered c =
    let p = err_from_is_err_and c.from_residual-in_err-numbered.result c.from_residual-in_err-numbered.ensures.1 in
    rw (p.1, p.2)
    (check_refuses (good_number c.args.r.number) BadNumber c.numbered.ensures c.args.pool.now c.args.free c.requires.ready (Insert c.args.r)
    c.in_err-numbered.was
    (λ no filled room. insert_4 _ filled room c.args.r (passed (valid c.args.r.rect) BadRectangle c.valid.ensures c.in_ok-valid.was) no))

pub holds-requires : goal.holds-requires
holds-requires c = rw c.over.ensures (ready_whole c.args.pool.now c.args.free c.requires.ready)

pub returns-then-holds : goal.returns-then-holds
returns-then-holds c =
    row_applies c.args.pool.now c.args.free c.requires.ready (Insert c.args.r) Held
    (λ filled room. insert_6 _ filled room c.args.r (passed (valid c.args.r.rect) BadRectangle c.valid.ensures c.in_ok-valid.was)
    (passed (good_number c.args.r.number) BadNumber c.numbered.ensures c.in_ok-numbered.was) (sym (rw c.over.ensures at c.holds.ensures) ∙ c.if-holds.true))

pub insert_record-requires-clause-fit : goal.insert_record-requires-clause-fit
insert_record-requires-clause-fit c = ready_fit c.args.pool.now c.args.free c.requires.ready

pub insert_record-requires-clause-whole : goal.insert_record-requires-clause-whole
insert_record-requires-clause-whole c = ready_whole c.args.pool.now c.args.free c.requires.ready

pub returns : goal.returns
returns c =
    rw c.ok_or.ensures.value
    (insert_changes c.args.pool.now c.args.free c.requires.ready c.args.r (passed (valid c.args.r.rect) BadRectangle c.valid.ensures c.in_ok-valid.was)
    (passed (good_number c.args.r.number) BadNumber c.numbered.ensures c.in_ok-numbered.was) c.requires.owner_value
    (sym (rw c.over.ensures at c.holds.ensures) ∙ c.if-holds.false) _ _ c.insert_record.auto.pool c.insert_record.ensures)
