-- `take_record`: the record that nothing refuses goes in, or no slot is free.
use mathlib.Core.Path.{sym, ap, subst, ◌∙◌}
use Rattle.rules.specs.declared.Edition.{Edition}
use Rattle.rules.specs.declared.Record.{Record}
use Rattle.rules.specs.Owners.{owner_sound}
use Rattle.rules.specs.Layout.{read}
use Rattle.rules.specs.Insert.{ours, insert_record}
use Rattle.file_laws.proofs.Steps.{Passes}
use Rattle.insert.specs.Left.{Leaves}
use Rattle.std.proofs.lemmas.Result.{err_from_is_err_and}
use Rattle.file.specs.Loading.{last_at}
use Rattle.file.proofs.Takes.{then_passes, took_refused, took_left}
use Rattle.file.proofs.take_record.Goals as goal

pub returns-in_err-r : goal.returns-in_err-r
returns-in_err-r c =
    let p = err_from_is_err_and c.from_residual.result c.from_residual.ensures.1 in
    rw (p.1, p.2) (took_refused c.args.edition (read c.args.pool.now) c.args.file.now c.args.k c.in_err-r.field-0.0 c.in_err-r.ensures c.args.pool.now)

pub insert_record-requires : goal.insert_record-requires
insert_record-requires c =
    let g = subst
    (λ (r : Record). Passes c.args.edition (last_at c.args.edition c.args.file.now c.args.k) r)
    (sym c.in_ok-r.ensures.1)
    (then_passes c.args.edition c.args.file.now c.args.k c.in_ok-r.ensures.0) in
    let owned = ap (λ (e : Edition). owner_sound e c.in_ok-r.r.owner) c.requires.pool_value ∙ g.owner in
    record {
      fit = c.requires.fit.0;
      whole = c.requires.fit.1;
      rect_value = (g.rect, g.number, owned);
      known = c.requires.fit.2;
    }

pub returns : goal.returns
returns c =
    rw c.ok_or.ensures.value
    (took_left c.args.edition (read c.args.pool.now) c.args.file.now c.args.k c.in_ok-r.ensures.0 c.args.pool.now _ c.insert_record.result
    (subst (λ (r : Record). Leaves c.args.pool.now (insert_record ours (read c.args.pool.now) r) c.insert_record.result
    c.insert_record.new.pool) c.in_ok-r.ensures.1 c.insert_record.ensures))
