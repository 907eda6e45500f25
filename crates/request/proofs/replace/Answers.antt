use mathlib.Core.Path.{◌≡◌, subst, subst⁻¹}
use mathlib.Core.Bool.{true}
use Rattle.rules.specs.declared.Edition.{Edition}
use Rattle.rules.specs.declared.Record.{Record}
use Rattle.rules.specs.Numbers.{good_number}
use Rattle.rules.specs.Owners.{owner_sound}
use Rattle.rules.specs.Geometry.{valid}
use Rattle.rules.specs.Layout.{read}
use Rattle.rules.specs.Insert.{ours, insert_record}
use Rattle.insert.specs.Left.{Leaves}
use Rattle.request.proofs.Replaced.{replace_half, replace_made, replace_refused}
use borrow.Author.Rules.{rules}
use Rattle.request.proofs.replace.Goals as goal

pub delete_record-requires : goal.delete_record-requires
delete_record-requires c =
    record {
      fit = c.requires.fit;
      whole = c.requires.whole;
      known = c.requires.known;
      gives = c.requires.gives;
    }

pub insert_record-requires : goal.insert_record-requires
insert_record-requires c =
    let h = replace_half c.args.pool.now c.requires.whole.0 c.args.old c.args.new c.delete_record.new.pool
    c.in_ok-left.left c.in_ok-left.ensures in
    let mine = subst⁻¹ (λ (e : Edition). owner_sound e c.args.old.owner ≡ true) h.edition c.requires.value.2 in
    let v = read c.delete_record.new.pool in
    let fine = subst⁻¹ (λ (r : Record). (valid r.rect ≡ true) × (good_number r.number ≡ true) × (owner_sound v.edition r.owner ≡ true))
    c.moved-moved.ensures (c.requires.value.0, c.requires.value.1, mine) in
    record {
      fit = h.fit;
      whole = h.whole;
      rect_value = fine;
      known = h.known;
    }

pub returns : goal.returns
returns c =
    let leaves = subst (λ (r : Record). Leaves c.delete_record.new.pool (insert_record ours (read c.delete_record.new.pool) r)
    c.insert_record.result c.insert_record.new.pool) c.moved-moved.ensures c.insert_record.ensures in
    replace_made c.args.pool.now c.requires.whole.0 c.args.old c.args.new c.delete_record.new.pool
    c.in_ok-left.left c.in_ok-left.ensures _ _ (search rules) leaves

pub returns-in_err-left : goal.returns-in_err-left
returns-in_err-left c =
    rw c.from_residual.ensures
    (replace_refused c.args.pool.now c.requires.whole.0 c.args.old c.args.new c.delete_record.new.pool c.in_err-left.ensures)
