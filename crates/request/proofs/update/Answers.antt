-- A row refuses, or the update is done.
use mathlib.Core.Path.{refl, sym, ◌∙◌}
use Rattle.std.proofs.lemmas.Result.{err_from_is_err_and}
use Rattle.rules.specs.declared.Asked.TheVariants.{Update}
use Rattle.rules.specs.declared.RequestFault.TheVariants.{BadRectangle, BadNumber, NotHeld, Held}
use Rattle.rules.specs.Numbers.{good_number}
use Rattle.rules.specs.Geometry.{valid}
use Rattle.find_leaf.proofs.Held.{none_held, some_held}
use Rattle.request.proofs.Turns.{ready_whole, row_applies}
use Rattle.request.proofs.Checks.{passed, check_refuses}
use Rattle.request.proofs.Rows.{update_old, update_new, update_4, update_5, update_6}
use Rattle.request.proofs.update.Goals as goal

pub returns-in_err-valid : goal.returns-in_err-valid
returns-in_err-valid c =
    let p = err_from_is_err_and c.from_residual.result c.from_residual.ensures.1 in
    record {
      is = rw (p.1, p.2)
          (check_refuses (valid c.args.old.rect) BadRectangle c.valid.ensures c.args.pool.now c.args.free c.requires.ready
          (Update c.args.old c.args.new) c.in_err-valid.was (λ no filled room. update_old _ filled room c.args.old c.args.new no));
      long = refl;
    }

pub returns-in_err-valid-2 : goal.returns-in_err-valid-2
returns-in_err-valid-2 c =
    let p = err_from_is_err_and c.from_residual-in_err-valid-2.result c.from_residual-in_err-valid-2.ensures.1 in
    record {
      is = rw (p.1, p.2)
          (check_refuses (valid c.args.new) BadRectangle c.valid-2.ensures c.args.pool.now c.args.free c.requires.ready
          (Update c.args.old c.args.new) c.in_err-valid-2.was
          (λ no filled room. update_new _ filled room c.args.old c.args.new (passed (valid c.args.old.rect) BadRectangle c.valid.ensures c.in_ok-valid.was) no));
      long = refl;
    }

pub returns-in_err-numbered : goal.returns-in_err-numbered
returns-in_err-numbered c =
    let p = err_from_is_err_and c.from_residual-in_err-numbered.result c.from_residual-in_err-numbered.ensures.1 in
    record {
      is = rw (p.1, p.2)
          (check_refuses (good_number c.args.old.number) BadNumber c.numbered.ensures c.args.pool.now c.args.free c.requires.ready
          (Update c.args.old c.args.new) c.in_err-numbered.was
          (λ no filled room. update_4 _ filled room c.args.old c.args.new (passed (valid c.args.old.rect) BadRectangle c.valid.ensures c.in_ok-valid.was)
          (passed (valid c.args.new) BadRectangle c.valid-2.ensures c.in_ok-valid-2.was) no));
      long = refl;
    }

pub find_leaf-requires : goal.find_leaf-requires
find_leaf-requires c = rw c.over-tree.ensures (ready_whole c.args.pool.now c.args.free c.requires.ready)

pub returns-in_default : goal.returns-in_default
returns-in_default c =
    record {
      is = row_applies c.args.pool.now c.args.free c.requires.ready (Update c.args.old c.args.new) NotHeld
          (λ filled room. update_5 _ filled room c.args.old c.args.new (passed (valid c.args.old.rect) BadRectangle c.valid.ensures c.in_ok-valid.was)
          (passed (valid c.args.new) BadRectangle c.valid-2.ensures c.in_ok-valid-2.was) (passed (good_number c.args.old.number) BadNumber c.numbered.ensures c.in_ok-numbered.was)
          (none_held _ c.args.old (ready_whole c.args.pool.now c.args.free c.requires.ready) (rw c.over-tree.ensures at c.in_default.ensures)));
      long = refl;
    }

pub other_held-requires : goal.other_held-requires
other_held-requires c = rw c.over-tree.ensures (ready_whole c.args.pool.now c.args.free c.requires.ready)

pub returns-then-other_held : goal.returns-then-other_held
returns-then-other_held c =
    record {
      is = row_applies c.args.pool.now c.args.free c.requires.ready (Update c.args.old c.args.new) Held
          (λ filled room. update_6 _ filled room c.args.old c.args.new (passed (valid c.args.old.rect) BadRectangle c.valid.ensures c.in_ok-valid.was)
          (passed (valid c.args.new) BadRectangle c.valid-2.ensures c.in_ok-valid-2.was) (passed (good_number c.args.old.number) BadNumber c.numbered.ensures c.in_ok-numbered.was)
          (some_held _ c.args.old c.in-Some.way (ready_whole c.args.pool.now c.args.free c.requires.ready) (rw c.over-tree.ensures at c.in-Some.ensures))
          (sym (rw c.over-tree.ensures at c.other_held.ensures) ∙ c.if-other_held.true));
      long = refl;
    }
