-- A row refuses, or the pair goes out at the end of the way: by the laws of `delete`.
use mathlib.Core.Path.{refl, ◌∙◌}
use Rattle.std.proofs.lemmas.Result.{err_from_is_err_and}
use Rattle.rules.specs.declared.Asked.TheVariants.{Delete}
use Rattle.rules.specs.declared.RequestFault.TheVariants.{BadRectangle, BadNumber, NotHeld}
use Rattle.rules.specs.Numbers.{good_number}
use Rattle.rules.specs.Geometry.{valid}
use Rattle.find_leaf.proofs.Held.{none_held, some_held}
use Rattle.delete.proofs.Deleted.{whole_way}
use Rattle.request.proofs.Turns.{ready_fit, ready_whole, ready_owners, row_applies, to_delete, delete_changes}
use Rattle.request.proofs.Checks.{passed, check_refuses}
use Rattle.request.proofs.Rows.{delete_3, delete_4, delete_5}
use Rattle.request.proofs.delete.Goals as goal

pub returns-in_err-valid : goal.returns-in_err-valid
returns-in_err-valid c =
    let p = err_from_is_err_and c.from_residual.result c.from_residual.ensures.1 in
    record {
      is = rw (p.1, p.2)
          (check_refuses (valid c.args.r.rect) BadRectangle c.valid.ensures c.args.pool.now c.args.free c.requires.ready
          (Delete c.args.r) c.in_err-valid.was (λ no filled room. delete_3 _ filled room c.args.r no));
      long = refl;
    }

pub returns-in_err-numbered : goal.returns-in_err-numbered
returns-in_err-numbered c =
    let p = err_from_is_err_and c.from_residual-in_err-numbered.result c.from_residual-in_err-numbered.ensures.1 in
    record {
      is = rw (p.1, p.2)
          (check_refuses (good_number c.args.r.number) BadNumber c.numbered.ensures c.args.pool.now c.args.free c.requires.ready
          (Delete c.args.r) c.in_err-numbered.was (λ no filled room. delete_4 _ filled room c.args.r (passed (valid c.args.r.rect) BadRectangle c.valid.ensures c.in_ok-valid.was) no));
      long = refl;
    }

pub find_leaf-requires : goal.find_leaf-requires
find_leaf-requires c = rw c.over-tree.ensures (ready_whole c.args.pool.now c.args.free c.requires.ready)

pub returns-in_default : goal.returns-in_default
returns-in_default c =
    record {
      is = row_applies c.args.pool.now c.args.free c.requires.ready (Delete c.args.r) NotHeld
          (λ filled room. delete_5 _ filled room c.args.r (passed (valid c.args.r.rect) BadRectangle c.valid.ensures c.in_ok-valid.was)
          (passed (good_number c.args.r.number) BadNumber c.numbered.ensures c.in_ok-numbered.was)
          (none_held _ c.args.r (ready_whole c.args.pool.now c.args.free c.requires.ready) (rw c.over-tree.ensures at c.in_default.ensures)));
      long = refl;
    }

pub scarce-requires-clause-comes_down : goal.scarce-requires-clause-comes_down
scarce-requires-clause-comes_down c =
    rw c.over-tree.ensures (whole_way (to_delete c.args.pool.now c.args.free c.requires.ready c.args.r c.in-Some.way (rw c.over-tree.ensures at c.in-Some.ensures)))

pub delete_record-left-requires-clause-fit : goal.delete_record-left-requires-clause-fit
delete_record-left-requires-clause-fit c = ready_fit c.args.pool.now c.args.free c.requires.ready

pub delete_record-left-requires-clause-whole : goal.delete_record-left-requires-clause-whole
delete_record-left-requires-clause-whole c = (ready_whole c.args.pool.now c.args.free c.requires.ready, ready_owners c.args.pool.now c.args.free c.requires.ready)

pub returns : goal.returns
returns c =
    record {
      is = rw c.ok_or.ensures.value
          (delete_changes c.args.pool.now c.args.free c.requires.ready c.args.r (passed (valid c.args.r.rect) BadRectangle c.valid.ensures c.in_ok-valid.was)
          (passed (good_number c.args.r.number) BadNumber c.numbered.ensures c.in_ok-numbered.was)
          (some_held _ c.args.r c.in-Some.way (ready_whole c.args.pool.now c.args.free c.requires.ready) (rw c.over-tree.ensures at c.in-Some.ensures)) c.in-Some.way
          (to_delete c.args.pool.now c.args.free c.requires.ready c.args.r c.in-Some.way (rw c.over-tree.ensures at c.in-Some.ensures)) _ _ (rw c.over-tree.ensures at c.scarce.ensures)
          c.keep.ensures.kept _ _ c.delete_record-left.ensures _
          (c.take_back.auto.pool ∙ c.delete_record-left.auto.pool)
          c.take_back.ensures);
      long = c.keep.ensures.long;
    }
