-- The pair goes out and the new one goes in: by the laws of `delete` and `insert`.
use mathlib.Core.Path.{◌∙◌}
use Rattle.find_leaf.proofs.Held.{some_held}
use Rattle.delete.proofs.Deleted.{whole_way}
use Rattle.request.proofs.Turns.{ready_fit, ready_whole, ready_owners, ready_owner, to_delete, update_changes}
use Rattle.request.proofs.update_held.Goals as goal

pub scarce-requires-clause-comes_down : goal.scarce-requires-clause-comes_down
scarce-requires-clause-comes_down c =
    rw c.over.ensures (whole_way (to_delete c.args.pool.now c.args.free c.requires.ready c.args.old c.args.way c.requires.gives))

pub replace-left-requires-clause-fit : goal.replace-left-requires-clause-fit
replace-left-requires-clause-fit c = ready_fit c.args.pool.now c.args.free c.requires.ready

pub replace-left-requires-clause-whole : goal.replace-left-requires-clause-whole
replace-left-requires-clause-whole c = (ready_whole c.args.pool.now c.args.free c.requires.ready, ready_owners c.args.pool.now c.args.free c.requires.ready)

pub replace-left-requires-clause-value : goal.replace-left-requires-clause-value
replace-left-requires-clause-value c = (
  c.requires.rect_value.1,
  c.requires.rect_value.2,
  ready_owner c.args.pool.now c.args.free c.requires.ready c.args.old
      (some_held _ c.args.old c.args.way (ready_whole c.args.pool.now c.args.free c.requires.ready) c.requires.gives),
)

pub returns : goal.returns
returns c =
    record {
      is = rw c.ok_or.ensures.value
          (update_changes c.args.pool.now c.args.free c.requires.ready c.args.old c.requires.rect_value.0 c.requires.rect_value.2
          (some_held _ c.args.old c.args.way (ready_whole c.args.pool.now c.args.free c.requires.ready) c.requires.gives) c.args.way
          (to_delete c.args.pool.now c.args.free c.requires.ready c.args.old c.args.way c.requires.gives) _ c.args.new
          c.requires.rect_value.1 c.requires.value _ (rw c.over.ensures at c.scarce.ensures) c.keep.ensures.kept _ _
          c.replace-left.ensures _ (c.take_back.auto.pool ∙ c.replace-left.auto.pool) c.take_back.ensures);
      long = c.keep.ensures.long;
    }
