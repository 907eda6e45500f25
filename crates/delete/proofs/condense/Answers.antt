-- `delete::condense` meets its contract: the leaf's entry is out, and each turn relieves the node one level up.
use borrow.Author.Rules.{rules}
use mathlib.Core.Path.{refl}
use Rattle.rules.specs.Layout.{read}
use Rattle.delete.proofs.Nodes.{few_read}
use Rattle.delete.proofs.Climb.{leaf_there, leaf_rewritable, climbing_child, climbing_known, climbing_few, climbing_next, climbing_first, climbing_last}
use Rattle.delete.proofs.condense.Goals as goal

pub take_out-requires : goal.take_out-requires
take_out-requires c =
    let p = read c.args.pool.now in record {
      fit_2 = c.requires.fit;
      rewritable = leaf_rewritable p c.args.way c.args.height c.requires.comes_down (few_read c.requires.fit);
      i_in_bounds = leaf_there p c.args.way c.args.height c.requires.comes_down;
    }

pub loop-l-init : goal.loop-l-init
loop-l-init c =
    let p = read c.args.pool.now in
    climbing_first p c.args.way c.args.height c.requires.comes_down c.take_out.new.pool c.take_out.ensures.is
    (few_read c.requires.fit) c.take_out.ensures.fit c.args.asides.now.free c.requires.known c.args.asides.now
    c.requires.none refl

pub relieve-requires : goal.relieve-requires
relieve-requires c =
    record {
      fit = c.loop-l.invariant.has.pool.fit;
      child_at = climbing_child c.loop-l.invariant c.loop-l-test.true;
      known = climbing_known c.loop-l.invariant;
      count_bound = climbing_few c.loop-l.invariant c.loop-l-test.true;
    }

pub loop-l-preserved : goal.loop-l-preserved
loop-l-preserved c =
    climbing_next c.loop-l.invariant c.loop-l-test.true c.relieve.new.pool (search rules) c.relieve.new.asides c.relieve.ensures

pub returns : goal.returns
returns c =
    climbing_last (read c.args.pool.now) c.args.way c.args.height c.requires.comes_down c.take_out.new.pool
    c.take_out.ensures.is c.loop-l.pool c.loop-l.asides c.loop-l.l c.loop-l.invariant c.loop-l-test.false
