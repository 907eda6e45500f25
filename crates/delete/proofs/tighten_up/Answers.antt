-- `delete::tighten_up` meets its contract: the pair is out, each turn makes the next cover tight, and the first that stays is the last.
use borrow.Author.Rules.{rules}
use mathlib.Core.Path.{sym, ◌∙◌}
use Rattle.rules.specs.Layout.{read}
use Rattle.rules_laws.proofs.Bools.{not_true}
use Rattle.delete.proofs.Nodes.{few_read}
use Rattle.delete.proofs.Climb.{leaf_there, leaf_rewritable}
use Rattle.delete.proofs.Stops.{tights_done, out_still, tightening_child, tightening_first, tightening_next, tightening_stop, tightening_last}
use Rattle.delete.proofs.tighten_up.Goals as goal

pub take_out-requires : goal.take_out-requires
take_out-requires c =
    let p = read c.args.pool.now in record {
      fit_2 = c.requires.fit_2;
      rewritable = leaf_rewritable p c.args.way c.args.height c.requires.comes_down (few_read c.requires.fit_2);
      i_in_bounds = leaf_there p c.args.way c.args.height c.requires.comes_down;
    }

pub loop-l-init : goal.loop-l-init
loop-l-init c =
    tightening_first c.args.pool.now c.requires.fit_2 (few_read c.requires.fit_2) c.args.way c.args.height
    c.requires.comes_down c.requires.keeps_enough c.take_out.new.pool c.take_out.ensures.is c.take_out.ensures.fit

pub tightened-requires : goal.tightened-requires
tightened-requires c =
    record {
      fit_2 = c.loop-l.invariant.fit;
      child_at = tightening_child c.loop-l.invariant c.loop-l-test.true;
    }

pub returns-then-not-tightened : goal.returns-then-not-tightened
returns-then-not-tightened c =
    let done = tightening_stop c.loop-l.invariant c.loop-l-test.true c.tightened.new.pool c.tightened.ensures.is
    (sym c.tightened.ensures.changed ∙ not_true _ c.if-not-tightened.true-raw) in
    let w = c.args.pool.now in
    record {
      is = done.0
          ∙ tights_done (read w) c.args.way c.args.height c.requires.comes_down c.requires.keeps_enough (read c.take_out.new.pool)
          c.take_out.ensures.is;
      fit = c.tightened.ensures.fit;
      free = (λ f k. done.1 f
          (out_still w c.requires.fit_2 (few_read c.requires.fit_2) c.args.way c.args.height c.requires.comes_down c.requires.keeps_enough
          c.take_out.new.pool c.take_out.ensures.is f k));
    }

pub loop-l-preserved : goal.loop-l-preserved
loop-l-preserved c =
    tightening_next c.loop-l.invariant c.loop-l-test.true c.tightened.new.pool c.tightened.ensures.is (search rules) c.tightened.ensures.fit

pub returns : goal.returns
returns c =
    let w = c.args.pool.now in
    record {
      is = tightening_last c.loop-l.invariant c.loop-l-test.false
          ∙ tights_done (read w) c.args.way c.args.height c.requires.comes_down c.requires.keeps_enough (read c.take_out.new.pool)
          c.take_out.ensures.is;
      fit = c.loop-l.invariant.fit;
      free = (λ f k. c.loop-l.invariant.known f
          (out_still w c.requires.fit_2 (few_read c.requires.fit_2) c.args.way c.args.height c.requires.comes_down c.requires.keeps_enough
          c.take_out.new.pool c.take_out.ensures.is f k));
    }
