-- `Step::choose_tied` meets its contract: a turn keeps the better of the best entry and the next.
use mathlib.Core.Path.{sym, ◌∙◌}
use native.Mathlib.Omega.{arith}
use Rattle.layout_laws.proofs.Parts.{length_rects}
use Rattle.rules_laws.proofs.Rules.{chosen}
use Rattle.pool.specs.Reading.{entries_of, rects_of}
use Rattle.choose.specs.State.{Measured, better}
use Rattle.choose.proofs.Turns.{step_kept, last}
use Rattle.choose.proofs.Step.choose_tied.Goals as goal

pub measured-requires : goal.measured-requires
measured-requires c =
    omega (arith, c.loop-i-test.true, c.count-i-end.ensures.is, length_rects (entries_of c.args.self.now.node))

pub loop-i-preserved : goal.loop-i-preserved
loop-i-preserved c =
    let rs = rects_of c.args.self.now.node in
    let new = c.args.self.now.new in
    let t = c.loop-i.invariant in
    let i = c.loop-i.i in
    rw c.keep-best.ensures
    record {
      held = chosen (Measured rs new) (better rs new c.measured.result.at c.loop-i.best.at) c.measured.ensures.is t.held;
      rest = sym (step_kept rs new c.measured.result c.loop-i.best i c.measured.ensures.at
          (omega (arith, c.loop-i-test.true, c.count-i-end.ensures.is, length_rects (entries_of c.args.self.now.node))))
          ∙ t.rest;
    }

pub returns-clause-is : goal.returns-clause-is
returns-clause-is c =
    sym (last (rects_of c.args.self.now.node) c.args.self.now.new c.loop-i.best.at c.loop-i.i
    (omega (arith, c.loop-i-test.false, c.count-i-end.ensures.is, length_rects (entries_of c.args.self.now.node))))
    ∙ c.loop-i.invariant.rest
