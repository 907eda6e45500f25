-- `Step::choose` meets its contract: a turn keeps the one with the less enlargement, or hands a tie on.
use mathlib.Core.Path.{sym, ◌∙◌}
use Prim.Native.Nat.{ℕ, ◌<◌}
use lib.Dec.{ltb}
use lib.ListN.{length}
use native.Mathlib.Omega.{arith}
use Rattle.layout_laws.proofs.Parts.{length_rects}
use Rattle.rules_laws.proofs.Rules.{chosen}
use Rattle.pool.specs.Reading.{entries_of, rects_of}
use Rattle.choose.proofs.Turns.{step_least, least_is, first, last}
use Rattle.choose.proofs.Step.choose.Goals as goal

pub loop-i-init : goal.loop-i-init
loop-i-init c =
    let some = c.args.self.now.choosable.some in
    record {
      there = some;
      is = c.growth-least.ensures;
      rest = first (rects_of c.args.self.now.node) c.args.self.now.new some;
    }

pub growth-grows-requires : goal.growth-grows-requires
growth-grows-requires c =
    omega (arith, c.loop-i-test.true, c.count-i-end.ensures.is, length_rects (entries_of c.args.self.now.node))

pub choose_tied-requires-clause-from_in_bounds : goal.choose_tied-requires-clause-from_in_bounds
choose_tied-requires-clause-from_in_bounds c =
    omega (arith, c.loop-i-test.true, c.count-i-end.ensures.is, length_rects (entries_of c.args.self.now.node))

pub loop-i-preserved : goal.loop-i-preserved
loop-i-preserved c =
    let rs = rects_of c.args.self.now.node in
    let new = c.args.self.now.new in
    let t = c.loop-i.invariant in
    let i = c.loop-i.i in
    let inside : i < length rs =
    omega (arith, c.loop-i-test.true, c.count-i-end.ensures.is, length_rects (entries_of c.args.self.now.node)) in
    let grows = c.growth-grows.ensures in
    let differ = c.if-grows-least.false in
    rw (c.pick-at.ensures, c.pick-least.ensures)
    record {
      there = chosen (λ (k : ℕ). k < length rs) (ltb c.growth-grows.result c.loop-i.least) inside t.there;
      is = least_is rs new c.loop-i.at i c.loop-i.least c.growth-grows.result t.is grows differ;
      rest = sym (step_least rs new c.loop-i.at i c.loop-i.least c.growth-grows.result t.is grows differ inside) ∙ t.rest;
    }

pub returns-clause-is : goal.returns-clause-is
returns-clause-is c =
    sym (last (rects_of c.args.self.now.node) c.args.self.now.new c.loop-i.at c.loop-i.i
    (omega (arith, c.loop-i-test.false, c.count-i-end.ensures.is, length_rects (entries_of c.args.self.now.node))))
    ∙ c.loop-i.invariant.rest
