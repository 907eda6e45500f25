-- Those that count so far, and what the test leaves of the places ahead, are all that it leaves.
use mathlib.Core.Path.{ap, ◌∙◌}
use native.Mathlib.Omega.{arith}
use Rattle.rules.specs.declared.Rect.{Rect}
use Rattle.rules.specs.Compare.{lies_in}
use Rattle.rules.specs.Pool.{entry_from, entry_at}
use Rattle.layout_laws.proofs.Parts.{rect_entry}
use Rattle.pool.specs.Reading.{entries_of}
use Rattle.find_leaf.specs.State.{holding}
use Rattle.find_leaf.proofs.Gather.{gather_first, gather_on, gathered_all}
use Rattle.find_leaf.proofs.hits_in.Goals as goal

pub loop-i-init : goal.loop-i-init
loop-i-init c = gather_first _ _ _ c.told-places (omega (arith, c.count-i-end.ensures.is, c.count-i-end.ensures.most))

pub loop-i-preserved : goal.loop-i-preserved
unfolding entry_at entry_from
loop-i-preserved c =
    let r = c.rect.ensures ∙ rect_entry (entries_of c.args.node.now) c.loop-i.i in
    gather_on c.loop-i.invariant (omega (arith, c.loop-i-test.true, c.count-i-end.ensures.is)) c.lies_in.result
    (c.lies_in.ensures ∙ ap (λ (a : Rect). lies_in c.args.r a) r) c.one_if-count.result c.one_if-count.ensures.is

pub returns : goal.returns
unfolding holding
returns c = gathered_all c.loop-i.invariant (omega (arith, c.loop-i-test.false, c.count-i-end.ensures.is))
