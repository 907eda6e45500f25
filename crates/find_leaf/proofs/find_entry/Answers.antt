-- Where no entry has the number, none is the pair; else the first that is.
use mathlib.Core.Path.{sym, ◌∙◌}
use native.Mathlib.Omega.{arith}
use Rattle.rules.specs.Layout.{read}
use Rattle.rules_laws.proofs.Bools.{not_true}
use Rattle.find_leaf.proofs.Leaf.{leaf_unnumbered, ahead_first, ahead_here, ahead_next, ahead_end}
use Rattle.find_leaf.proofs.find_entry.Goals as goal

pub returns-then-not-has_number : goal.returns-then-not-has_number
returns-then-not-has_number c =
    leaf_unnumbered (read c.args.node.now.words.now) c.args.r c.args.node.now.slot
    (sym c.has_number.ensures ∙ not_true _ c.if-not-has_number.true-raw)

pub loop-at-init : goal.loop-at-init
loop-at-init c =
    ahead_first (read c.args.node.now.words.now) c.args.r c.args.node.now.slot c.count-n.ensures.is c.count-n.ensures.most

pub entry-requires : goal.entry-requires
entry-requires c = omega (arith, c.loop-at-test.true, c.loop-at.invariant.size)

pub overflow_add-result : goal.overflow_add-result
overflow_add-result c =
    omega (arith, c.loop-at-test.true, c.loop-at.invariant.few)

pub returns-then-exact_pair : goal.returns-then-exact_pair
returns-then-exact_pair c =
    ahead_here (read c.args.node.now.words.now) c.args.r c.args.node.now.slot c.loop-at.invariant c.loop-at-test.true
    (sym (rw (c.record_of.ensures, c.entry.ensures) at c.exact_pair.ensures) ∙ c.if-exact_pair.true)

pub loop-at-preserved : goal.loop-at-preserved
loop-at-preserved c =
    ahead_next (read c.args.node.now.words.now) c.args.r c.args.node.now.slot c.loop-at.invariant c.loop-at-test.true
    (sym (rw (c.record_of.ensures, c.entry.ensures) at c.exact_pair.ensures) ∙ c.if-exact_pair.false)

pub returns : goal.returns
returns c =
    ahead_end (read c.args.node.now.words.now) c.args.r c.args.node.now.slot c.loop-at.invariant c.loop-at-test.false
