-- `split::second_first` meets its contract: five rules, each asked where the one before it ties.
use mathlib.Core.Path.{refl}
use Rattle.rules.specs.Split.{second_first}
use Rattle.rules_laws.proofs.Rules.{as_pos, decides, ties}
use Rattle.split.proofs.second_first.Goals as goal

pub returns-then-growTwo-growOne : goal.returns-then-growTwo-growOne
unfolding second_first
returns-then-growTwo-growOne c =
    decides (as_pos c.requires.grow_one_value.1 c.requires.grow_one_value.0) _ c.if-growTwo-growOne.true

pub returns-then-halfTwo-halfOne : goal.returns-then-halfTwo-halfOne
unfolding second_first
returns-then-halfTwo-halfOne c =
    ties (as_pos c.requires.grow_one_value.1 c.requires.grow_one_value.0) _ c.if-growTwo-growOne.false
    (decides (as_pos c.half_enlargement-halfTwo.ensures c.half_enlargement-halfOne.ensures) _ c.if-halfTwo-halfOne.true)

pub returns-then-two-one : goal.returns-then-two-one
unfolding second_first
returns-then-two-one c =
    ties (as_pos c.requires.grow_one_value.1 c.requires.grow_one_value.0) _ c.if-growTwo-growOne.false
    (ties (as_pos c.half_enlargement-halfTwo.ensures c.half_enlargement-halfOne.ensures) _ c.if-halfTwo-halfOne.false
    (decides (as_pos c.args.two.now.cover.right c.args.one.now.cover.right) _ c.if-two-one.true))

pub returns-then-aroundTwo-aroundOne : goal.returns-then-aroundTwo-aroundOne
unfolding second_first
returns-then-aroundTwo-aroundOne c =
    ties (as_pos c.requires.grow_one_value.1 c.requires.grow_one_value.0) _ c.if-growTwo-growOne.false
    (ties (as_pos c.half_enlargement-halfTwo.ensures c.half_enlargement-halfOne.ensures) _ c.if-halfTwo-halfOne.false
    (ties (as_pos c.args.two.now.cover.right c.args.one.now.cover.right) _ c.if-two-one.false
    (decides (as_pos c.half_perimeter-aroundTwo.ensures c.half_perimeter-aroundOne.ensures) _ c.if-aroundTwo-aroundOne.true)))

pub returns : goal.returns
unfolding second_first
returns c =
    ties (as_pos c.requires.grow_one_value.1 c.requires.grow_one_value.0) _ c.if-growTwo-growOne.false
    (ties (as_pos c.half_enlargement-halfTwo.ensures c.half_enlargement-halfOne.ensures) _ c.if-halfTwo-halfOne.false
    (ties (as_pos c.args.two.now.cover.right c.args.one.now.cover.right) _ c.if-two-one.false
    (ties (as_pos c.half_perimeter-aroundTwo.ensures c.half_perimeter-aroundOne.ensures) _ c.if-aroundTwo-aroundOne.false refl)))
