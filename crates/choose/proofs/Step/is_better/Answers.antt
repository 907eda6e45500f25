-- `Step::is_better` meets its contract: four rules, each asked where the one before it ties.
use Rattle.rules.specs.Choose.{takes_better}
use Rattle.rules_laws.proofs.Rules.{as_pos, decides, ties, last_rule}
use Rattle.choose.proofs.Turns.{in_node}
use Rattle.choose.proofs.Step.is_better.Goals as goal

pub returns-then-a-b : goal.returns-then-a-b
unfolding takes_better
returns-then-a-b c =
    decides (as_pos c.requires.a_measured.grows c.requires.b_measured.grows) _ c.if-a-b.true

pub rect-x-requires : goal.rect-x-requires
rect-x-requires c =
    in_node c.args.self.now.node c.requires.a_measured.there

pub rect-y-requires : goal.rect-y-requires
rect-y-requires c =
    in_node c.args.self.now.node c.requires.b_measured.there

pub returns-then-p-q : goal.returns-then-p-q
unfolding takes_better
returns-then-p-q c =
    ties (as_pos c.requires.a_measured.grows c.requires.b_measured.grows) _ c.if-a-b.false
    (decides (as_pos (rw c.rect-x.ensures at c.half_enlargement-p.ensures) (rw c.rect-y.ensures at c.half_enlargement-q.ensures)) _
    c.if-p-q.true)

pub returns-then-a-b-2 : goal.returns-then-a-b-2
unfolding takes_better
returns-then-a-b-2 c =
    ties (as_pos c.requires.a_measured.grows c.requires.b_measured.grows) _ c.if-a-b.false
    (ties (as_pos (rw c.rect-x.ensures at c.half_enlargement-p.ensures) (rw c.rect-y.ensures at c.half_enlargement-q.ensures)) _ c.if-p-q.false
    (decides (as_pos c.requires.a_measured.size c.requires.b_measured.size) _ c.if-a-b-2.true))

pub returns : goal.returns
unfolding takes_better
returns c =
    ties (as_pos c.requires.a_measured.grows c.requires.b_measured.grows) _ c.if-a-b.false
    (ties (as_pos (rw c.rect-x.ensures at c.half_enlargement-p.ensures) (rw c.rect-y.ensures at c.half_enlargement-q.ensures)) _ c.if-p-q.false
    (ties (as_pos c.requires.a_measured.size c.requires.b_measured.size) _ c.if-a-b-2.false
    (last_rule (as_pos (rw c.rect-x.ensures at c.half_perimeter.ensures.is) (rw c.rect-y.ensures at c.half_perimeter-2.ensures.is)))))
