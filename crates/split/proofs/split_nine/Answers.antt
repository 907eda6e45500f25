-- `split::split_nine` meets its contract: the seeds open the groups, the others join them, and the
-- rectangles measured are the nine.
use mathlib.Core.Path.{ap, subst, ◌∙◌}
use mathlib.Core.List.{List}
use native.Mathlib.Omega.{arith}
use lib.ListN.{length}
use Rattle.rules.specs.declared.Rect.{Rect}
use Rattle.rules.specs.Split as S
use Rattle.split.specs.declared.growing.Group.{Group}
use Rattle.split.specs.declared.measured.Measured.{Measured}
use Rattle.split.specs.State.{rects_of, joined, GroupsWhole}
use Rattle.split.proofs.Starts.{started, ended_one, ended_two, ended_whole}
use Rattle.split.proofs.split_nine.Goals as goal

pub loop-nine-init : goal.loop-nine-init
loop-nine-init c =
    let rs = rects_of c.measured_nine-nine.result in
    let x = c.seed-one.ensures in
    let y = c.seed-two.ensures in
    let one = c.measure.ensures in
    let two = c.measure-2.ensures in
    started rs c.pick_seeds-seeds.result.first c.pick_seeds-seeds.result.second
    (ap (λ (ms : List Rect). length ms) c.measured_nine-nine.ensures ∙ c.requires.nine) c.pick_seeds-seeds.ensures.is
    c.measure.new.self c.measure-2.new.self c.beside-left.result (ap joined one.group ∙ x.joined) (ap joined two.group ∙ y.joined)
    c.beside-left.ensures.is c.beside-left.ensures.count (ap (λ (g : Group). g.count) one.group ∙ x.count)
    (ap (λ (g : Group). g.count) two.group ∙ y.count)
    (rw (one.group, ap (λ (m : Measured). m.rect) one.cover) x.ok) (rw (two.group, ap (λ (m : Measured). m.rect) two.cover) y.ok)
    (rw (ap (λ (m : Measured). m.rect) one.cover) one.grows) (rw (ap (λ (m : Measured). m.rect) two.cover) two.grows)

pub returns-clause-one : goal.returns-clause-one
returns-clause-one c =
    ended_one c.loop-nine.invariant (omega (arith, c.loop-nine-test.false, c.count.ensures))
    ∙ ap (λ (rs : List Rect). (S.quadratic_groups rs).one) c.measured_nine-nine.ensures

pub returns-clause-two : goal.returns-clause-two
returns-clause-two c =
    ended_two c.loop-nine.invariant (omega (arith, c.loop-nine-test.false, c.count.ensures))
    ∙ ap (λ (rs : List Rect). (S.quadratic_groups rs).two) c.measured_nine-nine.ensures

pub returns-clause-whole : goal.returns-clause-whole
returns-clause-whole c =
    subst (λ (rs : List Rect). GroupsWhole rs (record { one = c.loop-nine.one.group; two = c.loop-nine.two.group; coverTwo = c.loop-nine.two.cover.rect }))
    c.measured_nine-nine.ensures (ended_whole c.loop-nine.invariant (omega (arith, c.loop-nine-test.false, c.count.ensures)))
