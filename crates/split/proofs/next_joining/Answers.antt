-- `split::next_joining` meets its contract: forced into group 1, forced into group 2, or by
-- PickNext and the choice of group.
use mathlib.Core.Path.{refl, sym, ◌∙◌}
use native.Mathlib.Omega.{arith}
use Rattle.split.specs.State.{rects_of}
use Rattle.split.proofs.Nine.{rect_is}
use Rattle.split.proofs.Preferences.{grows_at}
use Rattle.split.proofs.next_joining.Goals as goal

pub returns-then-one-n-eq-LEAST : goal.returns-then-one-n-eq-LEAST
returns-then-one-n-eq-LEAST c =
    let all = (rw c.count-n.ensures at c.if-one-n-eq-LEAST.true) in
    record {
      there = c.requires.some;
      one = λ q. refl;
      two = λ p q. absurd (p all);
      place = λ p q. absurd (p all);
      group = λ p q. absurd (p all);
    }

pub returns-then-two-n-eq-LEAST : goal.returns-then-two-n-eq-LEAST
returns-then-two-n-eq-LEAST c =
    let all = (rw c.count-n.ensures at c.if-two-n-eq-LEAST.true) in
    record {
      there = c.requires.some;
      one = λ q. absurd ((rw c.count-n.ensures at c.if-one-n-eq-LEAST.false) q);
      two = λ n q. refl;
      place = λ n q. absurd (q all);
      group = λ n q. absurd (q all);
    }

pub second_first-requires-clause-grow_one_value : goal.second_first-requires-clause-grow_one_value
second_first-requires-clause-grow_one_value c =
    let rs = rects_of c.args.nine.now in
    let x = c.args.one.now in
    let y = c.args.two.now in
    let left = c.args.left.now in
    rw (
      rect_is c.args.nine.now c.at-place.result c.index-nine-place.result (omega (arith, c.told-nine, c.at-place.ensures.inside)),
      c.at-place.ensures.is,
    ) (
      grows_at rs x.cover.rect x.grows left c.requires.assigned.grows_one c.pick_next-at.result c.pick_next-at.ensures.there,
      grows_at rs y.cover.rect y.grows left c.requires.assigned.grows_two c.pick_next-at.result c.pick_next-at.ensures.there,
    )

pub returns-then-second_first : goal.returns-then-second_first
returns-then-second_first c =
    record {
      there = c.pick_next-at.ensures.there;
      one = λ e. absurd ((rw c.count-n.ensures at c.if-one-n-eq-LEAST.false) e);
      two = λ n e. absurd ((rw c.count-n.ensures at c.if-two-n-eq-LEAST.false) e);
      place = λ n m. c.pick_next-at.ensures.is;
      group = λ n m. sym c.if-second_first.true
          ∙ (rw (
            rect_is c.args.nine.now c.at-place.result c.index-nine-place.result (omega (arith, c.told-nine, c.at-place.ensures.inside)),
            c.at-place.ensures.is,
          ) at c.second_first.ensures);
    }

pub returns-else-second_first : goal.returns-else-second_first
returns-else-second_first c =
    record {
      there = c.pick_next-at.ensures.there;
      one = λ e. absurd ((rw c.count-n.ensures at c.if-one-n-eq-LEAST.false) e);
      two = λ n e. absurd ((rw c.count-n.ensures at c.if-two-n-eq-LEAST.false) e);
      place = λ n m. c.pick_next-at.ensures.is;
      group = λ n m. sym c.if-second_first.false
          ∙ (rw (
            rect_is c.args.nine.now c.at-place.result c.index-nine-place.result (omega (arith, c.told-nine, c.at-place.ensures.inside)),
            c.at-place.ensures.is,
          ) at c.second_first.ensures);
    }
