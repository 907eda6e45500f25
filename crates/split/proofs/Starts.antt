-- The groups with which a split starts, and those with which it ends.
use mathlib.Core.Path.{◌≡◌, sym, ap, ap₂, ◌∙◌}
use mathlib.Core.List.{List, [], ◌∷◌}
use Prim.Native.Nat.{ℕ}
use native.Mathlib.Omega.{arith}
use lib.ListN.{length}
use Rattle.rules.specs.declared.Rect.{Rect}
use Rattle.rules.specs.Lists.{up_from}
use Rattle.rules.specs.Split as S
use Rattle.split.specs.declared.growing.Growing.{Growing}
use Rattle.split.specs.declared.left.Left.{Left}
use Rattle.split.specs.State.{standing, Grows, joined, GroupOk, groups_of, Assigned, ends, GroupsWhole}
use Rattle.split.proofs.Steps.{none}

-- all nine are in a group or left, and what the groups come to is what the definition says
pub record Turn (rs : List Rect) (x y : Growing) (left : Left) : Type 0 where
  pub assigned : Assigned rs x y left
  pub rest : ends rs left.count (groups_of x y left) ≡ S.quadratic_groups rs

-- the seeds open the groups
module _ (rs : List Rect) (i j : ℕ) (nine : length rs ≡ 9) (seeds : S.seeds i j ≡ S.pick_seeds rs) (x y : Growing) (left : Left)
    (a : joined x.group ≡ i ∷ []) (b : joined y.group ≡ j ∷ []) (l : standing left ≡ S.leaving j (S.leaving i (up_from 0 9))) where
  here : groups_of x y left ≡ S.opening (length rs) (S.pick_seeds rs)
  unfolding S.opening
  here = (λ k. record { one = a k; two = b k; left = l k }) ∙ ap₂ S.opening (sym nine) seeds

  pub started : left.count ≡ 7 → x.group.count ≡ 1 → y.group.count ≡ 1
      → GroupOk rs x.group x.cover.rect → GroupOk rs y.group y.cover.rect
      → Grows rs x.cover.rect (standing left) x.grows → Grows rs y.cover.rect (standing left) y.grows → Turn rs x y left
  unfolding ends S.quadratic_groups
  started c m n p q g h = record {
    assigned = record {
      all = omega (arith, c, m, n);
      fill_one = omega (arith, c);
      fill_two = omega (arith, c);
      first = p;
      second = q;
      grows_one = g;
      grows_two = h;
    };
    rest = ap₂ (S.distribute (S.pick_next rs) (S.joins_two rs)) (omega (arith, c, nine)) here;
  }

-- .. and what is there once all have joined
module _ {rs : List Rect} {x y : Growing} {left : Left} (u : Turn rs x y left) (z : left.count ≡ 0) where
  ended : groups_of x y left ≡ S.quadratic_groups rs
  unfolding ends
  ended =
      sym (ap (λ (k : ℕ). S.distribute (S.pick_next rs) (S.joins_two rs) k (groups_of x y left)) z
      ∙ none (S.pick_next rs) (S.joins_two rs) (groups_of x y left))
      ∙ u.rest

  pub ended_one : joined x.group ≡ (S.quadratic_groups rs).one
  ended_one = ap (λ (g : S.Groups). g.one) ended

  pub ended_two : joined y.group ≡ (S.quadratic_groups rs).two
  ended_two = ap (λ (g : S.Groups). g.two) ended

  pub ended_whole : GroupsWhole rs (record { one = x.group; two = y.group; coverTwo = y.cover.rect })
  ended_whole =
      let o = u.assigned in
      record {
        all = omega (arith, o.all);
        ones = omega (arith, o.fill_one);
        twos = omega (arith, o.fill_two);
        one9 = x.long.0;
        two9 = y.long.0;
        in_one = o.first.inside;
        in_two = o.second.inside;
        after_one = o.first.after;
        after_two = o.second.after;
        coverTwo = o.second.cover;
      }
