-- A turn of `assign`: the place and the group are those of the rules, so what the groups come to
-- stays the same; and the structs stand for the groups again.
use mathlib.Core.Path.{◌≡◌, refl, sym, ap, ap₂, subst⁻¹, ◌∙◌}
use mathlib.Core.Bool.{false}
use mathlib.Core.List.{List, [], ◌∷◌, ◌++◌}
use Prim.Native.Nat.{ℕ, suc, ◌+◌, ◌-◌, ◌≤◌, ◌<◌}
use native.Mathlib.Omega.{arith}
use native.Mathlib.Decide.{ℕ_discrete}
use lib.ListN.{length, get_or}
use lib.Seq.{length-take-le}
use lib.IntN.{pos}
use Rattle.rules.specs.declared.Rect.{Rect}
use Rattle.rules.specs.Lists.{without}
use Rattle.rules.specs.Geometry.{enlargement}
use Rattle.rules.specs.Choose.{rect_from}
use Rattle.rules.specs.Split as S
use Rattle.rules_laws.proofs.Orders.{never_both}
use Rattle.rules_laws.proofs.Parts.{length_without}
use Rattle.rules_laws.proofs.Places.{each_without}
use Rattle.split.specs.declared.growing.Growing.{Growing}
use Rattle.split.specs.declared.left.Left.{Left}
use Rattle.split.specs.declared.Joining.TheVariants.{One, Two}
use Rattle.split.specs.State.{standing, Grows, joined, GroupOk, groups_of, Assigned, position, joins_two, Next, ends}
use Rattle.split.proofs.Lefts.{leaving_at, first_left}
use Rattle.split.proofs.Preferences.{size}
use Rattle.split.proofs.Steps.{needs_not, next_one, next_two, forced_one, forced_two}

module _ {rs : List Rect} {x y : Growing} {left : Left} (o : Assigned rs x y left) (h : 0 < left.count) where
  abbrev g : S.Groups
  g = groups_of x y left

  abbrev n : ℕ
  n = left.count

  abbrev places : List ℕ
  places = standing left

  size_one : length (joined x.group) ≡ x.group.count
  size_one = length-take-le x.group.count x.group.places (omega (arith, o.all, x.long.0))

  size_two : length (joined y.group) ≡ y.group.count
  size_two = length-take-le y.group.count y.group.places (omega (arith, o.all, y.long.0))

  less : n ≡ suc (n - 1)
  less = omega arith

  -- the first of those left, and the others
  left_is : g.left ≡ get_or places 0 0 ∷ without 0 places
  left_is = first_left places (omega (arith, size left))

  left_rest : S.leaving (get_or places 0 0) g.left ≡ without 0 places
  left_rest = leaving_at places 0 (omega (arith, size left)) left.stored

  rest_size : length (without 0 places) ≡ n - 1
  rest_size = omega (arith, length_without places 0 (omega (arith, size left)), size left)

  -- PickNext and the choice of group, of the covers that are kept
  next_is : (k : ℕ) → k ≡ S.most_preferring rs x.cover.rect y.cover.rect places
      → k ≡ S.pick_next rs g
  unfolding S.pick_next
  next_is k e = e ∙ ap₂ (λ a b. S.most_preferring rs a b places) o.first.cover o.second.cover

  choice_is : (k : ℕ)
      → S.second_first x.cover.rect y.cover.rect x.group.count y.group.count (rect_from rs k) ≡ S.joins_two rs g k
  unfolding S.joins_two
  choice_is k = rw (size_one, size_two, ← o.first.cover, ← o.second.cover)

  module _ (p : x.group.count + n ≡ 3 → ⊥) (q : y.group.count + n ≡ 3 → ⊥) where
    not_one : S.needs_all g.one g.left ≡ false
    not_one = needs_not (joined x.group) places (λ e. p (sym (ap₂ ◌+◌ size_one (size left)) ∙ e))

    not_two : S.needs_all g.two g.left ≡ false
    not_two = needs_not (joined y.group) places (λ e. q (sym (ap₂ ◌+◌ size_two (size left)) ∙ e))

  abbrev rule : ℕ → S.Groups → S.Groups
  rule = S.distribute (S.pick_next rs) (S.joins_two rs)

  first_at : (at : ℕ) → at ≡ 0 → get_or places 0 0 ≡ get_or places at 0
  first_at at z = ap (λ (k : ℕ). get_or places k 0) (sym z)

  one_ends : (at : ℕ) → Next rs x y left (One at)
      → ends rs n g ≡ ends rs (n - 1) (S.join_one (get_or places at 0) g)
  unfolding ends
  one_ends at t = ap (λ (k : ℕ). rule k g) less ∙ go (ℕ_discrete (x.group.count + n) 3) (ℕ_discrete (y.group.count + n) 3)
    where
      go : Dec (x.group.count + n ≡ 3) → Dec (y.group.count + n ≡ 3)
          → rule (suc (n - 1)) g ≡ rule (n - 1) (S.join_one (get_or places at 0) g)
      go (yes p) q =
          forced_one (S.pick_next rs) (S.joins_two rs) g (get_or places 0 0) (without 0 places) left_is left_rest (n - 1) rest_size
          (ap₂ ◌+◌ size_one (size left) ∙ p)
          ∙ ap (λ (k : ℕ). rule (n - 1) (S.join_one k g)) (first_at at (ap position (t.one p)))
      go (no p) (yes q) = never_both (ap joins_two (t.two p q)) refl
      go (no p) (no q) =
          let next = next_is (get_or places at 0) (t.place p q) in
          next_one (S.pick_next rs) (S.joins_two rs) (n - 1) g (not_one p q) (not_two p q)
          (sym (t.group p q ∙ choice_is (get_or places at 0) ∙ ap (S.joins_two rs g) next))
          ∙ ap (λ (k : ℕ). rule (n - 1) (S.join_one k g)) (sym next)

  two_ends : (at : ℕ) → Next rs x y left (Two at)
      → ends rs n g ≡ ends rs (n - 1) (S.join_two (get_or places at 0) g)
  unfolding ends
  two_ends at t = ap (λ (k : ℕ). rule k g) less ∙ go (ℕ_discrete (x.group.count + n) 3) (ℕ_discrete (y.group.count + n) 3)
    where
      go : Dec (x.group.count + n ≡ 3) → Dec (y.group.count + n ≡ 3)
          → rule (suc (n - 1)) g ≡ rule (n - 1) (S.join_two (get_or places at 0) g)
      go (yes p) q = never_both refl (ap joins_two (t.one p))
      go (no p) (yes q) =
          forced_two (S.pick_next rs) (S.joins_two rs) g (get_or places 0 0) (without 0 places) left_is left_rest (n - 1) rest_size
          (ap₂ ◌+◌ size_two (size left) ∙ q) (omega (arith, size_one, o.all))
          ∙ ap (λ (k : ℕ). rule (n - 1) (S.join_two k g)) (first_at at (ap position (t.two p q)))
      go (no p) (no q) =
          let next = next_is (get_or places at 0) (t.place p q) in
          next_two (S.pick_next rs) (S.joins_two rs) (n - 1) g (not_one p q) (not_two p q)
          (sym (t.group p q ∙ choice_is (get_or places at 0) ∙ ap (S.joins_two rs g) next))
          ∙ ap (λ (k : ℕ). rule (n - 1) (S.join_two k g)) (sym next)

  -- ---- and the structs

  module _ (at : ℕ) (there : at < n) (after : Left) (rest : standing after ≡ without at places) (fewer : after.count + 1 ≡ n) where
    fewer_is : after.count ≡ n - 1
    fewer_is = omega arith

    now_left : standing after ≡ S.leaving (get_or places at 0) places
    now_left = rest ∙ sym (leaving_at places at (omega (arith, there, size left)) left.stored)

    still : (cover : Rect) (grows : List ℕ) → Grows rs cover places grows
        → Grows rs cover (standing after) grows
    still cover grows w =
        subst⁻¹ (λ (ps : List ℕ). Grows rs cover ps grows) rest (each_without (λ k. pos (get_or grows k 0) ≡ enlargement cover (rect_from rs k)) places at w)

    module _ (z : Growing) (ok : GroupOk rs z.group z.cover.rect) (more : Grows rs z.cover.rect (standing after) z.grows) where
      module _ (t : Next rs x y left (One at)) (last : joined z.group ≡ joined x.group ++ get_or places at 0 ∷ [])
          (count : z.group.count ≡ x.group.count + 1) where
        pub one_assigned : Assigned rs z y after
        one_assigned = record {
          all = omega (arith, o.all, count);
          fill_one = omega (arith, o.fill_one, count);
          fill_two = go (ℕ_discrete (y.group.count + n) 3);
          first = ok;
          second = o.second;
          grows_one = more;
          grows_two = still y.cover.rect y.grows o.grows_two;
        }
          where
            go : Dec (y.group.count + n ≡ 3) → 3 ≤ y.group.count + after.count
            go (yes q) = never_both (ap joins_two (t.two (λ p. omega (arith, o.all)) q)) refl
            go (no q) = omega (arith, o.fill_two)

        pub one_stays : ends rs after.count (groups_of z y after) ≡ ends rs n g
        unfolding S.join_one
        one_stays =
            ap₂ (ends rs) fewer_is (λ i. record { one = last i; two = joined y.group; left = now_left i }) ∙ sym (one_ends at t)

      module _ (t : Next rs x y left (Two at)) (last : joined z.group ≡ joined y.group ++ get_or places at 0 ∷ [])
          (count : z.group.count ≡ y.group.count + 1) where
        pub two_assigned : Assigned rs x z after
        two_assigned = record {
          all = omega (arith, o.all, count);
          fill_one = go (ℕ_discrete (x.group.count + n) 3);
          fill_two = omega (arith, o.fill_two, count);
          first = o.first;
          second = ok;
          grows_one = still x.cover.rect x.grows o.grows_one;
          grows_two = more;
        }
          where
            go : Dec (x.group.count + n ≡ 3) → 3 ≤ x.group.count + after.count
            go (yes q) = never_both refl (ap joins_two (t.one q))
            go (no q) = omega (arith, o.fill_one)

        pub two_stays : ends rs after.count (groups_of x z after) ≡ ends rs n g
        unfolding S.join_two
        two_stays =
            ap₂ (ends rs) fewer_is (λ i. record { one = joined x.group; two = last i; left = now_left i }) ∙ sym (two_ends at t)
