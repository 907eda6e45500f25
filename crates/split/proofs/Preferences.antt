-- PickNext on the enlargements that are kept: they give the preferences of the places left, and the
-- place found is the one that `most_preferring` finds.
use mathlib.Core.Path.{◌≡◌, refl, sym, ap, ap₂, ◌∙◌}
use mathlib.Core.Bool.{Bool, true, false}
use mathlib.Core.List.{List, map}
use Prim.Native.Nat.{ℕ, ◌+◌, ◌-◌, ◌≤◌, ◌<◌}
use native.Mathlib.Omega.{arith}
use lib.Dec.{ltb}
use lib.ListN.{length, get_or}
use lib.Seq.{length-take-le}
use lib.IntN.{ℤ, nat_abs, pos, sub_ℕ, ◌-ℤ◌}
use borrow.Author.Tests.{ltb-true, ltb-false}
use Rattle.rules.specs.declared.Rect.{Rect}
use Rattle.rules.specs.Lists.{up_from}
use Rattle.rules.specs.Geometry.{enlargement}
use Rattle.rules.specs.Choose.{rect_from, earliest}
use Rattle.rules.specs.Split.{preference, prefers_more, most_preferring}
use Rattle.rules_laws.proofs.Places.{each_at, map_up_from}
use Rattle.rules_laws.proofs.Turns.{up_more}
use Rattle.rules_laws.proofs.Ints.{sub_pos, sub_neg, pos_minus}
use Rattle.split.specs.declared.growing.Growing.{Growing}
use Rattle.split.specs.declared.left.Left.{Left}
use Rattle.split.specs.State.{standing, Grows, Preferring, prefers, Choosing}
use Rattle.split.proofs.Choices.{best_from, best_map}

-- the difference of two naturals, without its sign
abs_minus : (x y : ℕ) → nat_abs (pos x -ℤ pos y) ≡ (x - y) + (y - x)
abs_minus x y = rw (pos_minus x y) (go (ltb x y) refl)
  where
    go : (t : Bool) → ltb x y ≡ t → nat_abs (sub_ℕ x y) ≡ (x - y) + (y - x)
    go true e = let l : x < y = ltb-true x y e in rw (sub_neg x y l) (omega arith)
    go false e = let l : y ≤ x = ltb-false x y e in rw (sub_pos x y l) (omega arith)

pub apart_is : {x y : ℕ} {u v : ℤ} → pos x ≡ u → pos y ≡ v
    → pos ((x - y) + (y - x)) ≡ pos (nat_abs (u -ℤ v))
apart_is {x} {y} p q = ap pos (sym (abs_minus x y) ∙ ap₂ (λ (a b : ℤ). nat_abs (a -ℤ b)) p q)

pub size : (left : Left) → length (standing left) ≡ left.count
size left = length-take-le left.count left.places (omega (arith, left.long, left.few))

-- the enlargement that is kept for the place at i
pub grows_at : (rs : List Rect) (cover : Rect) (grows : List ℕ) (left : Left)
    → Grows rs cover (standing left) grows → (i : ℕ) → i < left.count
    → pos (get_or grows (get_or (standing left) i 0) 0) ≡ enlargement cover (rect_from rs (get_or (standing left) i 0))
grows_at rs cover grows left g i h =
    each_at (λ k. pos (get_or grows k 0) ≡ enlargement cover (rect_from rs k)) (standing left) i 0 (omega (arith, h, size left)) g

pub preferring : {rs : List Rect} {one two : Growing} {left : Left} {i : ℕ}
    → Choosing rs one two left i → (k : ℕ)
    → k ≡ (get_or one.grows (get_or (standing left) i 0) 0 - get_or two.grows (get_or (standing left) i 0) 0)
    + (get_or two.grows (get_or (standing left) i 0) 0 - get_or one.grows (get_or (standing left) i 0) 0)
    → Preferring rs one.cover.rect two.cover.rect left i k
unfolding preference
preferring {rs} {one} {two} {left} {i} c k e = record {
  there = c.there;
  key = ap pos e ∙ apart_is (grows_at rs one.cover.rect one.grows left c.grows_one i c.there) (grows_at rs two.cover.rect two.grows left c.grows_two i c.there);
}

-- of the positions the best is where the place stands that is best of the places
pub place_found : (rs : List Rect) (a b : Rect) (left : Left) → 0 < left.count
    → get_or (standing left) (best_from (prefers rs a b (standing left)) (λ i. i) 0 1 left.count) 0 ≡ most_preferring rs a b (standing left)
unfolding most_preferring earliest
place_found rs a b left h =
    best_map at before (λ i. i) 0 (up_from 1 (left.count - 1))
    ∙ ap (earliest before) (ap (map at) (sym (up_more 0 left.count h) ∙ ap (up_from 0) (omega (arith, size left))) ∙ map_up_from 0 (standing left))
  where
    at : ℕ → ℕ
    at i = get_or (standing left) i 0

    before : ℕ → ℕ → Bool
    before i j = prefers_more a b (rect_from rs i) (rect_from rs j)
