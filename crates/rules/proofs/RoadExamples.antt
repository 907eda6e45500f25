-- Req 05 on examples of our own, beside example 8: each is a choice between two that only one comparison of half perimeters decides. In one
-- table under one statement.
use Rattle.std.specs.Prelude.{◌≡◌, refl, List, [], ◌∷◌, map, ℕ, suc, ◌*◌, ℤ, pos, negsuc, cond}
use Rattle.rules.specs.declared.Rect.{Rect}
use Rattle.rules.specs.Lists.{up_from}
use Rattle.rules.specs.Geometry.{area, enlargement, waste, half_perimeter, half_enlargement, half_waste}
use Rattle.rules.specs.Choose.{choose_child}
use Rattle.rules.specs.Split.{pick_seeds, preference, half_preference, most_preferring, second_first}
use Rattle.rules.specs.Computed.{document01}
use Rattle.rules.specs.Histories.{box}

-- the numbers that the rules compare, in their order, of the two in question; and the entry, pair of entries or group that is taken, counted
-- from 1
pub record Decision : Type 0 where
  pub one : List ℤ
  pub other : List ℤ
  pub taken : List ℕ

-- what the rules say, and what Req 05 says
pub record Road : Type 0 where
  pub rules : Decision
  pub request : Decision

-- ---- the four choices

-- the numbers of a node or a group with this cover, for a rectangle
abbrev growth : Rect → Rect → List ℤ
growth cover r = enlargement cover r ∷ half_enlargement cover r ∷ area cover ∷ half_perimeter cover ∷ []

abbrev child : Rect → Rect → Rect → Decision
child a b new = record { one = growth a new; other = growth b new; taken = suc (choose_child (a ∷ b ∷ []) new) ∷ [] }

-- two pairs of the nine, and the seeds
abbrev seeded : List Rect → Rect → Rect → Rect → Rect → Decision
seeded rs a b c d =
    record {
      one = waste a b ∷ half_waste a b ∷ [];
      other = waste c d ∷ half_waste c d ∷ [];
      taken = suc (pick_seeds rs).first ∷ suc (pick_seeds rs).second ∷ [];
    }

-- two entries left, and the next of them, with groups of these covers
abbrev next : Rect → Rect → Rect → Rect → Decision
next a b r s =
    record {
      one = preference a b r ∷ half_preference a b r ∷ [];
      other = preference a b s ∷ half_preference a b s ∷ [];
      taken = suc (most_preferring (r ∷ s ∷ []) a b (0 ∷ 1 ∷ [])) ∷ [];
    }

-- the group that r joins, of two with these covers and three entries each
abbrev group : Rect → Rect → Rect → Decision
group a b r = record { one = growth a r; other = growth b r; taken = cond (second_first a b 3 3 r) 2 1 ∷ [] }

-- ---- the table

abbrev point : ℕ → Rect
point x = box x 0 x 0

-- a road of 100 mm, twice, and seven sensors along it
abbrev road : Rect
road = box 0 0 100 0

abbrev sensors : List Rect
sensors = map (λ (i : ℕ). point (10 * i)) (up_from 1 7)

-- as large as each other, and not of the same shape
abbrev long : Rect
long = box 0 0 20 5

abbrev square : Rect
square = box 0 0 10 10

abbrev pub roads : List Road
roads =
    -- ChooseLeaf: the second road is nearer
    record {
      rules = child (box 0 0 10 0) (box 20 0 30 0) (point 18);
      request = record { one = pos 0 ∷ pos 8 ∷ pos 0 ∷ pos 10 ∷ []; other = pos 0 ∷ pos 2 ∷ pos 0 ∷ pos 10 ∷ []; taken = 2 ∷ [] };
    }
    -- ChooseLeaf: what is new lies in both; the second is less long
    ∷ record {
      rules = child long square (box 1 1 2 2);
      request = record { one = pos 0 ∷ pos 0 ∷ pos 100 ∷ pos 25 ∷ []; other = pos 0 ∷ pos 0 ∷ pos 100 ∷ pos 20 ∷ []; taken = 2 ∷ [] };
    }
    -- ChooseLeaf: the enlargement in half perimeter is asked before the area, so it is the larger one
    ∷ record {
      rules = child (box 0 0 10 0) (box 12 0 30 10) (point 20);
      request = record { one = pos 0 ∷ pos 10 ∷ pos 0 ∷ pos 10 ∷ []; other = pos 0 ∷ pos 0 ∷ pos 180 ∷ pos 28 ∷ []; taken = 2 ∷ [] };
    }
    -- PickSeeds: the two that are furthest from each other; d of the two roads is negative
    ∷ record {
      rules = seeded (road ∷ road ∷ sensors) road road (point 10) (point 70);
      request = record { one = pos 0 ∷ negsuc 99 ∷ []; other = pos 0 ∷ pos 60 ∷ []; taken = 3 ∷ 9 ∷ [] };
    }
    -- PickNext: the one that is nearer to one of the groups
    ∷ record {
      rules = next (point 0) (point 80) (point 30) (point 70);
      request = record { one = pos 0 ∷ pos 20 ∷ []; other = pos 0 ∷ pos 60 ∷ []; taken = 2 ∷ [] };
    }
    -- the group: the second is nearer
    ∷ record {
      rules = group (box 0 0 10 0) (box 70 0 80 0) (point 60);
      request = record { one = pos 0 ∷ pos 50 ∷ pos 0 ∷ pos 10 ∷ []; other = pos 0 ∷ pos 10 ∷ pos 0 ∷ pos 10 ∷ []; taken = 2 ∷ [] };
    }
    -- the group: what joins lies in both; the second is less long
    ∷ record {
      rules = group long square (box 1 1 2 2);
      request = record { one = pos 0 ∷ pos 0 ∷ pos 100 ∷ pos 25 ∷ []; other = pos 0 ∷ pos 0 ∷ pos 100 ∷ pos 20 ∷ []; taken = 2 ∷ [] };
    }
    -- the group: the enlargement in half perimeter is asked before the area here too
    ∷ record {
      rules = group (box 0 0 10 0) (box 12 0 30 10) (point 20);
      request = record { one = pos 0 ∷ pos 10 ∷ pos 0 ∷ pos 10 ∷ []; other = pos 0 ∷ pos 0 ∷ pos 180 ∷ pos 28 ∷ []; taken = 2 ∷ [] };
    }
    ∷ []

-- Req 05: the rules say what the request says, in every row
pub roads_say : map (λ (e : Road). e.rules) roads ≡ map (λ (e : Road). e.request) roads
unfolding document01
roads_say = refl
