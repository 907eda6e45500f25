-- The quadratic split of nine entries into two groups. A place is an entry's position among the nine, from 0; only the entries'
-- rectangles matter.
use Rattle.std.specs.Prelude.{Bool, true, false, not, List, [], ◌∷◌, ◌++◌, map, ℕ, zero, suc, ◌+◌, ◌-◌, length, ltb, eqb, ℤ, pos, nat_abs, ◌-ℤ◌}
use Rattle.rules.specs.declared.Rect.{Rect}
use Rattle.rules.specs.declared.Entry.{Entry}
use Rattle.rules.specs.Lists.{those, earliest_best, up_from, less_then}
use Rattle.rules.specs.Numbers.{least}
use Rattle.rules.specs.Geometry.{cover_all, area, enlargement, waste, half_perimeter, half_enlargement, half_waste}
use Rattle.rules.specs.Pool.{entry_from, rects}
use Rattle.rules.specs.Choose.{rect_from, earliest}

-- ---- PickSeeds

-- two places, the earlier first
pub record Seeds : Type 0 where
  pub first : ℕ
  pub second : ℕ

abbrev pub seeds : ℕ → ℕ → Seeds
seeds i j = record { first = i; second = j }

-- PS1: every pair of the n places from i on, by "earliest first member, then earliest second"
unfoldable pub pairs_from : ℕ → ℕ → List Seeds
pairs_from i zero = []
pairs_from i (suc n) = map (seeds i) (up_from (suc i) n) ++ pairs_from (suc i) n

-- d of a pair, and its d in half perimeter
unfoldable pub waste_of : List Rect → Seeds → ℤ
waste_of rs a = waste (rect_from rs a.first) (rect_from rs a.second)

unfoldable pub half_waste_of : List Rect → Seeds → ℤ
half_waste_of rs a = half_waste (rect_from rs a.first) (rect_from rs a.second)

-- PS2: "largest d"; Req 05: where it ties, d in half perimeter. The pair a wastes more than b
unfoldable pub wastes_more : List Rect → Seeds → Seeds → Bool
wastes_more rs a b = less_then (waste_of rs b) (waste_of rs a) (less_then (half_waste_of rs b) (half_waste_of rs a) false)

-- PS2: ".. then earliest first member, then earliest second"
unfoldable pub pick_seeds : List Rect → Seeds
pick_seeds rs = earliest_best (wastes_more rs) (seeds 0 1) (pairs_from 0 (length rs))

-- ---- the groups

-- two groups of places, in the order of joining, and the places that have no group yet, in stored order
pub record Groups : Type 0 where
  pub one : List ℕ
  pub two : List ℕ
  pub left : List ℕ

-- the smallest rectangle that holds a group
unfoldable pub cover_group : List Rect → List ℕ → Rect
cover_group rs group = cover_all (map (rect_from rs) group)

-- the places of the list other than i
unfoldable pub leaving : ℕ → List ℕ → List ℕ
leaving i is = those (λ j. not (eqb j i)) is

-- QS1: "The earlier seed opens group 1.", of n places
unfoldable pub opening : ℕ → Seeds → Groups
opening n s = record { one = s.first ∷ []; two = s.second ∷ []; left = leaving s.second (leaving s.first (up_from 0 n)) }

-- "Groups keep the order of joining."
unfoldable pub join_one : ℕ → Groups → Groups
join_one i g = record { one = g.one ++ i ∷ []; two = g.two; left = leaving i g.left }

unfoldable pub join_two : ℕ → Groups → Groups
join_two i g = record { one = g.one; two = g.two ++ i ∷ []; left = leaving i g.left }

-- ".. all remaining join it in order"
unfoldable pub all_join_one : Groups → Groups
all_join_one g = record { one = g.one ++ g.left; two = g.two; left = [] }

unfoldable pub all_join_two : Groups → Groups
all_join_two g = record { one = g.one; two = g.two ++ g.left; left = [] }

-- "if a group's size plus the number remaining is 3"
unfoldable pub needs_all : List ℕ → List ℕ → Bool
needs_all group left = eqb (length group + length left) least

-- QS2 and QS3 for any next entry and any choice of group: at most n more places join, one at a time; "Before each assignment", the test
unfoldable pub distribute : (Groups → ℕ) → (Groups → ℕ → Bool) → ℕ → Groups → Groups
distribute next toTwo zero g = g
distribute next toTwo (suc n) g =
    elim (needs_all g.one g.left) [
      | true ↦ all_join_one g
      | false ↦ elim (needs_all g.two g.left) [
        | true ↦ all_join_two g
        | false ↦ elim (toTwo g (next g)) [
          | true ↦ distribute next toTwo n (join_two (next g) g)
          | false ↦ distribute next toTwo n (join_one (next g) g)
        ]
      ]
    ]

-- ---- PickNext

-- PN1: the "absolute difference of the two enlargements" for r, of groups with covers a and b; and that in half perimeter
unfoldable pub preference : Rect → Rect → Rect → ℤ
preference a b r = pos (nat_abs (enlargement a r -ℤ enlargement b r))

unfoldable pub half_preference : Rect → Rect → Rect → ℤ
half_preference a b r = pos (nat_abs (half_enlargement a r -ℤ half_enlargement b r))

-- PN2: "largest .."; Req 05: where it ties, that in half perimeter. r prefers one of the groups more than s does
unfoldable pub prefers_more : Rect → Rect → Rect → Rect → Bool
prefers_more a b r s = less_then (preference a b s) (preference a b r) (less_then (half_preference a b s) (half_preference a b r) false)

-- PN2: ".. then earliest"
unfoldable pub most_preferring : List Rect → Rect → Rect → List ℕ → ℕ
most_preferring rs a b left = earliest (λ i j. prefers_more a b (rect_from rs i) (rect_from rs j)) left

unfoldable pub pick_next : List Rect → Groups → ℕ
pick_next rs g = most_preferring rs (cover_group rs g.one) (cover_group rs g.two) g.left

-- "It joins the group of least enlargement, then smaller area, then fewer entries, then group 1."; Req 05: where one of the first two ties,
-- "the same quantity in half perimeter": whether group 2, of cover b and n entries, goes before group 1, of cover a and m entries
unfoldable pub second_first : Rect → Rect → ℕ → ℕ → Rect → Bool
second_first a b m n r =
    less_then (enlargement b r) (enlargement a r)
    (less_then (half_enlargement b r) (half_enlargement a r)
    (less_then (area b) (area a)
    (less_then (half_perimeter b) (half_perimeter a) (ltb n m))))

unfoldable pub joins_two : List Rect → Groups → ℕ → Bool
joins_two rs g i =
    second_first (cover_group rs g.one) (cover_group rs g.two) (length g.one) (length g.two) (rect_from rs i)

-- ---- the whole

unfoldable pub quadratic_groups : List Rect → Groups
quadratic_groups rs = distribute (pick_next rs) (joins_two rs) (length rs - 2) (opening (length rs) (pick_seeds rs))

-- two lists of entries
pub record Halves : Type 0 where
  pub one : List Entry
  pub two : List Entry

-- the entries at the places of the groups
unfoldable pub halves : List Entry → Groups → Halves
halves es g = record { one = map (entry_from es) g.one; two = map (entry_from es) g.two }

unfoldable pub quadratic_split : List Entry → Halves
quadratic_split es = halves es (quadratic_groups (rects es))
