-- ChooseLeaf: which entry of an inner node a new rectangle goes below. Only the entries' rectangles matter.
use Rattle.std.specs.Prelude.{Bool, false, List, [], ◌∷◌, ℕ, length, get_or}
use Rattle.rules.specs.declared.Rect.{Rect}
use Rattle.rules.specs.Lists.{earliest_best, up_from, less_then}
use Rattle.rules.specs.Geometry.{no_rect, area, enlargement, half_perimeter, half_enlargement}

-- the rectangle at place i, from 0
unfoldable pub rect_from : List Rect → ℕ → Rect
rect_from rs i = get_or rs i no_rect

-- CL3: "least enlargement, then smallest area"; Req 05: where one ties, "the same quantity in half perimeter .. before going to the next rule".
-- a takes the new rectangle better than b
unfoldable pub takes_better : Rect → Rect → Rect → Bool
takes_better new a b =
    less_then (enlargement a new) (enlargement b new)
    (less_then (half_enlargement a new) (half_enlargement b new)
    (less_then (area a) (area b)
    (less_then (half_perimeter a) (half_perimeter b) false)))

-- the earliest of the places given that no other is better than; 0 where none is given
unfoldable pub earliest : (ℕ → ℕ → Bool) → List ℕ → ℕ
earliest better [] = 0
earliest better (i ∷ is) = earliest_best better i is

-- ".. then earliest entry": the place of the child that ChooseLeaf goes down to
unfoldable pub choose_child : List Rect → Rect → ℕ
choose_child rs new = earliest (λ i j. takes_better new (rect_from rs i) (rect_from rs j)) (up_from 0 (length rs))
