-- What `dustmap_box`, `dustmap_point` and `dustmap_disc` promise, for any doubles.
use Rattle.std.specs.Prelude.{◌≡◌, List, ℤ, Float}
use Rattle.rules.specs.declared.Query.TheVariants.{Point, Box, Disc}
use Rattle.rules.specs.Survey.{Surveyed}
use Rattle.rules.specs.Survey.{query_window, survey_number, survey_words}

-- the number returned, and the words left of the four that were lent for the rectangle
pub record Converts (w : Surveyed) (lent : List ℤ) (n : ℤ) (words : List ℤ) : Type 0 where
  pub number : n ≡ survey_number w
  pub written : words ≡ survey_words w lent

-- what the three are handed, and what becomes of it
abbrev pub of_box : Float → Float → Float → Float → Surveyed
of_box lowX lowY highX highY = query_window (Box (record { lowX = lowX; lowY = lowY; highX = highX; highY = highY }))

abbrev pub of_point : Float → Float → Surveyed
of_point x y = query_window (Point x y)

abbrev pub of_disc : Float → Float → Float → Surveyed
of_disc x y radius = query_window (Disc x y radius)
