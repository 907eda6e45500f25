-- Req 03, about every outcome that the promises of `dustmap_box`, `dustmap_point` and `dustmap_disc` allow.
use Rattle.std.specs.Prelude.{◌≡◌, ◌⊎◌, true, List, [], ◌∷◌, ℤ, pos}
use Rattle.rules.specs.declared.Rect.{Rect}
use Rattle.rules.specs.declared.Record.{Record}
use Rattle.rules.specs.declared.Mode.TheVariants.{Meeting}
use Rattle.rules.specs.declared.Query.{Query}
use Rattle.rules.specs.declared.Query.TheVariants.{Point, Box, Disc}
use Rattle.rules.specs.Geometry.{valid}
use Rattle.rules.specs.Survey.{point_box, ExactBox, exact_box, exact_disc, RoundedOutward, HoldsBox, LessThanBeyond}
use Rattle.survey_laws.specs.Queries.{meets_exactly}
use Rattle.search_laws.specs.Window.{record_wanted}

-- the box that a query asks about, by its exact values
abbrev pub exact_query : Query → ExactBox
exact_query (Point x y) = exact_box (point_box x y)
exact_query (Box b) = exact_box b
exact_query (Disc x y radius) = exact_disc x y radius

-- "A low becomes the largest whole number not above it, a high the smallest not below"; a disc's window "is less than 3 mm beyond it on each
-- side"
abbrev pub NearQuery : Query → Rect → Type 0
NearQuery (Point x y) r = RoundedOutward (exact_box (point_box x y)) r
NearQuery (Box b) r = RoundedOutward (exact_box b) r
NearQuery (Disc x y radius) r = LessThanBeyond 3 (exact_disc x y radius) r

-- the four words of a rectangle that is not refused
pub record Shown (q : Query) (words : List ℤ) : Type 0 where
  pub rect : Rect
  pub is : words ≡ rect.lowX ∷ rect.lowY ∷ rect.highX ∷ rect.highY ∷ []
  -- "12, before 3": 3 never follows
  pub good : valid rect ≡ true
  -- "the window holds the exact box"
  pub holds : HoldsBox (exact_query q) rect
  pub near : NearQuery q rect
  -- so that a search of mode meeting with it lists each record that meets the exact box
  pub lists : (r : Record) → meets_exactly (exact_query q) r.rect ≡ true → record_wanted Meeting rect r ≡ true

pub record Surveys (q : Query) (lent : List ℤ) (n : ℤ) (words : List ℤ) : Type 0 where
  pub either : (n ≡ pos 0) ⊎ (n ≡ pos 12)
  pub accepted : n ≡ pos 0 → Shown q words
  -- the rectangle is written only beside 0
  pub refused : n ≡ pos 12 → words ≡ lent
