-- Req 03, "The surveyor's boxes": what becomes of a survey box and of dispatch's queries.
use Rattle.std.specs.Prelude.{◌≡◌, Bool, true, cond, ◌&&◌, List, [], ◌∷◌, ℕ, ℤ, pos, negsuc, ◌+ℤ◌, ◌-ℤ◌, Float, Ok, Err, Result}
use Rattle.std.proofs.lemmas.List.Edits.{sets}
use Rattle.std.specs.Int.Signed.{le_z, lt_z}
use Rattle.std.specs.Float.{binary64}
use Rattle.std.specs.Float.Ieee.{add, sub, of_int}
use Rattle.rules.specs.declared.Rect.{Rect}
use Rattle.rules.specs.declared.SurveyBox.{SurveyBox}
use Rattle.rules.specs.declared.Query.{Query}
use Rattle.rules.specs.declared.Query.TheVariants.{Point, Box, Disc}
use Rattle.rules.specs.declared.SurveyFault.{SurveyFault}
use Rattle.rules.specs.declared.SurveyFault.TheVariants.{BadSurvey}
use Rattle.rules.specs.Numbers.{in_range}
use Rattle.rules.specs.Doubles.{is_number, exact_of, millimetres, floor_of, ceiling_of, LargestNotAbove, SmallestNotBelow}

-- what becomes of a survey box or a query: a rectangle in whole millimetres, or what refuses it
abbrev pub Surveyed : Type 0
Surveyed = Result Rect SurveyFault

-- "A low becomes the largest whole number not above it, a high the smallest not below"
unfoldable pub outward : SurveyBox → Rect
outward b =
    record {
      lowX = floor_of (exact_of b.lowX);
      lowY = floor_of (exact_of b.lowY);
      highX = ceiling_of (exact_of b.highX);
      highY = ceiling_of (exact_of b.highY);
    }

-- "a point is a box with low equal to high"
abbrev pub point_box : Float → Float → SurveyBox
point_box x y = record { lowX = x; lowY = y; highX = x; highY = y }

-- "For a disc, subtract and add in doubles, ..
unfoldable pub spread : Float → Float → Float → SurveyBox
spread x y radius =
    record { lowX = sub binary64 x radius; lowY = sub binary64 y radius; highX = add binary64 x radius; highY = add binary64 y radius }

-- .. round outward, then go one millimetre further"
unfoldable pub further : Rect → Rect
further r = record { lowX = r.lowX -ℤ pos 1; lowY = r.lowY -ℤ pos 1; highX = r.highX +ℤ pos 1; highY = r.highY +ℤ pos 1 }

-- ---- "Refusals: 12, before 3, for ..

-- .. "a NaN, an infinity, low above high", asked of the doubles as they come
unfoldable pub in_order : Float → Float → Bool
in_order low high = is_number low && is_number high && le_z (exact_of low) (exact_of high)

unfoldable pub good_box : SurveyBox → Bool
good_box b = in_order b.lowX b.highX && in_order b.lowY b.highY

-- .. "a negative radius". Minus zero is none
unfoldable pub not_negative : Float → Bool
not_negative radius = le_z (pos 0) (exact_of radius)

-- .. "or a centre, radius .. beyond 1,000,000,000 in size"; nor is a NaN or an infinity moderate
unfoldable pub moderate : Float → Bool
moderate x = is_number x && le_z (millimetres (negsuc 999999999)) (exact_of x) && le_z (exact_of x) (millimetres (pos 1000000000))

unfoldable pub good_disc : Float → Float → Float → Bool
good_disc x y radius = moderate x && moderate y && moderate radius && not_negative radius

-- .. or a "finished coordinate beyond 1,000,000,000 in size."
unfoldable pub finish : Bool → Rect → Surveyed
finish good r =
    cond (good && in_range r.lowX && in_range r.lowY && in_range r.highX && in_range r.highY) (Ok r) (Err BadSurvey)

-- ---- "Dispatch also sends a query that is a point, a box or a disc (centre and radius, as doubles)": its window, or the refusal

unfoldable pub box_window : SurveyBox → Surveyed
box_window b = finish (good_box b) (outward b)

unfoldable pub disc_window : Float → Float → Float → Surveyed
disc_window x y radius = finish (good_disc x y radius) (further (outward (spread x y radius)))

unfoldable pub query_window : Query → Surveyed
query_window (Point x y) = box_window (point_box x y)
query_window (Box b) = box_window b
query_window (Disc x y radius) = disc_window x y radius

-- ---- what comes back of a call, beside the four words lent for the rectangle

-- "12, before 3"
unfoldable pub survey_fault_number : SurveyFault → ℤ
survey_fault_number BadSurvey = pos 12

unfoldable pub survey_number : Surveyed → ℤ
survey_number (Ok r) = pos 0
survey_number (Err fault) = survey_fault_number fault

-- the rectangle over the four words; a refusal writes nothing
unfoldable pub survey_words : Surveyed → List ℤ → List ℤ
survey_words (Ok r) lent = sets lent 0 (r.lowX ∷ r.lowY ∷ r.highX ∷ r.highY ∷ [])
survey_words (Err fault) lent = lent

-- ---- what the request says about the rectangles, for its theorems

-- a box by its exact values, in units: that of a survey box, and "the exact box of the disc"
pub record ExactBox : Type 0 where
  pub lowX : ℤ
  pub lowY : ℤ
  pub highX : ℤ
  pub highY : ℤ

abbrev pub exact_box : SurveyBox → ExactBox
exact_box b = record { lowX = exact_of b.lowX; lowY = exact_of b.lowY; highX = exact_of b.highX; highY = exact_of b.highY }

abbrev pub exact_disc : Float → Float → Float → ExactBox
exact_disc x y radius =
    record {
      lowX = exact_of x -ℤ exact_of radius;
      lowY = exact_of y -ℤ exact_of radius;
      highX = exact_of x +ℤ exact_of radius;
      highY = exact_of y +ℤ exact_of radius;
    }

-- "A low becomes the largest whole number not above it, a high the smallest not below"
pub record RoundedOutward (e : ExactBox) (r : Rect) : Type 0 where
  pub lowX : LargestNotAbove e.lowX r.lowX
  pub lowY : LargestNotAbove e.lowY r.lowY
  pub highX : SmallestNotBelow e.highX r.highX
  pub highY : SmallestNotBelow e.highY r.highY

-- "the window holds the exact box ..
pub record HoldsBox (e : ExactBox) (r : Rect) : Type 0 where
  pub lowX : le_z (millimetres r.lowX) e.lowX ≡ true
  pub lowY : le_z (millimetres r.lowY) e.lowY ≡ true
  pub highX : le_z e.highX (millimetres r.highX) ≡ true
  pub highY : le_z e.highY (millimetres r.highY) ≡ true

-- .. and is less than 3 mm beyond it on each side"
pub record LessThanBeyond (mm : ℕ) (e : ExactBox) (r : Rect) : Type 0 where
  pub lowX : lt_z (e.lowX -ℤ millimetres r.lowX) (millimetres (pos mm)) ≡ true
  pub lowY : lt_z (e.lowY -ℤ millimetres r.lowY) (millimetres (pos mm)) ≡ true
  pub highX : lt_z (millimetres r.highX -ℤ e.highX) (millimetres (pos mm)) ≡ true
  pub highY : lt_z (millimetres r.highY -ℤ e.highY) (millimetres (pos mm)) ≡ true

-- "Rounded coordinates go to doubles": each as the double that it is
abbrev pub in_doubles : Rect → SurveyBox
in_doubles r =
    record {
      lowX = of_int binary64 r.lowX;
      lowY = of_int binary64 r.lowY;
      highX = of_int binary64 r.highX;
      highY = of_int binary64 r.highY;
    }
