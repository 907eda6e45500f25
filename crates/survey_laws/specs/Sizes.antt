-- What the code asks about a double before it rounds it.
use Rattle.std.specs.Prelude.{◌≡◌, Bool, true, ◌&&◌, ℕ, ◌*◌, ◌≤◌, Float}
use Rattle.std.specs.Int.Signed.{mag}
use Rattle.std.specs.Float.{binary64}
use Rattle.std.specs.Float.Ieee.{to_bits}
use Rattle.rules.specs.declared.Rect.{Rect}
use Rattle.rules.specs.declared.SurveyBox.{SurveyBox}
use Rattle.rules.specs.Numbers.{in_range}
use Rattle.rules.specs.Doubles.{exponent, fraction, unit, size_from, is_number, exact_of, floor_of, ceiling_of}
use Rattle.rules.specs.Survey.{in_order}

-- the size of a double in units, without its sign
unfoldable pub size_of : Float → ℕ
size_of x = size_from (exponent (to_bits binary64 x)) (fraction (to_bits binary64 x))

-- x is a number of at most k millimetres in size
pub record NumberWithin (k : ℕ) (x : Float) : Type 0 where
  pub number : is_number x ≡ true
  pub size : size_of x ≤ k * unit

-- so is each bound of a box
pub record BoxWithin (k : ℕ) (b : SurveyBox) : Type 0 where
  pub lowX : NumberWithin k b.lowX
  pub lowY : NumberWithin k b.lowY
  pub highX : NumberWithin k b.highX
  pub highY : NumberWithin k b.highY

-- each coordinate of a rectangle is at most k in size
pub record RectWithin (k : ℕ) (r : Rect) : Type 0 where
  pub lowX : mag r.lowX ≤ k
  pub lowY : mag r.lowY ≤ k
  pub highX : mag r.highX ≤ k
  pub highY : mag r.highY ≤ k

-- the two bounds of a box along one axis: none is refused for them
unfoldable pub spans : Float → Float → Bool
spans low high = in_order low high && in_range (floor_of (exact_of low)) && in_range (ceiling_of (exact_of high))

-- the four coordinates of a finished rectangle
unfoldable pub all_in_range : Rect → Bool
all_in_range r = in_range r.lowX && in_range r.lowY && in_range r.highX && in_range r.highY
