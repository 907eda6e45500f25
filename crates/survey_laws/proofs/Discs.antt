-- Discs: what the code asks of them, and what the window of one that is not refused holds.
use mathlib.Core.Path.{◌≡◌, refl, subst}
use mathlib.Core.Bool.{Bool, true, false, ◌&&◌}
use native.Mathlib.Nat.{zero-mul}
use native.Mathlib.Omega.{arith}
use lib.IntN.{pos, ◌+ℤ◌, ◌-ℤ◌}
use lib.Signed.{le_z}
use lib.Ieee.{Float, fin, binary64, to_bits, le, add, sub}
use lib.Ieee.Exact.{HasValue}
use lib.Ieee.Fits.{add-fits}
use Rattle.rules.specs.declared.Rect.{Rect}
use Rattle.rules.specs.declared.SurveyBox.{SurveyBox}
use Rattle.std.specs.Prelude.{Ok, Err}
use Rattle.rules.specs.declared.SurveyFault.TheVariants.{BadSurvey}
use Rattle.rules.specs.Doubles.{Double, unit, minus_sign, is_number, exact_of}
use Rattle.rules.specs.Survey.{outward, spread, further, moderate, not_negative, good_disc, finish, disc_window, exact_disc, HoldsBox, LessThanBeyond}
use Rattle.rules_laws.proofs.Bools.{and_both}
use Rattle.rules.specs.declared.Query.TheVariants.{Disc}
use Rattle.survey_laws.specs.Queries.{OfDoubles}
use Rattle.survey_laws.specs.Sizes.{size_of, NumberWithin, BoxWithin, RectWithin}
use Rattle.survey_laws.proofs.Values.{own_value, le_value}
use Rattle.survey_laws.proofs.Floors.{floor_mag, ceil_mag}
use Rattle.survey_laws.proofs.Ranges.{moderate_within}
use Rattle.survey_laws.proofs.Sums.{Close, added, subtracted, low_side, high_side}
use Rattle.survey_laws.proofs.Finished.{GoodRect, finished_parts}

-- ---- the test of a radius, which no double but a number passes

zero_value : HasValue (fin false 0 (pos 0)) false 0 unit
zero_value = (refl, zero-mul unit)

zero_test : (r : Float) → Double r → is_number r ≡ true → le (fin false 0 (pos 0)) r ≡ not_negative r
unfolding not_negative exact_of size_of
zero_test r h n = le_value (fin false 0 (pos 0)) r false (minus_sign (to_bits binary64 r)) 0 (size_of r) zero_value (own_value r h n)

pub disc_test : (x y r : Float) → Double r → (moderate x && moderate y && moderate r && le (fin false 0 (pos 0)) r) ≡ good_disc x y r
unfolding good_disc
disc_test x y r h = go (moderate r) refl
  where
    off : (p s t : Bool) → (p && false && s) ≡ (p && false && t)
    off true s t = refl
    off false s t = refl

    go : (t : Bool) → moderate r ≡ t
        → (moderate x && moderate y && moderate r && le (fin false 0 (pos 0)) r) ≡ (moderate x && moderate y && moderate r && not_negative r)
    go true e = rw (zero_test r h (moderate_within r e).number)
    go false e = rw e (off (moderate x && moderate y) (le (fin false 0 (pos 0)) r) (not_negative r))

-- ---- a rounded box

-- the code goes a millimetre further without a number that 32 bits do not hold
pub outward_small : (b : SurveyBox) → Double b.highX → Double b.highY → BoxWithin 2000000000 b → RectWithin 2000000001 (outward b)
unfolding outward
outward_small b hx hy w = record {
  lowX = omega (arith, floor_mag 2000000000 b.lowX w.lowX);
  lowY = omega (arith, floor_mag 2000000000 b.lowY w.lowY);
  highX = ceil_mag 2000000000 b.highX hx w.highX;
  highY = ceil_mag 2000000000 b.highY hy w.highY;
}

-- ---- a disc

record Parts (x y radius : Float) : Type 0 where
  x_within : NumberWithin 1000000000 x
  y_within : NumberWithin 1000000000 y
  within : NumberWithin 1000000000 radius
  not_negative_lem : not_negative radius ≡ true

disc_parts : (x y radius : Float) → good_disc x y radius ≡ true → Parts x y radius
unfolding good_disc
disc_parts x y radius e =
    let a = and_both (moderate x && moderate y && moderate radius) (not_negative radius) e in
    let b = and_both (moderate x && moderate y) (moderate radius) a.0 in
    let c = and_both (moderate x) (moderate y) b.0 in
    record {
      x_within = moderate_within x c.0;
      y_within = moderate_within y c.1;
      within = moderate_within radius b.1;
      not_negative_lem = a.1;
    }

-- as the code goes on
pub disc_yes : (x y radius : Float) (r : Rect) → good_disc x y radius ≡ true → r ≡ further (outward (spread x y radius))
    → finish true r ≡ disc_window x y radius
unfolding disc_window
disc_yes x y radius r g e = rw (g, e)

pub disc_no : (x y radius : Float) → good_disc x y radius ≡ false → Err BadSurvey ≡ disc_window x y radius
unfolding disc_window finish
disc_no x y radius g = rw g

module _ (x y radius : Float) (d : OfDoubles (Disc x y radius)) where
  pub spread_within : good_disc x y radius ≡ true → BoxWithin 2000000000 (spread x y radius)
  unfolding spread
  spread_within e =
      let p = disc_parts x y radius e in
      record {
        lowX = (subtracted x radius d.0 d.2 p.x_within p.within).within;
        lowY = (subtracted y radius d.1 d.2 p.y_within p.within).within;
        highX = (added x radius d.0 d.2 p.x_within p.within).within;
        highY = (added y radius d.1 d.2 p.y_within p.within).within;
      }

  pub spread_small : good_disc x y radius ≡ true → RectWithin 2000000001 (outward (spread x y radius))
  unfolding spread
  spread_small e = outward_small (spread x y radius) (add-fits binary64 x radius) (add-fits binary64 y radius) (spread_within e)

  -- "the window holds the exact box of the disc ..
  module _ (e : good_disc x y radius ≡ true) where
    low : (c : Float) → Double c → NumberWithin 1000000000 c → Close (exact_of (sub binary64 c radius)) (exact_of c -ℤ exact_of radius)
    low c h w = (subtracted c radius h d.2 w (disc_parts x y radius e).within).close

    high : (c : Float) → Double c → NumberWithin 1000000000 c → Close (exact_of (add binary64 c radius)) (exact_of c +ℤ exact_of radius)
    high c h w = (added c radius h d.2 w (disc_parts x y radius e).within).close

    further_holds : HoldsBox (exact_disc x y radius) (further (outward (spread x y radius)))
    unfolding further outward spread
    further_holds =
        let p = disc_parts x y radius e in
        record {
          lowX = (low_side _ _ (low x d.0 p.x_within)).0;
          lowY = (low_side _ _ (low y d.1 p.y_within)).0;
          highX = (high_side _ _ (high x d.0 p.x_within)).0;
          highY = (high_side _ _ (high y d.1 p.y_within)).0;
        }

    -- .. and is less than 3 mm beyond it on each side"
    further_near : LessThanBeyond 3 (exact_disc x y radius) (further (outward (spread x y radius)))
    unfolding further outward spread
    further_near =
        let p = disc_parts x y radius e in
        record {
          lowX = (low_side _ _ (low x d.0 p.x_within)).1;
          lowY = (low_side _ _ (low y d.1 p.y_within)).1;
          highX = (high_side _ _ (high x d.0 p.x_within)).1;
          highY = (high_side _ _ (high y d.1 p.y_within)).1;
        }

  module _ (r : Rect) (e : disc_window x y radius ≡ Ok r) where
    pub disc_good : GoodRect (good_disc x y radius) r
    unfolding disc_window
    disc_good =
        let f = finished_parts (good_disc x y radius) (further (outward (spread x y radius))) r e in
        subst (GoodRect (good_disc x y radius)) f.same f.parts

    disc_is : further (outward (spread x y radius)) ≡ r
    unfolding disc_window
    disc_is = (finished_parts (good_disc x y radius) (further (outward (spread x y radius))) r e).same

    pub disc_held : HoldsBox (exact_disc x y radius) r
    disc_held = subst (HoldsBox (exact_disc x y radius)) disc_is (further_holds disc_good.asked)

    pub disc_near : LessThanBeyond 3 (exact_disc x y radius) r
    disc_near = subst (LessThanBeyond 3 (exact_disc x y radius)) disc_is (further_near disc_good.asked)

    pub radius_not_negative : le_z (pos 0) (exact_of radius) ≡ true
    unfolding not_negative
    radius_not_negative = (disc_parts x y radius disc_good.asked).not_negative_lem
