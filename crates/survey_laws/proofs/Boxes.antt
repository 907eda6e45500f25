-- Survey boxes: each is rounded outward, and whole coordinates come back from doubles unchanged.
use mathlib.Core.Path.{◌≡◌, sym, ap, ◌∙◌, subst}
use mathlib.Core.Bool.{Bool, true, false, ◌&&◌}
use lib.IntN.{ℤ}
use lib.Signed.{le_z}
use lib.Ieee.{binary64, of_int}
use Rattle.rules.specs.declared.Rect.{Rect}
use Rattle.rules.specs.declared.SurveyBox.{SurveyBox}
use Rattle.std.specs.Prelude.{Ok, Err}
use Rattle.rules.specs.declared.SurveyFault.TheVariants.{BadSurvey}
use Rattle.rules.specs.Numbers.{in_range}
use Rattle.rules.specs.Geometry.{valid}
use Rattle.rules.specs.Doubles.{millimetres, floor_of, ceiling_of, exact_of}
use Rattle.rules.specs.Survey.{outward, in_order, good_box, box_window, exact_box, RoundedOutward, in_doubles}
use Rattle.rules_laws.proofs.Bools.{and_both, both_and}
use Rattle.rules_laws.proofs.Orders.{never_both}
use Rattle.rules_laws.proofs.Ints.{range_fits}
use Rattle.rules_laws.proofs.Measures.{Valid, valid_parts}
use Rattle.survey_laws.specs.Sizes.{spans, BoxWithin}
use Rattle.survey_laws.proofs.Floors.{floor_is, ceiling_is}
use Rattle.survey_laws.proofs.Finished.{GoodRect, finished_good, finished_parts, not_finished}
use Rattle.survey_laws.proofs.Ranges.{spans_parts, spans_low, spans_high, spans_of, spans_order, wider, whole_mono}
use Rattle.survey_laws.proofs.Wholes.{whole_exact, whole_number, floor_whole, ceil_whole}

-- ---- the code asks axis by axis

module _ (b : SurveyBox) where
  good_spans : GoodRect (good_box b) (outward b) → (spans b.lowX b.highX ≡ true) × (spans b.lowY b.highY ≡ true)
  unfolding outward good_box
  good_spans g =
      let o = and_both (in_order b.lowX b.highX) (in_order b.lowY b.highY) g.asked in
      (spans_of b.lowX b.highX o.0 g.range.lowX g.range.highX, spans_of b.lowY b.highY o.1 g.range.lowY g.range.highY)

  spans_good : spans b.lowX b.highX ≡ true → spans b.lowY b.highY ≡ true → GoodRect (good_box b) (outward b)
  unfolding outward good_box
  spans_good x y =
      let p = spans_parts b.lowX b.highX x in
      let q = spans_parts b.lowY b.highY y in
      record {
        asked = both_and (in_order b.lowX b.highX) (in_order b.lowY b.highY) (spans_order b.lowX b.highX p) (spans_order b.lowY b.highY q);
        range = record { lowX = p.range_low; lowY = q.range_low; highX = p.range_high; highY = q.range_high };
      }

  abbrev spanned : Bool
  spanned = spans b.lowX b.highX && spans b.lowY b.highY

  pub box_yes : (t : Bool) → t ≡ spanned → t ≡ true → Ok (outward b) ≡ box_window b
  unfolding box_window
  box_yes t e k =
      let s = and_both (spans b.lowX b.highX) (spans b.lowY b.highY) (sym e ∙ k) in
      sym (finished_good (good_box b) (outward b) (spans_good s.0 s.1))

  pub box_no : (t : Bool) → t ≡ spanned → t ≡ false → Err BadSurvey ≡ box_window b
  unfolding box_window
  box_no t e k =
      sym (not_finished (good_box b) (outward b) (λ g.
      let s = good_spans g in
      never_both (both_and (spans b.lowX b.highX) (spans b.lowY b.highY) s.0 s.1) (sym e ∙ k)))

  -- and then each bound can be rounded
  pub box_within : spanned ≡ true → BoxWithin 2000000000 b
  box_within e =
      let s = and_both (spans b.lowX b.highX) (spans b.lowY b.highY) e in
      let p = spans_parts b.lowX b.highX s.0 in
      let q = spans_parts b.lowY b.highY s.1 in
      record {
        lowX = wider b.lowX (spans_low b.lowX b.highX p);
        lowY = wider b.lowY (spans_low b.lowY b.highY q);
        highX = wider b.highX (spans_high b.lowX b.highX p);
        highY = wider b.highY (spans_high b.lowY b.highY q);
      }

-- ---- "A low becomes the largest whole number not above it, a high the smallest not below"

pub outward_is : (b : SurveyBox) → RoundedOutward (exact_box b) (outward b)
unfolding outward
outward_is b = record {
  lowX = floor_is (exact_of b.lowX);
  lowY = floor_is (exact_of b.lowY);
  highX = ceiling_is (exact_of b.highX);
  highY = ceiling_is (exact_of b.highY);
}

pub box_rounded : (b : SurveyBox) (r : Rect) → box_window b ≡ Ok r → RoundedOutward (exact_box b) r
unfolding box_window
box_rounded b r e = subst (RoundedOutward (exact_box b)) (finished_parts (good_box b) (outward b) r e).same (outward_is b)

-- the bounds were in order
pub box_in_order : (b : SurveyBox) (r : Rect) → box_window b ≡ Ok r → GoodRect (good_box b) r
unfolding box_window
box_in_order b r e = let f = finished_parts (good_box b) (outward b) r e in subst (GoodRect (good_box b)) f.same f.parts

-- ---- "Rounded coordinates go to doubles and back unchanged."

module _ (r : Rect) (v : valid r ≡ true) where
  ranges : Valid r
  ranges = valid_parts r v

  as_double : (n : ℤ) → in_range n ≡ true → exact_of (of_int binary64 n) ≡ millimetres n
  as_double n h = whole_exact n (range_fits n h)

  low_back : (n : ℤ) → in_range n ≡ true → floor_of (exact_of (of_int binary64 n)) ≡ n
  low_back n h = ap floor_of (as_double n h) ∙ floor_whole n

  high_back : (n : ℤ) → in_range n ≡ true → ceiling_of (exact_of (of_int binary64 n)) ≡ n
  high_back n h = ap ceiling_of (as_double n h) ∙ ceil_whole n

  unchanged : outward (in_doubles r) ≡ r
  unfolding outward
  unchanged =
      rw (low_back r.lowX ranges.lowX, low_back r.lowY ranges.lowY, high_back r.highX ranges.highX, high_back r.highY ranges.highY)

  kept_order : (low high : ℤ) → in_range low ≡ true → in_range high ≡ true → le_z low high ≡ true → in_order (of_int binary64 low) (of_int binary64 high) ≡ true
  unfolding in_order
  kept_order low high h k o =
      rw (whole_number low (range_fits low h), whole_number high (range_fits high k), as_double low h, as_double high k) (whole_mono low high o)

  pub whole_back : box_window (in_doubles r) ≡ Ok r
  unfolding box_window good_box
  whole_back =
      let o = both_and (in_order (of_int binary64 r.lowX) (of_int binary64 r.highX)) (in_order (of_int binary64 r.lowY) (of_int binary64 r.highY))
      (kept_order r.lowX r.highX ranges.lowX ranges.highX ranges.x) (kept_order r.lowY r.highY ranges.lowY ranges.highY ranges.y) in
      rw unchanged (finished_good (good_box (in_doubles r)) r (record { asked = o; range = record { lowX = ranges.lowX; lowY = ranges.lowY; highX = ranges.highX; highY = ranges.highY } }))
