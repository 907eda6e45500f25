-- Any query: its window is a valid rectangle, and no record that meets the exact box is missed.
use mathlib.Core.Path.{◌≡◌}
use mathlib.Core.Bool.{true, ◌&&◌}
use native.Mathlib.Omega.{arith}
use lib.IntN.{ℤ, pos, neg_ℤ, ◌+ℤ◌, ◌-ℤ◌}
use lib.Signed.{le_z}
use lib.Ieee.{Float}
use Rattle.rules.specs.declared.Rect.{Rect}
use Rattle.rules.specs.declared.SurveyBox.{SurveyBox}
use Rattle.rules.specs.declared.Query.{Query}
use Rattle.rules.specs.declared.Query.TheVariants.{Point, Box, Disc}
use Rattle.std.specs.Prelude.{Ok}
use Rattle.rules.specs.Geometry.{valid, meets}
use Rattle.rules.specs.Doubles.{millimetres, exact_of}
use Rattle.rules.specs.Survey.{point_box, in_order, good_box, box_window, disc_window, query_window, ExactBox, exact_box, exact_disc, RoundedOutward, HoldsBox}
use Rattle.rules_laws.proofs.Bools.{and_both}
use Rattle.rules_laws.proofs.Orders.{at_most_on}
use Rattle.rules_laws.proofs.Measures.{parts_valid}
use Rattle.survey_laws.specs.Queries.{OfDoubles, meets_exactly}
use Rattle.survey_laws.proofs.Linear.{le_parts, parts_le, sum_parts, over_neg, under_neg}
use Rattle.survey_laws.proofs.Ranges.{whole_le, order_parts}
use Rattle.survey_laws.proofs.Finished.{InRange}
use Rattle.survey_laws.proofs.Boxes.{box_rounded, box_in_order}
use Rattle.survey_laws.proofs.Discs.{disc_good, disc_held, radius_not_negative}

-- ---- what holds an exact box whose lows are not above its highs has no low above its high

record LowsBelow (e : ExactBox) : Type 0 where
  x : le_z e.lowX e.highX ≡ true
  y : le_z e.lowY e.highY ≡ true

held_order : (low high : ℤ) (l h : ℤ) → le_z (millimetres l) low ≡ true → le_z low high ≡ true → le_z high (millimetres h) ≡ true → le_z l h ≡ true
held_order low high l h a b c =
    whole_le l h (at_most_on (millimetres l) low (millimetres h) a (at_most_on low high (millimetres h) b c))

held_valid : (e : ExactBox) (r : Rect) → LowsBelow e → HoldsBox e r → InRange r → valid r ≡ true
held_valid e r o h i =
    parts_valid (record {
      lowX = i.lowX;
      lowY = i.lowY;
      highX = i.highX;
      highY = i.highY;
      x = held_order e.lowX e.highX r.lowX r.highX h.lowX o.x h.highX;
      y = held_order e.lowY e.highY r.lowY r.highY h.lowY o.y h.highY;
    })

-- ---- boxes

pub rounded_holds : (e : ExactBox) (r : Rect) → RoundedOutward e r → HoldsBox e r
rounded_holds e r o =
    record { lowX = o.lowX.not_above; lowY = o.lowY.not_above; highX = o.highX.not_below; highY = o.highY.not_below }

pub box_held : (b : SurveyBox) (r : Rect) → box_window b ≡ Ok r → HoldsBox (exact_box b) r
box_held b r e = rounded_holds (exact_box b) r (box_rounded b r e)

box_valid : (b : SurveyBox) (r : Rect) → box_window b ≡ Ok r → valid r ≡ true
unfolding good_box
box_valid b r e =
    let g = box_in_order b r e in
    let o = and_both (in_order b.lowX b.highX) (in_order b.lowY b.highY) g.asked in
    let i : LowsBelow (exact_box b) = record { x = order_parts b.lowX b.highX o.0; y = order_parts b.lowY b.highY o.1 } in
    held_valid (exact_box b) r i (box_held b r e) g.range

-- ---- discs

spread_order : (c r : ℤ) → le_z (pos 0) r ≡ true → le_z (c -ℤ r) (c +ℤ r) ≡ true
spread_order c r h =
    let a = sum_parts c (neg_ℤ r) in
    let b = sum_parts c r in
    let o = over_neg r in
    let u = under_neg r in
    parts_le (c -ℤ r) (c +ℤ r) (omega (arith, le_parts (pos 0) r h))

disc_valid : (x y radius : Float) → OfDoubles (Disc x y radius) → (r : Rect) → disc_window x y radius ≡ Ok r → valid r ≡ true
disc_valid x y radius d r e =
    let n = radius_not_negative x y radius d r e in
    let i : LowsBelow (exact_disc x y radius) = record { x = spread_order (exact_of x) (exact_of radius) n; y = spread_order (exact_of y) (exact_of radius) n } in
    held_valid (exact_disc x y radius) r i (disc_held x y radius d r e) (disc_good x y radius d r e).range

-- ---- "12, before 3": what is not refused 12 is not refused 3

pub window_valid : (q : Query) → OfDoubles q → (r : Rect) → query_window q ≡ Ok r → valid r ≡ true
unfolding query_window
window_valid (Point x y) h r e = box_valid (point_box x y) r e
window_valid (Box b) h r e = box_valid b r e
window_valid (Disc x y radius) h r e = disc_valid x y radius h r e

-- ---- a rectangle that meets the exact box meets the window that holds it

pub none_missed : (e : ExactBox) (w : Rect) → HoldsBox e w → (r : Rect) → meets_exactly e r ≡ true → meets r w ≡ true
unfolding meets_exactly meets
none_missed e w h r m =
    let a = and_both (le_z e.lowX (millimetres r.highX) && le_z (millimetres r.lowX) e.highX && le_z e.lowY (millimetres r.highY)) (le_z (millimetres r.lowY) e.highY) m in
    let b = and_both (le_z e.lowX (millimetres r.highX) && le_z (millimetres r.lowX) e.highX) (le_z e.lowY (millimetres r.highY)) a.0 in
    let c = and_both (le_z e.lowX (millimetres r.highX)) (le_z (millimetres r.lowX) e.highX) b.0 in
    let x : le_z w.lowX r.highX ≡ true = whole_le w.lowX r.highX (at_most_on (millimetres w.lowX) e.lowX (millimetres r.highX) h.lowX c.0) in
    let y : le_z w.lowY r.highY ≡ true = whole_le w.lowY r.highY (at_most_on (millimetres w.lowY) e.lowY (millimetres r.highY) h.lowY b.1) in
    let z : le_z r.lowX w.highX ≡ true = whole_le r.lowX w.highX (at_most_on (millimetres r.lowX) e.highX (millimetres w.highX) c.1 h.highX) in
    let t : le_z r.lowY w.highY ≡ true = whole_le r.lowY w.highY (at_most_on (millimetres r.lowY) e.highY (millimetres w.highY) a.1 h.highY) in
    rw (x, y, z, t)
