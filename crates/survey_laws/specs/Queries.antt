-- A query of doubles, as each is that the exported calls are handed; and the rectangles that meet an exact box.
use Rattle.std.specs.Prelude.{Bool, ◌&&◌}
use Rattle.std.specs.Int.Signed.{le_z}
use Rattle.rules.specs.declared.Rect.{Rect}
use Rattle.rules.specs.declared.Query.{Query}
use Rattle.rules.specs.declared.Query.TheVariants.{Point, Box, Disc}
use Rattle.rules.specs.Doubles.{Double, millimetres}
use Rattle.rules.specs.Survey.{ExactBox}

abbrev pub OfDoubles : Query → Type 0
OfDoubles (Point x y) = Double x × Double y
OfDoubles (Box b) = Double b.lowX × Double b.lowY × Double b.highX × Double b.highY
OfDoubles (Disc x y radius) = Double x × Double y × Double radius

-- "on each axis each low is at most the other's high; touching counts", by exact values
unfoldable pub meets_exactly : ExactBox → Rect → Bool
meets_exactly e r =
    le_z e.lowX (millimetres r.highX) && le_z (millimetres r.lowX) e.highX
    && le_z e.lowY (millimetres r.highY) && le_z (millimetres r.lowY) e.highY
