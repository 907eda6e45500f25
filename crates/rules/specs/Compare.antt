-- Req 01, "Zones wholly inside": the one comparison of two rectangles, and the questions that insert, delete and search ask of it.
use Rattle.std.specs.Prelude.{Bool, true, false, ◌&&◌}
use Rattle.std.specs.Int.Signed.{le_z}
use Rattle.rules.specs.declared.Rect.{Rect}
use Rattle.rules.specs.declared.Record.{Record}
use Rattle.rules.specs.declared.Relation.{Relation}
use Rattle.rules.specs.declared.Relation.TheVariants.{Apart, Inside, Enclosing, Equal, OtherwiseMeeting}
use Rattle.rules.specs.declared.Mode.{Mode}
use Rattle.rules.specs.declared.Mode.TheVariants.{Meeting, OnlyInside, OnlyEnclosing}
use Rattle.rules.specs.Lists.{same}
use Rattle.rules.specs.Owners.{owned_by}
use Rattle.rules.specs.Geometry.{meets}

-- ---- the comparison

-- a lies in b: on each axis its low is at least b's, and its high at most; the sides may touch
unfoldable pub lies_in : Rect → Rect → Bool
lies_in a b =
    le_z b.lowX a.lowX && le_z b.lowY a.lowY
    && le_z a.highX b.highX && le_z a.highY b.highY

-- two that meet, by whether the first lies in the second, and the second in the first
unfoldable pub meeting_as : Bool → Bool → Relation
meeting_as true false = Inside
meeting_as false true = Enclosing
meeting_as true true = Equal
meeting_as false false = OtherwiseMeeting

-- "The comparison of two rectangles shall now say apart, inside, enclosing, equal or otherwise meeting": what a is to b
unfoldable pub compared : Rect → Rect → Relation
compared a b = elim (meets a b) [ true ↦ meeting_as (lies_in a b) (lies_in b a) | false ↦ Apart ]

-- ---- questions on it

-- they meet, in whatever way
unfoldable pub is_meeting : Relation → Bool
is_meeting Apart = false
is_meeting Inside = true
is_meeting Enclosing = true
is_meeting Equal = true
is_meeting OtherwiseMeeting = true

-- "Equal counts as inside and as enclosing."
unfoldable pub is_inside : Relation → Bool
is_inside Apart = false
is_inside Inside = true
is_inside Enclosing = false
is_inside Equal = true
is_inside OtherwiseMeeting = false

unfoldable pub is_enclosing : Relation → Bool
is_enclosing Apart = false
is_enclosing Inside = false
is_enclosing Enclosing = true
is_enclosing Equal = true
is_enclosing OtherwiseMeeting = false

unfoldable pub is_equal : Relation → Bool
is_equal Apart = false
is_equal Inside = false
is_equal Enclosing = false
is_equal Equal = true
is_equal OtherwiseMeeting = false

-- ---- who asks

-- "A search carries one of three modes": whether it lists a record that is this to its window
unfoldable pub wanted : Mode → Relation → Bool
wanted Meeting r = is_meeting r
wanted OnlyInside r = is_inside r
wanted OnlyEnclosing r = is_enclosing r

-- "the first exact pair": the same number, and an equal rectangle. Insert, delete and update ask it of the records that are held; Req 07: of
-- those of the same owner, "a pair counts as held per owner"
unfoldable pub exact_pair : Record → Record → Bool
exact_pair a b = same a.number.0 b.number.0 && is_equal (compared a.rect b.rect) && owned_by a.owner b
