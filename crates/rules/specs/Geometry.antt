-- "Geometry": closed rectangles in whole millimetres. Areas and differences are whole numbers that may be negative.
use Rattle.std.specs.Prelude.{Bool, cond, ◌&&◌, ℤ, pos, ◌+ℤ◌, ◌-ℤ◌, ◌*ℤ◌}
use mathlib.Core.List.{List, [], ◌∷◌, foldl}
use Rattle.std.specs.Int.Signed.{le_z}
use Rattle.rules.specs.declared.Rect.{Rect}
use Rattle.rules.specs.declared.Record.{Record}
use Rattle.rules.specs.declared.FoundRecord.{FoundRecord}
use Rattle.rules.specs.Lists.{same}
use Rattle.rules.specs.Numbers.{in_range}
use Rattle.rules.specs.Owners.{owned_by, as_found}

-- "a coordinate out of range, or low above high" makes a rectangle bad; "Low may equal high."
unfoldable pub valid : Rect → Bool
valid r =
    in_range r.lowX && in_range r.lowY && in_range r.highX && in_range r.highY
    && le_z r.lowX r.highX && le_z r.lowY r.highY

-- "Two rectangles meet when on each axis each low is at most the other's high; touching counts."
unfoldable pub meets : Rect → Rect → Bool
meets a b =
    le_z a.lowX b.highX && le_z b.lowX a.highX
    && le_z a.lowY b.highY && le_z b.lowY a.highY

unfoldable pub smaller : ℤ → ℤ → ℤ
smaller a b = cond (le_z a b) a b

unfoldable pub larger : ℤ → ℤ → ℤ
larger a b = cond (le_z a b) b a

-- "the smallest rectangle holding both"
unfoldable pub cover : Rect → Rect → Rect
cover a b =
    record {
      lowX = smaller a.lowX b.lowX;
      lowY = smaller a.lowY b.lowY;
      highX = larger a.highX b.highX;
      highY = larger a.highY b.highY;
    }

-- the smallest rectangle that holds them all; where there are none, the point (0, 0)
abbrev pub no_rect : Rect
no_rect = record { lowX = pos 0; lowY = pos 0; highX = pos 0; highY = pos 0 }

unfoldable pub cover_all : List Rect → Rect
cover_all [] = no_rect
cover_all (r ∷ rs) = foldl cover r rs

-- "Area is width times height."
unfoldable pub area : Rect → ℤ
area r = (r.highX -ℤ r.lowX) *ℤ (r.highY -ℤ r.lowY)

-- "The enlargement of A for B is the area of the smallest rectangle holding both, less A's area."
unfoldable pub enlargement : Rect → Rect → ℤ
enlargement a b = area (cover a b) -ℤ area a

-- PS1: "d = area of joint cover less both areas, possibly negative"
unfoldable pub waste : Rect → Rect → ℤ
waste a b = area (cover a b) -ℤ area a -ℤ area b

-- Req 05: "half perimeter (width plus height)", and the same quantities in it: its enlargement, and its d
unfoldable pub half_perimeter : Rect → ℤ
half_perimeter r = (r.highX -ℤ r.lowX) +ℤ (r.highY -ℤ r.lowY)

unfoldable pub half_enlargement : Rect → Rect → ℤ
half_enlargement a b = half_perimeter (cover a b) -ℤ half_perimeter a

unfoldable pub half_waste : Rect → Rect → ℤ
half_waste a b = half_perimeter (cover a b) -ℤ half_perimeter a -ℤ half_perimeter b

-- the same rectangle; the same number and rectangle
unfoldable pub same_rect : Rect → Rect → Bool
same_rect a b =
    same a.lowX b.lowX && same a.lowY b.lowY
    && same a.highX b.highX && same a.highY b.highY

unfoldable pub same_found : FoundRecord → FoundRecord → Bool
same_found a b = same a.number.0 b.number.0 && same_rect a.rect b.rect

-- the same pair of number and rectangle, of one owner. Req 07: "a pair counts as held per owner"
unfoldable pub same_pair : Record → Record → Bool
same_pair a b = owned_by a.owner b && same_found (as_found a) (as_found b)
