-- Req 01 on examples of our own, since the request gives none: in one table under one statement. (Histories/Modes.antt has searches.)
use Rattle.std.specs.Prelude.{◌≡◌, refl, List, [], ◌∷◌, map}
use Rattle.rules.specs.declared.Rect.{Rect}
use Rattle.rules.specs.declared.Relation.{Relation}
use Rattle.rules.specs.declared.Relation.TheVariants.{Apart, Inside, Enclosing, Equal, OtherwiseMeeting}
use Rattle.rules.specs.Compare.{compared}
use Rattle.rules.specs.Computed.{document01}
use Rattle.rules.specs.Histories.{box}

-- two rectangles, and what the first is to the second
pub record Comparison : Type 0 where
  pub first : Rect
  pub second : Rect
  pub says : Relation

abbrev pair : Rect → Rect → Relation → Comparison
pair a b s = record { first = a; second = b; says = s }

abbrev square : Rect
square = box 0 0 10 10

abbrev pub comparisons : List Comparison
comparisons =
    -- "touching counts", at a corner and along a side; one millimetre further, on either axis, they are apart
    pair square (box 10 10 20 20) OtherwiseMeeting
    ∷ pair square (box 10 0 20 10) OtherwiseMeeting
    ∷ pair square (box 11 0 20 10) Apart
    ∷ pair square (box 0 11 10 20) Apart
    -- inside and enclosing are each other's mirror; a side may lie on a side
    ∷ pair (box 2 2 8 8) square Inside
    ∷ pair square (box 2 2 8 8) Enclosing
    ∷ pair (box 0 2 10 8) square Inside
    ∷ pair square (box 0 0 9 10) Enclosing
    -- a point on the corner lies inside
    ∷ pair (box 10 10 10 10) square Inside
    -- equal, also where it is a point
    ∷ pair square square Equal
    ∷ pair (box 5 5 5 5) (box 5 5 5 5) Equal
    -- inside on one axis and enclosing on the other: otherwise meeting
    ∷ pair (box 0 4 10 6) (box 4 0 6 10) OtherwiseMeeting
    -- only partly in it
    ∷ pair (box 5 2 15 8) square OtherwiseMeeting
    ∷ []

pub comparisons_say : map (λ (c : Comparison). compared c.first c.second) comparisons ≡ map (λ (c : Comparison). c.says) comparisons
unfolding document01
comparisons_say = refl
