-- Req 03 on examples of our own, since the request gives none: in one table under one statement.
use Rattle.std.specs.Prelude.{◌≡◌, refl, List, [], ◌∷◌, map, ℤ, pos, Float, true, Ok, Err}
use Rattle.std.specs.Float.{nan, inf, binary64}
use Rattle.std.specs.Float.Ieee.{of_bits, of_int, neg, div}
use Rattle.rules.specs.declared.Query.{Query}
use Rattle.rules.specs.declared.Query.TheVariants.{Point, Box, Disc}
use Rattle.rules.specs.Survey.{Surveyed}
use Rattle.rules.specs.declared.SurveyFault.TheVariants.{BadSurvey}
use Rattle.rules.specs.Pool.{rectangle}
use Rattle.rules.specs.Survey.{query_window}
use Rattle.rules.specs.Computed.{document02}
use Rattle.rules.specs.Histories.{minus}

-- ---- the table's columns

pub record SurveyExample : Type 0 where
  pub query : Query
  pub becomes : Surveyed

-- ---- what the rows speak of

-- so many quarters of a millimetre, as a double; and minus zero
abbrev quarters : ℤ → Float
quarters n = div binary64 (of_int binary64 n) (of_int binary64 (pos 4))

abbrev minus_zero : Float
minus_zero = neg (quarters (pos 0))

-- the smallest double above zero; the next after 1,000,000,000
abbrev smallest : Float
smallest = of_bits binary64 1

abbrev just_beyond : Float
just_beyond = of_bits binary64 4741671816366391297

abbrev boxed : Float → Float → Float → Float → Query
boxed a b c d = Box (record { lowX = a; lowY = b; highX = c; highY = d })

abbrev whole : ℤ → ℤ → ℤ → ℤ → Surveyed
whole a b c d = Ok (rectangle a b c d)

-- ---- the table

abbrev pub survey_table : List SurveyExample
survey_table =
    -- from (-0.5, 0.25) to (2, 2.5)
    record { query = boxed (quarters (minus 2)) (quarters (pos 1)) (quarters (pos 8)) (quarters (pos 10)); becomes = whole (minus 1) (pos 0) (pos 2) (pos 3) }
    -- the smallest doubles on both sides of zero, and minus zero
    ∷ record { query = boxed (neg smallest) smallest smallest smallest; becomes = whole (minus 1) (pos 0) (pos 1) (pos 1) }
    ∷ record { query = boxed minus_zero (quarters (pos 0)) (quarters (pos 0)) minus_zero; becomes = whole (pos 0) (pos 0) (pos 0) (pos 0) }
    -- the whole site, and a bound that is just beyond it
    ∷ record {
      query = boxed (quarters (minus 4000000000)) (quarters (minus 4000000000)) (quarters (pos 4000000000)) (quarters (pos 4000000000));
      becomes = whole (minus 1000000000) (minus 1000000000) (pos 1000000000) (pos 1000000000);
    }
    ∷ record { query = boxed (quarters (pos 0)) (quarters (pos 0)) (quarters (pos 4)) just_beyond; becomes = Err BadSurvey }
    ∷ record { query = boxed (neg just_beyond) (quarters (pos 0)) (quarters (pos 4)) (quarters (pos 4)); becomes = Err BadSurvey }
    -- low above high, though 0 .. 1 would be none
    ∷ record { query = boxed (quarters (pos 3)) (quarters (pos 0)) (quarters (pos 1)) (quarters (pos 4)); becomes = Err BadSurvey }
    -- points: (1.5, -1.5), and what is no number
    ∷ record { query = Point (quarters (pos 6)) (quarters (minus 6)); becomes = whole (pos 1) (minus 2) (pos 2) (minus 1) }
    ∷ record { query = Point nan (quarters (pos 0)); becomes = Err BadSurvey }
    ∷ record { query = Point (quarters (pos 0)) (inf true); becomes = Err BadSurvey }
    -- the disc around (0.5, 10) of radius 2.25, and of a negative one; radius minus zero
    ∷ record { query = Disc (quarters (pos 2)) (quarters (pos 40)) (quarters (pos 9)); becomes = whole (minus 3) (pos 6) (pos 4) (pos 14) }
    ∷ record { query = Disc (quarters (pos 2)) (quarters (pos 40)) (quarters (minus 9)); becomes = Err BadSurvey }
    ∷ record { query = Disc (quarters (pos 20)) (quarters (pos 20)) minus_zero; becomes = whole (pos 4) (pos 4) (pos 6) (pos 6) }
    -- discs that end at the limit, and the further millimetre beyond it
    ∷ record {
      query = Disc (quarters (pos 3999999994)) (quarters (pos 0)) (quarters (pos 2));
      becomes = whole (pos 999999997) (minus 2) (pos 1000000000) (pos 2);
    }
    ∷ record { query = Disc (quarters (pos 3999999994)) (quarters (pos 0)) (quarters (pos 3)); becomes = Err BadSurvey }
    ∷ []

-- each query becomes what its row says
pub survey_examples : map (λ (e : SurveyExample). query_window e.query) survey_table ≡ map (λ (e : SurveyExample). e.becomes) survey_table
unfolding document02
survey_examples = refl
