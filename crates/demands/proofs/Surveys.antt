-- Req 03: what comes back of a query of doubles, by what the call promises.
use mathlib.Core.Path.{◌≡◌, refl, sym, ap, ◌∙◌}
use mathlib.Core.Logic.{inl, inr}
use mathlib.Core.List.{List, [], ◌∷◌}
use Prim.Native.Nat.{ℕ}
use native.Mathlib.Omega.{arith}
use lib.ListN.{length}
use lib.IntN.{ℤ, pos, negsuc}
use lib.Signed.{mag}
use lib.Ieee.{fin, fits}
use mathlib.Core.Bool.{false}
use Rattle.rules.specs.Computed.{document02}
use Rattle.rules.specs.declared.Rect.{Rect}
use Rattle.rules.specs.declared.Query.{Query}
use Rattle.rules.specs.declared.Query.TheVariants.{Point, Box, Disc}
use Rattle.rules.specs.Survey.{Surveyed}
use Rattle.std.specs.Prelude.{Ok, Err}
use Rattle.rules.specs.declared.SurveyFault.TheVariants.{BadSurvey}
use Rattle.rules.specs.Compare.{wanted}
use Rattle.rules_laws.proofs.Compares.{meeting_is}
use Rattle.rules.specs.Survey.{point_box, query_window, survey_fault_number, survey_number, survey_words, HoldsBox}
use Rattle.survey_laws.specs.Queries.{OfDoubles}
use Rattle.survey_laws.proofs.Boxes.{box_rounded}
use Rattle.survey_laws.proofs.Discs.{disc_held, disc_near}
use Rattle.survey_laws.proofs.Surveys.{box_held, window_valid, none_missed}
use Rattle.promises.specs.Surveys.{Converts}
use Rattle.demands.specs.Surveys.{Shown, exact_query, NearQuery, Surveys}

query_holds : (q : Query) → OfDoubles q → (r : Rect) → query_window q ≡ Ok r → HoldsBox (exact_query q) r
unfolding query_window
query_holds (Point x y) h r e = box_held (point_box x y) r e
query_holds (Box b) h r e = box_held b r e
query_holds (Disc x y radius) h r e = disc_held x y radius h r e

query_near : (q : Query) → OfDoubles q → (r : Rect) → query_window q ≡ Ok r → NearQuery q r
unfolding query_window
query_near (Point x y) h r e = box_rounded (point_box x y) r e
query_near (Box b) h r e = box_rounded b r e
query_near (Disc x y radius) h r e = disc_near x y radius h r e

-- four words written over four
over_four : (r : Rect) (lent : List ℤ) → length lent ≡ 4 → survey_words (Ok r) lent ≡ r.lowX ∷ r.lowY ∷ r.highX ∷ r.highY ∷ []
unfolding survey_words
over_four r (a ∷ b ∷ c ∷ d ∷ []) h = refl
over_four r [] h = absurd (omega arith)
over_four r (a ∷ []) h = absurd (omega arith)
over_four r (a ∷ b ∷ []) h = absurd (omega arith)
over_four r (a ∷ b ∷ c ∷ []) h = absurd (omega arith)
over_four r (a ∷ b ∷ c ∷ d ∷ e ∷ more) h = absurd (omega arith)

not_both : {X : Type 0} → ◌≡◌ {A = ℤ} (pos 0) (pos 12) → X
not_both e = absurd (apart (ap mag e))
  where
    apart : ◌≡◌ {A = ℕ} 0 12 → ⊥
    apart h = omega arith

module _ (q : Query) (h : OfDoubles q) (lent : List ℤ) (four : length lent ≡ 4) (n : ℤ) (words : List ℤ) (c : Converts (query_window q) lent n words) where
  by_window : (w : Surveyed) → query_window q ≡ w → Surveys q lent n words
  unfolding survey_number survey_fault_number survey_words wanted
  by_window (Ok r) e =
      let number : n ≡ pos 0 = c.number ∙ ap survey_number e in
      record {
        either = inl number;
        accepted = λ _. record {
          rect = r;
          is = c.written ∙ ap (λ (w : Surveyed). survey_words w lent) e ∙ over_four r lent four;
          good = window_valid q h r e;
          holds = query_holds q h r e;
          near = query_near q h r e;
          lists = λ s m. meeting_is s.rect r ∙ none_missed (exact_query q) r (query_holds q h r e) s.rect m;
        };
        refused = λ z. not_both (sym number ∙ z);
      }
  by_window (Err BadSurvey) e =
      let number : n ≡ pos 12 = c.number ∙ ap survey_number e in
      record {
        either = inr number;
        accepted = λ z. not_both (sym z ∙ number);
        refused = λ _. c.written ∙ ap (λ (w : Surveyed). survey_words w lent) e;
      }

  -- Req 03, of the three exported calls
  pub surveyors_boxes : Surveys q lent n words
  surveyors_boxes = by_window (query_window q) refl

-- ---- a disc that meets every hypothesis: around (0.5, 10), of radius 2.25, with four words lent

abbrev pub a_disc : Query
a_disc = Disc (fin false 1 (negsuc 0)) (fin false 5 (pos 1)) (fin false 9 (negsuc 1))

pub closed_survey : Shown a_disc (negsuc 2 ∷ pos 6 ∷ pos 4 ∷ pos 14 ∷ [])
unfolding document02 fits
closed_survey =
    (surveyors_boxes a_disc (tt, tt, tt) (pos 1 ∷ pos 2 ∷ pos 3 ∷ pos 4 ∷ []) refl (pos 0) (negsuc 2 ∷ pos 6 ∷ pos 4 ∷ pos 14 ∷ [])
    (record { number = refl; written = refl })).accepted refl
