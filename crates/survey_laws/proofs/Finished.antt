-- A rectangle that is not refused, and what was asked of it.
use mathlib.Core.Path.{◌≡◌, refl, sym, ap}
use mathlib.Core.Bool.{Bool, true, false, cond, ◌&&◌, true≢false}
use Rattle.rules.specs.declared.Rect.{Rect}
use Rattle.rules.specs.Survey.{Surveyed}
use Rattle.std.specs.Prelude.{Ok, Err}
use Rattle.rules.specs.declared.SurveyFault.TheVariants.{BadSurvey}
use Rattle.rules.specs.Numbers.{in_range}
use Rattle.rules.specs.Geometry.{no_rect}
use Rattle.rules.specs.Survey.{finish}
use Rattle.survey_laws.specs.Sizes.{all_in_range}
use Rattle.rules_laws.proofs.Bools.{and_both}

abbrev whole_of : Surveyed → Rect
whole_of (Ok r) = r
whole_of (Err BadSurvey) = no_rect

abbrev is_whole : Surveyed → Bool
is_whole (Ok r) = true
is_whole (Err BadSurvey) = false

-- one rectangle is not another, and a refusal is none
pub same_whole : (r s : Rect) → ◌≡◌ {A = Surveyed} (Ok r) (Ok s) → r ≡ s
same_whole r s e = ap whole_of e

pub no_whole : {X : Type 0} (r : Rect) → ◌≡◌ {A = Surveyed} (Err BadSurvey) (Ok r) → X
no_whole r e = absurd (true≢false (ap is_whole (sym e)))

-- the four coordinates are in range
pub record InRange (r : Rect) : Type 0 where
  pub lowX : in_range r.lowX ≡ true
  pub lowY : in_range r.lowY ≡ true
  pub highX : in_range r.highX ≡ true
  pub highY : in_range r.highY ≡ true

pub record GoodRect (good : Bool) (r : Rect) : Type 0 where
  pub asked : good ≡ true
  pub range : InRange r

pub good_parts : (good : Bool) (r : Rect) → (good && in_range r.lowX && in_range r.lowY && in_range r.highX && in_range r.highY) ≡ true → GoodRect good r
good_parts good r e =
    let a = and_both (good && in_range r.lowX && in_range r.lowY && in_range r.highX) (in_range r.highY) e in
    let b = and_both (good && in_range r.lowX && in_range r.lowY) (in_range r.highX) a.0 in
    let c = and_both (good && in_range r.lowX) (in_range r.lowY) b.0 in
    let d = and_both good (in_range r.lowX) c.0 in
    record { asked = d.0; range = record { lowX = d.1; lowY = c.1; highX = b.1; highY = a.1 } }

pub finished_good : (good : Bool) (r : Rect) → GoodRect good r → finish good r ≡ Ok r
unfolding finish
finished_good good r g = rw (g.asked, g.range.lowX, g.range.lowY, g.range.highX, g.range.highY)

-- what is not refused was good, and is what was asked about
pub record Finished (good : Bool) (r s : Rect) : Type 0 where
  pub same : r ≡ s
  pub parts : GoodRect good r

pub finished_parts : (good : Bool) (r s : Rect) → finish good r ≡ Ok s → Finished good r s
unfolding finish
finished_parts good r s e = go (good && in_range r.lowX && in_range r.lowY && in_range r.highX && in_range r.highY) refl e
  where
    go : (t : Bool) → (good && in_range r.lowX && in_range r.lowY && in_range r.highX && in_range r.highY) ≡ t
        → ◌≡◌ {A = Surveyed} (cond t (Ok r) (Err BadSurvey)) (Ok s) → Finished good r s
    go true p q = record { same = same_whole r s q; parts = good_parts good r p }
    go false p q = no_whole s q

-- where one of the questions is answered otherwise, it is refused
pub not_finished : (good : Bool) (r : Rect) → (GoodRect good r → ⊥) → finish good r ≡ Err BadSurvey
unfolding finish
not_finished good r f = go (good && in_range r.lowX && in_range r.lowY && in_range r.highX && in_range r.highY) refl
  where
    go : (t : Bool) → (good && in_range r.lowX && in_range r.lowY && in_range r.highX && in_range r.highY) ≡ t
        → ◌≡◌ {A = Surveyed} (cond t (Ok r) (Err BadSurvey)) (Err BadSurvey)
    go true p = absurd (f (good_parts good r p))
    go false p = refl

-- as the code asks it
pub finished_yes : (r : Rect) → all_in_range r ≡ true → Ok r ≡ finish true r
unfolding finish all_in_range
finished_yes r e = rw e

pub finished_no : (r : Rect) → all_in_range r ≡ false → Err BadSurvey ≡ finish true r
unfolding finish all_in_range
finished_no r e = rw e
