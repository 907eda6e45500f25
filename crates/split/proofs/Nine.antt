-- The nine, measured one after another: their rectangles are those that were given.
use mathlib.Core.Path.{◌≡◌, ap₂, sym, ◌∙◌}
use mathlib.Core.List.{List, [], ◌∷◌, ◌++◌}
use Prim.Native.Nat.{ℕ, ◌+◌, ◌≤◌, ◌<◌}
use native.Mathlib.Numerals.{add-one}
use native.Mathlib.Omega.{arith}
use lib.ListN.{length, take, get_or, set, length-set, length-map, get_or-map}
use lib.Seq.{take-suc, take-suc-set}
use Rattle.std.proofs.lemmas.List.{map-set, take_all}
use Rattle.rules.specs.declared.Rect.{Rect}
use Rattle.rules.specs.Geometry.{no_rect}
use Rattle.rules.specs.Choose.{rect_from}
use Rattle.rules_laws.proofs.Places.{get_d_any}
use Rattle.split.specs.declared.measured.Measured.{Measured}
use Rattle.split.specs.State.{rects_of}

pub record MeasuredTo (nine : List Rect) (all : List Measured) (i : ℕ) : Type 0 where
  pub long : length all ≡ 9
  pub is : take i (rects_of all) ≡ take i nine

pub measured_more : {nine : List Rect} {all : List Measured} {i : ℕ} → MeasuredTo nine all i
    → length nine ≡ 9 → i < 9 → (m : Measured)
    → m.rect ≡ get_or nine i no_rect → MeasuredTo nine (set all i m) (i + 1)
measured_more {nine} {all} {i} f l h m e = record {
  long = length-set all i m ∙ f.long;
  is =
      rw (map-set (λ (x : Measured). x.rect) all i m, add-one i)
      (take-suc-set (rects_of all) i m.rect (omega (arith, h, length-map all (λ (x : Measured). x.rect), f.long))
      ∙ ap₂ (λ (rs : List Rect) (r : Rect). rs ++ r ∷ []) f.is e ∙ sym (take-suc nine i no_rect (omega (arith, h, l))));
}

pub measured_all : {nine : List Rect} {all : List Measured} {i : ℕ} → MeasuredTo nine all i
    → length nine ≡ 9 → 9 ≤ i → rects_of all ≡ nine
measured_all {nine} {all} {i} f l h =
    sym (take_all i (rects_of all) (omega (arith, h, length-map all (λ (x : Measured). x.rect), f.long))) ∙ f.is
    ∙ take_all i nine (omega (arith, h, l))

-- the rectangle of one of them
pub rect_is : (ms : List Measured) (i : ℕ) (d : Measured) → i < length ms
    → (get_or ms i d).rect ≡ rect_from (rects_of ms) i
unfolding rect_from
rect_is ms i d h =
    sym (get_or-map (λ (x : Measured). x.rect) ms i d) ∙ get_d_any (rects_of ms) i d.rect no_rect (omega (arith, h, length-map ms (λ (x : Measured). x.rect)))
