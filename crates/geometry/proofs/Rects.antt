-- A rectangle in the code is four words of 32 bits. Each number fits its word, so a word reads back as the number that it holds.
use mathlib.Core.Path.{◌≡◌, sym, ap₂, ◌∙◌}
use mathlib.Core.Bool.{Bool}
use Prim.Native.Nat.{◌<◌, ◌^◌}
use lib.IntN.{ℤ}
use lib.Signed.{mag, le_z}
use mir.Syntax.{w32}
use mir.Val.{SFits, to_z, of_z, hbits}
use mir.Facts.{to_z-of_z}
use borrow.Author.Rules.{sfits_of}
use Rattle.rules.specs.declared.Rect.{Rect}

-- what a word of 32 bits says of the number that was put into it
abbrev pub back : ℤ → ℤ
back z = to_z w32 (of_z w32 z)

abbrev WordFits : ℤ → Type 0
WordFits z = mag z < 2 ^ hbits w32

pub record ReadBack (r : Rect) : Type 0 where
  pub lowX : back r.lowX ≡ r.lowX
  pub lowY : back r.lowY ≡ r.lowY
  pub highX : back r.highX ≡ r.highX
  pub highY : back r.highY ≡ r.highY

-- from what a need is told of a struct
pub rect_back : (r : Rect) {A B C D E : Type 0} → (A × WordFits r.lowX) × ((B × WordFits r.lowY) × ((C × WordFits r.highX) × ((D × WordFits r.highY) × E)))
    → ReadBack r
rect_back r g = record {
  lowX = to_z-of_z {w = w32} (sfits_of g.0.1);
  lowY = to_z-of_z {w = w32} (sfits_of g.1.0.1);
  highX = to_z-of_z {w = w32} (sfits_of g.1.1.0.1);
  highY = to_z-of_z {w = w32} (sfits_of g.1.1.1.0.1);
}

-- one of two numbers, by a function on their words
pub by_words : (f : ℤ → ℤ → ℤ) {x y z : ℤ} → WordFits z → z ≡ f (back x) (back y) → back x ≡ x → back y ≡ y → back z ≡ f x y
by_words f s e p q = to_z-of_z {w = w32} (sfits_of s) ∙ e ∙ ap₂ f p q

-- a test of two words is one of their numbers
pub by_test_lem : {x y : ℤ} {s t : Bool} → SFits w32 x → SFits w32 y → s ≡ le_z (back x) (back y) → s ≡ t → le_z x y ≡ t
by_test_lem p q e h = ap₂ le_z (sym (to_z-of_z p)) (sym (to_z-of_z q)) ∙ sym e ∙ h
