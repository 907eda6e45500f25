-- The table read from the top: what it gives is what one of its rows gives, and where it gives nothing no row applies.
use mathlib.Core.Path.{◌≡◌, refl, sym, subst}
use mathlib.Core.Bool.{Bool, true, false}
use mathlib.Core.List.{List, [], ◌∷◌}
use Rattle.std.specs.Prelude.{Option, None, Some}
use Rattle.rules.specs.Answers.{Row, row, first_row}

module _ {A : Type 0} where
  -- what is given, where something is, is as it should be
  abbrev pub EachGiven : (A → Type 0) → Option A → Type 0
  EachGiven Good None = Unit {0}
  EachGiven Good (Some a) = Good a

  pub given_none : (Good : A → Type 0) → EachGiven Good (first_row [])
  unfolding first_row
  given_none Good = tt

  pub given_row : (Good : A → Type 0) (b : Bool) (a : A) (rows : List (Row A)) → Good a → EachGiven Good (first_row rows)
      → EachGiven Good (first_row (row b a ∷ rows))
  unfolding first_row
  given_row Good true a rows g h = g
  given_row Good false a rows g h = h

  pub no_row : (b : Bool) (a : A) (rows : List (Row A)) → first_row (row b a ∷ rows) ≡ None → (b ≡ false) × (first_row rows ≡ None)
  unfolding first_row
  no_row true a rows h = absurd (subst (EachGiven (λ x. ⊥)) (sym h) tt)
  no_row false a rows h = (refl, h)

  pub no_rows : first_row {A = A} [] ≡ None
  unfolding first_row
  no_rows = refl

  pub row_passed : (b : Bool) (a : A) (rows : List (Row A)) → b ≡ false → first_row rows ≡ None → first_row (row b a ∷ rows) ≡ None
  unfolding first_row
  row_passed b a rows e h = rw (e, first_row) h
