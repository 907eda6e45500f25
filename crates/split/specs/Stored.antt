-- Places of the nine, in stored order: as a fact with one proof at most, which a struct may keep.
use Rattle.std.specs.Prelude.{List, [], ◌∷◌, ℕ, ◌<◌}
use Rattle.std.specs.Coded.{×_prop, Unit-prop, le_prop}
use Rattle.rules_laws.proofs.Places.{Each, Ordered}

abbrev pub Stored : List ℕ → Type 0
Stored ps = Each (λ k. k < 9) ps × Ordered ◌<◌ ps

each_prop : (P : ℕ → Type 0) → ((k : ℕ) → IsProp (P k)) → (ps : List ℕ) → IsProp (Each P ps)
each_prop P one [] = Unit-prop
each_prop P one (x ∷ ps) = ×_prop (one x) (each_prop P one ps)

ordered_prop : (ps : List ℕ) → IsProp (Ordered ◌<◌ ps)
ordered_prop [] = Unit-prop
ordered_prop (x ∷ ps) = ×_prop (each_prop (λ k. x < k) (λ k. le_prop) ps) (ordered_prop ps)

pub Stored-prop : (ps : List ℕ) → IsProp (Stored ps)
Stored-prop ps = ×_prop (each_prop (λ k. k < 9) (λ k. le_prop) ps) (ordered_prop ps)
