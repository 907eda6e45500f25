-- What search finds and opens, by the clauses of the definitions, each said once: level 0, a leaf, an inner node.
use mathlib.Core.Path.{◌≡◌, refl, ap, ◌∙◌}
use mathlib.Core.List.{List, [], map}
use Prim.Native.Nat.{ℕ, suc}
use Rattle.rules.specs.declared.Rect.{Rect}
use Rattle.rules.specs.declared.SlotNumber.{SlotNumber}
use Rattle.rules.specs.declared.Entry.{Entry}
use Rattle.rules.specs.declared.Mode.{Mode}
use Rattle.rules.specs.declared.Mode.TheVariants.{Meeting}
use Rattle.rules.specs.Lists.{those, joined, total}
use Rattle.rules.specs.Geometry.{meets}
use Rattle.rules.specs.Compare.{compared, wanted}
use Rattle.rules.specs.Pool.{Pool, entries_at, child_of, record_of}
use Rattle.rules.specs.Search.{meeting, listed_by, found_in, opened_in}
use Rattle.rules_laws.proofs.Parts.{those_same}
use Rattle.rules_laws.proofs.Compares.{meeting_is}

-- the children that are opened are those that meet the window, by the plain test
pub meeting_those : (window : Rect) (es : List Entry) → meeting window es ≡ those (λ e. meets e.rect window) es
unfolding meeting
meeting_those window es = those_same _ _ es (λ e m. meeting_is e.rect window)

module _ (p : Pool) (window : Rect) where
  module _ (mode : Mode) where
    pub found_none : (s : SlotNumber) → found_in p mode window 0 s ≡ []
    unfolding found_in
    found_none s = refl

    pub found_leaf : (s : SlotNumber) → found_in p mode window 1 s ≡ map record_of (those (λ e. wanted mode (compared e.rect window)) (entries_at p s))
    unfolding found_in listed_by
    found_leaf s = refl

    pub found_inner : (l : ℕ) (s : SlotNumber) → found_in p mode window (suc (suc l)) s
        ≡ joined (map (λ (e : Entry). found_in p mode window (suc l) (child_of e)) (those (λ e. meets e.rect window) (entries_at p s)))
    unfolding found_in
    found_inner l s = rw (meeting_those window (entries_at p s))

  -- in mode meeting a leaf's records are those that meet the window, by the plain test
  pub found_leaf_met : (s : SlotNumber) → found_in p Meeting window 1 s ≡ map record_of (those (λ e. meets e.rect window) (entries_at p s))
  unfolding wanted
  found_leaf_met s = found_leaf Meeting s ∙ ap (map record_of) (those_same _ _ (entries_at p s) (λ e m. meeting_is e.rect window))

  pub opened_none : (s : SlotNumber) → opened_in p window 0 s ≡ 0
  unfolding opened_in
  opened_none s = refl

  pub opened_leaf : (s : SlotNumber) → opened_in p window 1 s ≡ 1
  unfolding opened_in
  opened_leaf s = refl

  pub opened_inner : (l : ℕ) (s : SlotNumber) → opened_in p window (suc (suc l)) s
      ≡ suc (total (map (λ (e : Entry). opened_in p window (suc l) (child_of e)) (those (λ e. meets e.rect window) (entries_at p s))))
  unfolding opened_in
  opened_inner l s = rw (meeting_those window (entries_at p s))
