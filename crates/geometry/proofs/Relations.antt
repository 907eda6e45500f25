-- An arm of a `match` on a relation names the cases that it is for by their numbers, in the order of their declaration. So where a question
-- has one answer for all of these cases, it has that answer for the relation that came to the arm.
use mathlib.Core.Path.{◌≡◌, refl, sym, ap, ◌∙◌}
use mathlib.Core.Logic.{inl, inr}
use mathlib.Core.Bool.{Bool}
use mathlib.Core.List.{List, [], ◌∷◌}
use Prim.Native.Nat.{ℕ, zero, suc}
use denote.Enum.Declared.{tag_of}
use types.Run.{OneOf}
use Rattle.rules.specs.contracts.Relation.{the_type}
use Rattle.rules.specs.declared.Relation.{Relation}
use Rattle.rules.specs.declared.Relation.TheVariants.{Apart, Inside, Enclosing, Equal, OtherwiseMeeting}

-- the case of a number
unfoldable pub case_of : ℕ → Relation
case_of zero = Apart
case_of (suc zero) = Inside
case_of (suc (suc zero)) = Enclosing
case_of (suc (suc (suc zero))) = Equal
case_of (suc (suc (suc (suc n)))) = OtherwiseMeeting

case_back : (r : Relation) → case_of (tag_of the_type r) ≡ r
unfolding case_of
case_back Apart = refl
case_back Inside = refl
case_back Enclosing = refl
case_back Equal = refl
case_back OtherwiseMeeting = refl

module _ (asks : Relation → Bool) (b : Bool) where
  -- the question has the answer b for each of the cases
  abbrev pub AllSay : List ℕ → Type 0
  AllSay [] = Unit {0}
  AllSay (k ∷ ks) = (b ≡ asks (case_of k)) × AllSay ks

  at_case : (k : ℕ) (r : Relation) → b ≡ asks (case_of k) → tag_of the_type r ≡ k → b ≡ asks r
  at_case k r h e = h ∙ ap asks (ap case_of (sym e) ∙ case_back r)

  pub by_arm : (ks : List ℕ) → AllSay ks → (r : Relation) → OneOf ks (tag_of the_type r) → b ≡ asks r
  by_arm [] h r e = absurd e
  by_arm (k ∷ []) h r e = at_case k r h.0 e
  by_arm (k ∷ j ∷ ks) h r (inl e) = at_case k r h.0 e
  by_arm (k ∷ j ∷ ks) h r (inr e) = by_arm (j ∷ ks) h.1 r e
