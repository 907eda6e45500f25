-- A check of `request` answers by one truth: so where it refuses the truth is false and the fault is its own, and where it passes the truth holds.
use mathlib.Core.Path.{◌≡◌, refl, sym, ap, subst, ◌∙◌}
use mathlib.Core.Bool.{Bool, true, false}
use mathlib.Core.List.{List, []}
use Rattle.std.specs.Prelude.{Result, Ok, Err, MatchResult}
use Prim.Native.Nat.{ℕ}
use lib.IntN.{ℤ}
use Rattle.rules.specs.declared.Asked.{Asked}
use Rattle.rules.specs.declared.RequestFault.{RequestFault}
use Rattle.rules.specs.Layout.{read}
use Rattle.rules.specs.Insert.{ours}
use Rattle.rules.specs.Request.{turn, request}
use Rattle.free_slots.specs.declared.FreeSlots.{FreeSlots}
use Rattle.request.specs.Serving.{Ready, ChangesTo, changed, refused_unless}
use Rattle.request.proofs.Turns.{row_applies}

abbrev fault_in : RequestFault → Result (Unit {0}) RequestFault → RequestFault
fault_in fault (Ok u) = fault
fault_in fault (Err x) = x

module _ (b : Bool) (fault : RequestFault) {v : Result (Unit {0}) RequestFault} (is : v ≡ refused_unless b fault) where
  pub passed : {u : Unit {0}} → v ≡ Ok u → b ≡ true
  passed {u} e = go b (sym e ∙ is)
    where
      go : (c : Bool) → Ok u ≡ refused_unless c fault → c ≡ true
      go true h = refl
      go false h = absurd (subst (λ (r : Result (Unit {0}) RequestFault). MatchResult r (λ x. Unit {0}) (λ x. ⊥)) h tt)

  failed : {x : RequestFault} → v ≡ Err x → b ≡ false
  failed {x} e = go b (sym e ∙ is)
    where
      go : (c : Bool) → Err x ≡ refused_unless c fault → c ≡ false
      go false h = refl
      go true h = absurd (subst (λ (r : Result (Unit {0}) RequestFault). MatchResult r (λ y. ⊥) (λ y. Unit {0})) h tt)

  own : {x : RequestFault} → v ≡ Err x → x ≡ fault
  own {x} e = ap (fault_in fault) (sym e ∙ is) ∙ go b
    where
      go : (c : Bool) → fault_in fault (refused_unless c fault) ≡ fault
      go true = refl
      go false = refl

  -- where it refuses, a row of the table that asks the same applies
  pub check_refuses : (w : List ℤ) (f : FreeSlots) → Ready w f → (a : Asked) {x : RequestFault} → v ≡ Err x
      → (b ≡ false → (filled room : ℕ) → request ours (read w) filled room a ≡ turn (read w) (Err fault) []) → ChangesTo w a (changed f (Err x)) w
  check_refuses w f r a e row =
      subst (λ (x : RequestFault). ChangesTo w a (changed f (Err x)) w) (sym (own e)) (row_applies w f r a fault (row (failed e)))
