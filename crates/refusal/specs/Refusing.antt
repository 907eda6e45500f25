-- What refuses a call: the first of the rows that applies.
use Rattle.std.specs.Prelude.{Bool, not, ◌||◌, List, [], ◌∷◌, ℕ, length, ltb, eqb, ℤ, Result}
use Rattle.rules.specs.declared.CallFault.{CallFault}
use Rattle.rules.specs.declared.CallFault.TheVariants.{BadLists, BadOwner, BadLength, NotSound, NoRequest}
use Rattle.rules.specs.Numbers.{most_requests, good_owner}
use Rattle.rules.specs.Owners.{owner}
use Rattle.rules.specs.Layout.{valid_length}
use Rattle.rules.specs.Sound.{sound}
use Rattle.rules.specs.Answers.{checked, row, first_row}

-- `call_fault`, from the pool's words, the owner, the lengths of the other lists, and whether everything asked is a request
unfoldable pub refusal_of : List ℤ → ℤ → ℕ → ℕ → ℕ → Bool → Result (Unit {0}) CallFault
refusal_of pool who workspace requests answers asked =
    checked (first_row (
    row (ltb most_requests requests || not (eqb answers requests)) BadLists
    ∷ row (not (good_owner (owner who))) BadOwner
    ∷ row (not (valid_length pool) || not (eqb workspace (length pool))) BadLength
    ∷ row (not (sound pool)) NotSound
    ∷ row (not asked) NoRequest
    ∷ []))
