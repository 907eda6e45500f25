-- "any pair of outcomes allowed by it is equal": there is one, and no other.
use mathlib.Core.Path.{◌≡◌, refl, sym, ◌∙◌}
use Rattle.rules.specs.Call.{Lent, Left, call}
use Rattle.promises.specs.Calls.{Allowed}

-- what the definition gives is allowed
pub allowed : (l : Lent) → Allowed l (call l)
allowed l = record { number = refl; pool = refl; workspace = refl; answers = refl; found = refl }

-- whatever two runs of the call leave, it is the same
pub once : (l : Lent) (o o' : Left) → Allowed l o → Allowed l o' → o ≡ o'
once l o o' a b = λ i. record {
  number = (a.number ∙ sym b.number) i;
  pool = (a.pool ∙ sym b.pool) i;
  workspace = (a.workspace ∙ sym b.workspace) i;
  answers = (a.answers ∙ sym b.answers) i;
  found = (a.found ∙ sym b.found) i;
}
