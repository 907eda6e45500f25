-- Req 07: what an owner can tell of the other's records. Two pools that are the same to an owner, and one batch done in either.
use Rattle.std.specs.Prelude.{◌≡◌, ◌≢◌, List, ℕ, ◌+◌, ◌≤◌, ◌<◌, get_or}
use Rattle.rules.specs.declared.Edition.TheVariants.{Two}
use Rattle.rules.specs.declared.Owner.{Owner}
use Rattle.rules.specs.declared.Record.{Record}
use Rattle.rules.specs.declared.Answer.{Answer}
use Rattle.rules.specs.Lists.{those}
use Rattle.rules.specs.Owners.{owned_by}
use Rattle.rules.specs.Pool.{Pool}
use Rattle.rules.specs.Answers.{answer}
use Rattle.rules.specs.Call.{Batch}
use Rattle.search_laws.specs.Order.{Alike}
use Rattle.in_force_laws.specs.Shows.{HoldsRecords}

-- two pools of edition 2, with the records rs and us in force: those of the owner are the same in both, each as often. The other owner's may be any
pub record SameTo (o : Owner) (p : Pool) (rs : List Record) (z : Pool) (us : List Record) : Type 0 where
  pub one : HoldsRecords p rs
  pub other : HoldsRecords z us
  pub one_edition : p.edition ≡ Two
  pub other_edition : z.edition ≡ Two
  pub own : Alike (those (owned_by o) rs) (those (owned_by o) us)

-- the batch, as far as it has come, in another pool: the same owner, lists and places filled
abbrev pub in_pool : Pool → Batch → Batch
in_pool z b = record { owner = b.owner; pool = z; answers = b.answers; found = b.found; filled = b.filled }

-- "no request refused 7": of the n answers from place i on none is
abbrev pub NoneSeven : ℕ → ℕ → List Answer → Type 0
NoneSeven i n told = (j : ℕ) → i ≤ j → j < i + n → (get_or told j (answer 0 0 0 0)).number ≢ 7
