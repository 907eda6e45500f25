-- A pool changed only by requests: calls one after another, from a blank pool on.
use Rattle.std.specs.Prelude.{◌≡◌, List, [], ◌∷◌, ℕ, ℤ, pos}
use Rattle.rules.specs.declared.Edition.{Edition}
use Rattle.rules.specs.declared.Record.{Record}
use Rattle.rules.specs.Pool.{blank_pool}
use Rattle.rules.specs.Layout.{words}
use Rattle.rules.specs.Insert.{Choice}
use Rattle.rules.specs.Call.{Lent, batch_owner, call_by}
use Rattle.in_force_laws.specs.Force.{force_after}

module _ (c : Choice) where
  -- the pool that the calls leave, the latest first in the list: at the start a blank one of an edition, of n + 1 slots
  unfoldable pub pool_served : Edition → ℕ → List Lent → List ℤ
  pool_served e n [] = words (blank_pool e n)
  pool_served e n (l ∷ ls) = (call_by c l).pool

  -- the records in force after them, by their requests and answers: none in a blank pool
  unfoldable pub force_of : List Lent → List Record
  force_of [] = []
  force_of (l ∷ ls) = force_after (batch_owner l) (force_of ls) 0 l.requests (call_by c l).answers

  -- each call was lent the pool that the ones before it left, and returned 0. ("A refused call .. writes nothing at all.")
  abbrev pub CallsServed : Edition → ℕ → List Lent → Type 0
  CallsServed e n [] = Unit {0}
  CallsServed e n (l ∷ ls) = (l.pool ≡ pool_served e n ls) × ((call_by c l).number ≡ pos 0) × CallsServed e n ls
