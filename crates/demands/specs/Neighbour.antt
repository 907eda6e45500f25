-- Req 07, what an owner can tell of the other, about every outcome that the promise of `dustmap_call` and `dustmap_call_as` allows.
use Rattle.std.specs.Prelude.{◌≡◌, ◌≢◌, Bool, List, [], ◌∷◌, map, ℕ, ℤ, pos}
use Rattle.rules.specs.declared.Edition.TheVariants.{Two}
use Rattle.rules.specs.declared.Owner.{Owner}
use Rattle.rules.specs.declared.FoundRecord.{FoundRecord}
use Rattle.rules.specs.declared.Request.{Request}
use Rattle.rules.specs.declared.Answer.{Answer}
use Rattle.rules.specs.Lists.{those, same}
use Rattle.rules.specs.Call.{Lent, Left}
use Rattle.rules_laws.proofs.Places.{Each}
use Rattle.demands.specs.Steps.{Step, Call, History}

-- a batch: what was lent to its call, and what came back
pub record BatchCall : Type 0 where
  pub lent : Lent
  pub left : Left

-- "histories of batches": every step is a call, the latest first. The batches are of owners 1 and 2, in any order, with any requests, lists and
-- workspaces; calls that are refused, also 13 for another owner, may be among them
abbrev pub batch_steps : List BatchCall → List Step
batch_steps [] = []
batch_steps (c ∷ cs) = Call c.lent c.left ∷ batch_steps cs

-- the batches of an owner
abbrev pub is_of : Owner → BatchCall → Bool
is_of w c = same c.lent.owner.0 w.0

abbrev pub batches_of : Owner → List BatchCall → List BatchCall
batches_of w cs = those (is_of w) cs

-- what an owner lends to a batch: all but the pool, which is shared
pub record Beside : Type 0 where
  pub workspace : List ℤ
  pub requests : List Request
  pub answers : List Answer
  pub found : List FoundRecord

abbrev pub beside : BatchCall → Beside
beside c =
    record { workspace = c.lent.workspace; requests = c.lent.requests; answers = c.lent.answers; found = c.lent.found }

-- what the owner hears of it: the number that the call returned, the answers and the found list. (The pool comes back too, and the workspace equal
-- to it: both owners' words are there, for anyone who reads them)
pub record Heard : Type 0 where
  pub number : ℤ
  pub answers : List Answer
  pub found : List FoundRecord

abbrev pub heard : BatchCall → Heard
heard c = record { number = c.left.number; answers = c.left.answers; found = c.left.found }

-- "no request refused 7": of the batches that were done, no answer is 7. (The answers of a refused call are as they were lent)
abbrev pub NoSevens : List BatchCall → Type 0
NoSevens cs = Each (λ (c : BatchCall). c.left.number ≡ pos 0 → Each (λ (a : Answer). a.number ≢ 7) c.left.answers) cs

-- "Take two histories of batches from blank edition 2 pools of one length ..
pub record TwoHistories (w : Owner) (n : ℕ) (cs ds : List BatchCall) : Type 0 where
  pub one : History Two n (batch_steps cs)
  pub other : History Two n (batch_steps ds)
  -- .. with the same batches, lists and workspaces lent for owner 1, ..
  pub lent : map beside (batches_of w cs) ≡ map beside (batches_of w ds)
  -- .. and no request refused 7: ..". It is enough that none of this owner's is. Slots are shared, and so 7 is what an owner can still learn of the
  -- other by: `slots_are_shared` of ClosedNeighbour.antt has two such histories that differ in it
  pub no_seven : NoSevens (batches_of w cs)
  pub no_seven_there : NoSevens (batches_of w ds)

-- ".. owner 1's answers and found lists are the same."
abbrev pub HeardAlike : Owner → List BatchCall → List BatchCall → Type 0
HeardAlike w cs ds = map heard (batches_of w cs) ≡ map heard (batches_of w ds)
