-- What is lent to a call, what comes back of it, and what is promised of that. A check of a pool is a call with no request.
use Rattle.std.specs.Prelude.{◌≡◌, List, [], ℤ, pos}
use Rattle.rules.specs.declared.Owner.{Owner}
use Rattle.rules.specs.declared.FoundRecord.{FoundRecord}
use Rattle.rules.specs.declared.Request.{Request}
use Rattle.rules.specs.declared.Answer.{Answer}
use Rattle.rules.specs.Owners.{owner}
use Rattle.rules.specs.Call.{Lent, Left, call}

-- what is lent, and for whom. `dustmap_call` is for owner 1, `dustmap_call_as` for the one it is told
abbrev pub lent : Owner → List ℤ → List ℤ → List Request → List Answer → List FoundRecord → Lent
lent o pool work requests answers found =
    record { owner = o; pool = pool; workspace = work; requests = requests; answers = answers; found = found }

-- the pool, with a workspace of its length and lists with nothing in them, for owner 1
abbrev pub nothing_asked : List ℤ → Lent
nothing_asked w = lent (owner (pos 1)) w w [] [] []

-- what comes back
abbrev pub left : ℤ → List ℤ → List ℤ → List Answer → List FoundRecord → Left
left number pool work answers found = record { number = number; pool = pool; workspace = work; answers = answers; found = found }

-- what `dustmap_call` and `dustmap_call_as` promise about each thing that comes back
pub record Allowed (l : Lent) (o : Left) : Type 0 where
  pub number : o.number ≡ (call l).number
  pub pool : o.pool ≡ (call l).pool
  pub workspace : o.workspace ≡ (call l).workspace
  pub answers : o.answers ≡ (call l).answers
  pub found : o.found ≡ (call l).found
