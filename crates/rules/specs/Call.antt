-- One call: the batch over the lent lists, for any input at all.
use Rattle.std.specs.Prelude.{Bool, true, false, not, ◌||◌, List, [], ◌∷◌, ℕ, suc, ◌+◌, ◌-◌, length, set, ltb, eqb, ℤ, pos, Option, None, Some}
use Rattle.std.proofs.lemmas.List.Edits.{sets}
use Rattle.rules.specs.declared.Owner.{Owner}
use Rattle.rules.specs.declared.FoundRecord.{FoundRecord}
use Rattle.rules.specs.declared.Request.{Request}
use Rattle.rules.specs.declared.Asked.{Asked}
use Rattle.rules.specs.declared.Answer.{Answer}
use Rattle.rules.specs.declared.CallFault.{CallFault}
use Rattle.rules.specs.declared.CallFault.TheVariants.{BadLists, BadOwner, BadLength, NotSound, NoRequest}
use Rattle.rules.specs.Lists.{every}
use Rattle.rules.specs.Numbers.{most_requests, good_owner}
use Rattle.rules.specs.Owners.{nobody, owner_in}
use Rattle.rules.specs.Pool.{Pool}
use Rattle.rules.specs.Layout.{valid_length, words, read}
use Rattle.rules.specs.Sound.{sound}
use Rattle.rules.specs.Insert.{Choice, ours}
use Rattle.rules.specs.Answers.{answer_of, call_fault_number, row, first_row}
use Rattle.rules.specs.Request.{Turn, asked, request}

-- what is lent to a call, and what it leaves there. Req 07: "A batch belongs to one owner, with its own lists"
pub record Lent : Type 0 where
  pub owner : Owner
  pub pool : List ℤ
  pub workspace : List ℤ
  pub requests : List Request
  pub answers : List Answer
  pub found : List FoundRecord

pub record Left : Type 0 where
  pub number : ℤ
  pub pool : List ℤ
  pub workspace : List ℤ
  pub answers : List Answer
  pub found : List FoundRecord

-- ---- the requests in turn

-- whose batch it is, and how far it has come
pub record Batch : Type 0 where
  pub owner : Owner
  pub pool : Pool
  pub answers : List Answer
  pub found : List FoundRecord
  pub filled : ℕ

-- "its answer goes to the same place in the answer list"; "Accepted searches fill the found list one after another"
unfoldable pub after_turn : ℕ → Batch → Turn → Batch
after_turn i b t =
    record {
      owner = b.owner;
      pool = t.pool;
      answers = set b.answers i (answer_of t.reply);
      found = sets b.found b.filled t.listed;
      filled = b.filled + length t.listed;
    }

-- the request at place i. (`call` has checked that it is one)
unfoldable pub do_request : Choice → ℕ → Batch → Option Asked → Batch
do_request c i b None = b
do_request c i b (Some a) = after_turn i b (request c b.pool b.filled (length b.found - b.filled) a)

-- "each request is done in turn", those from place i on
unfoldable pub do_requests : Choice → ℕ → List Request → Batch → Batch
do_requests c i [] b = b
do_requests c i (q ∷ qs) b = do_requests c (suc i) qs (do_request c i b (asked b.owner q))

-- ---- the call

-- the table's rows for a call, in its order: 9, 1, 2; Req 07: "13 for another owner, after 9". Last, a list with something that is no request,
-- whoever sends it
unfoldable pub is_request : Request → Bool
is_request q = elim (asked nobody q) [ None ↦ false | Some a ↦ true ]

unfoldable pub call_fault : Lent → Option CallFault
call_fault l =
    first_row (
    row (ltb most_requests (length l.requests) || not (eqb (length l.answers) (length l.requests))) BadLists
    ∷ row (not (good_owner l.owner)) BadOwner
    ∷ row (not (valid_length l.pool) || not (eqb (length l.workspace) (length l.pool))) BadLength
    ∷ row (not (sound l.pool)) NotSound
    ∷ row (not (every is_request l.requests)) NoRequest
    ∷ [])

-- "A refused call returns its number and writes nothing at all."
unfoldable pub refused : Lent → CallFault → Left
refused l f =
    record { number = call_fault_number f; pool = l.pool; workspace = l.workspace; answers = l.answers; found = l.found }

-- "On return 0 the workspace equals the pool."
unfoldable pub served : Batch → Left
served b =
    record { number = pos 0; pool = words b.pool; workspace = words b.pool; answers = b.answers; found = b.found }

-- "it sees and changes that owner's records only"; an edition 1 pool is "served .. for owners 1 and 2 alike"
unfoldable pub batch_owner : Lent → Owner
batch_owner l = owner_in (read l.pool).edition l.owner

unfoldable pub starting : Lent → Batch
starting l = record { owner = batch_owner l; pool = read l.pool; answers = l.answers; found = l.found; filled = 0 }

-- the call by any choices, and by document 01's
unfoldable pub call_by : Choice → Lent → Left
call_by c l = elim (call_fault l) [ Some f ↦ refused l f | None ↦ served (do_requests c 0 l.requests (starting l)) ]

unfoldable pub call : Lent → Left
call l = call_by ours l
