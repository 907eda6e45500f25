-- The customer's three demands, about every outcome that the promise of `dustmap_call` and `dustmap_call_as` allows, for a batch of any owner.
use Rattle.std.specs.Prelude.{◌≡◌, ◌≢◌, ◌⊎◌, true, List, [], ◌∷◌, ◌++◌, map, ℕ, suc, ◌+◌, ◌-◌, ◌≤◌, length, get_or, take, drop, pos, None, Some}
use Rattle.std.proofs.Math.Seq.{slice}
use Rattle.rules.specs.declared.Rect.{Rect}
use Rattle.rules.specs.declared.Mode.{Mode}
use Rattle.rules.specs.declared.Owner.{Owner}
use Rattle.rules.specs.declared.Record.{Record}
use Rattle.rules.specs.declared.FoundRecord.{FoundRecord}
use Rattle.rules.specs.declared.Request.{Request}
use Rattle.rules.specs.declared.Asked.{Asked}
use Rattle.rules.specs.declared.Asked.TheVariants.{Insert, Delete, Update, Search}
use Rattle.rules.specs.declared.Answer.{Answer}
use Rattle.rules.specs.declared.CallFault.{CallFault}
use Rattle.rules.specs.Lists.{those}
use Rattle.rules.specs.Owners.{as_found}
use Rattle.rules.specs.Geometry.{valid}
use Rattle.rules.specs.Pool.{Pool, stored}
use Rattle.rules.specs.Layout.{words}
use Rattle.rules.specs.Search.{ordered, reported}
use Rattle.rules.specs.Insert.{ours, Done, insert_record}
use Rattle.rules.specs.Delete.{delete_record, update_record}
use Rattle.rules.specs.Answers.{answer, answer_of, call_fault_number}
use Rattle.rules.specs.Request.{Turn, asked, request}
use Rattle.rules.specs.Call.{Lent, Left, Batch, call_fault, do_requests, batch_owner, starting}
use Rattle.search_laws.specs.Window.{own_wanted}
use Rattle.in_force_laws.specs.Force.{force_after, filled_after}
use Rattle.in_force_laws.specs.Shows.{nodes_meeting, High}
use Rattle.in_force_laws.specs.Batch.{how_many_wanted, Told}
use Rattle.demands.specs.Steps.{Step, in_force_after}
use Rattle.promises.specs.Calls.{Allowed}

-- how far a call has come when it has done the requests given
abbrev pub after : Lent → List Request → Batch
after l done = do_requests ours 0 done (starting l)

-- what a request does then, as document 01 has it
abbrev pub turn_after : Lent → List Request → Asked → Turn
turn_after l done a = request ours (after l done).pool (after l done).filled (length (after l done).found - (after l done).filled) a

-- its answer, "at the same place in the answer list"
abbrev pub answer_after : Left → List Request → Answer
answer_after o done = get_or o.answers (length done) (answer 0 0 0 0)

-- the places of the found list that are filled then, by the answers
abbrev pub filled_then : Lent → Left → List Request → ℕ
filled_then l o done = filled_after (batch_owner l) 0 0 done o.answers

-- "writes nothing at all"
pub record Untouched (l : Lent) (o : Left) : Type 0 where
  pub pool : o.pool ≡ l.pool
  pub workspace : o.workspace ≡ l.workspace
  pub answers : o.answers ≡ l.answers
  pub found : o.found ≡ l.found

-- the same lent to a call with other requests, and an answer list for them
abbrev pub with_requests : Lent → List Request → List Answer → Lent
with_requests l requests answers =
    record { owner = l.owner; pool = l.pool; workspace = l.workspace; requests = requests; answers = answers; found = l.found }

-- D1: "Any pool contents, any request, any lent list can be handed in.": for all that may be lent
pub record Ends (l : Lent) : Type 0 where
  -- "Each call ends.": there is an outcome that is allowed
  pub outcome : Left
  pub allowed : Allowed l outcome
  -- "any pair of outcomes allowed by it is equal"
  pub only : (o : Left) → Allowed l o → o ≡ outcome

-- what comes back of a call, o, and what comes back of it without the request at place n, x
pub record SameWithout (n : ℕ) (o x : Left) : Type 0 where
  -- "Otherwise the call returns 0": both do
  pub number : x.number ≡ o.number
  -- "A refused request changes neither pool nor found list."
  pub pool : x.pool ≡ o.pool
  pub found : x.found ≡ o.found
  -- "On return 0 the workspace equals the pool."
  pub workspace : x.workspace ≡ o.workspace
  -- "its answer goes to the same place in the answer list": the answers to the other requests
  pub answers : x.answers ≡ take n o.answers ++ drop (suc n) o.answers

-- a request of an owner that is refused by its answer, or is a search
abbrev pub NoChange : Owner → Request → Answer → Type 0
NoChange w q told = (told.number ≢ 0) ⊎ ((mode : Mode) × (window : Rect) × (asked w q ≡ Some (Search w mode window)))

pub record Refuses (l : Lent) (o : Left) : Type 0 where
  -- "Bad input gets the numbered refusal of document 01 under exactly the conditions given there.": a call is refused by the first row of its
  -- table that applies, and "writes nothing at all"
  pub refused : (v : CallFault) → call_fault l ≡ Some v → (o.number ≡ call_fault_number v) × Untouched l o
  -- "Otherwise the call returns 0"
  pub served : call_fault l ≡ None → o.number ≡ pos 0
  -- "each request is done in turn .. and its answer goes to the same place in the answer list": each is answered by the first row of its own table that applies; otherwise it is accepted
  pub each : o.number ≡ pos 0 → (done : List Request) (q : Request) (rest : List Request) → l.requests ≡ done ++ q ∷ rest
      → (a : Asked) → asked (batch_owner l) q ≡ Some a → answer_after o done ≡ answer_of (turn_after l done a).reply
  -- "A refused change leaves the pool as it found it.": the next request finds the same pool
  pub kept : o.number ≡ pos 0 → (done : List Request) (q : Request) (rest : List Request) → l.requests ≡ done ++ q ∷ rest
      → (a : Asked) → asked (batch_owner l) q ≡ Some a → (answer_after o done).number ≢ 0 → (after l (done ++ q ∷ [])).pool ≡ (after l done).pool
  -- .. and what comes back is what comes back of the call without it
  pub unasked : o.number ≡ pos 0 → (done : List Request) (q : Request) (rest : List Request) → l.requests ≡ done ++ q ∷ rest
      → (answer_after o done).number ≢ 0 → (answers : List Answer) → length answers ≡ length (done ++ rest)
      → (x : Left) → Allowed (with_requests l (done ++ rest) answers) x → SameWithout (length done) o x
  -- .. so that a call whose every request is refused, or is a search, leaves the words of the pool that it was lent
  pub still : o.number ≡ pos 0
      → ((done : List Request) (q : Request) (rest : List Request) → l.requests ≡ done ++ q ∷ rest → NoChange (batch_owner l) q (answer_after o done))
      → o.pool ≡ l.pool

-- D2: what an accepted request leaves of the pool that it finds
abbrev pub Accepted : Pool → Asked → Pool → Type 0
Accepted p (Insert r) q = insert_record ours p r ≡ Done q
Accepted p (Delete r) q = delete_record ours p r ≡ Done q
Accepted p (Update old new) q = update_record ours p old new ≡ Done q
Accepted p (Search w mode window) q = q ≡ p

-- an accepted search of an owner, of the pool p with so many places of the found list filled before it, by its answer and the found list that
-- come back
pub record Lists (p : Pool) (w : Owner) (mode : Mode) (window : Rect) (filled : ℕ) (told : Answer) (found : List FoundRecord) : Type 0 where
  -- "The answer gives found count, start in the found list and nodes opened."; "start being the number of places filled before". Req 07:
  -- "Opened is reported as 0" in edition 2
  pub answered : told ≡ answer 0 (how_many_wanted w mode window (stored p)) filled (reported p.edition (suc (nodes_meeting p window)))
  -- "exactly the stored records whose rectangle meets the window", by mode, at as many places as found, from start on. (What a mode wants of a
  -- record is `wanted` in Compare.antt; by coordinates, `wanted_meeting`, `wanted_inside`, `wanted_enclosing` of crate `rules_laws`.) Req 07:
  -- "Demands 2 and 3 read records per owner". A record of edition 1 has none, and a batch there none either: it sees them all
  pub listed : slice told.start (told.start + told.found) found ≡ ordered (map as_found (those (own_wanted w mode window) (stored p)))

pub record Does (l : Lent) (o : Left) : Type 0 where
  -- "Each accepted insert, delete and update leaves the pool that Guttman's algorithms leave, with quadratic split and document 01's tie and
  -- slot rules."
  pub each : (done : List Request) (q : Request) (rest : List Request) → l.requests ≡ done ++ q ∷ rest
      → (a : Asked) → asked (batch_owner l) q ≡ Some a
      → (answer_after o done).number ≡ 0 → Accepted (after l done).pool a (after l (done ++ q ∷ [])).pool
  -- "Each accepted search lists exactly the stored records whose rectangle meets the window."; Req 01: "demands 2 and 3 read the found list by mode"
  pub lists : (done : List Request) (q : Request) (rest : List Request) → l.requests ≡ done ++ q ∷ rest
      → (mode : Mode) (window : Rect) → asked (batch_owner l) q ≡ Some (Search (batch_owner l) mode window) → (answer_after o done).number ≡ 0
      → Lists (after l done).pool (batch_owner l) mode window (filled_then l o done) (answer_after o done) o.found
  -- "places beyond stay": after the last place that a search filled, the found list is as it was lent
  pub beyond : drop (filled_then l o l.requests) o.found ≡ drop (filled_then l o l.requests) l.found
  -- what comes back is what the last one leaves
  pub pool : o.pool ≡ words (after l l.requests).pool
  pub found : o.found ≡ (after l l.requests).found
  -- "On return 0 the workspace equals the pool."
  pub workspace : o.workspace ≡ o.pool
  -- "each request is done in turn": the pool that a request finds is what comes back of the call with those before it alone
  pub before : (done rest : List Request) → l.requests ≡ done ++ rest → (answers : List Answer) → length answers ≡ length done
      → (x : Left) → Allowed (with_requests l done answers) x → x.pool ≡ words (after l done).pool

-- the records in force when a call has done the requests given, after the steps before it
abbrev pub force_then : List Step → Lent → Left → List Request → List Record
force_then steps l o done = force_after (batch_owner l) (in_force_after steps) 0 done o.answers

-- D3: "From a blank pool changed only by these requests, ..
pub record Shows (steps : List Step) (l : Lent) (o : Left) : Type 0 where
  -- .. every search in a call that returns 0 (valid window, room in its list) shows the records in force that meet the window, each once, in
  -- record order; the nodes opened are one for the root and one for each other node whose cover meets the window; .. The found list is read by
  -- mode, and the nodes opened are the same in every mode. Req 07: "Demands 2 and 3 read records per owner, but n in demand 3 counts both
  -- owners', and its opened count is for edition 1": what is shown, and what there is to be room for, are the records of the batch's owner; the
  -- height is by all
  pub each : (done : List Request) (q : Request) (rest : List Request) → l.requests ≡ done ++ q ∷ rest
      → (mode : Mode) (window : Rect) → asked (batch_owner l) q ≡ Some (Search (batch_owner l) mode window) → valid window ≡ true
      → how_many_wanted (batch_owner l) mode window (force_then steps l o done) ≤ length l.found - filled_then l o done
      → Told (after l done).pool (force_then steps l o done) (filled_then l o done) (batch_owner l) mode window (length done) o.answers o.found
  -- .. with n records and height h, h is 1 or 2·3^(h-1) ≤ n.": after each request of each call, and before the first
  pub high : (done rest : List Request) → l.requests ≡ done ++ rest → High (after l done).pool (force_then steps l o done)
