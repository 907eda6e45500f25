-- The records in force: what the accepted changes leave of a plain list. There is no tree here, only the requests and their answers.
use Rattle.std.specs.Prelude.{cond, List, [], ◌∷◌, ℕ, suc, ◌+◌, get_or, eqb, Option, None, Some}
use Rattle.rules.specs.declared.Owner.{Owner}
use Rattle.rules.specs.declared.Record.{Record}
use Rattle.rules.specs.declared.Request.{Request}
use Rattle.rules.specs.declared.Asked.{Asked}
use Rattle.rules.specs.declared.Asked.TheVariants.{Insert, Delete, Update, Search}
use Rattle.rules.specs.declared.Answer.{Answer}
use Rattle.rules.specs.Geometry.{same_pair}
use Rattle.rules.specs.Pool.{moved}
use Rattle.rules.specs.Answers.{answer}
use Rattle.rules.specs.Request.{asked}

-- whose request it is
unfoldable pub asked_by : Asked → Owner
asked_by (Insert r) = r.owner
asked_by (Delete r) = r.owner
asked_by (Update old new) = old.owner
asked_by (Search o mode window) = o

-- the list with the pair taken out once
unfoldable pub less_pair : Record → List Record → List Record
less_pair r [] = []
less_pair r (x ∷ xs) = cond (same_pair r x) xs (x ∷ less_pair r xs)

-- what a request changes where it is accepted: an insert adds its pair; a delete takes its pair out; "Update deletes the old pair, then
-- inserts the new rectangle under the same number"; a search changes nothing
unfoldable pub change : List Record → Asked → List Record
change rs (Insert r) = r ∷ rs
change rs (Delete r) = less_pair r rs
change rs (Update old new) = moved old new ∷ less_pair old rs
change rs (Search o mode window) = rs

-- "A refused request changes neither pool nor found list."; an accepted one is answered 0
unfoldable pub in_force : List Record → Asked → Answer → List Record
in_force rs a told = cond (eqb told.number 0) (change rs a) rs

-- .. of a place of the request list. (What is no request is never done)
unfoldable pub force_by : List Record → Option Asked → Answer → List Record
force_by rs None told = rs
force_by rs (Some a) told = in_force rs a told

-- the records in force after an owner's requests from place i on, by their answers: "its answer goes to the same place in the answer list"
unfoldable pub force_after : Owner → List Record → ℕ → List Request → List Answer → List Record
force_after o rs i [] told = rs
force_after o rs i (q ∷ qs) told = force_after o (force_by rs (asked o q) (get_or told i (answer 0 0 0 0))) (suc i) qs told

-- ---- the places filled

-- how many places of the found list an answer accounts for: only an accepted search fills any ("8 reports found .. as they would have
-- been")
unfoldable pub places_filled : Answer → ℕ
places_filled told = cond (eqb told.number 0) told.found 0

unfoldable pub filled_by : ℕ → Option Asked → Answer → ℕ
filled_by n None told = n
filled_by n (Some a) told = n + places_filled told

-- "Accepted searches fill the found list one after another": the places filled after the requests from place i on, by their answers
unfoldable pub filled_after : Owner → ℕ → ℕ → List Request → List Answer → ℕ
filled_after o n i [] told = n
filled_after o n i (q ∷ qs) told = filled_after o (filled_by n (asked o q) (get_or told i (answer 0 0 0 0))) (suc i) qs told
