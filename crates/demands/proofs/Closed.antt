-- A closed history that meets each hypothesis of the demands: a pool of edition 1, of one slot, is blanked; pairs go in, and requests are refused; a
-- call is refused; then a pair is replaced, and searches of every mode show what is in force. Its batches are of owner 1 and of owner 2, "alike".
use mathlib.Core.Path.{◌≡◌, refl, ap}
use mathlib.Core.Logic.{inl}
use mathlib.Core.List.{List, [], ◌∷◌, ◌++◌, map}
use Prim.Native.Nat.{ℕ}
use native.Mathlib.Omega.{arith}
use lib.ListN.{length, replicate, length-append}
use lib.Seq.{slice}
use lib.IntN.{ℤ, pos}
use Rattle.rules.specs.declared.Request.{Request}
use Rattle.rules.specs.declared.Edition.TheVariants.{One}
use Rattle.rules.specs.declared.Record.{Record}
use Rattle.rules.specs.declared.FoundRecord.{FoundRecord}
use Rattle.rules.specs.declared.Mode.TheVariants.{Meeting, OnlyInside, OnlyEnclosing}
use Rattle.rules.specs.Lists.{those}
use Rattle.rules.specs.Owners.{owner, nobody, as_found}
use Rattle.rules.specs.Pool.{blank_pool, stored, no_record}
use Rattle.rules.specs.Layout.{Blanked, words, read, blank_as}
use Rattle.rules.specs.Search.{ordered}
use Rattle.search_laws.specs.Window.{own_wanted, whole_site}
use Rattle.rules.specs.Answers.{answer}
use Rattle.rules.specs.Call.{Lent, batch_owner, call}
use Rattle.rules.specs.Computed.{document01}
use Rattle.rules.specs.Histories.{box, insert, delete, update, search, search_inside, search_enclosing, shown, zone}
use Rattle.in_force_laws.specs.Force.{less_pair, change, in_force, force_by, force_after, places_filled, filled_by, filled_after}
use Rattle.in_force_laws.specs.Shows.{High}
use Rattle.in_force_laws.specs.Batch.{Told}
use Rattle.demands.specs.Steps.{Step, Blank, Call, pool_after, History, in_force_after}
use Rattle.promises.proofs.Once.{allowed}
use Rattle.demands.specs.Demands.{after, answer_after, with_requests, SameWithout, NoChange}
use Rattle.demands.proofs.Demands.{demand_1, demand_2, demand_3, demand_height}
use Rattle.demands.proofs.Sites.{planners_site}

abbrev lends : ℕ → List ℤ → List Request → ℕ → Lent
lends o w qs n =
    record { owner = owner (pos o); pool = w; workspace = w; requests = qs; answers = replicate n (answer 1 2 3 4); found = replicate 5 no_record }

-- ---- the steps

start : Blanked
start = blank_as (pos 1) (pos 0) (words (blank_pool One 0))

pub first : Lent
first = lends 1 start.pool (insert 7 (box 0 0 10 10) ∷ insert 7 (box 0 0 10 10) ∷ delete 9 (box 0 0 10 10) ∷ insert 8 (box 40 0 50 9) ∷ []) 4

-- an answer list of another length
second : Lent
second = lends 2 (call first).pool (delete 7 (box 0 0 10 10) ∷ []) 2

-- record 7 goes elsewhere
abbrev pub moved : Request
moved = update 7 (box 0 0 10 10) (box 5 5 20 20)

pub last : Lent
last =
    lends 2 (call second).pool
    (moved ∷ search (box 20 20 30 30) ∷ search_inside (box 0 0 20 20) ∷ search_enclosing (box 6 6 7 7) ∷ search (box 0 0 50 50) ∷ []) 5

before_last : List Step
before_last = Call second (call second) ∷ Call first (call first) ∷ Blank (pos 1) (pos 0) start ∷ []

-- ---- they are a history, and the last call is served

closed_history : History One 0 (Call last (call last) ∷ before_last)
unfolding pool_after before_last first second last start
closed_history = (
  refl,
  record { number = refl; pool = refl; workspace = refl; answers = refl; found = refl },
  (
    refl,
    record { number = refl; pool = refl; workspace = refl; answers = refl; found = refl },
    (
      refl,
      record { number = refl; pool = refl; workspace = refl; answers = refl; found = refl },
      (record { number = refl; pool = refl }, tt),
    ),
  ),
)

closed_served : (call last).number ≡ pos 0
unfolding document01 last second first start
closed_served = refl

closed_refused : (call second).number ≡ pos 9
unfolding document01 second first start
closed_refused = refl

-- the pairs in force before the last call
closed_force : in_force_after before_last ≡ zone 8 (box 40 0 50 9) ∷ zone 7 (box 0 0 10 10) ∷ []
unfolding document01 in_force_after force_after force_by in_force change before_last second first start
closed_force = refl

-- then, and when the searches before are done
abbrev pub in_force_then : List Record
in_force_then = zone 7 (box 5 5 20 20) ∷ zone 8 (box 40 0 50 9) ∷ []

-- what the found list shows at the end
abbrev pub shown_at_end : List FoundRecord
shown_at_end = shown 7 (box 5 5 20 20) ∷ shown 7 (box 5 5 20 20) ∷ shown 7 (box 5 5 20 20) ∷ shown 7 (box 5 5 20 20) ∷ shown 8 (box 40 0 50 9) ∷ []

closed_shown : (call last).found ≡ shown_at_end
unfolding document01 last second first start
closed_shown = refl

-- every hypothesis of the third demand is met, and this is what it says: record 7, which only touches the window, where it is now
pub closed_shows : Told (after last (moved ∷ [])).pool in_force_then 0 nobody Meeting (box 20 20 30 30) 1 (call last).answers shown_at_end
unfolding document01 in_force_after force_after force_by in_force change less_pair filled_after filled_by places_filled before_last last second first start
closed_shows =
    (demand_3 One 0 before_last last (call last) closed_history closed_served).each (moved ∷ []) (search (box 20 20 30 30))
    (search_inside (box 0 0 20 20) ∷ search_enclosing (box 6 6 7 7) ∷ search (box 0 0 50 50) ∷ []) refl Meeting (box 20 20 30 30) refl refl (omega arith)

-- .. of the search inside: record 7 lies in the window, with two sides on its sides
pub closed_inside : Told (after last (moved ∷ search (box 20 20 30 30) ∷ [])).pool in_force_then 1 nobody OnlyInside (box 0 0 20 20) 2 (call last).answers shown_at_end
unfolding document01 in_force_after force_after force_by in_force change less_pair filled_after filled_by places_filled before_last last second first start
closed_inside =
    (demand_3 One 0 before_last last (call last) closed_history closed_served).each (moved ∷ search (box 20 20 30 30) ∷ []) (search_inside (box 0 0 20 20))
    (search_enclosing (box 6 6 7 7) ∷ search (box 0 0 50 50) ∷ []) refl OnlyInside (box 0 0 20 20) refl refl (omega arith)

-- .. and of the search enclosing
pub closed_enclosing : Told (after last (moved ∷ search (box 20 20 30 30) ∷ search_inside (box 0 0 20 20) ∷ [])).pool in_force_then 2 nobody OnlyEnclosing (box 6 6 7 7) 3
    (call last).answers shown_at_end
unfolding document01 in_force_after force_after force_by in_force change less_pair filled_after filled_by places_filled before_last last second first start
closed_enclosing =
    (demand_3 One 0 before_last last (call last) closed_history closed_served).each
    (moved ∷ search (box 20 20 30 30) ∷ search_inside (box 0 0 20 20) ∷ []) (search_enclosing (box 6 6 7 7)) (search (box 0 0 50 50) ∷ []) refl OnlyEnclosing
    (box 6 6 7 7) refl refl (omega arith)

-- .. the height of the pool that the history leaves, by the two records in force
pub closed_high : High (read (call last).pool) in_force_then
unfolding document01 pool_after in_force_after force_after force_by in_force change less_pair before_last last second first start
closed_high = demand_height One 0 (Call last (call last) ∷ before_last) closed_history

-- ---- the first two demands

-- the last search fills the two places after those of the others
pub closed_lists : slice 3 5 (call last).found
    ≡ ordered (map as_found (those (own_wanted nobody Meeting (box 0 0 50 50))
    (stored (after last (moved ∷ search (box 20 20 30 30) ∷ search_inside (box 0 0 20 20) ∷ search_enclosing (box 6 6 7 7) ∷ [])).pool)))
unfolding document01 last second first start
closed_lists =
    ((demand_2 last (call last) (allowed last) closed_served).lists
    (moved ∷ search (box 20 20 30 30) ∷ search_inside (box 0 0 20 20) ∷ search_enclosing (box 6 6 7 7) ∷ []) (search (box 0 0 50 50)) [] refl Meeting
    (box 0 0 50 50) refl refl).listed

-- over the whole site, a search inside may be asked as one that meets it
pub planned : Lent
planned = lends 1 (call second).pool (moved ∷ search_inside whole_site ∷ []) 2

pub closed_site : call planned ≡ call (with_requests planned (moved ∷ search whole_site ∷ []) planned.answers)
unfolding document01 planned
closed_site =
    planners_site planned (moved ∷ []) (search_inside whole_site) (search whole_site) [] refl refl refl (call planned) _ (allowed planned) (allowed _)

first_served : (call first).number ≡ pos 0
unfolding document01 first start
first_served = refl

-- the pair that was in force already might as well not have been inserted
pub closed_unasked : SameWithout 1 (call first)
    (call (with_requests first (insert 7 (box 0 0 10 10) ∷ delete 9 (box 0 0 10 10) ∷ insert 8 (box 40 0 50 9) ∷ []) (replicate 3 (answer 1 2 3 4))))
unfolding document01 first start
closed_unasked =
    (demand_1 first (call first) (allowed first)).unasked first_served (insert 7 (box 0 0 10 10) ∷ []) (insert 7 (box 0 0 10 10))
    (delete 9 (box 0 0 10 10) ∷ insert 8 (box 40 0 50 9) ∷ []) refl (λ e. omega (arith, e)) (replicate 3 (answer 1 2 3 4)) refl _ (allowed _)

-- a delete of a pair that is not held, and nothing else
pub idle : Lent
idle = lends 2 (call first).pool (delete 9 (box 0 0 10 10) ∷ []) 1

idle_served : (call idle).number ≡ pos 0
unfolding document01 idle first start
idle_served = refl

one_refused : (done : List Request) (q : Request) (rest : List Request) → idle.requests ≡ done ++ q ∷ rest → NoChange (batch_owner idle) q (answer_after (call idle) done)
unfolding document01 idle first start
one_refused [] q rest e = inl (λ z. omega (arith, z))
one_refused (d ∷ ds) q rest e = absurd (omega (arith, ap length e, length-append ds (q ∷ rest)))

pub closed_still : (call idle).pool ≡ idle.pool
closed_still = (demand_1 idle (call idle) (allowed idle)).still idle_served one_refused
