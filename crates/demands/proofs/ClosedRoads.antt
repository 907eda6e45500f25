-- Req 05 under the demands: the nine points of example 8 go into a blank pool of three slots, in one call with a search between its two
-- leaves. They lie apart, so the root alone is opened; as document 01 dealt them out, all three nodes were.
use mathlib.Core.Path.{◌≡◌, refl}
use mathlib.Core.List.{List, [], ◌∷◌, ◌++◌}
use native.Mathlib.Omega.{arith}
use lib.ListN.{replicate}
use lib.IntN.{pos}
use Rattle.rules.specs.declared.Request.{Request}
use Rattle.rules.specs.declared.Edition.TheVariants.{One}
use Rattle.rules.specs.declared.Record.{Record}
use Rattle.rules.specs.declared.Mode.TheVariants.{Meeting}
use Rattle.rules.specs.Owners.{owner, nobody}
use Rattle.rules.specs.Pool.{blank_pool, no_record}
use Rattle.rules.specs.Layout.{Blanked, words, blank_as}
use Rattle.rules.specs.Answers.{answer}
use Rattle.rules.specs.Call.{Lent, call}
use Rattle.rules.specs.Computed.{document01}
use Rattle.rules.specs.Histories.{box, insert, search, zone}
use Rattle.in_force_laws.specs.Force.{less_pair, change, in_force, force_by, force_after, places_filled, filled_by, filled_after}
use Rattle.in_force_laws.specs.Batch.{Told}
use Rattle.demands.specs.Steps.{Blank, Call, pool_after, History, in_force_after}
use Rattle.demands.specs.Demands.{after}
use Rattle.demands.proofs.Demands.{demand_3}

start : Blanked
start = blank_as (pos 1) (pos 0) (words (blank_pool One 2))

abbrev pub points : List Request
points =
    insert 1 (box 0 0 0 0) ∷ insert 2 (box 10 0 10 0) ∷ insert 3 (box 20 0 20 0) ∷ insert 4 (box 30 0 30 0) ∷ insert 5 (box 40 0 40 0)
    ∷ insert 6 (box 50 0 50 0) ∷ insert 7 (box 60 0 60 0) ∷ insert 8 (box 70 0 70 0) ∷ insert 9 (box 80 0 80 0) ∷ []

-- the point itself is stored nowhere
pub road : Lent
road =
    record {
      owner = owner (pos 1);
      pool = start.pool;
      workspace = start.pool;
      requests = points ++ search (box 55 0 55 0) ∷ search (box 50 0 60 0) ∷ [];
      answers = replicate 11 (answer 1 2 3 4);
      found = replicate 2 no_record;
    }

road_history : History One 2 (Call road (call road) ∷ Blank (pos 1) (pos 0) start ∷ [])
unfolding pool_after road start
road_history = (
  refl,
  record { number = refl; pool = refl; workspace = refl; answers = refl; found = refl },
  (record { number = refl; pool = refl }, tt),
)

road_served : (call road).number ≡ pos 0
unfolding document01 road start
road_served = refl

abbrev pub on_the_road : List Record
on_the_road =
    zone 9 (box 80 0 80 0) ∷ zone 8 (box 70 0 70 0) ∷ zone 7 (box 60 0 60 0) ∷ zone 6 (box 50 0 50 0) ∷ zone 5 (box 40 0 40 0)
    ∷ zone 4 (box 30 0 30 0) ∷ zone 3 (box 20 0 20 0) ∷ zone 2 (box 10 0 10 0) ∷ zone 1 (box 0 0 0 0) ∷ []

-- nothing is found between the leaves, and one node is opened; at their ends two records are found, and three nodes are opened
pub closed_roads : (call road).answers ≡ replicate 9 (answer 0 0 0 0) ++ answer 0 0 0 1 ∷ answer 0 2 0 3 ∷ []
unfolding document01 road start
closed_roads = refl

-- .. and both are what the third demand says of this history
pub closed_between : Told (after road points).pool on_the_road 0 nobody Meeting (box 55 0 55 0) 9 (call road).answers (call road).found
unfolding document01 in_force_after force_after force_by in_force change less_pair filled_after filled_by places_filled road start
closed_between =
    (demand_3 One 2 (Blank (pos 1) (pos 0) start ∷ []) road (call road) road_history road_served).each points (search (box 55 0 55 0)) (search (box 50 0 60 0) ∷ []) refl
    Meeting (box 55 0 55 0) refl refl (omega arith)

pub closed_ends : Told (after road (points ++ search (box 55 0 55 0) ∷ [])).pool on_the_road 0 nobody Meeting (box 50 0 60 0) 10 (call road).answers (call road).found
unfolding document01 in_force_after force_after force_by in_force change less_pair filled_after filled_by places_filled road start
closed_ends =
    (demand_3 One 2 (Blank (pos 1) (pos 0) start ∷ []) road (call road) road_history road_served).each (points ++ search (box 55 0 55 0) ∷ []) (search (box 50 0 60 0)) [] refl
    Meeting (box 50 0 60 0) refl refl (omega arith)
