-- Req 06 on a closed history: nine points go into a blank pool of three slots, where the ninth needs as many slots as are free; a leaf is filled, and
-- the next point is refused 7, as it is told; after a delete in the same batch it is accepted.
use mathlib.Core.Path.{◌≡◌, refl}
use mathlib.Core.List.{List, [], ◌∷◌, ◌++◌}
use Prim.Native.Nat.{ℕ}
use lib.ListN.{take, replicate}
use lib.IntN.{pos}
use Rattle.rules.specs.declared.Edition.TheVariants.{One}
use Rattle.rules.specs.declared.Record.{Record}
use Rattle.rules.specs.declared.Request.{Request}
use Rattle.rules.specs.Owners.{owner}
use Rattle.rules.specs.Pool.{blank_pool, free_count}
use Rattle.rules.specs.Layout.{Blanked, words, blank}
use Rattle.rules.specs.Insert.{ours}
use Rattle.rules.specs.Room.{slots_needed, insert_room, room_number, room_words}
use Rattle.rules.specs.Answers.{answer}
use Rattle.rules.specs.Call.{Lent, call}
use Rattle.rules.specs.Computed.{document01, document02}
use Rattle.rules.specs.Histories.{box, insert, delete, zone}
use Rattle.promises.proofs.Once.{allowed}
use Rattle.demands.specs.Demands.{after, answer_after}
use Rattle.demands.specs.Rooms.{Fitting, Asking, ToldBefore}
use Rattle.demands.proofs.ClosedRoads.{points}
use Rattle.demands.proofs.Rooms.{know_before}

start : Blanked
start = blank One (words (blank_pool One 2))

-- the last of the nine, and a point for which there is no slot at first
abbrev pub ninth : Record
ninth = zone 9 (box 80 0 80 0)

abbrev pub late : Record
late = zone 12 (box 25 0 25 0)

abbrev pub eight : List Request
eight = take 8 points

-- two more fill the leaf of the first six
abbrev pub eleven : List Request
eleven = points ++ insert 10 (box 5 0 5 0) ∷ insert 11 (box 15 0 15 0) ∷ []

abbrev again : List Request
again = delete 1 (box 0 0 0 0) ∷ insert 12 (box 25 0 25 0) ∷ []

pub load : Lent
load =
    record {
      owner = owner (pos 1);
      pool = start.pool;
      workspace = start.pool;
      requests = eleven ++ insert 12 (box 25 0 25 0) ∷ again;
      answers = replicate 14 (answer 1 2 3 4);
      found = [];
    }

load_served : (call load).number ≡ pos 0
unfolding document01 load start
load_served = refl

-- the twelfth alone is refused
pub closed_load : (call load).answers ≡ replicate 11 (answer 0 0 0 0) ++ answer 7 0 0 0 ∷ replicate 2 (answer 0 0 0 0)
unfolding document01 load start
closed_load = refl

-- ---- what an insert needs, and what is free, at three moments of the batch

record Moment : Type 0 where
  needed : ℕ
  free : ℕ

abbrev moment : List Request → Record → Moment
moment done r = record { needed = slots_needed ours 1 (after load done).pool r.rect; free = free_count (after load done).pool }

pub closed_ninth : moment eight ninth ≡ record { needed = 2; free = 2 }
unfolding document01 document02 load start
closed_ninth = refl

pub closed_late : moment eleven late ≡ record { needed = 1; free = 0 }
unfolding document01 document02 load start
closed_late = refl

pub closed_again : moment (eleven ++ insert 12 (box 25 0 25 0) ∷ delete 1 (box 0 0 0 0) ∷ []) late ≡ record { needed = 0; free = 0 }
unfolding document01 document02 load start
closed_again = refl

-- ---- both are what the law says of this history

pub closed_fits : Fitting (after load eight).pool ninth (answer_after (call load) eight) (after load points).pool
unfolding document01 load start
closed_fits =
    (know_before load (call load) (allowed load) load_served).fits eight (insert 9 (box 80 0 80 0))
    (insert 10 (box 5 0 5 0) ∷ insert 11 (box 15 0 15 0) ∷ insert 12 (box 25 0 25 0) ∷ again) refl ninth refl
    (record { rect = refl; number = refl; new = refl })

pub closed_seven : Fitting (after load eleven).pool late (answer_after (call load) eleven) (after load (eleven ++ insert 12 (box 25 0 25 0) ∷ [])).pool
unfolding document01 load start
closed_seven =
    (know_before load (call load) (allowed load) load_served).fits eleven (insert 12 (box 25 0 25 0)) again refl late refl
    (record { rect = refl; number = refl; new = refl })

-- .. and what `dustmap_room` tells at the moment of the one that is refused
pub asking : Asking (after load eleven).pool late
unfolding document01
asking = record {
  rect = pos 25 ∷ pos 0 ∷ pos 25 ∷ pos 0 ∷ [];
  of_record_lem = refl;
  lent = 8 ∷ 9 ∷ [];
  two = refl;
  number = room_number (insert_room (words (after load eleven).pool) late.rect);
  slots = room_words (insert_room (words (after load eleven).pool) late.rect) (8 ∷ 9 ∷ []);
  allowed = record { number = refl; written = refl };
}

pub closed_told : ToldBefore asking (answer_after (call load) eleven)
unfolding document01 load start
closed_told =
    (know_before load (call load) (allowed load) load_served).told eleven (insert 12 (box 25 0 25 0)) again refl late refl
    (record { rect = refl; number = refl; new = refl }) asking
