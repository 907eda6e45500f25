-- Req 06, about every outcome that the promises of `dustmap_call` and `dustmap_room` allow.
use Rattle.std.specs.Prelude.{◌≡◌, ◌≢◌, ◌↔◌, true, false, List, [], ◌∷◌, ◌++◌, ℕ, suc, ◌+◌, ◌≤◌, ◌<◌, length, get_or, ℤ, pos, Some}
use Rattle.rules.specs.declared.Record.{Record}
use Rattle.rules.specs.declared.Request.{Request}
use Rattle.rules.specs.declared.Asked.TheVariants.{Insert}
use Rattle.rules.specs.declared.Answer.{Answer}
use Rattle.rules.specs.Numbers.{good_number}
use Rattle.rules.specs.Geometry.{valid}
use Rattle.rules.specs.Pool.{Pool, held, free_count}
use Rattle.rules.specs.Layout.{rect_of, words}
use Rattle.rules.specs.Insert.{ours}
use Rattle.rules.specs.Request.{asked}
use Rattle.rules.specs.Room.{slots_needed}
use Rattle.rules.specs.Call.{Lent, Left, batch_owner}
use Rattle.promises.specs.Rooms.{Tells}
use Rattle.demands.specs.Demands.{after, answer_after}

-- "an insert otherwise acceptable": neither 3 nor 4 nor 6 is given for it
pub record OtherwiseAcceptable (p : Pool) (r : Record) : Type 0 where
  pub rect : valid r.rect ≡ true
  pub number : good_number r.number ≡ true
  pub new : held p r ≡ false

-- an insert of r that comes to the pool p, is answered `told`, and leaves the pool q
pub record Fitting (p : Pool) (r : Record) (told : Answer) (q : Pool) : Type 0 where
  -- ".. is refused 7 exactly when the run of full nodes from the chosen leaf upward, plus one if the run includes the root, exceeds the free
  -- slots."
  pub exactly : (told.number ≡ 7) ↔ (free_count p < slots_needed ours 1 p r.rect)
  -- "So with h + 1 slots free it is never refused 7."
  pub never : suc p.height ≤ free_count p → told.number ≢ 7
  -- otherwise it is accepted, and takes so many of the free slots
  pub takes : told.number ≢ 7 → (told.number ≡ 0) × (free_count q + slots_needed ours 1 p r.rect ≡ free_count p)

-- what is lent to `dustmap_room` for an insert of r at the moment when the pool is p, and what comes back of it: the number and the two words
pub record Asking (p : Pool) (r : Record) : Type 0 where
  pub rect : List ℤ
  pub of_record_lem : rect_of rect ≡ r.rect
  pub lent : List ℕ
  pub two : length lent ≡ 2
  pub number : ℤ
  pub slots : List ℕ
  pub allowed : Tells (words p) rect lent number slots

abbrev pub needed_of : {p : Pool} {r : Record} → Asking p r → ℕ
needed_of a = get_or a.slots 0 0

abbrev pub free_of : {p : Pool} {r : Record} → Asking p r → ℕ
free_of a = get_or a.slots 1 0

-- it is told, and the answer is as it was told: "needed at most free exactly where the insert .. would not be answered 7"
pub record ToldBefore {p : Pool} {r : Record} (a : Asking p r) (told : Answer) : Type 0 where
  pub number : a.number ≡ pos 0
  pub needed : needed_of a ≡ slots_needed ours 1 p r.rect
  pub free : free_of a ≡ free_count p
  pub fits : (needed_of a ≤ free_of a) ↔ (told.number ≢ 7)

-- the law, of a call that returns 0, for a pool of either edition and a batch of either owner: for an insert at any place of its batch, of the pool
-- as it is at that moment. (`(after l done).pool` is the pool that comes back of the call with the requests before it alone: `before` of `Does`)
pub record KnownBefore (l : Lent) (o : Left) : Type 0 where
  pub fits : (done : List Request) (q : Request) (rest : List Request) → l.requests ≡ done ++ q ∷ rest
      → (r : Record) → asked (batch_owner l) q ≡ Some (Insert r)
      → OtherwiseAcceptable (after l done).pool r → Fitting (after l done).pool r (answer_after o done) (after l (done ++ q ∷ [])).pool
  -- .. and `dustmap_room` tells it
  pub told : (done : List Request) (q : Request) (rest : List Request) → l.requests ≡ done ++ q ∷ rest
      → (r : Record) → asked (batch_owner l) q ≡ Some (Insert r)
      → OtherwiseAcceptable (after l done).pool r → (a : Asking (after l done).pool r) → ToldBefore a (answer_after o done)
