-- Req 07 on closed histories of an edition 2 pool of three slots. In one the batches are all owner 1's; in the other the neighbour inserts one of owner 1's pairs
-- and others beside it, so that the leaf splits, finds owner 1's other pair not held, and deletes; and a call of owner 3 is refused. Owner 1 hears the same.
use mathlib.Core.Path.{◌≡◌, refl}
use mathlib.Core.Logic.{◌≢◌}
use mathlib.Core.Bool.{Bool, true, not}
use mathlib.Core.List.{List, [], ◌∷◌, ◌++◌, map}
use Prim.Native.Nat.{ℕ}
use native.Mathlib.Omega.{arith}
use lib.Dec.{eqb}
use lib.ListN.{length, replicate}
use lib.IntN.{ℤ, pos}
use borrow.Author.Tests.{eq-eqb}
use Rattle.rules.specs.declared.Edition.TheVariants.{Two}
use Rattle.rules.specs.declared.Owner.{Owner}
use Rattle.rules.specs.declared.Record.{Record}
use Rattle.rules.specs.declared.Request.{Request}
use Rattle.rules.specs.declared.Answer.{Answer}
use Rattle.rules.specs.declared.Mode.TheVariants.{Meeting}
use Rattle.rules.specs.Lists.{every}
use Rattle.rules.specs.Owners.{owner, of_owner}
use Rattle.rules.specs.Pool.{blank_pool, no_record}
use Rattle.rules.specs.Layout.{words, read}
use Rattle.rules.specs.Answers.{answer}
use Rattle.rules.specs.Call.{Lent, call}
use Rattle.rules.specs.Computed.{document01}
use Rattle.rules.specs.Histories.{box, insert, delete, search, shown}
use Rattle.rules_laws.proofs.Bools.{and_both, not_true}
use Rattle.rules_laws.proofs.Orders.{never_both}
use Rattle.rules_laws.proofs.Places.{Each}
use Rattle.in_force_laws.specs.Force.{less_pair, change, in_force, force_by, force_after, places_filled, filled_by, filled_after}
use Rattle.in_force_laws.specs.Batch.{Told}
use Rattle.promises.proofs.Once.{allowed}
use Rattle.demands.specs.Steps.{pool_after, History, in_force_after}
use Rattle.demands.specs.Demands.{after}
use Rattle.demands.specs.Neighbour.{BatchCall, batch_steps, batches_of, beside, Heard, heard, NoSevens, HeardAlike}
use Rattle.demands.proofs.Demands.{demand_3}
use Rattle.demands.proofs.Neighbour.{nothing_leaks}

-- ---- that no answer is 7, asked of lists that are written out

answers_by : (xs : List Answer) → every (λ (a : Answer). not (eqb a.number 7)) xs ≡ true → Each (λ (a : Answer). a.number ≢ 7) xs
unfolding every
answers_by [] h = tt
answers_by (a ∷ xs) h =
    let q = and_both (not (eqb a.number 7)) (every (λ (b : Answer). not (eqb b.number 7)) xs) h in
    (λ e. never_both (eq-eqb a.number 7 e) (not_true _ q.0), answers_by xs q.1)

abbrev none_of : BatchCall → Bool
none_of c = every (λ (a : Answer). not (eqb a.number 7)) c.left.answers

sevens_by : (cs : List BatchCall) → every none_of cs ≡ true → NoSevens cs
unfolding every
sevens_by [] h = tt
sevens_by (c ∷ cs) h = let q = and_both (none_of c) (every none_of cs) h in (λ z. answers_by c.left.answers q.0, sevens_by cs q.1)

-- ---- the batches

abbrev pub one : Owner
one = owner (pos 1)

abbrev pub two : Owner
two = owner (pos 2)

-- a call with a workspace of zeros
abbrev batch : ℕ → Owner → List ℤ → List Request → ℕ → BatchCall
batch long w pool qs places =
    let l : Lent =
    record {
      owner = w;
      pool = pool;
      workspace = replicate long (pos 0);
      requests = qs;
      answers = replicate (length qs) (answer 1 2 3 4);
      found = replicate places no_record;
    } in
    record { lent = l; left = call l }

-- owner 1 inserts two pairs and one of them again, and deletes what is not held
abbrev pub sets_out : List Request
sets_out = insert 1 (box 0 0 4 4) ∷ insert 2 (box 10 10 14 14) ∷ insert 1 (box 0 0 4 4) ∷ delete 3 (box 20 20 24 24) ∷ []

-- .. then searches twice, with room for one search only, and deletes
abbrev pub looks_round : List Request
looks_round = search (box 0 0 90 90) ∷ search (box 0 0 90 90) ∷ delete 1 (box 0 0 4 4) ∷ search (box 0 0 5 5) ∷ []

-- the neighbour inserts a pair that owner 1 has, and seven others
abbrev pub moves_in : List Request
moves_in =
    insert 1 (box 0 0 4 4) ∷ insert 3 (box 20 20 24 24) ∷ insert 4 (box 30 0 34 4) ∷ insert 5 (box 40 0 44 4) ∷ insert 6 (box 50 0 54 4)
    ∷ insert 7 (box 60 0 64 4) ∷ insert 8 (box 70 0 74 4) ∷ insert 9 (box 80 0 84 4) ∷ delete 2 (box 10 10 14 14) ∷ []

-- .. and deletes most of it
abbrev pub moves_out : List Request
moves_out = delete 1 (box 0 0 4 4) ∷ delete 4 (box 30 0 34 4) ∷ search (box 0 0 50 50) ∷ []

-- ---- one history, and the other

pub quiet_first : BatchCall
quiet_first = batch 158 one (words (blank_pool Two 2)) sets_out 0

pub quiet_last : BatchCall
quiet_last = batch 158 one quiet_first.left.pool looks_round 3

abbrev pub quiet : List BatchCall
quiet = quiet_last ∷ quiet_first ∷ []

pub in_comes : BatchCall
in_comes = batch 158 two quiet_first.left.pool moves_in 0

pub nobody_knows : BatchCall
nobody_knows = batch 158 (owner (pos 3)) in_comes.left.pool moves_out 9

pub out_goes : BatchCall
out_goes = batch 158 two nobody_knows.left.pool moves_out 9

pub busy_last : BatchCall
busy_last = batch 158 one out_goes.left.pool looks_round 3

abbrev before_last : List BatchCall
before_last = out_goes ∷ nobody_knows ∷ in_comes ∷ quiet_first ∷ []

abbrev pub busy : List BatchCall
busy = busy_last ∷ before_last

-- what owner 1 hears of the first batch, and of the last
abbrev pub hears : List Heard
hears =
    record {
      number = pos 0;
      answers = answer 0 2 0 0 ∷ answer 8 2 0 0 ∷ answer 0 0 0 0 ∷ answer 0 0 2 0 ∷ [];
      found = shown 1 (box 0 0 4 4) ∷ shown 2 (box 10 10 14 14) ∷ no_record ∷ [];
    }
    ∷ record { number = pos 0; answers = answer 0 0 0 0 ∷ answer 0 0 0 0 ∷ answer 6 0 0 0 ∷ answer 5 0 0 0 ∷ []; found = [] }
    ∷ []

pub closed_hears : map heard (batches_of one quiet) ≡ hears
unfolding document01 quiet_last quiet_first
closed_hears = refl

-- the neighbour's answers, and the refusal
pub closed_busy : map heard before_last
    ≡ record {
      number = pos 0;
      answers = answer 0 0 0 0 ∷ answer 0 0 0 0 ∷ answer 0 3 0 0 ∷ [];
      found = shown 3 (box 20 20 24 24) ∷ shown 5 (box 40 0 44 4) ∷ shown 6 (box 50 0 54 4) ∷ replicate 6 no_record;
    }
    ∷ record { number = pos 13; answers = replicate 3 (answer 1 2 3 4); found = replicate 9 no_record }
    ∷ record { number = pos 0; answers = replicate 8 (answer 0 0 0 0) ++ answer 5 0 0 0 ∷ []; found = [] }
    ∷ record { number = pos 0; answers = answer 0 0 0 0 ∷ answer 0 0 0 0 ∷ answer 6 0 0 0 ∷ answer 5 0 0 0 ∷ []; found = [] }
    ∷ []
unfolding document01 out_goes nobody_knows in_comes quiet_first
closed_busy = refl

-- the trees differ
pub closed_heights : ((read quiet_last.lent.pool).height ≡ 1) × ((read busy_last.lent.pool).height ≡ 2)
unfolding document01 busy_last out_goes nobody_knows in_comes quiet_last quiet_first
closed_heights = (refl, refl)

-- ---- every hypothesis of `nothing_leaks` is met, and this is what it says

quiet_history : History Two 2 (batch_steps quiet)
unfolding pool_after quiet_last quiet_first
quiet_history = (refl, allowed _, (refl, allowed _, tt))

busy_history : History Two 2 (batch_steps busy)
unfolding pool_after busy_last out_goes nobody_knows in_comes quiet_first
busy_history = (refl, allowed _, (refl, allowed _, (refl, allowed _, (refl, allowed _, (refl, allowed _, tt)))))

same_lent : map beside (batches_of one quiet) ≡ map beside (batches_of one busy)
unfolding document01 busy_last out_goes nobody_knows in_comes quiet_last quiet_first
same_lent = refl

quiet_none : NoSevens (batches_of one quiet)
unfolding document01 quiet_last quiet_first
quiet_none = sevens_by (batches_of one quiet) refl

busy_none : NoSevens (batches_of one busy)
unfolding document01 busy_last out_goes nobody_knows in_comes quiet_first
busy_none = sevens_by (batches_of one busy) refl

pub closed_apart : HeardAlike one quiet busy
closed_apart =
    nothing_leaks one 2 quiet busy
    (record { one = quiet_history; other = busy_history; lent = same_lent; no_seven = quiet_none; no_seven_there = busy_none })

-- ---- the third demand, for both owners in the busy pool

-- the records in force there when owner 1 looks round
abbrev pub in_force_both : List Record
in_force_both =
    map (of_owner two)
    (shown 9 (box 80 0 84 4) ∷ shown 8 (box 70 0 74 4) ∷ shown 7 (box 60 0 64 4) ∷ shown 6 (box 50 0 54 4) ∷ shown 5 (box 40 0 44 4) ∷ shown 3 (box 20 20 24 24) ∷ [])
    ++ map (of_owner one) (shown 2 (box 10 10 14 14) ∷ shown 1 (box 0 0 4 4) ∷ [])

busy_served : busy_last.left.number ≡ pos 0
unfolding document01 busy_last out_goes nobody_knows in_comes quiet_first
busy_served = refl

-- a search over the pit shows owner 1 the two records of owner 1, with no node reported opened; the height is by all eight
pub closed_own : Told (after busy_last.lent []).pool in_force_both 0 one Meeting (box 0 0 90 90) 0 busy_last.left.answers
    (shown 1 (box 0 0 4 4) ∷ shown 2 (box 10 10 14 14) ∷ no_record ∷ [])
unfolding document01 in_force_after force_after force_by in_force change less_pair filled_after busy_last out_goes nobody_knows in_comes quiet_first
closed_own =
    (demand_3 Two 2 (batch_steps before_last) busy_last.lent busy_last.left busy_history busy_served).each [] (search (box 0 0 90 90))
    (search (box 0 0 90 90) ∷ delete 1 (box 0 0 4 4) ∷ search (box 0 0 5 5) ∷ []) refl Meeting (box 0 0 90 90) refl refl (omega arith)

theirs_served : out_goes.left.number ≡ pos 0
unfolding document01 out_goes nobody_knows in_comes quiet_first
theirs_served = refl

-- .. and owner 2 sees three of the neighbour's own
pub closed_theirs : Told (after out_goes.lent (delete 1 (box 0 0 4 4) ∷ delete 4 (box 30 0 34 4) ∷ [])).pool in_force_both 0 two Meeting (box 0 0 50 50) 2
    out_goes.left.answers (shown 3 (box 20 20 24 24) ∷ shown 5 (box 40 0 44 4) ∷ shown 6 (box 50 0 54 4) ∷ replicate 6 no_record)
unfolding document01 in_force_after force_after force_by in_force change less_pair filled_after filled_by places_filled out_goes nobody_knows in_comes quiet_first
closed_theirs =
    (demand_3 Two 2 (batch_steps (nobody_knows ∷ in_comes ∷ quiet_first ∷ [])) out_goes.lent out_goes.left busy_history.2 theirs_served).each
    (delete 1 (box 0 0 4 4) ∷ delete 4 (box 30 0 34 4) ∷ []) (search (box 0 0 50 50)) [] refl Meeting (box 0 0 50 50) refl refl (omega arith)

-- ---- what an owner can still learn: slots are shared

-- owner 1 inserts a pair into a pool of one slot
abbrev alone_call : BatchCall
alone_call = batch 58 one (words (blank_pool Two 0)) (insert 1 (box 0 0 4 4) ∷ []) 0

pub alone : List BatchCall
alone = alone_call ∷ []

-- .. or into one that the neighbour has filled
abbrev eight_theirs : BatchCall
eight_theirs =
    batch 58 two (words (blank_pool Two 0))
    (insert 1 (box 0 0 4 4) ∷ insert 2 (box 0 0 4 4) ∷ insert 3 (box 0 0 4 4) ∷ insert 4 (box 0 0 4 4) ∷ insert 5 (box 0 0 4 4)
    ∷ insert 6 (box 0 0 4 4) ∷ insert 7 (box 0 0 4 4) ∷ insert 8 (box 0 0 4 4) ∷ []) 0

abbrev crowded_call : BatchCall
crowded_call = batch 58 one eight_theirs.left.pool (insert 1 (box 0 0 4 4) ∷ []) 0

pub crowded : List BatchCall
crowded = crowded_call ∷ eight_theirs ∷ []

-- two histories with the same batch of owner 1, who hears 0 of one and 7 of the other
pub record SlotsShared (w : Owner) (n : ℕ) (cs ds : List BatchCall) (a b : Answer) : Type 0 where
  pub one : History Two n (batch_steps cs)
  pub other : History Two n (batch_steps ds)
  pub lent : map beside (batches_of w cs) ≡ map beside (batches_of w ds)
  pub told : map heard (batches_of w cs) ≡ record { number = pos 0; answers = a ∷ []; found = [] } ∷ []
  pub told_there : map heard (batches_of w ds) ≡ record { number = pos 0; answers = b ∷ []; found = [] } ∷ []

pub slots_are_shared : SlotsShared one 0 alone crowded (answer 0 0 0 0) (answer 7 0 0 0)
unfolding document01 pool_after alone crowded
slots_are_shared = record {
  one = (refl, allowed _, tt);
  other = (refl, allowed _, (refl, allowed _, tt));
  lent = refl;
  told = refl;
  told_there = refl;
}
