-- Closed examples that meet each hypothesis about files: two maps are carried to another office, a history goes on after a file, and a refused
-- file leaves what was there.
use mathlib.Core.Path.{◌≡◌, refl}
use mathlib.Core.Bool.{true}
use mathlib.Core.List.{List, [], ◌∷◌}
use Rattle.std.specs.Prelude.{Some}
use Prim.Native.Nat.{ℕ, ◌≤◌}
use native.Mathlib.Omega.{arith}
use lib.ListN.{length, take, replicate}
use lib.Dec.{ltb}
use lib.IntN.{ℤ, pos}
use lib.Signed.{mag}
use Rattle.rules.specs.declared.Edition.TheVariants.{One, Two}
use Rattle.rules.specs.declared.Record.{Record}
use Rattle.rules.specs.declared.Request.{Request}
use Rattle.rules.specs.declared.Mode.TheVariants.{Meeting}
use Rattle.rules.specs.Lists.{those, every}
use Rattle.rules.specs.Owners.{edition_told, owner, nobody, of_owner}
use Rattle.rules.specs.Geometry.{same_pair}
use Rattle.rules.specs.Pool.{blank_pool, no_record, stored}
use Rattle.rules.specs.Layout.{slots_fitting, valid_size, words, read}
use Rattle.rules.specs.Answers.{answer}
use Rattle.rules.specs.Call.{Lent, call}
use Rattle.rules.specs.File.{file_bytes, records_carried, write_file, read_file_as}
use Rattle.rules.specs.Computed.{document01, document02}
use Rattle.rules.specs.Histories.{box, insert, search, shown, zone}
use Rattle.search_laws.specs.Order.{Alike}
use Rattle.in_force_laws.specs.Force.{force_after, filled_after}
use Rattle.in_force_laws.specs.Batch.{Told}
use Rattle.demands.specs.Steps.{Step, Read, Call, pool_after, History, records_told, in_force_after}
use Rattle.demands.specs.Demands.{after}
use Rattle.demands.specs.Files.{Write, ReadOf, file_of, WrittenAgain, CarriedOver}
use Rattle.rules_laws.proofs.Places.{Each}
use Rattle.file_laws.specs.Bytes.{Word}
use Rattle.file_laws.proofs.Numbers.{fits_by}
use Rattle.demands.proofs.Holds.{history_holds}
use Rattle.demands.proofs.Demands.{demand_3}
use Rattle.demands.proofs.Files.{round_trip, carried_whole}

-- what the calls give, as outcomes that they allow
abbrev writing : List ℤ → List ℕ → Write
writing w buffer =
    record {
      pool = w;
      buffer = buffer;
      number = (write_file w buffer).number;
      left = (write_file w buffer).file;
      size = (write_file w buffer).size;
      allowed = record { number = refl; file = refl; size = refl };
    }

abbrev reading : ℤ → (file : List ℕ) → List ℤ → ReadOf file
reading edition file w =
    record {
      edition = edition;
      rule = pos 0;
      pool = w;
      work = w;
      number = (read_file_as edition (pos 0) w w file).number;
      left = (read_file_as edition (pos 0) w w file).pool;
      workspace = (read_file_as edition (pos 0) w w file).workspace;
      allowed = record { number = refl; pool = refl; workspace = refl };
    }

-- ---- a map, and its file

-- three records in a pool of one slot, the last number first
fill : Lent
fill =
    record {
      owner = owner (pos 1);
      pool = words (blank_pool One 0);
      workspace = words (blank_pool One 0);
      requests = insert 9 (box 40 0 50 9) ∷ insert 7 (box 0 0 10 10) ∷ insert 7 (box 0 0 9 9) ∷ [];
      answers = replicate 3 (answer 1 2 3 4);
      found = [];
    }

filled : List Step
filled = Call fill (call fill) ∷ []

filled_history : History One 0 filled
unfolding pool_after filled fill
filled_history = (refl, record { number = refl; pool = refl; workspace = refl; answers = refl; found = refl }, tt)

pub home : List ℤ
unfolding fill
home = (call fill).pool

abbrev pub carried_records : List Record
carried_records = zone 7 (box 0 0 9 9) ∷ zone 7 (box 0 0 10 10) ∷ zone 9 (box 40 0 50 9) ∷ []

-- written to the front of a buffer of 100 bytes
pub carried : Write
carried = writing home (replicate 100 9)

closed_written : carried.number ≡ pos 0
unfolding document01 document02 carried home fill
closed_written = refl

pub closed_file : file_of carried ≡ file_bytes One carried_records
unfolding document01 document02 carried home fill
closed_file = refl

-- ---- read at head office, into words that are no pool yet, and written there

pub office : ReadOf (file_of carried)
office = reading (pos 1) (file_of carried) (replicate 50 (pos 3))

closed_read : office.number ≡ pos 0
unfolding document01 document02 office carried home fill
closed_read = refl

pub again : Write
again = writing office.left (replicate 90 1)

long_enough : length (file_of carried) ≤ length again.buffer
unfolding document01 document02 again office carried home fill
long_enough = omega arith

-- every hypothesis of the round trip is met, and this is what it says
pub closed_round_trip : WrittenAgain (file_of carried) again
closed_round_trip = round_trip carried closed_written office closed_read again (unfold again in refl) long_enough

-- ---- the same records

home_fits : Each Word home
home_fits = fits_by home all
  where
    all : every (λ (z : ℤ). ltb (mag z) 2147483648) home ≡ true
    all = unfold document01 in unfold home in unfold fill in refl

home_once : (x : Record) → length (those (same_pair x) (stored (read home))) ≤ 1
unfolding pool_after home filled
home_once x =
    let h = history_holds One 0 filled filled_history in
    omega (arith, h.once x, h.alike.each (same_pair x))

home_few : length (stored (read home)) ≡ 3
unfolding document01 home fill
home_few = refl

office_told : edition_told office.edition office.rule ≡ Some (read home).edition
unfolding document01 office home fill
office_told = refl

office_right : valid_size (read home).edition (length office.pool) ≡ true
unfolding document01 office home fill
office_right = refl

office_slots : slots_fitting (read home).edition (length office.pool) ≡ 1
unfolding document01 office home fill
office_slots = refl

pub closed_carried : CarriedOver (records_carried (read home)) office × Alike (stored (read office.left)) (stored (read home))
unfolding carried
closed_carried =
    carried_whole carried closed_written home_fits office office_told office_right (unfold office in refl) home_once (omega (arith, home_few))
    (omega (arith, home_few, office_slots))

-- ---- Req 07: "the file of Req 02 gains edition 2 .. ordered by owner first"

abbrev lends : ℕ → List ℤ → List Request → Lent
lends o w qs =
    record { owner = owner (pos o); pool = w; workspace = w; requests = qs; answers = replicate (length qs) (answer 1 2 3 4); found = [] }

-- owner 2 holds a pair that owner 1 holds too
both : Lent
both =
    lends 1 (call (lends 2 (words (blank_pool Two 0)) (insert 7 (box 0 0 10 10) ∷ []))).pool (insert 9 (box 40 0 50 9) ∷ insert 7 (box 0 0 10 10) ∷ [])

pub carried_both : Write
unfolding both
carried_both = writing (call both).pool (replicate 120 9)

both_written : carried_both.number ≡ pos 0
unfolding document01 document02 carried_both both
both_written = refl

pub closed_both : file_of carried_both
    ≡ file_bytes Two (of_owner (owner (pos 1)) (shown 7 (box 0 0 10 10)) ∷ of_owner (owner (pos 1)) (shown 9 (box 40 0 50 9))
    ∷ of_owner (owner (pos 2)) (shown 7 (box 0 0 10 10)) ∷ [])
unfolding document01 document02 carried_both both
closed_both = refl

-- read as edition 2 it is accepted, and as edition 1 it is refused 10
pub office_both : ReadOf (file_of carried_both)
office_both = reading (pos 2) (file_of carried_both) (replicate 58 (pos 3))

both_read : office_both.number ≡ pos 0
unfolding document01 document02 office_both carried_both both
both_read = refl

pub closed_other_edition : (reading (pos 1) (file_of carried_both) (replicate 50 (pos 3))).number ≡ pos 10
unfolding document01 document02 carried_both both
closed_other_edition = refl

pub again_both : Write
again_both = writing office_both.left (replicate 130 1)

both_long : length (file_of carried_both) ≤ length again_both.buffer
unfolding document01 document02 again_both office_both carried_both both
both_long = omega arith

pub closed_trip_both : WrittenAgain (file_of carried_both) again_both
closed_trip_both = round_trip carried_both both_written office_both both_read again_both (unfold again_both in refl) both_long

-- ---- a history goes on after a file, and after one that is refused

-- the file without its last byte
abbrev cut : List ℕ
cut = take 87 (file_bytes One carried_records)

pub came : List ℤ
came = (read_file_as (pos 1) (pos 0) (words (blank_pool One 0)) (replicate 50 (pos 5)) (file_bytes One carried_records)).pool

pub kept : List ℤ
kept = (read_file_as (pos 1) (pos 0) came (replicate 50 (pos 6)) cut).pool

pub asks : Lent
asks =
    record {
      owner = owner (pos 2);
      pool = kept;
      workspace = kept;
      requests = search (box 0 0 20 20) ∷ [];
      answers = replicate 1 (answer 1 2 3 4);
      found = replicate 5 no_record;
    }

before_asks : List Step
before_asks =
    Read (pos 1) (pos 0) (replicate 50 (pos 6)) cut (read_file_as (pos 1) (pos 0) came (replicate 50 (pos 6)) cut)
    ∷ Read (pos 1) (pos 0) (replicate 50 (pos 5)) (file_bytes One carried_records) (read_file_as (pos 1) (pos 0) (words (blank_pool One 0)) (replicate 50 (pos 5)) (file_bytes One carried_records))
    ∷ []

carried_history : History One 0 (Call asks (call asks) ∷ before_asks)
unfolding pool_after before_asks asks kept came
carried_history = (
  refl,
  record { number = refl; pool = refl; workspace = refl; answers = refl; found = refl },
  (record { number = refl; pool = refl; workspace = refl }, (record { number = refl; pool = refl; workspace = refl }, tt)),
)

asks_served : (call asks).number ≡ pos 0
unfolding document01 document02 asks kept came
asks_served = refl

pub cut_refused : (read_file_as (pos 1) (pos 0) came (replicate 50 (pos 6)) cut).number ≡ pos 10
unfolding document01 document02 came
cut_refused = refl

-- the records in force are those of the first file: the second was refused
pub closed_after_read : Told (after asks []).pool carried_records 0 nobody Meeting (box 0 0 20 20) 0 (call asks).answers
    (shown 7 (box 0 0 9 9) ∷ shown 7 (box 0 0 10 10) ∷ replicate 3 no_record)
unfolding document01 document02 records_told in_force_after force_after filled_after before_asks asks kept came
closed_after_read =
    (demand_3 One 0 before_asks asks (call asks) carried_history asks_served).each [] (search (box 0 0 20 20)) [] refl Meeting (box 0 0 20 20) refl refl (omega arith)
