-- The loop of `serve`, with no machine: what holds at its test, that a turn keeps it, and what is left when every request is done.
use mathlib.Core.Path.{◌≡◌, refl, sym, ap, subst, ◌∙◌}
use mathlib.Core.Bool.{true, not, ◌||◌}
use mathlib.Core.List.{List, [], ◌∷◌}
use Rattle.std.specs.Prelude.{None}
use Prim.Native.Nat.{ℕ, suc, ◌+◌, ◌-◌, ◌*◌, ◌≤◌, ◌<◌}
use native.Mathlib.Omega.{arith}
use native.Mathlib.Numerals.{add-one}
use lib.ListN.{length, get_or, set, drop, length-set}
use lib.Seq.{sets, length-sets, drop-cons, drop-length}
use lib.Dec.{ltb, eqb}
use lib.IntN.{ℤ}
use borrow.Author.Tests.{ltb-false, eqb-true}
use mir.Syntax.{w32}
use mir.Val.{SFits, to_z, of_z}
use mir.Facts.{to_z-of_z}
use Rattle.rules.specs.declared.Edition.{Edition}
use Rattle.rules.specs.declared.Owner.{Owner}
use Rattle.rules.specs.declared.FoundRecord.{FoundRecord}
use Rattle.rules.specs.declared.Request.{Request}
use Rattle.rules.specs.declared.Asked.{Asked}
use Rattle.rules.specs.declared.Answer.{Answer}
use Rattle.rules.specs.declared.CallFault.TheVariants.{BadLists, BadOwner, BadLength, NotSound, NoRequest}
use Rattle.rules.specs.Lists.{every}
use Rattle.rules.specs.Numbers.{most_requests, good_owner}
use Rattle.rules.specs.Owners.{owner, owner_in}
use Rattle.rules.specs.Pool.{Pool}
use Rattle.rules.specs.Layout.{edition_of, valid_length, words, read}
use Rattle.rules.specs.Sound.{sound}
use Rattle.rules.specs.Insert.{ours}
use Rattle.rules.specs.Request.{Turn, asked, request}
use Rattle.rules.specs.Call.{Lent, Batch, after_turn, do_request, do_requests, is_request, call_fault, batch_owner, starting}
use Rattle.rules_laws.proofs.Bools.{not_false, or_neither}
use Rattle.rules_laws.proofs.Places.{at_place}
use Rattle.rules_laws.proofs.Everies.{every_is}
use Rattle.in_force_laws.proofs.Faults.{no_row}
use Rattle.free_slots.specs.declared.FreeSlots.{FreeSlots}
use Rattle.free_slots.specs.Known.{Known}
use Rattle.promises.specs.Calls.{lent}
use Rattle.found_items.specs.Items.{shown_from, Pointing}
use Rattle.request.specs.declared.Served.{Served}
use Rattle.request.specs.Serving.{Ready, Serves, ServesTo}
use Rattle.in_force_laws.proofs.Sounds.{sound_fit}
use Rattle.in_force_laws.proofs.Many.{request_edition}
use Rattle.in_force_laws.proofs.Asks.{asks_something}
use Rattle.batch.specs.Batching.{batch_of, Batched}
use Rattle.batch.proofs.Asks.{none as nothing-asked}
use Rattle.batch.proofs.Listed.{Placed, request_placed}

-- ---- a call that nothing refuses

pub record Fine (l : Lent) : Type 0 where
  pub many : length l.requests ≤ 1024
  pub answers : length l.answers ≡ length l.requests
  pub owner : good_owner l.owner ≡ true
  pub right : valid_length l.pool ≡ true
  pub workspace : length l.workspace ≡ length l.pool
  pub sound : sound l.pool ≡ true
  pub asked : every is_request l.requests ≡ true

pub fine : (l : Lent) → call_fault l ≡ None → Fine l
unfolding call_fault
fine l h =
    let a = no_row (ltb most_requests (length l.requests) || not (eqb (length l.answers) (length l.requests))) BadLists _ h in
    let o = no_row (not (good_owner l.owner)) BadOwner _ a.1 in
    let b = no_row (not (valid_length l.pool) || not (eqb (length l.workspace) (length l.pool))) BadLength _ o.1 in
    let c = no_row (not (sound l.pool)) NotSound _ b.1 in
    let d = no_row (not (every is_request l.requests)) NoRequest _ c.1 in
    let lists = or_neither (ltb most_requests (length l.requests)) (not (eqb (length l.answers) (length l.requests))) a.0 in
    let lengths = or_neither (not (valid_length l.pool)) (not (eqb (length l.workspace) (length l.pool))) b.0 in
    record {
      many = ltb-false most_requests (length l.requests) lists.0;
      answers = eqb-true (length l.answers) (length l.requests) (not_false _ lists.1);
      owner = not_false _ o.0;
      right = not_false _ lengths.0;
      workspace = eqb-true (length l.workspace) (length l.pool) (not_false _ lengths.1);
      sound = not_false _ c.0;
      asked = not_false _ d.0;
    }

-- .. by the owner's number as the machine holds it
module _ {o : ℤ} {p w : List ℤ} {qs : List Request} {answers : List Answer}
    {fs : List FoundRecord} where
  pub fine_told : SFits w32 o → call_fault (lent (owner o) p w qs answers fs) ≡ None
      → Fine (lent (owner (to_z w32 (of_z w32 o))) p w qs answers fs)
  fine_told fits h =
      subst (λ (z : ℤ). Fine (lent (owner z) p w qs answers fs)) (sym (to_z-of_z {w = w32} fits))
      (fine (lent (owner o) p w qs answers fs) h)

-- ---- a request of the list

every_at : (qs : List Request) (i : ℕ) → i < length qs → every is_request qs ≡ true → is_request (get_or qs i nothing-asked) ≡ true
every_at qs i lt h = (every_is is_request qs).0 h (get_or qs i nothing-asked) (at_place qs i nothing-asked lt)

-- ---- so far: how many requests are done and places of the found list filled, what is known of
-- the free slots, and what the lists lent hold

module _ (l : Lent) where
  -- the batch, read off the lists lent
  abbrev pub batch_at : ℕ → List ℤ → List Answer → List FoundRecord → Batch
  batch_at filled pool answers found = record {
    owner = batch_owner l;
    pool = read pool;
    answers = answers;
    found = found;
    filled = filled;
  }

  pub record Going (done filled : ℕ) (free : FreeSlots) (pool work : List ℤ)
      (answers : List Answer) (found : List FoundRecord) : Type 0 where
    pub within : done ≤ length l.requests
    pub ready : Ready pool free
    pub edition : edition_of pool ≡ edition_of l.pool
    pub pool_long : length pool ≡ length l.pool
    pub work_long : length work ≡ length l.workspace
    pub answers_long : length answers ≡ length l.answers
    pub found_long : length found ≡ length l.found
    pub space : filled ≤ length l.found
    pub few : filled ≤ 32768 * done
    pub batch :
        do_requests ours done (drop done l.requests) (batch_at filled pool answers found)
        ≡ batch_of l

module _ {l : Lent} (f : Fine l) where
  abbrev qs : List Request
  qs = l.requests

  -- no request is done
  start_batch : do_requests ours 0 qs (batch_at l 0 l.pool l.answers l.found) ≡ batch_of l
  unfolding batch_of starting
  start_batch = refl

  pub started : (free : FreeSlots) → Known (read l.pool) free
      → Going l 0 0 free l.pool l.workspace l.answers l.found
  started free known = record {
    within = omega arith;
    ready = record { right = f.right; sound = f.sound; known = known };
    edition = refl;
    pool_long = refl;
    work_long = refl;
    answers_long = refl;
    found_long = refl;
    space = omega arith;
    few = omega arith;
    batch = start_batch;
  }

  module _ {done filled : ℕ} {free : FreeSlots} {pool work : List ℤ} {answers : List Answer}
      {found : List FoundRecord} (s : Going l done filled free pool work answers found) where
    -- ---- a turn
    module _ (more : done < length qs) where
      abbrev q : Request
      q = get_or qs done nothing-asked

      abbrev room : ℕ
      room = length found - filled

      pub q_asked : is_request q ≡ true
      q_asked = every_at qs done more f.asked

      pub many : filled ≤ 33554432
      many = omega (arith, s.few, more, f.many)

      pub same_long : length work ≡ length pool
      same_long = s.work_long ∙ f.workspace ∙ sym s.pool_long

      -- whose request it is: the edition is that of the pool lent
      abbrev who : Owner
      who = owner_in (edition_of pool) l.owner

      who_is : batch_owner l ≡ who
      unfolding batch_owner read
      who_is = ap (λ (e : Edition). owner_in e l.owner) (sym s.edition)

      -- .. and what `one_request` promises
      module _ {r : Served} {p w : List ℤ} (does : ServesTo pool who q filled room r p w) where
        abbrev a : Asked
        a = (asks_something who q q_asked).0

        abbrev t : Turn
        t = request ours (read pool) filled room a

        serves : Serves (length pool) t r p w
        serves = does a (asks_something who q q_asked).1

        placed : Placed room (length pool) t
        placed = request_placed pool s.ready.right s.ready.sound ours filled room a

        -- its records have room
        pub listed : (2 * r.listed ≤ length w) × Pointing p w 0 r.listed
            × (filled + r.listed ≤ length found)
        listed = (
          omega (arith, serves.listed, placed.words, serves.work),
          serves.pointing,
          omega (arith, serves.listed, placed.places, s.space, s.found_long),
        )

        pub listed_few : filled + r.listed ≤ 33587200
        listed_few = omega (arith, many, serves.few)

        -- .. and what `carry` leaves
        module _ {fs : List FoundRecord} (carried : fs ≡ sets found filled (shown_from p w 0 r.listed)) where
          abbrev next_answers : List Answer
          next_answers = set answers done r.answer

          abbrev before : Batch
          before = batch_at l filled pool answers found

          abbrev after : Batch
          after = batch_at l (filled + r.listed) p next_answers fs

          is_turn : after ≡ after_turn done before t
          unfolding after_turn
          is_turn = λ i. record {
            owner = batch_owner l;
            pool = serves.pool i;
            answers = set answers done (serves.answer i);
            found = (carried ∙ ap (sets found filled) serves.items) i;
            filled = filled + serves.listed i;
          }

          does_request : do_request ours done before (asked (batch_owner l) q) ≡ after
          unfolding do_request
          does_request =
              ap (do_request ours done before)
              (ap (λ (o : Owner). asked o q) who_is ∙ (asks_something who q q_asked).1)
              ∙ sym is_turn

          one_more : (i : ℕ) (x : Request) (xs : List Request) (b : Batch)
              → do_requests ours i (x ∷ xs) b ≡ do_requests ours (suc i) xs (do_request ours i b (asked b.owner x))
          unfolding do_requests
          one_more i x xs b = refl

          next_batch : do_requests ours (done + 1) (drop (done + 1) qs) after ≡ batch_of l
          next_batch =
              ap (λ (n : ℕ). do_requests ours n (drop n qs) after) (add-one done)
              ∙ ap (do_requests ours (suc done) (drop (suc done) qs)) (sym does_request)
              ∙ sym (one_more done q (drop (suc done) qs) before)
              ∙ ap (λ (xs : List Request). do_requests ours done xs before)
              (sym (drop-cons qs done nothing-asked more))
              ∙ s.batch

          next_edition : edition_of p ≡ edition_of l.pool
          unfolding read
          next_edition =
              ap (λ (x : Pool). x.edition) serves.pool
              ∙ request_edition ours (read pool) filled room a ∙ s.edition

          pub next : Going l (done + 1) (filled + r.listed) r.free p w next_answers fs
          next = record {
            within = omega (arith, more);
            ready = serves.ready;
            edition = next_edition;
            pool_long = serves.same ∙ s.pool_long;
            work_long = serves.work ∙ s.pool_long ∙ sym f.workspace;
            answers_long = length-set answers done r.answer ∙ s.answers_long;
            found_long =
                ap length carried ∙ length-sets found filled (shown_from p w 0 r.listed)
                ∙ s.found_long;
            space = omega (arith, listed.2, s.found_long);
            few = omega (arith, s.few, serves.few);
            batch = next_batch;
          }

    -- ---- every request is done
    pub finished : length qs ≤ done → Batched (batch_of l) pool answers found
    finished out =
        record {
          pool_is =
              sym (sound_fit pool s.ready.right s.ready.sound).same
              ∙ ap (λ (b : Batch). words b.pool) whole;
          answers_are = ap (λ (b : Batch). b.answers) whole;
          found_is = ap (λ (b : Batch). b.found) whole;
        }
      where
        all : done ≡ length qs
        all = omega (arith, s.within, out)

        no_more : (i : ℕ) (b : Batch) → b ≡ do_requests ours i [] b
        no_more i b = unfold do_requests in refl

        whole : batch_at l filled pool answers found ≡ batch_of l
        whole =
            no_more done (batch_at l filled pool answers found)
            ∙ ap
            (λ (xs : List Request). do_requests ours done xs (batch_at l filled pool answers found))
            (sym (ap (λ (n : ℕ). drop n qs) all ∙ drop-length qs)) ∙ s.batch
