-- The customer's three demands, proved of what `dustmap_call` promises: that is what `call` defines, request by request, and the pool that a
-- history leaves holds the records in force.
use mathlib.Core.Path.{◌≡◌, refl, sym, ap, ap₂, subst, ◌∙◌}
use mathlib.Core.Logic.{◌≢◌, ⊎_elim}
use mathlib.Core.Bool.{true, false, not}
use mathlib.Core.List.{List, [], ◌∷◌, ◌++◌, map, append-nil, append_assoc}
use Rattle.std.specs.Prelude.{Option, None, Some, Ok}
use Prim.Native.Nat.{ℕ, suc, ◌+◌, ◌-◌, ◌<◌}
use native.Mathlib.Omega.{arith}
use lib.ListN.{length, get_or, take, drop, length-append}
use lib.Seq.{slice, get_or-set_same}
use lib.Dec.{eqb}
use lib.IntN.{ℤ, pos}
use borrow.Author.Tests.{eq-eqb, ne_eqb}
use Rattle.rules.specs.declared.Edition.{Edition}
use Rattle.rules.specs.declared.Owner.{Owner}
use Rattle.rules.specs.declared.Rect.{Rect}
use Rattle.rules.specs.declared.Mode.{Mode}
use Rattle.rules.specs.declared.FoundRecord.{FoundRecord}
use Rattle.rules.specs.declared.Request.{Request}
use Rattle.rules.specs.declared.Asked.{Asked}
use Rattle.rules.specs.declared.Asked.TheVariants.{Search}
use Rattle.rules.specs.declared.Answer.{Answer}
use Rattle.rules.specs.declared.Accepted.TheVariants.{Listed}
use Rattle.rules.specs.declared.CallFault.{CallFault}
use Rattle.rules.specs.Lists.{those}
use Rattle.rules.specs.Owners.{owner_sound, as_found}
use Rattle.rules.specs.Pool.{Pool, stored}
use Rattle.rules.specs.Layout.{valid_length, words, read}
use Rattle.rules.specs.Sound.{owners_sound, sound}
use Rattle.rules.specs.Search.{ordered, found, reported, opened}
use Rattle.rules.specs.Insert.{ours}
use Rattle.rules.specs.Answers.{answer, answer_of, call_fault_number}
use Rattle.rules.specs.Request.{Turn, turn, asked}
use Rattle.rules.specs.Call.{Lent, Left, Batch, is_request, call_fault, refused, served, call, after_turn, do_request, do_requests, batch_owner, starting}
use Rattle.rules_laws.proofs.Bools.{not_false, or_neither}
use Rattle.rules_laws.proofs.Splits.{ours_lawful}
use Rattle.sound_laws.specs.Tree.{Whole}
use Rattle.search_laws.specs.Window.{own_wanted}
use Rattle.search_laws.proofs.Exact.{search_exact, opened_exact}
use Rattle.in_force_laws.specs.Force.{force_after, filled_after}
use Rattle.in_force_laws.specs.Shows.{HoldsRecords, nodes_meeting, High}
use Rattle.in_force_laws.specs.Batch.{how_many_wanted, FairBatch}
use Rattle.in_force_laws.proofs.Whole.{request_whole, request_owned}
use Rattle.in_force_laws.proofs.Search.{holds_high, listed_many}
use Rattle.in_force_laws.proofs.Batch.{no_answer, step_fair, answers_kept, answers_as_many, listed_end}
use Rattle.in_force_laws.proofs.Filled.{part_filled}
use Rattle.in_force_laws.proofs.Call.{call_by_refused, call_by_served, no_fault, left_answers, left_found, left_beyond, answers_long, call_part, call_shows}
use Rattle.in_force_laws.proofs.Sounds.{sound_fit, sound_tree, sound_owners}
use Rattle.in_force_laws.proofs.Asks.{asks_something, asked_owner}
use Rattle.demands.specs.Steps.{Step, Call, pool_after, History, in_force_after}
use Rattle.promises.specs.Calls.{Allowed}
use Rattle.promises.proofs.Once.{allowed, once}
use Rattle.demands.specs.Demands.{after, turn_after, answer_after, with_requests, Untouched, Ends, SameWithout, NoChange, Refuses}
use Rattle.demands.specs.Demands.{Accepted, Lists, Does, Shows}
use Rattle.demands.proofs.Holds.{history_holds}
use Rattle.demands.proofs.Turns.{Either, either, same_pool}
use Rattle.rules_laws.proofs.Everies.{every_less}
use Rattle.demands.proofs.Unasked.{after_owner, next_after, bare, passed, first_fine, first_pool, less_fine, less_asked, less_end, less_answers}

-- ---- one outcome

pub demand_ends : (l : Lent) → Ends l
demand_ends l = record {
  outcome = call l;
  allowed = allowed l;
  only = λ o k. once l o (call l) k (allowed l);
}

-- ---- a request in its call

module _ (l : Lent) where
  sound_first : call_fault l ≡ None → sound l.pool ≡ true
  sound_first h = not_false _ (passed l h).3

  pub first_whole : call_fault l ≡ None → Whole (starting l).pool
  unfolding starting
  first_whole h = sound_tree l.pool (sound_first h)

  pub first_right : call_fault l ≡ None → valid_length l.pool ≡ true
  first_right h = not_false _ (or_neither (not (valid_length l.pool)) _ (passed l h).2).0

  -- the words lent are those of the pool that is read from them
  first_words : call_fault l ≡ None → words (starting l).pool ≡ l.pool
  unfolding starting
  first_words h =
      (sound_fit l.pool (first_right h) (sound_first h)).same

  step_whole : (i : ℕ) (b : Batch) (o : Option Asked) → Whole b.pool → Whole (do_request ours i b o).pool
  unfolding do_request after_turn
  step_whole i b None w = w
  step_whole i b (Some a) w = request_whole ours ours_lawful b.pool w b.filled (length b.found - b.filled) a

  pub all_whole : (i : ℕ) (qs : List Request) (b : Batch) → Whole b.pool → Whole (do_requests ours i qs b).pool
  unfolding do_requests
  all_whole i [] b w = w
  all_whole i (q ∷ qs) b w = all_whole (suc i) qs (do_request ours i b (asked b.owner q)) (step_whole i b (asked b.owner q) w)

  -- whose records are stored: of owners that the pool can have, before the first request and after each
  pub first_owners : call_fault l ≡ None → owners_sound (starting l).pool ≡ true
  unfolding starting
  first_owners h = sound_owners l.pool (sound_first h)

  step_owners : (i : ℕ) (b : Batch) (q : Request) (o : Option Asked) → asked b.owner q ≡ o → Whole b.pool → FairBatch b
      → owners_sound b.pool ≡ true → owners_sound (do_request ours i b o).pool ≡ true
  unfolding do_request after_turn
  step_owners i b q None e w f h = h
  step_owners i b q (Some a) e w f h =
      request_owned ours ours_lawful b.pool w b.filled (length b.found - b.filled) h a
      (subst (λ (x : Owner). owner_sound b.pool.edition x ≡ true) (sym (asked_owner b.owner q a e)) f)

  pub all_owners : (i : ℕ) (qs : List Request) (b : Batch) → Whole b.pool → FairBatch b → owners_sound b.pool ≡ true
      → owners_sound (do_requests ours i qs b).pool ≡ true
  unfolding do_requests
  all_owners i [] b w f h = h
  all_owners i (q ∷ qs) b w f h =
      let a = asked b.owner q in
      all_owners (suc i) qs (do_request ours i b a) (step_whole i b a w) (step_fair ours i b a f) (step_owners i b q a refl w f h)

  module _ (fine : call_fault l ≡ None) (done : List Request) (q : Request) (a : Asked) (is : asked (batch_owner l) q ≡ Some a) where
    abbrev now : Batch
    now = after l done

    abbrev next : Batch
    next = do_request ours (length done) now (Some a)

    then : after l (done ++ q ∷ []) ≡ next
    unfolding do_requests
    then = next_after l done q [] ∙ ap (λ (o : Option Asked). do_request ours (length done) now o) is

    next_pool : next.pool ≡ (turn_after l done a).pool
    unfolding do_request after_turn
    next_pool = refl

    one_either : Either (after l done).pool (after l done).filled a (turn_after l done a)
    one_either = either (after l done).pool (after l done).filled (length (after l done).found - (after l done).filled) a

    now_whole : Whole now.pool
    now_whole = all_whole 0 done (starting l) (first_whole fine)

    -- a request that is refused leaves all but the answer list
    refused_bare : eqb (answer_of (turn_after l done a).reply).number 0 ≡ false → bare next ≡ bare now
    unfolding do_request after_turn
    refused_bare n =
        let e = one_either.refused n in
        let none_more : now.filled + 0 ≡ now.filled = omega arith in
        rw (e.0, e.1, none_more)

    module _ (rest : List Request) (all : l.requests ≡ done ++ q ∷ rest) where
      place_there : length done < length now.answers
      unfolding starting
      place_there =
          omega (arith, answers_as_many ours 0 done (starting l), answers_long ours l fine, ap length all, length-append done (q ∷ rest))

      next_answer : get_or next.answers (length done) no_answer ≡ answer_of (turn_after l done a).reply
      unfolding do_request after_turn
      next_answer = get_or-set_same now.answers (length done) (answer_of (turn_after l done a).reply) no_answer place_there

      whole_parts : do_requests ours 0 l.requests (starting l) ≡ do_requests ours (suc (length done)) rest next
      whole_parts =
          ap (λ (qs : List Request). do_requests ours 0 qs (starting l)) all ∙ next_after l done q rest
          ∙ ap (λ (o : Option Asked). do_requests ours (suc (length done)) rest (do_request ours (length done) now o)) is

      call_answer : get_or (call l).answers (length done) no_answer ≡ answer_of (turn_after l done a).reply
      unfolding call
      call_answer =
          ap (λ (xs : List Answer). get_or xs (length done) no_answer) (left_answers ours l fine ∙ ap (λ (b : Batch). b.answers) whole_parts)
          ∙ answers_kept ours (suc (length done)) rest next (length done) (omega arith) ∙ next_answer

      call_found : (call l).found ≡ (do_requests ours (suc (length done)) rest next).found
      unfolding call
      call_found = left_found ours l fine ∙ ap (λ (b : Batch). b.found) whole_parts

      -- the places filled before it, by the answers
      filled_before : now.filled ≡ filled_after (batch_owner l) 0 0 done (call l).answers
      unfolding call starting batch_owner
      filled_before =
          rw (left_answers ours l fine, all)
          (part_filled ours 0 done (q ∷ rest) (starting l) (omega (arith, answers_long ours l fine, ap length all, length-append done (q ∷ rest))))

-- ---- D1

module _ (l : Lent) (o : Left) (k : Allowed l o) where
  pub fine : o.number ≡ pos 0 → call_fault l ≡ None
  unfolding call
  fine z = no_fault ours l (sym k.number ∙ z)

  turned_off : (v : CallFault) → call_fault l ≡ Some v → (o.number ≡ call_fault_number v) × Untouched l o
  unfolding call refused
  turned_off v h =
      let e = call_by_refused ours l v h in (
        k.number ∙ ap (λ (x : Left). x.number) e,
        record {
          pool = k.pool ∙ ap (λ (x : Left). x.pool) e;
          workspace = k.workspace ∙ ap (λ (x : Left). x.workspace) e;
          answers = k.answers ∙ ap (λ (x : Left). x.answers) e;
          found = k.found ∙ ap (λ (x : Left). x.found) e;
        },
      )

  taken_on : call_fault l ≡ None → o.number ≡ pos 0
  unfolding call served call_fault_number
  taken_on h = k.number ∙ ap (λ (x : Left). x.number) (call_by_served ours l h)

  module _ (z : o.number ≡ pos 0) (done : List Request) (q : Request) (rest : List Request) (all : l.requests ≡ done ++ q ∷ rest)
      (a : Asked) (is : asked (batch_owner l) q ≡ Some a) where
    told : answer_after o done ≡ answer_of (turn_after l done a).reply
    told = ap (λ (xs : List Answer). get_or xs (length done) no_answer) k.answers ∙ call_answer l (fine z) done q a is rest all

    pool_then : (after l (done ++ q ∷ [])).pool ≡ (turn_after l done a).pool
    pool_then = ap (λ (b : Batch). b.pool) (then l (fine z) done q a is) ∙ next_pool l (fine z) done q a is

    not_zero : (answer_after o done).number ≢ 0 → eqb (answer_of (turn_after l done a).reply).number 0 ≡ false
    not_zero n = ne_eqb _ 0 (λ e. n (ap (λ (x : Answer). x.number) told ∙ e))

    is_zero : (answer_after o done).number ≡ 0 → eqb (answer_of (turn_after l done a).reply).number 0 ≡ true
    is_zero y = eq-eqb _ 0 (sym (ap (λ (x : Answer). x.number) told) ∙ y)

    stays : (answer_after o done).number ≢ 0 → (after l (done ++ q ∷ [])).pool ≡ (after l done).pool
    stays n = pool_then ∙ ((one_either l (fine z) done q a is).refused (not_zero n)).0

    accepts : (answer_after o done).number ≡ 0 → Accepted (after l done).pool a (after l (done ++ q ∷ [])).pool
    accepts y = subst (Accepted (after l done).pool a) (sym pool_then) ((one_either l (fine z) done q a is).accepted (is_zero y)).0

  -- a request that is refused might as well not have been asked
  module _ (z : o.number ≡ pos 0) (done : List Request) (q : Request) (rest : List Request) (all : l.requests ≡ done ++ q ∷ rest)
      (n : (answer_after o done).number ≢ 0) (answers : List Answer) (long : length answers ≡ length (done ++ rest)) where
    abbrev less : Lent
    less = with_requests l (done ++ rest) answers

    none_done : bare (do_request ours (length done) (after l done) (asked (after l done).owner q)) ≡ bare (after l done)
    none_done =
        let a = less_asked l (fine z) done q rest all answers long in
        rw (ap (λ (w : Owner). asked w q) (after_owner l done) ∙ a.1) (refused_bare l (fine z) done q a.0 a.1 (not_zero z done q rest all a.0 a.1 n))

    without : (x : Left) → Allowed less x → SameWithout (length done) o x
    unfolding call served
    without x y =
        let f = less_fine l (fine z) done q rest all answers long in
        let e = less_end l (fine z) done q rest all answers long none_done in
        let mine = call_by_served ours l (fine z) in
        let other = call_by_served ours less f in
        record {
          number = y.number ∙ ap (λ (v : Left). v.number) other ∙ sym (k.number ∙ ap (λ (v : Left). v.number) mine);
          pool = y.pool ∙ ap (λ (v : Left). v.pool) other ∙ ap (λ (b : Batch). words b.pool) e ∙ sym (k.pool ∙ ap (λ (v : Left). v.pool) mine);
          workspace =
              y.workspace ∙ ap (λ (v : Left). v.workspace) other ∙ ap (λ (b : Batch). words b.pool) e
              ∙ sym (k.workspace ∙ ap (λ (v : Left). v.workspace) mine);
          answers =
              y.answers ∙ less_answers l (fine z) done q rest all answers long none_done
              ∙ ap (λ (xs : List Answer). take (length done) xs ++ drop (suc (length done)) xs) (sym k.answers);
          found = y.found ∙ ap (λ (v : Left). v.found) other ∙ ap (λ (b : Batch). b.found) e ∙ sym (k.found ∙ ap (λ (v : Left). v.found) mine);
        }

  -- ---- a call that changes nothing

  module _ (z : o.number ≡ pos 0)
      (h : (done : List Request) (q : Request) (rest : List Request) → l.requests ≡ done ++ q ∷ rest → NoChange (batch_owner l) q (answer_after o done)) where
    one_still : (done : List Request) (q : Request) (rest : List Request) → l.requests ≡ done ++ q ∷ rest
        → (after l (done ++ q ∷ [])).pool ≡ (after l done).pool
    one_still done q rest all = ⊎_elim refusal searched (h done q rest all)
      where
        refusal : (answer_after o done).number ≢ 0 → (after l (done ++ q ∷ [])).pool ≡ (after l done).pool
        refusal n = let a = asks_something (batch_owner l) q (every_less is_request done q rest (rw all at (passed l (fine z)).4)).0 in stays z done q rest all a.0 a.1 n

        searched : (mode : Mode) × (window : Rect) × (asked (batch_owner l) q ≡ Some (Search (batch_owner l) mode window)) → (after l (done ++ q ∷ [])).pool ≡ (after l done).pool
        searched s =
            pool_then z done q rest all (Search (batch_owner l) s.0 s.1) s.2 ∙ same_pool (one_either l (fine z) done q (Search (batch_owner l) s.0 s.1) s.2)

    all_still : (done rest : List Request) → l.requests ≡ done ++ rest → (after l (done ++ rest)).pool ≡ (after l done).pool
    all_still done [] all = ap (λ (qs : List Request). (after l qs).pool) (append-nil done)
    all_still done (q ∷ rest) all =
        ap (λ (qs : List Request). (after l qs).pool) (sym (append_assoc done (q ∷ []) rest))
        ∙ all_still (done ++ q ∷ []) rest (all ∙ sym (append_assoc done (q ∷ []) rest)) ∙ one_still done q rest all

    lent_words : o.pool ≡ l.pool
    unfolding call served do_requests
    lent_words =
        k.pool ∙ ap (λ (v : Left). v.pool) (call_by_served ours l (fine z)) ∙ ap words (all_still [] l.requests refl) ∙ first_words l (fine z)

  pub demand_1 : Refuses l o
  demand_1 = record { refused = turned_off; served = taken_on; each = told; kept = stays; unasked = without; still = lent_words }

  -- ---- D2

  module _ (z : o.number ≡ pos 0) (done : List Request) (q : Request) (rest : List Request) (all : l.requests ≡ done ++ q ∷ rest)
      (mode : Mode) (window : Rect) (is : asked (batch_owner l) q ≡ Some (Search (batch_owner l) mode window)) (y : (answer_after o done).number ≡ 0) where
    abbrev w : Owner
    w = batch_owner l

    abbrev search : Asked
    search = Search w mode window

    abbrev p : Pool
    p = (after l done).pool

    abbrev hits : List FoundRecord
    hits = found p w mode window

    finds : turn_after l done search ≡ turn p (Ok (Listed (length hits) (after l done).filled (opened p window))) hits
    finds = ((one_either l (fine z) done q search is).accepted (is_zero z done q rest all search is y)).1

    exact : hits ≡ ordered (map as_found (those (own_wanted w mode window) (stored p)))
    exact = search_exact p (now_whole l (fine z) done q search is) w mode window

    many : length hits ≡ how_many_wanted w mode window (stored p)
    many = ap length exact ∙ listed_many (those (own_wanted w mode window) (stored p))

    filled_then_lem : (after l done).filled ≡ filled_after w 0 0 done o.answers
    filled_then_lem =
        filled_before l (fine z) done q search is rest all ∙ ap (filled_after w 0 0 done) (sym k.answers)

    says : answer_after o done ≡ answer 0 (how_many_wanted w mode window (stored p)) (filled_after w 0 0 done o.answers) (reported p.edition (suc (nodes_meeting p window)))
    unfolding answer_of
    says =
        told z done q rest all search is ∙ ap (λ (t : Turn). answer_of t.reply) finds
        ∙ rw (many, filled_then_lem, opened_exact p (now_whole l (fine z) done q search is) window)

    stands : slice (after l done).filled ((after l done).filled + length hits) o.found ≡ hits
    stands =
        ap (slice (after l done).filled ((after l done).filled + length hits)) (k.found ∙ call_found l (fine z) done q search is rest all)
        ∙ subst (λ (t : Turn). slice (after l done).filled ((after l done).filled + length t.listed)
        (do_requests ours (suc (length done)) rest (next l (fine z) done q search is)).found ≡ t.listed) finds
        (listed_end ours (length done) (after l done) search rest)

    listing : Lists p w mode window (filled_after w 0 0 done o.answers) (answer_after o done) o.found
    listing = record {
      answered = says;
      listed =
          ap (λ (t : Answer). slice t.start (t.start + t.found) o.found) says
          ∙ ap₂ (λ (s n : ℕ). slice s (s + n) o.found) (sym filled_then_lem) (sym many) ∙ stands ∙ exact;
    }

  pub demand_2 : o.number ≡ pos 0 → Does l o
  unfolding call served
  demand_2 z =
      let e = call_by_served ours l (fine z) in
      record {
        each = accepts z;
        lists = listing z;
        beyond = rw (k.answers, k.found) (left_beyond ours l (fine z));
        pool = k.pool ∙ ap (λ (x : Left). x.pool) e;
        workspace = k.workspace ∙ ap (λ (x : Left). x.workspace) e ∙ sym (k.pool ∙ ap (λ (x : Left). x.pool) e);
        found = k.found ∙ ap (λ (x : Left). x.found) e;
        before = λ done rest all answers long x y.
            y.pool ∙ ap (λ (v : Left). v.pool) (call_by_served ours (with_requests l done answers) (first_fine l (fine z) done rest all answers long))
            ∙ ap words (first_pool l (fine z) done rest all answers long);
      }

-- ---- D3

pub demand_3 : (e : Edition) (n : ℕ) (steps : List Step) (l : Lent) (o : Left) → History e n (Call l o ∷ steps) → o.number ≡ pos 0 → Shows steps l o
unfolding call
demand_3 e n steps l o h z =
    let k = h.1 in
    let rs = in_force_after steps in
    let holds = subst (λ (w : List ℤ). HoldsRecords (read w) rs) (sym h.0) (history_holds e n steps h.2) in
    let y = sym k.number ∙ z in
    rw (k.answers, k.found) (record {
      each = λ done q rest all mode window s v room. call_shows ours l ours_lawful rs holds y done q rest all mode window s v room;
      high = λ done rest all.
          holds_high (after l done).pool (force_after (batch_owner l) rs 0 done (call l).answers) (call_part ours l ours_lawful rs holds y done rest all);
    })

-- .. and of the words that every history leaves, whatever its last step was
pub demand_height : (e : Edition) (n : ℕ) (steps : List Step) → History e n steps → High (read (pool_after e n steps)) (in_force_after steps)
demand_height e n steps h = holds_high (read (pool_after e n steps)) (in_force_after steps) (history_holds e n steps h)
