-- Req 07: an owner's requests are answered by the owner's records alone, unless one is refused 7. In two pools of edition 2 that are the same to
-- an owner, each of the owner's requests passes the same rows and lists the same records; so it is with a batch, and with a call.
use mathlib.Core.Path.{◌≡◌, refl, sym, ap, subst, ◌∙◌}
use mathlib.Core.Logic.{◌≢◌}
use mathlib.Core.Bool.{true}
use mathlib.Core.List.{List, [], ◌∷◌, map}
use Rattle.std.specs.Prelude.{Option, None, Some, Err}
use Prim.Native.Nat.{ℕ, suc, ◌+◌, ◌-◌, ◌≤◌, ◌<◌}
use native.Mathlib.Omega.{arith}
use lib.ListN.{length, get_or, set}
use lib.Seq.{sets, get_or-set_same}
use Rattle.rules.specs.declared.RequestFault.{RequestFault}
use Rattle.rules.specs.declared.Edition.{Edition}
use Rattle.rules.specs.declared.Edition.TheVariants.{Two}
use Rattle.rules.specs.declared.Owner.{Owner}
use Rattle.rules.specs.declared.Rect.{Rect}
use Rattle.rules.specs.declared.Mode.{Mode}
use Rattle.rules.specs.declared.Record.{Record}
use Rattle.rules.specs.declared.Request.{Request}
use Rattle.rules.specs.declared.Asked.{Asked}
use Rattle.rules.specs.declared.Asked.TheVariants.{Insert, Delete, Update, Search}
use Rattle.rules.specs.declared.RequestFault.TheVariants.{NoSlot}
use Rattle.rules.specs.Lists.{those}
use Rattle.rules.specs.Owners.{owned_by, owner_in, owner_sound, as_found}
use Rattle.rules.specs.Pool.{Pool, moved, held}
use Rattle.rules.specs.Layout.{read}
use Rattle.rules.specs.Search.{found, opened_from_root, reported, opened}
use Rattle.rules.specs.Answers.{Reply, answer_of}
use Rattle.rules.specs.Insert.{Choice, ours, Change, Done, NoneFree, insert_record}
use Rattle.rules.specs.Lawful.{Lawful}
use Rattle.rules.specs.Delete.{delete_record, update_record}
use Rattle.rules.specs.Request.{Turn, turn, asked, after_change, insert_fault, delete_fault, update_fault, search_fault, request}
use Rattle.rules.specs.Call.{Lent, Batch, after_turn, do_request, do_requests, call_fault, batch_owner, starting, call_by}
use Rattle.rules_laws.proofs.Bools.{same_test}
use Rattle.rules_laws.proofs.Places.{Among}
use Rattle.rules_laws.proofs.Parts.{among_those, those_and}
use Rattle.sound_laws.proofs.Same.{owned_is}
use Rattle.search_laws.specs.Window.{record_wanted, own_wanted}
use Rattle.search_laws.specs.Order.{Alike}
use Rattle.search_laws.proofs.Order.{alike_among, alike_back, alike_map, alike_those, ordered_same}
use Rattle.in_force_laws.specs.Force.{asked_by, force_by, force_after}
use Rattle.in_force_laws.specs.Shows.{HoldsRecords}
use Rattle.in_force_laws.specs.Batch.{FairBatch}
use Rattle.in_force_laws.specs.Apart.{SameTo, in_pool, NoneSeven}
use Rattle.in_force_laws.proofs.Pairs.{held_in_lem, in_held}
use Rattle.in_force_laws.proofs.Asks.{asked_owner}
use Rattle.in_force_laws.proofs.Change.{insert_some, insert_none, delete_some, delete_none, update_some, update_none, search_some, search_none}
use Rattle.in_force_laws.proofs.Search.{found_force}
use Rattle.in_force_laws.proofs.Many.{step_edition, batch_edition}
use Rattle.in_force_laws.proofs.Batch.{no_answer, answers_kept, step_long, step_owner, step_fair, step_force, batch_force}
use Rattle.in_force_laws.proofs.Written.{holds_reads}
use Rattle.in_force_laws.proofs.Call.{answers_long, start_fair, left_pool, left_answers, left_found}
use Rattle.in_force_laws.proofs.Owns.{alike_by, alike_after, own_by, own_after, other_after}

-- ---- one request

-- the other way round
pub same_back : (o : Owner) (p : Pool) (rs : List Record) (z : Pool) (us : List Record) → SameTo o p rs z us → SameTo o z us p rs
same_back o p rs z us s = record {
  one = s.other;
  other = s.one;
  one_edition = s.other_edition;
  other_edition = s.one_edition;
  own = alike_back s.own;
}

same_as : {o w : Owner} {p q : Pool} {rs vs : List Record} {z y : Pool} {us ts : List Record} → o ≡ w → p ≡ q → rs ≡ vs → z ≡ y → us ≡ ts
    → SameTo o p rs z us → SameTo w q vs y ts
same_as {o} {w} {p} {q} {rs} {vs} {z} {y} {us} {ts} e f g h k s =
    subst (λ (x : List Record). SameTo w q vs y x) k
    (subst (λ (x : Pool). SameTo w q vs x us) h
    (subst (λ (x : List Record). SameTo w q x z us) g
    (subst (λ (x : Pool). SameTo w x rs z us) f
    (subst (λ (x : Owner). SameTo x p rs z us) e s))))

-- two turns tell the same, unless one refuses 7
abbrev pub TellSame : Turn → Turn → Type 0
TellSame t u = t.reply ≢ Err NoSlot → u.reply ≢ Err NoSlot → (u.reply ≡ t.reply) × (u.listed ≡ t.listed)

module _ (o : Owner) (p : Pool) (rs : List Record) (z : Pool) (us : List Record) (s : SameTo o p rs z us) where
  -- a pair of the owner's that is in force in one is so in the other
  own_among : (r : Record) → r.owner ≡ o → Among r rs → Among r us
  own_among r e m =
      ((among_those (owned_by o) r us).0 (alike_among s.own r ((among_those (owned_by o) r rs).1 (m, (owned_is o r).1 e)))).0

  own_held : (r : Record) → r.owner ≡ o → held p r ≡ true → held z r ≡ true
  own_held r e h = in_held z s.other.whole us s.other.alike r (own_among r e (held_in_lem p rs s.one.alike r h))

module _ (o : Owner) (p : Pool) (rs : List Record) (z : Pool) (us : List Record) (s : SameTo o p rs z us) where
  held_same : (r : Record) → r.owner ≡ o → held z r ≡ held p r
  held_same r e =
      same_test (held z r) (held p r) (own_held o z us p rs (same_back o p rs z us s) r e) (own_held o p rs z us s r e)

  -- what a search finds, and the nodes that are reported opened
  found_same : (mode : Mode) (window : Rect) → found z o mode window ≡ found p o mode window
  found_same mode window =
      found_force z us s.other o mode window
      ∙ ordered_same (map as_found (those (own_wanted o mode window) us)) (map as_found (those (own_wanted o mode window) rs)) (alike_map as_found wanted)
      ∙ sym (found_force p rs s.one o mode window)
    where
      wanted : Alike (those (own_wanted o mode window) us) (those (own_wanted o mode window) rs)
      wanted =
          rw (those_and (owned_by o) (record_wanted mode window) us, those_and (owned_by o) (record_wanted mode window) rs)
          (alike_those (record_wanted mode window) (alike_back s.own))

  opened_same : (window : Rect) → opened z window ≡ opened p window
  unfolding opened reported
  opened_same window =
      ap (λ (e : Edition). reported e (opened_from_root z window)) s.other_edition
      ∙ sym (ap (λ (e : Edition). reported e (opened_from_root p window)) s.one_edition)

  -- the same row of the table applies, or none does
  insert_same : (r : Record) → r.owner ≡ o → insert_fault z r ≡ insert_fault p r
  unfolding insert_fault
  insert_same r e = rw (held_same r e)

  delete_same : (r : Record) → r.owner ≡ o → delete_fault z r ≡ delete_fault p r
  unfolding delete_fault
  delete_same r e = rw (held_same r e)

  update_same : (old : Record) (new : Rect) → old.owner ≡ o → update_fault z old new ≡ update_fault p old new
  unfolding update_fault
  update_same old new e = rw (held_same old e, held_same (moved old new) e)

  search_same : (room : ℕ) (mode : Mode) (window : Rect) → search_fault z room o mode window ≡ search_fault p room o mode window
  unfolding search_fault
  search_same room mode window = rw (found_same mode window, opened_same window)

  -- a change that is done is told in one way
  change_same : (x y : Change) → TellSame (after_change p x) (after_change z y)
  unfolding after_change
  change_same (Done q) (Done w) m n = (refl, refl)
  change_same (Done q) NoneFree m n = absurd (n refl)
  change_same NoneFree y m n = absurd (m refl)

  module _ (c : Choice) (filled room : ℕ) where
    abbrev here : Asked → Turn
    here a = request c p filled room a

    abbrev there : Asked → Turn
    there a = request c z filled room a

    by_row : (a : Asked) (fault : RequestFault) → here a ≡ turn p (Err fault) [] → there a ≡ turn z (Err fault) [] → TellSame (here a) (there a)
    by_row a fault e f m n = (ap (λ (t : Turn). t.reply) f ∙ sym (ap (λ (t : Turn). t.reply) e), ap (λ (t : Turn). t.listed) f ∙ sym (ap (λ (t : Turn). t.listed) e))

    -- a request of the owner
    pub turn_same : (a : Asked) → asked_by a ≡ o → TellSame (here a) (there a)
    unfolding asked_by
    turn_same (Insert r) e = go (insert_fault p r) refl
      where
        go : (x : Option RequestFault) → insert_fault p r ≡ x → TellSame (here (Insert r)) (there (Insert r))
        go None h = rw (insert_none c p filled room r h, insert_none c z filled room r (insert_same r e ∙ h)) (change_same (insert_record c p r) (insert_record c z r))
        go (Some fault) h =
            by_row (Insert r) fault (insert_some c p filled room r fault h) (insert_some c z filled room r fault (insert_same r e ∙ h))
    turn_same (Delete r) e = go (delete_fault p r) refl
      where
        go : (x : Option RequestFault) → delete_fault p r ≡ x → TellSame (here (Delete r)) (there (Delete r))
        go None h = rw (delete_none c p filled room r h, delete_none c z filled room r (delete_same r e ∙ h)) (change_same (delete_record c p r) (delete_record c z r))
        go (Some fault) h =
            by_row (Delete r) fault (delete_some c p filled room r fault h) (delete_some c z filled room r fault (delete_same r e ∙ h))
    turn_same (Update old new) e = go (update_fault p old new) refl
      where
        go : (x : Option RequestFault) → update_fault p old new ≡ x → TellSame (here (Update old new)) (there (Update old new))
        go None h =
            rw (update_none c p filled room old new h, update_none c z filled room old new (update_same old new e ∙ h))
            (change_same (update_record c p old new) (update_record c z old new))
        go (Some fault) h =
            by_row (Update old new) fault (update_some c p filled room old new fault h) (update_some c z filled room old new fault (update_same old new e ∙ h))
    turn_same (Search w mode window) e = subst (λ (v : Owner). TellSame (here (Search v mode window)) (there (Search v mode window))) (sym e) (go (search_fault p room o mode window) refl)
      where
        go : (x : Option RequestFault) → search_fault p room o mode window ≡ x → TellSame (here (Search o mode window)) (there (Search o mode window))
        go None h =
            rw (
              search_none c p filled room o mode window h,
              search_none c z filled room o mode window (search_same room mode window ∙ h),
              found_same mode window,
              opened_same window,
            ) (λ m n. (refl, refl))
        go (Some fault) h =
            by_row (Search o mode window) fault (search_some c p filled room o mode window fault h)
            (search_some c z filled room o mode window fault (search_same room mode window ∙ h))

-- ---- a batch

not_seven : (reply : Reply) → (answer_of reply).number ≢ 7 → reply ≢ Err NoSlot
not_seven reply n e = n (ap (λ (x : Reply). (answer_of x).number) e ∙ seven)
  where
    seven : (answer_of (Err NoSlot)).number ≡ 7
    seven = unfold answer_of in refl

module _ (c : Choice) where
  module _ (i : ℕ) (b : Batch) (rs : List Record) (z : Pool) (us : List Record) (s : SameTo b.owner b.pool rs z us) where
    -- one request of it: the lists and places are the same after it
    step_same : (q : Request) (x : Option Asked) → asked b.owner q ≡ x → i < length b.answers
        → (get_or (do_request c i b x).answers i no_answer).number ≢ 7 → (get_or (do_request c i (in_pool z b) x).answers i no_answer).number ≢ 7
        → do_request c i (in_pool z b) x ≡ in_pool (do_request c i (in_pool z b) x).pool (do_request c i b x)
    unfolding do_request after_turn
    step_same q None e h m n = refl
    step_same q (Some a) e h m n =
        let room = length b.found - b.filled in
        let t = request c b.pool b.filled room a in
        let u = request c z b.filled room a in
        let told = turn_same b.owner b.pool rs z us s c b.filled room a (asked_owner b.owner q a e)
        (not_seven t.reply (rw (get_or-set_same b.answers i (answer_of t.reply) no_answer h) at m))
        (not_seven u.reply (rw (get_or-set_same b.answers i (answer_of u.reply) no_answer h) at n)) in
        λ k. record {
          owner = b.owner;
          pool = u.pool;
          answers = set b.answers i (answer_of (told.0 k));
          found = sets b.found b.filled (told.1 k);
          filled = b.filled + length (told.1 k);
        }

    fair_too : FairBatch b → FairBatch (in_pool z b)
    fair_too f = subst (λ (e : Edition). owner_sound e b.owner ≡ true) (s.one_edition ∙ sym s.other_edition) f

    module _ (lawful : Lawful c) (fair : FairBatch b) (h : i < length b.answers) (q : Request) where
      abbrev a : Option Asked
      a = asked b.owner q

      abbrev now : Batch
      now = do_request c i b a

      abbrev now_there : Batch
      now_there = do_request c i (in_pool z b) a

      -- .. and the pools are the same to the owner
      still_same : now_there.answers ≡ now.answers
          → SameTo now.owner now.pool (force_by rs a (get_or now.answers i no_answer)) now_there.pool
          (force_by us a (get_or now_there.answers i no_answer))
      still_same e =
          let told = get_or now.answers i no_answer in
          subst (λ (w : Owner). SameTo w now.pool (force_by rs a told) now_there.pool (force_by us a (get_or now_there.answers i no_answer)))
          (sym (step_owner c i b a)) (record {
            one = step_force c lawful i b rs q s.one fair h a refl;
            other = step_force c lawful i (in_pool z b) us q s.other (fair_too fair) h a refl;
            one_edition = step_edition c i b a ∙ s.one_edition;
            other_edition = step_edition c i (in_pool z b) a ∙ s.other_edition;
            own = rw (e, own_by b.owner rs q told, own_by b.owner us q told) (alike_by a told s.own);
          })

  module _ (lawful : Lawful c) where
    -- a batch done in another pool that is the same to its owner: the lists, and the places filled, are the same
    pub batch_same : (qs : List Request) (i : ℕ) (b : Batch) (rs : List Record) (z : Pool) (us : List Record) → SameTo b.owner b.pool rs z us
        → FairBatch b → i + length qs ≤ length b.answers → NoneSeven i (length qs) (do_requests c i qs b).answers
        → NoneSeven i (length qs) (do_requests c i qs (in_pool z b)).answers
        → do_requests c i qs (in_pool z b) ≡ in_pool (do_requests c i qs (in_pool z b)).pool (do_requests c i qs b)
    unfolding do_requests
    batch_same [] i b rs z us s fair h m n = refl
    batch_same (q ∷ qs) i b rs z us s fair h m n =
        let x = asked b.owner q in
        let b1 = do_request c i b x in
        let d1 = do_request c i (in_pool z b) x in
        let inside : i < length b.answers = omega (arith, h) in
        let step = step_same i b rs z us s q x refl inside
        (rw (answers_kept c (suc i) qs b1 i (omega arith)) at (m i (omega arith) (omega arith)))
        (rw (answers_kept c (suc i) qs d1 i (omega arith)) at (n i (omega arith) (omega arith))) in
        let next = still_same i b rs z us s lawful fair inside q (ap (λ (y : Batch). y.answers) step) in
        let rs1 = force_by rs x (get_or b1.answers i no_answer) in
        let us1 = force_by us x (get_or d1.answers i no_answer) in
        subst (λ (y : Batch). do_requests c (suc i) qs y ≡ in_pool (do_requests c (suc i) qs y).pool (do_requests c (suc i) qs b1)) (sym step)
        (batch_same qs (suc i) b1 rs1 d1.pool us1 next (step_fair c i b x fair) (omega (arith, h, step_long c i b x))
        (λ j l k. m j (omega (arith, l)) (omega (arith, k)))
        (subst (λ (y : Batch). NoneSeven (suc i) (length qs) (do_requests c (suc i) qs y).answers) step (λ j l k. n j (omega (arith, l)) (omega (arith, k)))))

    module _ (i : ℕ) (qs : List Request) (b : Batch) (rs : List Record) (fair : FairBatch b) (h : i + length qs ≤ length b.answers) where
      -- .. and the pools that it leaves are the same to the owner
      pub batch_apart : (z : Pool) (us : List Record) → SameTo b.owner b.pool rs z us → NoneSeven i (length qs) (do_requests c i qs b).answers
          → NoneSeven i (length qs) (do_requests c i qs (in_pool z b)).answers
          → SameTo b.owner (do_requests c i qs b).pool (force_after b.owner rs i qs (do_requests c i qs b).answers)
          (do_requests c i qs (in_pool z b)).pool (force_after b.owner us i qs (do_requests c i qs (in_pool z b)).answers)
      batch_apart z us s m n =
          let told = (do_requests c i qs b).answers in
          let same = ap (λ (y : Batch). y.answers) (batch_same qs i b rs z us s fair h m n) in
          record {
            one = batch_force c lawful i qs b rs s.one fair h;
            other = batch_force c lawful i qs (in_pool z b) us s.other (fair_too i b rs z us s fair) h;
            one_edition = batch_edition c i qs b ∙ s.one_edition;
            other_edition = batch_edition c i qs (in_pool z b) ∙ s.other_edition;
            own = rw (same, own_after b.owner rs i qs told, own_after b.owner us i qs told) (alike_after b.owner i qs told s.own);
          }

      -- another owner's batch leaves its pool the same to the owner
      pub batch_other : (o : Owner) → b.owner ≢ o → (z : Pool) (us : List Record) → SameTo o b.pool rs z us
          → SameTo o (do_requests c i qs b).pool (force_after b.owner rs i qs (do_requests c i qs b).answers) z us
      batch_other o w z us s = record {
        one = batch_force c lawful i qs b rs s.one fair h;
        other = s.other;
        one_edition = batch_edition c i qs b ∙ s.one_edition;
        other_edition = s.other_edition;
        own = rw (other_after o b.owner w rs i qs (do_requests c i qs b).answers) s.own;
      }

-- ---- a call

-- in edition 2 a batch is of the owner that the call is told
pub two_owner : (l : Lent) → (read l.pool).edition ≡ Two → batch_owner l ≡ l.owner
unfolding batch_owner owner_in
two_owner l e = ap (λ (d : Edition). owner_in d l.owner) e

-- how a call begins, by its fields
start_room : (l : Lent) → call_fault l ≡ None → 0 + length l.requests ≤ length (starting l).answers
unfolding starting
start_room l f = omega (arith, answers_long ours l f)

start_pool : (l : Lent) → read l.pool ≡ (starting l).pool
unfolding starting
start_pool l = refl

start_answers : (l : Lent) → (starting l).answers ≡ l.answers
unfolding starting
start_answers l = refl

start_found : (l : Lent) → (starting l).found ≡ l.found
unfolding starting
start_found l = refl

start_filled : (l : Lent) → (starting l).filled ≡ 0
unfolding starting
start_filled l = refl

start_owner : (l : Lent) → (read l.pool).edition ≡ Two → (starting l).owner ≡ l.owner
unfolding starting
start_owner l e = two_owner l e

module _ (c : Choice) (lawful : Lawful c) where
  -- the pool that a call leaves, read again, is the one that its batch leaves
  left_reads : (l : Lent) (rs : List Record) → HoldsRecords (do_requests c 0 l.requests (starting l)).pool rs → call_fault l ≡ None
      → read (call_by c l).pool ≡ (do_requests c 0 l.requests (starting l)).pool
  left_reads l rs k f = ap read (left_pool c l f) ∙ holds_reads (do_requests c 0 l.requests (starting l)).pool rs k

  force_left : (l : Lent) (rs : List Record) → call_fault l ≡ None → (starting l).owner ≡ l.owner
      → force_after (starting l).owner rs 0 l.requests (do_requests c 0 l.requests (starting l)).answers
      ≡ force_after l.owner rs 0 l.requests (call_by c l).answers
  force_left l rs f e =
      ap (λ (w : Owner). force_after w rs 0 l.requests (do_requests c 0 l.requests (starting l)).answers) e
      ∙ ap (force_after l.owner rs 0 l.requests) (sym (left_answers c l f))

  module _ (l : Lent) (rs : List Record) (f : call_fault l ≡ None) where
    -- another owner's call
    pub call_other : (o : Owner) → l.owner ≢ o → (z : Pool) (us : List Record) → SameTo o (read l.pool) rs z us
        → SameTo o (read (call_by c l).pool) (force_after l.owner rs 0 l.requests (call_by c l).answers) z us
    call_other o n z us s =
        let owner = start_owner l s.one_edition in
        let after = batch_other c lawful 0 l.requests (starting l) rs (start_fair c l f) (start_room l f) o (λ e. n (sym owner ∙ e)) z us
        (subst (λ (p : Pool). SameTo o p rs z us) (start_pool l) s) in
        same_as refl (sym (left_reads l _ after.one f)) (force_left l rs f owner) refl refl after

    -- the owner's call in either of two pools that are the same to the owner, with the same requests and lists: the answers and the found lists are
    -- the same, and so are to the owner the pools that it leaves
    module _ (m : Lent) (us : List Record) (g : call_fault m ≡ None) (own : m.owner ≡ l.owner) (same : m.requests ≡ l.requests)
        (answers : m.answers ≡ l.answers) (places : m.found ≡ l.found) (s : SameTo l.owner (read l.pool) rs (read m.pool) us)
        (one : NoneSeven 0 (length l.requests) (call_by c l).answers) (other : NoneSeven 0 (length m.requests) (call_by c m).answers) where
      abbrev batch : Batch
      batch = do_requests c 0 l.requests (starting l)

      abbrev batch_there : Batch
      batch_there = do_requests c 0 l.requests (in_pool (read m.pool) (starting l))

      begun : starting m ≡ in_pool (read m.pool) (starting l)
      begun = λ k. record {
        owner = (start_owner m s.other_edition ∙ own ∙ sym (start_owner l s.one_edition)) k;
        pool = sym (start_pool m) k;
        answers = (start_answers m ∙ answers ∙ sym (start_answers l)) k;
        found = (start_found m ∙ places ∙ sym (start_found l)) k;
        filled = (start_filled m ∙ sym (start_filled l)) k;
      }

      there_is : do_requests c 0 m.requests (starting m) ≡ batch_there
      there_is = ap (λ (qs : List Request). do_requests c 0 qs (starting m)) same ∙ ap (do_requests c 0 l.requests) begun

      begin_same : SameTo (starting l).owner (starting l).pool rs (read m.pool) us
      begin_same = rw (start_owner l s.one_edition, ← start_pool l) s

      none_seven : NoneSeven 0 (length l.requests) batch.answers
      none_seven = subst (NoneSeven 0 (length l.requests)) (left_answers c l f) one

      none_seven_there : NoneSeven 0 (length l.requests) batch_there.answers
      none_seven_there =
          subst (λ (b : Batch). NoneSeven 0 (length l.requests) b.answers) there_is
          (subst (λ (n : ℕ). NoneSeven 0 n (do_requests c 0 m.requests (starting m)).answers) (ap length same)
          (subst (NoneSeven 0 (length m.requests)) (left_answers c m g) other))

      is : batch_there ≡ in_pool batch_there.pool batch
      is = batch_same c lawful l.requests 0 (starting l) rs (read m.pool) us begin_same (start_fair c l f) (start_room l f) none_seven none_seven_there

      pub call_answers : (call_by c m).answers ≡ (call_by c l).answers
      call_answers = left_answers c m g ∙ ap (λ (b : Batch). b.answers) (there_is ∙ is) ∙ sym (left_answers c l f)

      pub call_found : (call_by c m).found ≡ (call_by c l).found
      call_found = left_found c m g ∙ ap (λ (b : Batch). b.found) (there_is ∙ is) ∙ sym (left_found c l f)

      pub call_apart : SameTo l.owner (read (call_by c l).pool) (force_after l.owner rs 0 l.requests (call_by c l).answers)
          (read (call_by c m).pool) (force_after m.owner us 0 m.requests (call_by c m).answers)
      call_apart =
          let after = batch_apart c lawful 0 l.requests (starting l) rs (start_fair c l f) (start_room l f) (read m.pool) us begin_same none_seven
          none_seven_there in
          let mine = start_owner l s.one_edition in
          let vs = force_after (starting l).owner us 0 l.requests batch_there.answers in
          let there : read (call_by c m).pool ≡ batch_there.pool =
          left_reads m vs (subst (λ (b : Batch). HoldsRecords b.pool vs) (sym there_is) after.other) g ∙ ap (λ (b : Batch). b.pool) there_is in
          let us-same : vs ≡ force_after m.owner us 0 m.requests (call_by c m).answers =
          ap (λ (w : Owner). force_after w us 0 l.requests batch_there.answers) (mine ∙ sym own)
          ∙ ap (λ (qs : List Request). force_after m.owner us 0 qs batch_there.answers) (sym same)
          ∙ ap (force_after m.owner us 0 m.requests) (sym (left_answers c m g ∙ ap (λ (b : Batch). b.answers) there_is)) in
          same_as mine (sym (left_reads l _ after.one f)) (force_left l rs f mine) (sym there) us-same after
