-- A call that returns 0, and the calls of a history. No row refused such a call, so it did its batch; and what one call leaves is what the next
-- begins with.
use mathlib.Core.Path.{◌≡◌, refl, sym, subst, ap, ◌∙◌}
use mathlib.Core.Bool.{true, not, ◌||◌}
use mathlib.Core.List.Memᴰ
use mathlib.Core.List.{List, [], ◌∷◌, ◌++◌}
use Rattle.std.specs.Prelude.{Option, None, Some}
use Prim.Native.Nat.{ℕ, ◌+◌, ◌-◌, ◌≤◌}
use native.Mathlib.Omega.{arith}
use lib.ListN.{length, drop, length-append}
use lib.Dec.{ltb, eqb}
use lib.IntN.{ℤ, pos, negsuc}
use borrow.Author.Tests.{eqb-true}
use Rattle.rules.specs.declared.Edition.{Edition}
use Rattle.rules.specs.declared.Rect.{Rect}
use Rattle.rules.specs.declared.Mode.{Mode}
use Rattle.rules.specs.declared.Record.{Record}
use Rattle.rules.specs.declared.Request.{Request}
use Rattle.rules.specs.declared.Asked.TheVariants.{Search}
use Rattle.rules.specs.declared.CallFault.{CallFault}
use Rattle.rules.specs.declared.CallFault.TheVariants.{BadLists, BadOwner, BadLength, NotSound, NoRequest}
use Rattle.rules.specs.Numbers.{most_requests, good_owner}
use Rattle.rules.specs.Geometry.{valid, same_pair}
use Rattle.rules.specs.Pool.{Pool, blank_pool, stored}
use Rattle.rules.specs.Layout.{words, read}
use Rattle.rules.specs.Answers.{call_fault_number}
use Rattle.rules.specs.Insert.{Choice, ours}
use Rattle.rules.specs.Lawful.{Lawful}
use Rattle.rules.specs.Request.{asked}
use Rattle.rules.specs.Call.{Lent, Left, Batch, do_requests, call_fault, refused, served, batch_owner, starting, call_by, call}
use Rattle.rules_laws.proofs.Bools.{not_false, or_neither}
use Rattle.rules_laws.proofs.Places.{nothing}
use Rattle.rules_laws.proofs.Parts.{those_none}
use Rattle.rules_laws.proofs.Splits.{ours_lawful}
use Rattle.sound_laws.proofs.Blank.{blank_whole}
use Rattle.in_force_laws.specs.Force.{force_after, filled_after}
use Rattle.in_force_laws.specs.Shows.{HoldsRecords}
use Rattle.in_force_laws.specs.Batch.{how_many_wanted, FairBatch, Told}
use Rattle.in_force_laws.specs.History.{pool_served, force_of, CallsServed}
use Rattle.in_force_laws.proofs.Written.{holds_reads}
use Rattle.in_force_laws.proofs.Owned.{owner_in_sound}
use Rattle.in_force_laws.proofs.Faults.{EachGiven, given_none, given_row, no_row}
use Rattle.in_force_laws.proofs.Batch.{found_beyond, batch_force, part_force, batch_search}
use Rattle.in_force_laws.proofs.Filled.{batch_filled, part_filled}

-- ---- a call that returns 0 is not refused

nat_of : ℤ → ℕ
nat_of (pos n) = n
nat_of (negsuc n) = 1

abbrev ToldOff : CallFault → Type 0
ToldOff v = call_fault_number v ≡ pos 0 → ⊥

all_off : (l : Lent) → EachGiven ToldOff (call_fault l)
unfolding call_fault call_fault_number nat_of
all_off l =
    given_row ToldOff _ BadLists _ (λ h. omega (arith, ap nat_of h))
    (given_row ToldOff _ BadOwner _ (λ h. omega (arith, ap nat_of h))
    (given_row ToldOff _ BadLength _ (λ h. omega (arith, ap nat_of h))
    (given_row ToldOff _ NotSound _ (λ h. omega (arith, ap nat_of h))
    (given_row ToldOff _ NoRequest _ (λ h. omega (arith, ap nat_of h)) (given_none ToldOff)))))

module _ (c : Choice) (l : Lent) where
  abbrev whole_batch : Batch
  whole_batch = do_requests c 0 l.requests (starting l)

  pub call_by_refused : (v : CallFault) → call_fault l ≡ Some v → call_by c l ≡ refused l v
  unfolding call_by
  call_by_refused v h = rw (h, call_by)

  pub call_by_served : call_fault l ≡ None → call_by c l ≡ served whole_batch
  unfolding call_by
  call_by_served h = rw (h, call_by)

  pub refused_number : (v : CallFault) → (refused l v).number ≡ call_fault_number v
  unfolding refused
  refused_number v = refl

  pub no_fault : (call_by c l).number ≡ pos 0 → call_fault l ≡ None
  no_fault z = go (call_fault l) refl (all_off l)
    where
      go : (o : Option CallFault) → call_fault l ≡ o → EachGiven ToldOff o → call_fault l ≡ None
      go None h g = h
      go (Some v) h g = absurd (g (sym (refused_number v) ∙ ap (λ (x : Left). x.number) (sym (call_by_refused v h)) ∙ z))

  pub answers_long : call_fault l ≡ None → length l.answers ≡ length l.requests
  unfolding call_fault
  answers_long h =
      let a = no_row (ltb most_requests (length l.requests) || not (eqb (length l.answers) (length l.requests))) BadLists _ h in
      eqb-true _ _ (not_false _ (or_neither (ltb most_requests (length l.requests)) _ a.0).1)

  pub owner_good : call_fault l ≡ None → good_owner l.owner ≡ true
  unfolding call_fault
  owner_good h =
      let a = no_row (ltb most_requests (length l.requests) || not (eqb (length l.answers) (length l.requests))) BadLists _ h in
      let b = no_row (not (good_owner l.owner)) BadOwner _ a.1 in
      not_false _ b.0

  -- a batch that is begun is of an owner that its pool can have
  pub start_fair : call_fault l ≡ None → FairBatch (starting l)
  unfolding starting batch_owner
  start_fair h = owner_in_sound (read l.pool).edition l.owner (owner_good h)

  pub left_pool : call_fault l ≡ None → (call_by c l).pool ≡ words whole_batch.pool
  unfolding served
  left_pool h = ap (λ (x : Left). x.pool) (call_by_served h)

  pub left_answers : call_fault l ≡ None → (call_by c l).answers ≡ whole_batch.answers
  unfolding served
  left_answers h = ap (λ (x : Left). x.answers) (call_by_served h)

  pub left_found : call_fault l ≡ None → (call_by c l).found ≡ whole_batch.found
  unfolding served
  left_found h = ap (λ (x : Left). x.found) (call_by_served h)

  -- the places filled when all is done, by the answers
  all_filled : call_fault l ≡ None → whole_batch.filled ≡ filled_after (batch_owner l) 0 0 l.requests (call_by c l).answers
  unfolding starting
  all_filled h = rw (left_answers h) (batch_filled c 0 l.requests (starting l) (omega (arith, answers_long h)))

  -- "places beyond stay"
  pub left_beyond : call_fault l ≡ None
      → drop (filled_after (batch_owner l) 0 0 l.requests (call_by c l).answers) (call_by c l).found
      ≡ drop (filled_after (batch_owner l) 0 0 l.requests (call_by c l).answers) l.found
  unfolding starting
  left_beyond h =
      let n = filled_after (batch_owner l) 0 0 l.requests (call_by c l).answers in
      ap (drop n) (left_found h) ∙ found_beyond c 0 l.requests (starting l) n (omega (arith, all_filled h))

  module _ (lawful : Lawful c) (rs : List Record) (k : HoldsRecords (read l.pool) rs) (z : (call_by c l).number ≡ pos 0) where
    start_holds : HoldsRecords (starting l).pool rs
    unfolding starting
    start_holds = k

    start_long : 0 + length l.requests ≤ length (starting l).answers
    unfolding starting
    start_long = omega (arith, answers_long (no_fault z))

    start_owner : (starting l).owner ≡ batch_owner l
    unfolding starting
    start_owner = refl

    -- the pool that a call leaves holds the records in force by its requests and answers
    pub call_force : HoldsRecords whole_batch.pool (force_after (batch_owner l) rs 0 l.requests (call_by c l).answers)
    call_force =
        rw (left_answers (no_fault z), ← start_owner)
        (batch_force c lawful 0 l.requests (starting l) rs start_holds (start_fair (no_fault z)) start_long)

    pub call_pool : (call_by c l).pool ≡ words whole_batch.pool
    call_pool = left_pool (no_fault z)

    -- .. and so does the pool after the requests before any place of its request list
    pub call_part : (earlier later : List Request) → l.requests ≡ earlier ++ later
        → HoldsRecords (do_requests c 0 earlier (starting l)).pool (force_after (batch_owner l) rs 0 earlier (call_by c l).answers)
    unfolding starting batch_owner
    call_part earlier later is =
        rw (left_answers (no_fault z), is)
        (part_force c lawful 0 earlier later (starting l) rs start_holds (start_fair (no_fault z))
        (subst (λ (qs : List Request). 0 + length qs ≤ length (starting l).answers) is start_long))

    -- a search at any place of its request list
    module _ (earlier : List Request) (q : Request) (later : List Request) (is : l.requests ≡ earlier ++ q ∷ later) (mode : Mode) (window : Rect)
        (s : asked (batch_owner l) q ≡ Some (Search (batch_owner l) mode window)) (v : valid window ≡ true) where
      -- how far the batch had come
      abbrev pub so_far : Batch
      so_far = do_requests c 0 earlier (starting l)

      -- the records in force then
      abbrev pub then_force : List Record
      then_force = force_after (batch_owner l) rs 0 earlier (call_by c l).answers

      parts : (call_by c l).answers ≡ (do_requests c 0 (earlier ++ q ∷ later) (starting l)).answers
      parts = left_answers (no_fault z) ∙ ap (λ (qs : List Request). (do_requests c 0 qs (starting l)).answers) is

      found_parts : (call_by c l).found ≡ (do_requests c 0 (earlier ++ q ∷ later) (starting l)).found
      found_parts = left_found (no_fault z) ∙ ap (λ (qs : List Request). (do_requests c 0 qs (starting l)).found) is

      start_places : length (starting l).found ≡ length l.found
      unfolding starting
      start_places = refl

      pub call_search : how_many_wanted (batch_owner l) mode window then_force ≤ length l.found - so_far.filled
          → Told so_far.pool then_force so_far.filled (batch_owner l) mode window (0 + length earlier) (call_by c l).answers (call_by c l).found
      call_search =
          rw (parts, found_parts, ← start_places, ← start_owner)
          (batch_search c lawful 0 earlier q later (starting l) rs start_holds (start_fair (no_fault z))
          (subst (λ (qs : List Request). 0 + length qs ≤ length (starting l).answers) is start_long) mode window (rw start_owner s) v)

      inside : 0 + length earlier ≤ length (starting l).answers
      inside = omega (arith, start_long, ap length is, length-append earlier (q ∷ later))

      -- the places filled then, by the answers
      filled_then_lem : so_far.filled ≡ filled_after (batch_owner l) 0 0 earlier (call_by c l).answers
      unfolding starting
      filled_then_lem = rw parts (part_filled c 0 earlier (q ∷ later) (starting l) inside)

      pub call_shows : how_many_wanted (batch_owner l) mode window then_force ≤ length l.found - filled_after (batch_owner l) 0 0 earlier (call_by c l).answers
          → Told so_far.pool then_force (filled_after (batch_owner l) 0 0 earlier (call_by c l).answers) (batch_owner l) mode window (length earlier)
          (call_by c l).answers (call_by c l).found
      call_shows =
          subst (λ (n : ℕ). how_many_wanted (batch_owner l) mode window then_force ≤ length l.found - n
          → Told so_far.pool then_force n (batch_owner l) mode window (length earlier) (call_by c l).answers (call_by c l).found) filled_then_lem
          (subst (λ (i : ℕ). how_many_wanted (batch_owner l) mode window then_force ≤ length l.found - so_far.filled
          → Told so_far.pool then_force so_far.filled (batch_owner l) mode window i (call_by c l).answers (call_by c l).found) none_before call_search)
        where
          none_before : 0 + length earlier ≡ length earlier
          none_before = omega arith

-- ---- a history

pub blank_holds : (e : Edition) (n : ℕ) → HoldsRecords (blank_pool e n) []
blank_holds e n = record {
  whole = blank_whole e n;
  alike = record { each = λ f. rw (nothing (stored (blank_pool e n)) (sym (blank_whole e n).counted ∙ none_yet)) };
  once = λ x. omega (arith, ap length (those_none (same_pair x)));
  owners = λ r m. absurd (Memᴰ.not-nil m);
}
  where
    none_yet : (blank_pool e n).records ≡ 0
    none_yet = unfold blank_pool in refl

module _ (c : Choice) (lawful : Lawful c) where
  -- the pool that a history leaves holds the records in force
  pub calls_hold : (e : Edition) (n : ℕ) (ls : List Lent) → CallsServed c e n ls → HoldsRecords (read (pool_served c e n ls)) (force_of c ls)
  unfolding pool_served force_of
  calls_hold e n [] h = subst (λ (p : Pool). HoldsRecords p []) (sym (holds_reads (blank_pool e n) [] (blank_holds e n))) (blank_holds e n)
  calls_hold e n (l ∷ ls) h =
      let k : HoldsRecords (read l.pool) (force_of c ls) =
      subst (λ (w : List ℤ). HoldsRecords (read w) (force_of c ls)) (sym h.0) (calls_hold e n ls h.2) in
      let now = call_force c l lawful (force_of c ls) k h.1 in
      let rs = force_after (batch_owner l) (force_of c ls) 0 l.requests (call_by c l).answers in
      subst (λ (p : Pool). HoldsRecords p rs)
      (sym (ap read (call_pool c l lawful (force_of c ls) k h.1) ∙ holds_reads (whole_batch c l).pool rs now)) now

  -- "From a blank pool changed only by these requests, every search in a call that returns 0 (valid window, room in its list) shows the
  -- records in force that meet the window, each once, in record order; the nodes opened are one for the root and one for each other node
  -- whose cover meets the window; with n records and height h, h is 1 or 2·3^(h-1) ≤ n."
  pub in_force_lem : (e : Edition) (n : ℕ) (ls : List Lent) (l : Lent) → CallsServed c e n (l ∷ ls)
      → (earlier : List Request) (q : Request) (later : List Request) → l.requests ≡ earlier ++ q ∷ later
      → (mode : Mode) (window : Rect) → asked (batch_owner l) q ≡ Some (Search (batch_owner l) mode window) → valid window ≡ true
      → how_many_wanted (batch_owner l) mode window (force_after (batch_owner l) (force_of c ls) 0 earlier (call_by c l).answers)
      ≤ length l.found - filled_after (batch_owner l) 0 0 earlier (call_by c l).answers
      → Told (do_requests c 0 earlier (starting l)).pool (force_after (batch_owner l) (force_of c ls) 0 earlier (call_by c l).answers)
      (filled_after (batch_owner l) 0 0 earlier (call_by c l).answers) (batch_owner l) mode window (length earlier) (call_by c l).answers (call_by c l).found
  in_force_lem e n ls l h earlier q later is mode window s v room =
      let k : HoldsRecords (read l.pool) (force_of c ls) =
      subst (λ (w : List ℤ). HoldsRecords (read w) (force_of c ls)) (sym h.0) (calls_hold e n ls h.2) in
      call_shows c l lawful (force_of c ls) k h.1 earlier q later is mode window s v room

-- .. by document 01's choices
pub ours_in_force : (e : Edition) (n : ℕ) (ls : List Lent) (l : Lent) → CallsServed ours e n (l ∷ ls)
    → (earlier : List Request) (q : Request) (later : List Request) → l.requests ≡ earlier ++ q ∷ later
    → (mode : Mode) (window : Rect) → asked (batch_owner l) q ≡ Some (Search (batch_owner l) mode window) → valid window ≡ true
    → how_many_wanted (batch_owner l) mode window (force_after (batch_owner l) (force_of ours ls) 0 earlier (call l).answers)
    ≤ length l.found - filled_after (batch_owner l) 0 0 earlier (call l).answers
    → Told (do_requests ours 0 earlier (starting l)).pool (force_after (batch_owner l) (force_of ours ls) 0 earlier (call l).answers)
    (filled_after (batch_owner l) 0 0 earlier (call l).answers) (batch_owner l) mode window (length earlier) (call l).answers (call l).found
unfolding call
ours_in_force = in_force_lem ours ours_lawful
