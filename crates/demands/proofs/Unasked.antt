-- A request that is refused might as well not have been asked. What a request does depends on the pool, the found list and the places filled, and
-- neither on the answer list nor on its own place; a refused one leaves these three; and every place of the answer list is written once.
use mathlib.Core.Path.{◌≡◌, refl, sym, ap, ap₂, subst, ◌∙◌}
use mathlib.Core.Bool.{true, false, not, ◌||◌}
use mathlib.Core.List.{List, [], ◌∷◌, ◌++◌}
use Rattle.std.specs.Prelude.{Option, None, Some}
use Prim.Native.Nat.{ℕ, suc, ◌+◌, ◌-◌, ◌≤◌}
use native.Mathlib.Omega.{arith}
use lib.ListN.{length, set, take, drop, length-append}
use lib.Seq.{sets, take_at}
use lib.Dec.{ltb, eqb}
use borrow.Author.Tests.{ltb-false, le-ltb, eq-eqb}
use Rattle.rules.specs.declared.Owner.{Owner}
use Rattle.rules.specs.declared.Request.{Request}
use Rattle.rules.specs.declared.Asked.{Asked}
use Rattle.rules.specs.declared.Answer.{Answer}
use Rattle.rules.specs.declared.CallFault.TheVariants.{BadLists, BadOwner, BadLength, NotSound, NoRequest}
use Rattle.rules.specs.Lists.{every}
use Rattle.rules.specs.Numbers.{most_requests, good_owner}
use Rattle.rules.specs.Layout.{valid_length}
use Rattle.rules.specs.Sound.{sound}
use Rattle.rules.specs.Insert.{ours}
use Rattle.rules.specs.Answers.{answer_of}
use Rattle.rules.specs.Request.{asked, request}
use Rattle.rules.specs.Call.{Lent, Batch, is_request, call_fault, call, after_turn, do_request, do_requests, batch_owner, starting}
use Rattle.rules_laws.proofs.Everies.{every_less, every_first}
use Rattle.rules_laws.proofs.Bools.{and_both, not_false, or_neither}
use Rattle.layout_laws.proofs.Runs.{sets_all}
use Rattle.in_force_laws.proofs.Faults.{no_row, no_rows, row_passed}
use Rattle.in_force_laws.proofs.Batch.{no_answer, batch_owner_lem, two_parts}
use Rattle.in_force_laws.proofs.Call.{left_answers, answers_long}
use Rattle.in_force_laws.proofs.Asks.{asks_something}
use Rattle.demands.specs.Demands.{after, with_requests}

-- ---- in two parts

pub two_after : (l : Lent) (done rest : List Request) → after l (done ++ rest) ≡ do_requests ours (length done) rest (after l done)
two_after l done rest = two_parts ours 0 done rest (starting l) ∙ ap (λ (n : ℕ). do_requests ours n rest (after l done)) none_before
  where
    none_before : 0 + length done ≡ length done
    none_before = omega arith

-- whose batch it is, as far as it has come
pub after_owner : (l : Lent) (done : List Request) → (after l done).owner ≡ batch_owner l
unfolding starting
after_owner l done = batch_owner_lem ours 0 done (starting l)

-- .. and the next of its requests
pub next_after : (l : Lent) (done : List Request) (q : Request) (rest : List Request)
    → after l (done ++ q ∷ rest) ≡ do_requests ours (suc (length done)) rest (do_request ours (length done) (after l done) (asked (batch_owner l) q))
unfolding do_requests
next_after l done q rest =
    two_after l done (q ∷ rest)
    ∙ ap (λ (w : Owner). do_requests ours (suc (length done)) rest (do_request ours (length done) (after l done) (asked w q))) (after_owner l done)

-- ---- what a request depends on

-- a batch without its answer list
abbrev pub bare : Batch → Batch
bare b = record { owner = b.owner; pool = b.pool; answers = []; found = b.found; filled = b.filled }

step_bare : (i j : ℕ) (b : Batch) (o : Option Asked) → bare (do_request ours i b o) ≡ do_request ours j (bare b) o
unfolding do_request after_turn
step_bare i j b None = refl
step_bare i j b (Some a) = refl

all_bare : (i j : ℕ) (qs : List Request) (b : Batch) → bare (do_requests ours i qs b) ≡ do_requests ours j qs (bare b)
unfolding do_requests
all_bare i j [] b = refl
all_bare i j (q ∷ qs) b =
    all_bare (suc i) (suc j) qs (do_request ours i b (asked b.owner q)) ∙ ap (do_requests ours (suc j) qs) (step_bare i j b (asked b.owner q))

-- the same requests at other places, with another answer list
pub same_bare : (i j : ℕ) (qs : List Request) (b d : Batch) → bare b ≡ bare d → bare (do_requests ours i qs b) ≡ bare (do_requests ours j qs d)
same_bare i j qs b d e = all_bare i 0 qs b ∙ ap (do_requests ours 0 qs) e ∙ sym (all_bare j 0 qs d)

-- ---- the answers, one after another

pub answer_by : Batch → Option Asked → Answer
answer_by b None = no_answer
answer_by b (Some a) = answer_of (request ours b.pool b.filled (length b.found - b.filled) a).reply

pub all_answers : List Request → Batch → List Answer
all_answers [] b = []
all_answers (q ∷ qs) b = answer_by b (asked b.owner q) ∷ all_answers qs (do_request ours 0 b (asked b.owner q))

pub answers_many : (qs : List Request) (b : Batch) → length (all_answers qs b) ≡ length qs
unfolding all_answers
answers_many [] b = refl
answers_many (q ∷ qs) b = ap suc (answers_many qs (do_request ours 0 b (asked b.owner q)))

one_same : (b : Batch) (o : Option Asked) → answer_by b o ≡ answer_by (bare b) o
unfolding answer_by
one_same b None = refl
one_same b (Some a) = refl

answers_bare : (qs : List Request) (b : Batch) → all_answers qs b ≡ all_answers qs (bare b)
unfolding all_answers
answers_bare [] b = refl
answers_bare (q ∷ qs) b =
    ap₂ (λ (x : Answer) (xs : List Answer). x ∷ xs) (one_same b (asked b.owner q))
    (answers_bare qs (do_request ours 0 b (asked b.owner q)) ∙ ap (all_answers qs) (step_bare 0 0 b (asked b.owner q)))

pub answers_same : (qs : List Request) (b d : Batch) → bare b ≡ bare d → all_answers qs b ≡ all_answers qs d
answers_same qs b d e = answers_bare qs b ∙ ap (all_answers qs) e ∙ sym (answers_bare qs d)

place_free : (i j : ℕ) (qs : List Request) (b : Batch) (o : Option Asked) → all_answers qs (do_request ours i b o) ≡ all_answers qs (do_request ours j b o)
place_free i j qs b o = answers_same qs (do_request ours i b o) (do_request ours j b o) (step_bare i 0 b o ∙ sym (step_bare j 0 b o))

-- those of two parts
pub answers_parts : (i : ℕ) (xs ys : List Request) (b : Batch) → all_answers (xs ++ ys) b ≡ all_answers xs b ++ all_answers ys (do_requests ours i xs b)
unfolding all_answers do_requests
answers_parts i [] ys b = refl
answers_parts i (x ∷ xs) ys b =
    let b0 = do_request ours 0 b (asked b.owner x) in
    let bi = do_request ours i b (asked b.owner x) in
    ap (λ (xs : List Answer). answer_by b (asked b.owner x) ∷ xs) (answers_parts (suc i) xs ys b0
    ∙ ap (λ (r : List Answer). all_answers xs b0 ++ r) (answers_same ys (do_requests ours (suc i) xs b0) (do_requests ours (suc i) xs bi)
    (same_bare (suc i) (suc i) xs b0 bi (step_bare 0 0 b (asked b.owner x) ∙ sym (step_bare i 0 b (asked b.owner x))))))

-- ---- they are what the batch leaves

some_written : (i : ℕ) (b : Batch) (a : Asked) → (do_request ours i b (Some a)).answers ≡ set b.answers i (answer_by b (Some a))
unfolding do_request after_turn answer_by
some_written i b a = refl

one_written : (i : ℕ) (b : Batch) (q : Request) → is_request q ≡ true → (do_request ours i b (asked b.owner q)).answers ≡ set b.answers i (answer_by b (asked b.owner q))
one_written i b q h =
    let g = asks_something b.owner q h in
    subst (λ (o : Option Asked). (do_request ours i b o).answers ≡ set b.answers i (answer_by b o)) (sym g.1) (some_written i b g.0)

all_written : (i : ℕ) (qs : List Request) (b : Batch) → every is_request qs ≡ true → (do_requests ours i qs b).answers ≡ sets b.answers i (all_answers qs b)
unfolding do_requests all_answers every
all_written i [] b h = refl
all_written i (q ∷ qs) b h =
    let g = and_both (is_request q) (every is_request qs) h in
    let b1 = do_request ours i b (asked b.owner q) in
    all_written (suc i) qs b1 g.1
    ∙ ap₂ (λ (l : List Answer) (xs : List Answer). sets l (suc i) xs) (one_written i b q g.0) (place_free i 0 qs b (asked b.owner q))

module _ {A : Type 0} where
  drop_past : (xs : List A) (y : A) (ys : List A) → drop (suc (length xs)) (xs ++ y ∷ ys) ≡ ys
  drop_past [] y ys = refl
  drop_past (x ∷ xs) y ys = drop_past xs y ys

-- ---- a call that is not refused

module _ (l : Lent) (fine : call_fault l ≡ None) where
  abbrev rows : Type 0
  rows = (ltb most_requests (length l.requests) ≡ false) × (good_owner l.owner ≡ true)
      × ((not (valid_length l.pool) || not (eqb (length l.workspace) (length l.pool))) ≡ false) × (not (sound l.pool) ≡ false) × (every is_request l.requests ≡ true)

  -- what a call that is not refused has passed
  pub passed : rows
  unfolding call_fault
  passed =
      let a = no_row (ltb most_requests (length l.requests) || not (eqb (length l.answers) (length l.requests))) BadLists _ fine in
      let w = no_row (not (good_owner l.owner)) BadOwner _ a.1 in
      let b = no_row (not (valid_length l.pool) || not (eqb (length l.workspace) (length l.pool))) BadLength _ w.1 in
      let d = no_row (not (sound l.pool)) NotSound _ b.1 in
      let e = no_row (not (every is_request l.requests)) NoRequest _ d.1 in
      ((or_neither (ltb most_requests (length l.requests)) _ a.0).0, not_false _ w.0, b.0, d.0, not_false _ e.0)

  call_answers : (call l).answers ≡ all_answers l.requests (starting l)
  unfolding call starting
  call_answers =
      left_answers ours l fine ∙ all_written 0 l.requests (starting l) passed.4
      ∙ sets_all l.answers (all_answers l.requests (starting l)) (answers_many l.requests (starting l) ∙ sym (answers_long ours l fine))

-- .. and so does one with fewer requests
module _ (l : Lent) (fine : call_fault l ≡ None) where
  fewer_fine : (qs : List Request) (answers : List Answer) → length qs ≤ length l.requests → every is_request qs ≡ true
      → length answers ≡ length qs → call_fault (with_requests l qs answers) ≡ None
  unfolding call_fault
  fewer_fine qs answers few are long =
      let lists : (ltb most_requests (length qs) || not (eqb (length answers) (length qs))) ≡ false =
      rw (le-ltb most_requests (length qs) (omega (arith, ltb-false most_requests (length l.requests) (passed l fine).0)), eq-eqb (length answers) (length qs) long) in
      let asked : not (every is_request qs) ≡ false = rw are in
      let good : not (good_owner l.owner) ≡ false = rw (passed l fine).1 in
      row_passed _ BadLists _ lists (row_passed _ BadOwner _ good (row_passed _ BadLength _ (passed l fine).2
      (row_passed _ NotSound _ (passed l fine).3 (row_passed _ NoRequest [] asked no_rows))))

  -- ---- .. the call with the first of its requests

  module _ (done rest : List Request) (all : l.requests ≡ done ++ rest) (answers : List Answer) (long : length answers ≡ length done) where
    pub first_fine : call_fault (with_requests l done answers) ≡ None
    first_fine =
        fewer_fine done answers (omega (arith, ap length all, length-append done rest))
        (every_first is_request done rest (rw all at (passed l fine).4)) long

    pub first_pool : (after (with_requests l done answers) done).pool ≡ (after l done).pool
    unfolding starting batch_owner
    first_pool = ap (λ (b : Batch). b.pool) (same_bare 0 0 done (starting (with_requests l done answers)) (starting l) refl)

  -- ---- .. and without one that changes nothing

  module _ (done : List Request) (q : Request) (rest : List Request) (all : l.requests ≡ done ++ q ∷ rest) (answers : List Answer)
      (long : length answers ≡ length (done ++ rest)) where
    abbrev less : Lent
    less = with_requests l (done ++ rest) answers

    pub less_fine : call_fault less ≡ None
    less_fine =
        fewer_fine (done ++ rest) answers (omega (arith, ap length all, length-append done (q ∷ rest), length-append done rest))
        (every_less is_request done q rest (rw all at (passed l fine).4)).1 long

    pub less_asked : (a : Asked) × (asked (batch_owner l) q ≡ Some a)
    less_asked = asks_something (batch_owner l) q (every_less is_request done q rest (rw all at (passed l fine).4)).0

    less_start : bare (starting l) ≡ bare (starting less)
    unfolding starting batch_owner
    less_start = refl

    module _ (none_done : bare (do_request ours (length done) (after l done) (asked (after l done).owner q)) ≡ bare (after l done)) where
      pub less_end : bare (after less (done ++ rest)) ≡ bare (after l l.requests)
      unfolding do_requests
      less_end =
          same_bare 0 0 (done ++ rest) (starting less) (starting l) (sym less_start)
          ∙ ap bare (two_parts ours 0 done rest (starting l))
          ∙ same_bare (0 + length done) (suc (length done)) rest (after l done) (do_request ours (length done) (after l done) (asked (after l done).owner q)) (sym none_done)
          ∙ ap bare (sym (two_after l done (q ∷ rest)) ∙ ap (after l) (sym all))

      pub less_answers : (call less).answers ≡ take (length done) (call l).answers ++ drop (suc (length done)) (call l).answers
      unfolding all_answers
      less_answers =
          let first = all_answers done (starting l) in
          let one = answer_by (after l done) (asked (after l done).owner q) in
          let last = all_answers rest (after l done) in
          let mine : (call l).answers ≡ first ++ one ∷ last =
          call_answers l fine ∙ ap (λ (qs : List Request). all_answers qs (starting l)) all ∙ answers_parts 0 done (q ∷ rest) (starting l)
          ∙ ap (λ (xs : List Answer). first ++ one ∷ xs) (place_free 0 (length done) rest (after l done) (asked (after l done).owner q)
          ∙ answers_same rest (do_request ours (length done) (after l done) (asked (after l done).owner q)) (after l done) none_done) in
          let other : (call less).answers ≡ first ++ last =
          call_answers less less_fine ∙ answers_same (done ++ rest) (starting less) (starting l) (sym less_start)
          ∙ answers_parts 0 done rest (starting l) in
          other ∙ ap₂ (λ (xs ys : List Answer). xs ++ ys)
          (sym (ap (take (length done)) mine ∙ take_at first (one ∷ last) (length done) (answers_many done (starting l))))
          (sym (ap (drop (suc (length done))) mine ∙ ap (λ (n : ℕ). drop (suc n) (first ++ one ∷ last)) (sym (answers_many done (starting l)))
          ∙ drop_past first one last))
