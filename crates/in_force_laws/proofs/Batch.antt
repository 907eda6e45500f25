-- The requests of a batch in turn: the pool holds the records in force after each, and each search is in the lists at the end as it was
-- answered, for later answers go to later places and later searches fill later ones.
use mathlib.Core.Path.{◌≡◌, refl, sym, subst, ap, ◌∙◌}
use mathlib.Core.Bool.{true}
use mathlib.Core.List.{List, [], ◌∷◌, ◌++◌}
use Rattle.std.specs.Prelude.{Option, None, Some}
use Prim.Native.Nat.{ℕ, suc, ◌+◌, ◌-◌, ◌≤◌, ◌<◌}
use native.Mathlib.Omega.{arith}
use lib.ListN.{length, get_or, set, take, drop, length-append, length-set}
use lib.Seq.{sets, length-sets, sets-eq, slice, slice_empty, take-set-le, drop-set-lt, take_at, drop_at, length-take-le, get_or-set_same, get_or-set_other}
use Rattle.rules.specs.declared.Rect.{Rect}
use Rattle.rules.specs.declared.Mode.{Mode}
use Rattle.rules.specs.declared.Owner.{Owner}
use Rattle.rules.specs.declared.Record.{Record}
use Rattle.rules.specs.declared.FoundRecord.{FoundRecord}
use Rattle.rules.specs.declared.Request.{Request}
use Rattle.rules.specs.declared.Asked.{Asked}
use Rattle.rules.specs.declared.Asked.TheVariants.{Search}
use Rattle.rules.specs.declared.Answer.{Answer}
use Rattle.rules.specs.Lists.{those}
use Rattle.rules.specs.Geometry.{valid}
use Rattle.rules.specs.Search.{reported}
use Rattle.rules.specs.Answers.{answer, answer_of}
use Rattle.rules.specs.Insert.{Choice}
use Rattle.rules.specs.Lawful.{Lawful}
use Rattle.rules.specs.Request.{asked, request}
use Rattle.rules.specs.Call.{Batch, after_turn, do_request, do_requests}
use Rattle.search_laws.specs.Window.{own_wanted}
use Rattle.in_force_laws.specs.Force.{in_force, force_by, force_after}
use Rattle.in_force_laws.specs.Shows.{EachShown, HoldsRecords, nodes_meeting, SearchShows}
use Rattle.in_force_laws.specs.Batch.{how_many_wanted, FairBatch, Told}
use Rattle.in_force_laws.proofs.Change.{listed_fits, request_force}
use Rattle.in_force_laws.proofs.Search.{listed_many, request_search}
use Rattle.in_force_laws.proofs.Asks.{asked_owner}
use Rattle.in_force_laws.proofs.Many.{step_edition}

-- ---- runs of stores

module _ {A : Type 0} where
  sets_take : (vs l : List A) (i n : ℕ) → n ≤ i → take n (sets l i vs) ≡ take n l
  sets_take [] l i n h = refl
  sets_take (a ∷ vs) l i n h = sets_take vs (set l i a) (suc i) n (omega arith) ∙ take-set-le n l i a h

  sets_drop : (vs l : List A) (i n : ℕ) → i + length vs ≤ n → drop n (sets l i vs) ≡ drop n l
  sets_drop [] l i n h = refl
  sets_drop (a ∷ vs) l i n h = sets_drop vs (set l i a) (suc i) n (omega arith) ∙ drop-set-lt n l i a (omega arith)

  -- what was stored stands there
  sets_slice : (vs l : List A) (i : ℕ) → length vs ≤ length l - i → slice i (i + length vs) (sets l i vs) ≡ vs
  sets_slice [] l i h = ap (λ (n : ℕ). slice i n l) none ∙ slice_empty i l
    where
      none : i + 0 ≡ i
      none = omega arith
  sets_slice (a ∷ vs) l i h =
      let room : i + length (a ∷ vs) ≤ length l = omega arith in
      let front : length (take i l) ≡ i = length-take-le i l (omega arith) in
      ap (slice i (i + length (a ∷ vs))) (sets-eq (a ∷ vs) l i room)
      ∙ ap (drop i) (take_at (take i l ++ (a ∷ vs)) (drop (i + length (a ∷ vs)) l) (i + length (a ∷ vs))
      (length-append (take i l) (a ∷ vs) ∙ ap (λ (n : ℕ). n + length (a ∷ vs)) front))
      ∙ drop_at (take i l) (a ∷ vs) i front

abbrev pub no_answer : Answer
no_answer = answer 0 0 0 0

module _ (c : Choice) where
  -- ---- one request: what it leaves of the lists

  step_kept : (i : ℕ) (b : Batch) (o : Option Asked) (j : ℕ) → j < i → get_or (do_request c i b o).answers j no_answer ≡ get_or b.answers j no_answer
  unfolding do_request after_turn
  step_kept i b None j h = refl
  step_kept i b (Some a) j h = get_or-set_other b.answers i j _ no_answer (λ e. omega (arith, h, e))

  pub step_long : (i : ℕ) (b : Batch) (o : Option Asked) → length (do_request c i b o).answers ≡ length b.answers
  unfolding do_request after_turn
  step_long i b None = refl
  step_long i b (Some a) = length-set b.answers i _

  step_places : (i : ℕ) (b : Batch) (o : Option Asked) → length (do_request c i b o).found ≡ length b.found
  unfolding do_request after_turn
  step_places i b None = refl
  step_places i b (Some a) = length-sets b.found b.filled (request c b.pool b.filled (length b.found - b.filled) a).listed

  step_filled : (i : ℕ) (b : Batch) (o : Option Asked) → b.filled ≤ (do_request c i b o).filled
  unfolding do_request after_turn
  step_filled i b None = omega arith
  step_filled i b (Some a) = omega arith

  step_take : (i : ℕ) (b : Batch) (o : Option Asked) (n : ℕ) → n ≤ b.filled → take n (do_request c i b o).found ≡ take n b.found
  unfolding do_request after_turn
  step_take i b None n h = refl
  step_take i b (Some a) n h = sets_take (request c b.pool b.filled (length b.found - b.filled) a).listed b.found b.filled n h

  step_drop : (i : ℕ) (b : Batch) (o : Option Asked) (n : ℕ) → (do_request c i b o).filled ≤ n → drop n (do_request c i b o).found ≡ drop n b.found
  unfolding do_request after_turn
  step_drop i b None n h = refl
  step_drop i b (Some a) n h = sets_drop (request c b.pool b.filled (length b.found - b.filled) a).listed b.found b.filled n h

  pub step_owner : (i : ℕ) (b : Batch) (o : Option Asked) → (do_request c i b o).owner ≡ b.owner
  unfolding do_request after_turn
  step_owner i b None = refl
  step_owner i b (Some a) = refl

  -- ---- .. and those from place i on

  pub batch_owner_lem : (i : ℕ) (qs : List Request) (b : Batch) → (do_requests c i qs b).owner ≡ b.owner
  unfolding do_requests
  batch_owner_lem i [] b = refl
  batch_owner_lem i (q ∷ qs) b = batch_owner_lem (suc i) qs (do_request c i b (asked b.owner q)) ∙ step_owner i b (asked b.owner q)

  pub answers_kept : (i : ℕ) (qs : List Request) (b : Batch) (j : ℕ) → j < i → get_or (do_requests c i qs b).answers j no_answer ≡ get_or b.answers j no_answer
  unfolding do_requests
  answers_kept i [] b j h = refl
  answers_kept i (q ∷ qs) b j h = answers_kept (suc i) qs (do_request c i b (asked b.owner q)) j (omega arith) ∙ step_kept i b (asked b.owner q) j h

  pub answers_as_many : (i : ℕ) (qs : List Request) (b : Batch) → length (do_requests c i qs b).answers ≡ length b.answers
  unfolding do_requests
  answers_as_many i [] b = refl
  answers_as_many i (q ∷ qs) b = answers_as_many (suc i) qs (do_request c i b (asked b.owner q)) ∙ step_long i b (asked b.owner q)

  pub places_as_many : (i : ℕ) (qs : List Request) (b : Batch) → length (do_requests c i qs b).found ≡ length b.found
  unfolding do_requests
  places_as_many i [] b = refl
  places_as_many i (q ∷ qs) b = places_as_many (suc i) qs (do_request c i b (asked b.owner q)) ∙ step_places i b (asked b.owner q)

  found_kept : (i : ℕ) (qs : List Request) (b : Batch) (n : ℕ) → n ≤ b.filled → take n (do_requests c i qs b).found ≡ take n b.found
  unfolding do_requests
  found_kept i [] b n h = refl
  found_kept i (q ∷ qs) b n h =
      found_kept (suc i) qs (do_request c i b (asked b.owner q)) n (omega (arith, h, step_filled i b (asked b.owner q))) ∙ step_take i b (asked b.owner q) n h

  filled_grows : (i : ℕ) (qs : List Request) (b : Batch) → b.filled ≤ (do_requests c i qs b).filled
  unfolding do_requests
  filled_grows i [] b = omega arith
  filled_grows i (q ∷ qs) b = omega (arith, step_filled i b (asked b.owner q), filled_grows (suc i) qs (do_request c i b (asked b.owner q)))

  -- "places beyond stay"
  pub found_beyond : (i : ℕ) (qs : List Request) (b : Batch) (n : ℕ) → (do_requests c i qs b).filled ≤ n
      → drop n (do_requests c i qs b).found ≡ drop n b.found
  unfolding do_requests
  found_beyond i [] b n h = refl
  found_beyond i (q ∷ qs) b n h =
      let b1 = do_request c i b (asked b.owner q) in
      found_beyond (suc i) qs b1 n h ∙ step_drop i b (asked b.owner q) n (omega (arith, h, filled_grows (suc i) qs b1))

  pub two_parts : (i : ℕ) (xs ys : List Request) (b : Batch) → do_requests c i (xs ++ ys) b ≡ do_requests c (i + length xs) ys (do_requests c i xs b)
  unfolding do_requests
  two_parts i [] ys b = ap (λ (n : ℕ). do_requests c n ys b) none
    where
      none : i ≡ i + 0
      none = omega arith
  two_parts i (x ∷ xs) ys b =
      two_parts (suc i) xs ys (do_request c i b (asked b.owner x))
      ∙ ap (λ (n : ℕ). do_requests c n ys (do_requests c (suc i) xs (do_request c i b (asked b.owner x)))) one
    where
      one : suc i + length xs ≡ i + suc (length xs)
      one = omega arith

  -- ---- the records in force

  force_same : (o : Owner) (rs : List Record) (i : ℕ) (qs : List Request) (x y : List Answer)
      → ((j : ℕ) → j < i + length qs → get_or x j no_answer ≡ get_or y j no_answer) → force_after o rs i qs x ≡ force_after o rs i qs y
  unfolding force_after
  force_same o rs i [] x y h = refl
  force_same o rs i (q ∷ qs) x y h =
      ap (λ (a : Answer). force_after o (force_by rs (asked o q) a) (suc i) qs x) (h i (omega arith))
      ∙ force_same o (force_by rs (asked o q) (get_or y i no_answer)) (suc i) qs x y (λ j l. h j (omega (arith, l)))

  pub step_fair : (i : ℕ) (b : Batch) (o : Option Asked) → FairBatch b → FairBatch (do_request c i b o)
  step_fair i b o s = rw (step_edition c i b o, step_owner i b o) s

  module _ (lawful : Lawful c) where
    pub step_force : (i : ℕ) (b : Batch) (rs : List Record) (q : Request) → HoldsRecords b.pool rs → FairBatch b → i < length b.answers
        → (x : Option Asked) → asked b.owner q ≡ x
        → HoldsRecords (do_request c i b x).pool (force_by rs x (get_or (do_request c i b x).answers i no_answer))
    unfolding do_request after_turn force_by
    step_force i b rs q k s h None e = k
    step_force i b rs q k s h (Some a) e =
        let t = request c b.pool b.filled (length b.found - b.filled) a in
        subst (λ (x : Answer). HoldsRecords t.pool (in_force rs a x)) (sym (get_or-set_same b.answers i (answer_of t.reply) no_answer h))
        (request_force c lawful b.pool rs k b.filled (length b.found - b.filled) a (rw (asked_owner b.owner q a e) s))

    -- a batch leaves a whole pool that holds the records in force by its requests and answers
    pub batch_force : (i : ℕ) (qs : List Request) (b : Batch) (rs : List Record) → HoldsRecords b.pool rs → FairBatch b
        → i + length qs ≤ length b.answers
        → HoldsRecords (do_requests c i qs b).pool (force_after b.owner rs i qs (do_requests c i qs b).answers)
    unfolding do_requests force_after
    batch_force i [] b rs k s h = k
    batch_force i (q ∷ qs) b rs k s h =
        let a = asked b.owner q in
        let b1 = do_request c i b a in
        let end = do_requests c (suc i) qs b1 in
        let now = force_by rs a (get_or b1.answers i no_answer) in
        subst (λ (x : Answer). HoldsRecords end.pool (force_after b.owner (force_by rs a x) (suc i) qs end.answers))
        (sym (answers_kept (suc i) qs b1 i (omega arith)))
        (subst (λ (o : Owner). HoldsRecords end.pool (force_after o now (suc i) qs end.answers)) (step_owner i b a)
        (batch_force (suc i) qs b1 now (step_force i b rs q k s (omega (arith, h)) a refl) (step_fair i b a s) (omega (arith, h, step_long i b a))))

    -- .. and after the requests before any place of it, by the answers that the whole batch leaves
    pub part_force : (i : ℕ) (xs ys : List Request) (b : Batch) (rs : List Record) → HoldsRecords b.pool rs → FairBatch b
        → i + length (xs ++ ys) ≤ length b.answers
        → HoldsRecords (do_requests c i xs b).pool (force_after b.owner rs i xs (do_requests c i (xs ++ ys) b).answers)
    part_force i xs ys b rs k s h =
        let now = do_requests c i xs b in
        let end = do_requests c i (xs ++ ys) b in
        subst (HoldsRecords now.pool) (force_same b.owner rs i xs now.answers end.answers (λ j l.
        sym (ap (λ (x : Batch). get_or x.answers j no_answer) (two_parts i xs ys b) ∙ answers_kept (i + length xs) ys now j l)))
        (batch_force i xs b rs k s (omega (arith, h, length-append xs ys)))

  -- ---- what a request lists stands in the found list at the end

  module _ (i : ℕ) (b : Batch) (a : Asked) where
    abbrev listed : List FoundRecord
    listed = (request c b.pool b.filled (length b.found - b.filled) a).listed

    listed_now : slice b.filled (b.filled + length listed) (do_request c i b (Some a)).found ≡ listed
    unfolding do_request after_turn
    listed_now = sets_slice listed b.found b.filled (listed_fits c b.pool b.filled (length b.found - b.filled) a)

    filled_now : (do_request c i b (Some a)).filled ≡ b.filled + length listed
    unfolding do_request after_turn
    filled_now = refl

    pub listed_end : (later : List Request)
        → slice b.filled (b.filled + length listed) (do_requests c (suc i) later (do_request c i b (Some a))).found ≡ listed
    listed_end later =
        ap (drop b.filled) (found_kept (suc i) later (do_request c i b (Some a)) (b.filled + length listed) (omega (arith, filled_now)))
        ∙ listed_now

  -- ---- a search

  module _ (i : ℕ) (b : Batch) (rs : List Record) (k : HoldsRecords b.pool rs) (h : i < length b.answers) (o : Owner) (mode : Mode) (window : Rect)
      (v : valid window ≡ true) (room : how_many_wanted o mode window rs ≤ length b.found - b.filled) where
    abbrev now : Batch
    now = do_request c i b (Some (Search o mode window))

    shows : SearchShows b.pool rs b.filled o mode window (request c b.pool b.filled (length b.found - b.filled) (Search o mode window))
    shows = request_search b.pool rs k o mode window (length b.found - b.filled) c b.filled v room

    many : length (request c b.pool b.filled (length b.found - b.filled) (Search o mode window)).listed ≡ how_many_wanted o mode window rs
    many = ap length shows.lists ∙ listed_many (those (own_wanted o mode window) rs)

    told_now : get_or now.answers i no_answer
        ≡ answer 0 (how_many_wanted o mode window rs) b.filled (reported b.pool.edition (suc (nodes_meeting b.pool window)))
    unfolding do_request after_turn answer_of
    told_now = get_or-set_same b.answers i _ no_answer h ∙ ap answer_of shows.reply

    -- .. and at the end of the batch
    told_end : (later : List Request)
        → Told b.pool rs b.filled o mode window i (do_requests c (suc i) later now).answers (do_requests c (suc i) later now).found
    told_end later =
        let end = do_requests c (suc i) later now in
        let there : slice b.filled (b.filled + how_many_wanted o mode window rs) end.found
        ≡ (request c b.pool b.filled (length b.found - b.filled) (Search o mode window)).listed =
        ap (λ (n : ℕ). slice b.filled (b.filled + n) end.found) (sym many) ∙ listed_end i b (Search o mode window) later in
        record {
          told = answers_kept (suc i) later now i (omega arith) ∙ told_now;
          shown = there ∙ shows.lists;
          once = subst EachShown (sym there) shows.once;
          high = shows.high;
        }

  -- a search anywhere in a batch: by what the batch leaves in the lists, and the records in force by the requests before it and their answers
  module _ (lawful : Lawful c) (i : ℕ) (earlier : List Request) (q : Request) (later : List Request) (b : Batch) (rs : List Record)
      (k : HoldsRecords b.pool rs) (s : FairBatch b) (h : i + length (earlier ++ q ∷ later) ≤ length b.answers) where
    abbrev before : Batch
    before = do_requests c i earlier b

    abbrev end : Batch
    end = do_requests c i (earlier ++ q ∷ later) b

    end_is : (x : Option Asked) → asked b.owner q ≡ x → end ≡ do_requests c (suc (i + length earlier)) later (do_request c (i + length earlier) before x)
    unfolding do_requests
    end_is x e =
        two_parts i earlier (q ∷ later) b
        ∙ ap (λ (y : Option Asked). do_requests c (suc (i + length earlier)) later (do_request c (i + length earlier) before y))
        (ap (λ (o : Owner). asked o q) (batch_owner_lem i earlier b) ∙ e)

    inside : i + length earlier < length b.answers
    inside = omega (arith, h, length-append earlier (q ∷ later))

    pub batch_search : (mode : Mode) (window : Rect) → asked b.owner q ≡ Some (Search b.owner mode window) → valid window ≡ true
        → how_many_wanted b.owner mode window (force_after b.owner rs i earlier end.answers) ≤ length b.found - before.filled
        → Told before.pool (force_after b.owner rs i earlier end.answers) before.filled b.owner mode window (i + length earlier)
        end.answers end.found
    batch_search mode window a v room =
        let rs1 = force_after b.owner rs i earlier end.answers in
        subst (λ (x : Batch). Told before.pool rs1 before.filled b.owner mode window (i + length earlier) x.answers x.found)
        (sym (end_is (Some (Search b.owner mode window)) a))
        (told_end (i + length earlier) before rs1 (part_force lawful i earlier (q ∷ later) b rs k s h)
        (omega (arith, inside, answers_as_many i earlier b)) b.owner mode window v
        (omega (arith, room, places_as_many i earlier b)) later)
