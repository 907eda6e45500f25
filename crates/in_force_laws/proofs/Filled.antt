-- The places of the found list that a batch has filled, by its answers: a search that lists fills as many as it found, and nothing else
-- fills one.
use mathlib.Core.Path.{◌≡◌, refl, sym, ap, ◌∙◌}
use mathlib.Core.List.{List, [], ◌∷◌, ◌++◌}
use Rattle.std.specs.Prelude.{Option, None, Some, Ok, Err}
use Prim.Native.Nat.{ℕ, suc, ◌+◌, ◌-◌, ◌≤◌, ◌<◌}
use native.Mathlib.Omega.{arith}
use lib.ListN.{length, get_or}
use lib.Seq.{get_or-set_same}
use Rattle.rules.specs.declared.RequestFault.{RequestFault}
use Rattle.rules.specs.declared.Owner.{Owner}
use Rattle.rules.specs.declared.FoundRecord.{FoundRecord}
use Rattle.rules.specs.declared.Request.{Request}
use Rattle.rules.specs.declared.Asked.{Asked}
use Rattle.rules.specs.declared.Answer.{Answer}
use Rattle.rules.specs.declared.Accepted.TheVariants.{Listed}
use Rattle.rules.specs.Pool.{Pool}
use Rattle.rules.specs.Search.{found, opened}
use Rattle.rules.specs.Answers.{answer_of}
use Rattle.rules.specs.Insert.{Choice, Change, Done, NoneFree, insert_record}
use Rattle.rules.specs.Delete.{delete_record, update_record}
use Rattle.rules.specs.Request.{Turn, turn, asked, after_change, request}
use Rattle.rules.specs.Call.{Batch, after_turn, do_request, do_requests}
use Rattle.in_force_laws.specs.Force.{places_filled, filled_by, filled_after}
use Rattle.in_force_laws.proofs.Change.{Refused, request_cases}
use Rattle.in_force_laws.proofs.Batch.{no_answer, answers_kept, step_long, step_owner, two_parts}

-- ---- one request

abbrev Fills : Turn → Type 0
Fills t = length t.listed ≡ places_filled (answer_of t.reply)

refused_fills : (p : Pool) (fault : RequestFault) → Refused fault → Fills (turn p (Err fault) [])
unfolding places_filled
refused_fills p fault h = rw h

after_fills : (p : Pool) (o : Change) → Fills (after_change p o)
unfolding after_change places_filled answer_of
after_fills p (Done q) = refl
after_fills p NoneFree = refl

list_fills : (p : Pool) (rs : List FoundRecord) (start opened : ℕ) → Fills (turn p (Ok (Listed (length rs) start opened)) rs)
unfolding places_filled answer_of
list_fills p rs start opened = refl

request_fills : (c : Choice) (p : Pool) (filled room : ℕ) (a : Asked) → Fills (request c p filled room a)
request_fills c p filled room =
    request_cases c p filled room (λ a t. Fills t) (λ a. refused_fills p) (λ r h. after_fills p (insert_record c p r))
    (λ r h. after_fills p (delete_record c p r)) (λ old new h. after_fills p (update_record c p old new))
    (λ o mode window h. list_fills p (found p o mode window) filled (opened p window))

-- ---- a batch

filled_same : (o : Owner) (n i : ℕ) (qs : List Request) (x y : List Answer)
    → ((j : ℕ) → j < i + length qs → get_or x j no_answer ≡ get_or y j no_answer) → filled_after o n i qs x ≡ filled_after o n i qs y
unfolding filled_after
filled_same o n i [] x y h = refl
filled_same o n i (q ∷ qs) x y h =
    ap (λ (a : Answer). filled_after o (filled_by n (asked o q) a) (suc i) qs x) (h i (omega arith))
    ∙ filled_same o (filled_by n (asked o q) (get_or y i no_answer)) (suc i) qs x y (λ j l. h j (omega (arith, l)))

module _ (c : Choice) where
  step_fills : (i : ℕ) (b : Batch) (o : Option Asked) → i < length b.answers
      → (do_request c i b o).filled ≡ filled_by b.filled o (get_or (do_request c i b o).answers i no_answer)
  unfolding do_request after_turn filled_by
  step_fills i b None h = refl
  step_fills i b (Some a) h =
      let room = length b.found - b.filled in
      let t = request c b.pool b.filled room a in
      ap (λ (n : ℕ). b.filled + n) (request_fills c b.pool b.filled room a)
      ∙ ap (λ (x : Answer). b.filled + places_filled x) (sym (get_or-set_same b.answers i (answer_of t.reply) no_answer h))

  pub batch_filled : (i : ℕ) (qs : List Request) (b : Batch) → i + length qs ≤ length b.answers
      → (do_requests c i qs b).filled ≡ filled_after b.owner b.filled i qs (do_requests c i qs b).answers
  unfolding do_requests filled_after
  batch_filled i [] b h = refl
  batch_filled i (q ∷ qs) b h =
      let a = asked b.owner q in
      let b1 = do_request c i b a in
      let end = do_requests c (suc i) qs b1 in
      batch_filled (suc i) qs b1 (omega (arith, h, step_long c i b a))
      ∙ ap (λ (o : Owner). filled_after o b1.filled (suc i) qs end.answers) (step_owner c i b a)
      ∙ ap (λ (n : ℕ). filled_after b.owner n (suc i) qs end.answers) (step_fills i b a (omega (arith, h))
      ∙ ap (filled_by b.filled a) (sym (answers_kept c (suc i) qs b1 i (omega arith))))

  -- .. by the answers that the whole batch leaves
  pub part_filled : (i : ℕ) (xs ys : List Request) (b : Batch) → i + length xs ≤ length b.answers
      → (do_requests c i xs b).filled ≡ filled_after b.owner b.filled i xs (do_requests c i (xs ++ ys) b).answers
  part_filled i xs ys b h =
      batch_filled i xs b h
      ∙ filled_same b.owner b.filled i xs (do_requests c i xs b).answers (do_requests c i (xs ++ ys) b).answers (λ j l.
      sym (ap (λ (x : Batch). get_or x.answers j no_answer) (two_parts c i xs ys b)
      ∙ answers_kept c (i + length xs) ys (do_requests c i xs b) j l))
