-- The claim goes on when lines are written and bytes are read, and holds at each end of a run.
use mathlib.Core.Path.{◌≡◌, refl, sym, ap, ap₂, subst, ◌∙◌}
use mathlib.Core.Logic.{◌≢◌}
use mathlib.Core.Bool.{Bool, true, false, cond}
use mathlib.Core.List.{List, [], ◌∷◌, ◌++◌, append_assoc, append-nil}
use Prim.Native.Nat.{ℕ, zero, suc, ◌+◌, ◌-◌, ◌≤◌, ◌<◌}
use native.Mathlib.Omega.{arith}
use lib.ListN.{length, take, drop, length-drop, take-append-drop, drop_of_length-le}
use lib.Seq.{length-take-le, take-take, take-add, drop_at}
use lib.IntN.{ℤ, pos}
use borrow.Rule.Slice.PartMut.{put_mid, take_put, same_len_mid, post_of}
use Rattle.std.specs.Prelude.{Option, None, Some, Result, Ok, Err, IfOk}
use Rattle.std.specs.Counts.{IsPrefixLen}
use Rattle.std.specs.Io.KnownBytes.{Appends, Consumes, ReadConsumes, IsAtEnd}
use Rattle.std.specs.declared.io.Error.{Error}
use Rattle.rules.specs.Frames.{bad_line, printed, dustmap}
use Rattle.rules_laws.proofs.Orders.{never_both}
use Rattle.free_slots.specs.declared.FreeSlots.{FreeSlots}
use Rattle.frames.specs.Reading as F
use Rattle.frames.specs.Reading.{framed}
use Rattle.frames.specs.Said.{Said, cut_line}
use Rattle.frames.proofs.Pieces.{said_more, said_end, cut_some, waits_within}
use Rattle.request.specs.Serving.{Ready}
use Rattle.program.specs.declared.Run.{Run}
use Rattle.program.specs.declared.Then.{Then}
use Rattle.program.specs.declared.Then.TheVariants.{Goes, Waits, Full, Ends}
use Rattle.program.specs.declared.End.{End}
use Rattle.program.specs.declared.End.TheVariants.{Answered, BadFrame, NotRead, NotWritten, Endless}
use Rattle.program.specs.declared.Stopped.{Stopped}
use Rattle.std.specs.declared.ops.ControlFlow.{ControlFlow}
use Rattle.std.specs.declared.ops.ControlFlow.TheVariants.{Continue, Break}
use Rattle.program.specs.Moving.{again, Known, moved_by, held_in, held_up_to, came_by, got_by, most_rounds, Taken, Stops, Emptied, Flushes, Receives, bytes_of}
use Rattle.rules.specs.Lists.{same}
use Rattle.program.specs.Running.{status_of, Claims, Stands, Comes, Onward, Moves, Wholly, is_whole, Onto, Over, Rounds, Waited, RunsTo, Runs, whole_status, PrintsAll}
use Rattle.program.specs.Running.{Finished, answered, bad_frame, not_read, not_written, endless, Drains, on, stuck, Closes, all, stopped, Ending, none, cut}
use Rattle.program.proofs.Moves.{few, taken_appends, stops_within, stops_appends, appends_none, consumes_none, appends_both, consumes_both, moved_consumes}
use Rattle.program.proofs.Steps.{said_as, wrote_front}

-- ---- lists

take_part : (n m : ℕ) (l : List ℕ) → n ≤ m → take m l ≡ take n l ++ drop n (take m l)
take_part n m l h = sym (take-append-drop n (take m l)) ∙ ap (λ (t : List ℕ). t ++ drop n (take m l)) (take-take n m l h)

-- ---- what came and what went

pub moves_none : {left holds : Known} → Moves left left holds holds [] []
moves_none {left} {holds} = record { read = consumes_none left; wrote = appends_none holds }

moves_out : {left holds held : Known} (sent : List ℕ) → Appends holds held sent → Moves left left holds held [] sent
moves_out {left} sent h = record { read = consumes_none left; wrote = h }

pub moves_both : {l m n h k j : Known} {a b p q : List ℕ} → Moves l m h k a p → Moves m n k j b q → Moves l n h j (a ++ b) (p ++ q)
moves_both {l} {m} {n} {h} {k} {j} {a} {b} {p} {q} v w =
    record { read = consumes_both l m n a b v.read w.read; wrote = appends_both h k j p q v.wrote w.wrote }

-- ---- all is printed

-- nothing is left
wholly_end : {rest : Known} (arrived printed : List ℕ) → IsAtEnd rest → dustmap arrived ≡ printed → Wholly rest arrived printed
wholly_end {rest} arrived printed h d later e =
    let none : later ≡ [] = subst IsAtEnd e h in
    ap (λ (l : List ℕ). dustmap (arrived ++ l)) none ∙ ap dustmap (append-nil arrived) ∙ d

-- whatever is left
wholly_any : {rest : Known} (arrived printed : List ℕ) → ((later : List ℕ) → dustmap (arrived ++ later) ≡ printed) → Wholly rest (arrived ++ []) printed
wholly_any arrived printed h later e = ap (λ (l : List ℕ). dustmap (l ++ later)) (append-nil arrived) ∙ h later

-- ---- what was printed is a beginning

-- with all of `whole` to be printed, and n bytes of its last part t taken
part_printed : {arrived : List ℕ} (printed t : List ℕ) (n : ℕ) (out : List ℕ) (m : ℕ) (after : List ℕ) → n ≤ m → t ≡ take m out
    → dustmap arrived ≡ (printed ++ t) ++ after → Finished arrived (printed ++ take n out) (pos 3)
part_printed {arrived} printed t n out m after h e d =
    let a = take n out in
    let b = drop n (take m out) in
    not_written (b ++ after)
    (d ∙ ap (λ (l : List ℕ). (printed ++ l) ++ after) (e ∙ take_part n m out h) ∙ ap (λ (l : List ℕ). l ++ after) (sym (append_assoc printed a b))
    ∙ append_assoc (printed ++ a) b after)

module _ (pool : List ℤ) (input out : List ℕ) (r : Run) (arrived text : List ℕ) (c : Claims pool input out r arrived text) where
  -- not all that waited could be written
  pub claims_stopped : (n : ℕ) → n ≤ r.filled → Finished arrived (text ++ take n out) (pos 3)
  unfolding Said
  claims_stopped n h =
      let m = length (held_in input r ++ []) in
      part_printed text (take r.filled out) n out r.filled (printed m (suc r.before) pool (held_in input r ++ [])) h refl
      (ap dustmap (sym (append-nil arrived)) ∙ c [] m (omega arith))

  -- all that waited is written, and bytes may have come
  pub claims_on : (input' : List ℕ) {r' : Run} (s : Run) (piece : List ℕ) → Emptied r r' → s.before ≡ r'.before → s.filled ≡ r'.filled
      → held_in input' s ≡ held_in input r' ++ piece → Claims pool input' out s (arrived ++ piece) (text ++ take r.filled out)
  claims_on input' {r'} s piece e before filled held =
      let t = text ++ take r.filled out in
      let same : held_in input r ≡ held_in input r' = ap₂ (λ (a b : ℕ). take (b - a) (drop a input)) (sym e.at) (sym e.end) in
      said_as (arrived ++ piece) (sym (ap (λ (n : ℕ). t ++ take n out) (filled ∙ e.filled) ∙ append-nil t)) (sym (before ∙ e.before)) refl
      (ap (λ (l : List ℕ). l ++ piece) same ∙ sym held)
      (said_more arrived t r.before pool (held_in input r) piece c)

-- ---- a read

-- what a run that goes on after a read has
pub record Held (old input : List ℕ) (r s : Run) (piece : List ℕ) : Type 0 where
  pub before : s.before ≡ r.before
  pub free : s.free ≡ r.free
  pub filled : s.filled ≡ r.filled
  pub low : s.at ≤ s.end
  pub high : s.end ≤ length input
  pub held : held_in input s ≡ held_in old r ++ piece

abbrev pub piece_of : List ℕ → ℕ → Result (Option ℕ) Error → List ℕ
piece_of input rest m = take (bytes_of m) (drop rest input)

module _ {old input : List ℕ} {r : Run} (low : r.at ≤ r.end) (high : r.end ≤ length input) where
  held_to : (n : ℕ) (s : Run) → n ≤ length input - (r.end - r.at) → take (r.end - r.at) input ≡ held_in old r → held_up_to r (r.end - r.at + n) ≡ s
      → Held old input r s (take n (drop (r.end - r.at) input))
  held_to n s h e is =
      let whole : r.end - r.at + n - 0 ≡ r.end - r.at + n = omega arith in
      subst (λ (x : Run). Held old input r x (take n (drop (r.end - r.at) input))) is
      (record {
        before = refl;
        free = refl;
        filled = refl;
        low = omega arith;
        high = omega arith;
        held = ap (λ (j : ℕ). take j input) whole ∙ take-add (r.end - r.at) n input ∙ ap (λ (l : List ℕ). l ++ take n (drop (r.end - r.at) input)) e;
      })

  held_still : (s : Run) → take (r.end - r.at) input ≡ held_in old r → held_up_to r (r.end - r.at) ≡ s → Held old input r s []
  held_still s e is =
      let whole : r.end - r.at - 0 ≡ r.end - r.at = omega arith in
      subst (λ (x : Run). Held old input r x []) is
      (record {
        before = refl;
        free = refl;
        filled = refl;
        low = omega arith;
        high = omega arith;
        held = ap (λ (j : ℕ). take j input) whole ∙ e ∙ sym (append-nil (held_in old r));
      })

  module _ {left rest : Known} where
    -- bytes came, or none yet
    pub came_held : {g : Result (Option Run) Error} {s : Run} (v : Receives left rest old input r g) → g ≡ Ok (Some s)
        → Held old input r s (piece_of input (r.end - r.at) (moved_by v.answer))
    unfolding came_by
    came_held {g} {s} v e = go (moved_by v.answer) (few (length input - (r.end - r.at)) v.answer v.within) (sym v.is ∙ e)
      where
        go : (m : Result (Option ℕ) Error) → bytes_of m ≤ length input - (r.end - r.at) → got_by r (r.end - r.at) m ≡ Ok (Some s)
            → Held old input r s (piece_of input (r.end - r.at) m)
        go (Ok None) h i = held_still s v.held (cc i)
        go (Ok (Some zero)) h i = absurd (cc i)
        go (Ok (Some (suc n))) h i = held_to (suc n) s h v.held (cc i)
        go (Err error) h i = absurd (cc i)

-- what a read took of the reader
module _ {left rest : Known} {old input : List ℕ} {r : Run} {g : Result (Option Run) Error} (v : Receives left rest old input r g) where
  pub received_piece : Consumes left rest (piece_of input (r.end - r.at) (moved_by v.answer))
  received_piece = moved_consumes left rest v.answer (drop (r.end - r.at) input) v.read

  -- nothing, where no byte came
  received_none : bytes_of (moved_by v.answer) ≡ 0 → Consumes left rest []
  received_none e = subst (λ (n : ℕ). Consumes left rest (take n (drop (r.end - r.at) input))) e received_piece

  pub received_ended : g ≡ Ok None → Consumes left rest []
  unfolding came_by
  received_ended e = received_none (go (moved_by v.answer) (sym v.is ∙ e))
    where
      go : (m : Result (Option ℕ) Error) → got_by r (r.end - r.at) m ≡ Ok None → bytes_of m ≡ 0
      go (Ok None) i = refl
      go (Ok (Some zero)) i = refl
      go (Ok (Some (suc n))) i = absurd (cc i)
      go (Err error) i = refl

  -- the reader is at its end then
  pub received_at_end : g ≡ Ok None → r.end - r.at < length input → IsAtEnd rest
  unfolding came_by moved_by
  received_at_end e h = go v.answer (sym v.is ∙ e) v.read
    where
      refused : (error : Error) (b : Bool) → got_by r (r.end - r.at) (cond b (Ok None) (Err error)) ≡ Ok None → IsAtEnd rest
      refused error true i = absurd (cc i)
      refused error false i = absurd (cc i)

      go : (a : Result ℕ Error) → got_by r (r.end - r.at) (moved_by a) ≡ Ok None → ReadConsumes left rest a (drop (r.end - r.at) input) → IsAtEnd rest
      go (Ok zero) i k = k.1 refl (omega (arith, h, length-drop (r.end - r.at) input))
      go (Ok (suc n)) i k = absurd (cc i)
      go (Err error) i k = refused error (again error) i

  pub received_failed : (error : Error) → g ≡ Err error → Consumes left rest []
  unfolding came_by
  received_failed error e = received_none (go (moved_by v.answer) (sym v.is ∙ e))
    where
      go : (m : Result (Option ℕ) Error) → got_by r (r.end - r.at) m ≡ Err error → bytes_of m ≡ 0
      go (Ok moved) i = absurd (cc i)
      go (Err x) i = refl

-- what follows the bytes that wait, where the rest of the buffer was lent
part_after : (buffer part : List ℕ) (rest : ℕ) → rest ≤ length buffer → drop rest (put_mid rest (length buffer - rest) buffer part) ≡ part
part_after buffer part rest h =
    let d = length-drop rest buffer in
    drop_at (take rest buffer) (part ++ post_of rest (length buffer - rest) buffer) rest (length-take-le rest buffer h)
    ∙ ap (λ (l : List ℕ). part ++ l) (drop_of_length-le (drop rest buffer) {i = length buffer - rest} (omega arith)) ∙ append-nil part

prefix_few : (n : ℕ) (part : List ℕ) (answer : Result ℕ Error) → length part ≡ n → IfOk answer (λ k. IsPrefixLen k part) → IfOk answer (λ k. k ≤ n)
prefix_few n part (Ok k) e h = omega (arith, h.0, e)
prefix_few n part (Err error) e h = h

-- one read, by what it answered: the bytes that wait are at the front of the buffer, and what was read is a part of it after them
pub received : {left remaining : Known} (old buffer part : List ℕ) (r : Run) (rest : ℕ) (answer : Result ℕ Error)
    {m : Result (Option ℕ) Error} {g : Result (Option Run) Error} → r.at ≤ r.end → r.end ≤ length old
    → rest ≡ r.end - r.at → length buffer ≡ length old → take (r.end - r.at) buffer ≡ held_in old r
    → length part ≡ length (take (length buffer - rest) (drop rest buffer))
    → IfOk answer (λ k. IsPrefixLen k part) → ReadConsumes left remaining answer part → m ≡ moved_by answer → g ≡ got_by r rest m
    → Receives left remaining old (put_mid rest (length buffer - rest) buffer part) r g
received {left} {remaining} old buffer part r rest answer {m} low high e long held size h read is got =
    let input = put_mid rest (length buffer - rest) buffer part in
    let d = length-drop rest buffer in
    let same = same_len_mid rest (length buffer - rest) buffer part size in
    let size_is : length part ≡ length input - (r.end - r.at) =
    omega (arith, same, e, size, length-take-le (length buffer - rest) (drop rest buffer) (omega arith)) in
    record {
      answer = answer;
      within = prefix_few (length input - (r.end - r.at)) part answer size_is h;
      held = ap (λ (n : ℕ). take n input) (sym e) ∙ take_put rest (length buffer - rest) buffer part (omega arith) ∙ ap (λ (n : ℕ). take n buffer) e ∙ held;
      is = got ∙ ap (λ (n : ℕ). got_by r n m) e ∙ ap (got_by r (r.end - r.at)) is;
      read = subst (ReadConsumes left remaining answer)
          (sym (ap (λ (n : ℕ). drop n input) (sym e) ∙ part_after buffer part rest (omega arith))) read;
    }

pub received_few : (buffer part : List ℕ) (rest : ℕ) (answer : Result ℕ Error) {m : Result (Option ℕ) Error} → rest ≤ length buffer
    → length part ≡ length (take (length buffer - rest) (drop rest buffer)) → IfOk answer (λ k. IsPrefixLen k part)
    → m ≡ moved_by answer → rest + bytes_of m ≤ length buffer
received_few buffer part rest answer low size h e =
    let d = length-drop rest buffer in
    omega (
      arith,
      few (length part) answer (prefix_few (length part) part answer refl h),
      ap bytes_of e,
      size,
      length-take-le (length buffer - rest) (drop rest buffer) (omega arith),
    )

-- ---- what is left of the output

module _ {holds held : Known} {out : List ℕ} (r : Run) where
  pub drains_on : {f : Result Run Stopped} {s : Run} → Flushes holds held out r f → f ≡ Ok s → Drains holds held out r (Continue s)
  unfolding Flushes
  drains_on {f} {s} h e = let t = subst (λ (x : Result Run Stopped). Flushes holds held out r x) e h in on s t.0 t.1

  pub drains_stuck : {f : Result Run Stopped} {s : Stopped} → Flushes holds held out r f → f ≡ Err s
      → Drains holds held out r (Break (NotWritten s.error))
  unfolding Flushes
  drains_stuck {f} {s} h e = stuck s.sent s.error (subst (λ (x : Result Run Stopped). Flushes holds held out r x) e h)

  pub closes_all : {f : Result Run Stopped} {s : Run} → Flushes holds held out r f → f ≡ Ok s → Closes holds held out r BadFrame
  unfolding Flushes
  closes_all {f} h e = all (subst (λ (x : Result Run Stopped). Flushes holds held out r x) e h).0

  pub closes_stopped : {f : Result Run Stopped} {s : Stopped} → Flushes holds held out r f → f ≡ Err s
      → Closes holds held out r (NotWritten s.error)
  unfolding Flushes
  closes_stopped {f} {s} h e = stopped s.sent s.error (subst (λ (x : Result Run Stopped). Flushes holds held out r x) e h)

-- ---- the end of the input

ready_as : {pool : List ℤ} {f g : FreeSlots} → Ready pool f → g ≡ f → Ready pool g
ready_as {pool} h e = subst (λ (x : FreeSlots). Ready pool x) (sym e) h

none_held : (n : ℕ) (l : List ℕ) → n ≡ 0 → take n l ≡ []
none_held n l e = ap (λ (k : ℕ). take k l) e

some_held : (l : List ℕ) (n : ℕ) → 0 < n → n ≤ length l → (before : ℕ) → cut_line before (take n l) ≡ bad_line (suc before)
some_held l zero h k before = absurd (omega arith)
some_held [] (suc n) h k before = absurd (omega arith)
some_held (x ∷ l) (suc n) h k before = cut_some before x (take n l)

-- a run that ends with the input: all is written, and no byte is left; or the line of the cut frame follows
module _ (pool : List ℤ) (input out : List ℕ) (r : Run) (st : Stands pool input out r) (waits : framed (held_in input r) ≡ F.Waits) where
  abbrev written : List ℕ → List ℕ
  written text = text ++ take r.filled out

  pub end_none : r.at ≡ r.end → (arrived text : List ℕ) → Claims pool input out r arrived text → Finished (arrived ++ []) (written text) (pos 0)
  end_none e arrived text c =
      answered r.before pool
      (subst (λ (l : List ℕ). Said (arrived ++ []) (written text) r.before pool l) (none_held (r.end - r.at) (drop r.at input) (omega arith))
      (subst (λ (l : List ℕ). Said l (written text) r.before pool (held_in input r)) (sym (append-nil arrived)) c))

  -- all is printed then
  end_whole : r.at ≡ r.end → (arrived text : List ℕ) → Claims pool input out r arrived text → dustmap (arrived ++ []) ≡ written text
  unfolding cut_line
  end_whole e arrived text c =
      ap dustmap (append-nil arrived) ∙ said_end arrived (written text) r.before pool (held_in input r) c waits
      ∙ ap (λ (l : List ℕ). written text ++ cut_line r.before l) (none_held (r.end - r.at) (drop r.at input) (omega arith)) ∙ append-nil (written text)

  -- what is to be printed then
  end_cut : r.at ≢ r.end → (arrived text : List ℕ) → Claims pool input out r arrived text → dustmap (arrived ++ []) ≡ written text ++ bad_line (suc r.before)
  end_cut n arrived text c =
      ap dustmap (append-nil arrived) ∙ said_end arrived (written text) r.before pool (held_in input r) c waits
      ∙ ap (λ (l : List ℕ). written text ++ l)
      (some_held (drop r.at input) (r.end - r.at) (omega (arith, st.low, n))
      (omega (arith, st.low, st.high, length-drop r.at input)) r.before)

  -- the line of the cut frame, as far as it was taken
  module _ {left rest holds at held : Known} (ended : Consumes left rest []) (last : IsAtEnd rest) (first : Appends holds at (take r.filled out)) where
    end_closed : (now : List ℕ) (q : Run) (end : End) → r.at ≢ r.end → q.filled ≤ length now → take q.filled now ≡ bad_line (suc r.before) → Closes at held now q end
        → Over (Moves left rest holds held) rest pool input out r end
    end_closed now q end n fit line (all t) =
        record {
          piece = [];
          sent = take r.filled out ++ take q.filled now;
          moves = record { read = ended; wrote = appends_both holds at held (take r.filled out) (take q.filled now) first (taken_appends fit t) };
          finished = λ a p c. let e = sym (append_assoc p (take r.filled out) (take q.filled now)) ∙ ap (λ (l : List ℕ). written p ++ l) line in
              bad_frame (written p) (suc r.before) e (end_cut n a p c ∙ sym e);
          whole = λ w a p c. let e = sym (append_assoc p (take r.filled out) (take q.filled now)) ∙ ap (λ (l : List ℕ). written p ++ l) line in
              wholly_end (a ++ []) (p ++ (take r.filled out ++ take q.filled now)) last (end_cut n a p c ∙ sym e);
        }
    end_closed now q end n fit line (stopped k error t) =
        record {
          piece = [];
          sent = take r.filled out ++ take k now;
          moves = record { read = ended; wrote = appends_both holds at held (take r.filled out) (take k now) first (stops_appends fit t) };
          finished = λ a p c. subst (λ (l : List ℕ). Finished (a ++ []) l (pos 3)) (append_assoc p (take r.filled out) (take k now))
              (part_printed (written p) (bad_line (suc r.before)) k now q.filled [] (stops_within t) (sym line)
              (end_cut n a p c ∙ sym (append-nil (written p ++ bad_line (suc r.before)))));
          whole = λ w. never_both w refl;
        }

    pub wait_ended : (now : List ℕ) {s : Run} (end : End) → s.before ≡ r.before → s.end - s.at ≡ r.end - r.at → s.at ≤ s.end → length now ≡ length out
        → Ending at held out now s end → Over (Moves left rest holds held) rest pool input out r end
    wait_ended now {s} end b m low long (none e f) =
        record {
          piece = [];
          sent = take r.filled out;
          moves = record { read = ended; wrote = subst (λ (k : Known). Appends holds k (take r.filled out)) (sym f) first };
          finished = end_none (omega (arith, st.low, e, m));
          whole = λ w a p c. wholly_end (a ++ []) (written p) last (end_whole (omega (arith, st.low, e, m)) a p c);
        }
    wait_ended now {s} end b m low long (cut q end₁ n w fit closes) =
        end_closed now q end₁ (λ e. n (omega (arith, e, m, low))) (omega arith) (wrote_front w fit ∙ ap (λ (k : ℕ). bad_line (suc k)) b) closes

  pub wait_failed : {left rest holds held : Known} (error : Error) → Consumes left rest [] → Appends holds held (take r.filled out)
      → Over (Moves left rest holds held) rest pool input out r (NotRead error)
  wait_failed error h w =
      record {
        piece = [];
        sent = take r.filled out;
        moves = record { read = h; wrote = w };
        finished = λ a p c. not_read r.before pool (held_in input r)
            (subst (λ (l : List ℕ). Said l (written p) r.before pool (held_in input r)) (sym (append-nil a)) c) waits;
        whole = λ w. never_both w refl;
      }

-- not all that waited could be written
pub over_stopped : {left holds held : Known} (pool : List ℤ) (input out : List ℕ) (r : Run) (n : ℕ) (error : Option Error) → r.filled ≤ length out
    → Stops holds held out r.filled n error → Over (Moves left left holds held) left pool input out r (NotWritten error)
over_stopped pool input out r n error h t =
    record {
      piece = [];
      sent = take n out;
      moves = moves_out (take n out) (stops_appends h t);
      finished = λ a p c. subst (λ (l : List ℕ). Finished l (p ++ take n out) (pos 3)) (sym (append-nil a))
          (claims_stopped pool input out r a p c n (stops_within t));
      whole = λ w. never_both w refl;
    }

-- the run goes on with what came
pub onto_came : {M : List ℕ → List ℕ → Type 0} (pool : List ℤ) (input out : List ℕ) (r : Run) (input' : List ℕ) {r' : Run} (s : Run) (piece : List ℕ) → Stands pool input out r
    → Emptied r r' → Held input input' r' s piece → M piece (take r.filled out) → Onto M pool input out r pool input' out s
onto_came pool input out r input' {r'} s piece st e h m =
    record {
      stands = record {
        ready = ready_as st.ready (h.free ∙ e.free);
        low = h.low;
        high = h.high;
        room = omega (arith, h.filled, e.filled);
      };
      counted = omega (arith, h.before, e.before);
      piece = piece;
      sent = take r.filled out;
      moves = m;
      keeps = λ a p c. claims_on pool input out r a p c input' s piece e h.before h.filled h.held;
    }

-- ---- a round

module _ (pool : List ℤ) (input out : List ℕ) (r : Run) (pool' : List ℤ) (out' : List ℕ) where
  claims_same : (input' : List ℕ) (s : Run) (a p : List ℕ) → Claims pool' input' out' s a p → Claims pool' input' out' s (a ++ []) (p ++ [])
  claims_same input' s a p c =
      subst (λ (l : List ℕ). Claims pool' input' out' s (a ++ []) l) (sym (append-nil p))
      (subst (λ (l : List ℕ). Claims pool' input' out' s l p) (sym (append-nil a)) c)

  pub onto_comes : {left holds : Known} (s : Run) → Comes pool input out r pool' out' s → Onto (Moves left left holds holds) pool input out r pool' input out' s
  onto_comes s k =
      record {
        stands = k.stands;
        counted = k.counted;
        piece = [];
        sent = [];
        moves = moves_none;
        keeps = λ a p c. claims_same input s a p (k.keeps a p c);
      }

  module _ {M : List ℕ → List ℕ → Type 0} where
    -- a run that came to s, and from there on
    onto_after : (input'' out'' : List ℕ) (s t : Run) (pool'' : List ℤ) → Comes pool input out r pool' out' s → s.before ≤ r.before
        → Onto M pool' input out' s pool'' input'' out'' t → Onto M pool input out r pool'' input'' out'' t
    onto_after input'' out'' s t pool'' k b o =
        record {
          stands = o.stands;
          counted = omega (arith, o.counted);
          piece = o.piece;
          sent = o.sent;
          moves = o.moves;
          keeps = λ a p c. o.keeps a p (k.keeps a p c);
        }

    pub over_after : {rest : Known} (s : Run) (end : End) → Comes pool input out r pool' out' s → Over M rest pool' input out' s end → Over M rest pool input out r end
    over_after s end k o =
        record {
          piece = o.piece;
          sent = o.sent;
          moves = o.moves;
          finished = λ a p c. o.finished a p (k.keeps a p c);
          whole = λ w a p c. o.whole w a p (k.keeps a p c);
        }

  pub round_waited : (M : List ℕ → List ℕ → Type 0) (rest : Known) (input'' out'' : List ℕ) (s : Run) (pool'' : List ℤ) (t : ControlFlow End Run)
      → Comes pool input out r pool' out' s → s.before ≤ r.before
      → Rounds M rest pool' input out' s pool'' input'' out'' t → Rounds M rest pool input out r pool'' input'' out'' t
  unfolding Rounds
  round_waited M rest input'' out'' s pool'' (Continue n) k b o = onto_after input'' out'' s n pool'' k b o
  round_waited M rest input'' out'' s pool'' (Break end) k b o = over_after s end k o

  module _ (left : Known) {holds held : Known} where
    pub round_drained : (s : Run) (t : ControlFlow End Run) → Comes pool input out r pool' out' s → Drains holds held out' s t
        → Rounds (Moves left left holds held) left pool input out r pool' input out' t
    unfolding Rounds
    round_drained s t k (on n taken e) =
        let st = k.stands in
        record {
          stands = record {
            ready = ready_as st.ready e.free;
            low = omega (arith, st.low, e.at, e.end);
            high = omega (arith, st.high, e.end);
            room = omega (arith, e.filled);
          };
          counted = omega (arith, k.counted, e.before);
          piece = [];
          sent = take s.filled out';
          moves = moves_out (take s.filled out') (taken_appends st.room taken);
          keeps = λ a p c. claims_on pool' input out' s a p (k.keeps a p c) input n [] e refl refl (sym (append-nil (held_in input n)));
        }
    round_drained s t k (stuck n error v) = over_after s (NotWritten error) k (over_stopped pool' input out' s n error k.stands.room v)

    pub round_ends : (s : Run) (end : End) → s.filled ≤ length out' → take s.filled out' ≡ take r.filled out ++ bad_line (suc r.before)
        → ((a p : List ℕ) → Claims pool input out r a p → (later : List ℕ) → dustmap (a ++ later) ≡ p ++ take s.filled out')
        → Closes holds held out' s end → Over (Moves left left holds held) left pool input out r end
    round_ends s end fit line h (all t) =
        record {
          piece = [];
          sent = take s.filled out';
          moves = moves_out (take s.filled out') (taken_appends fit t);
          finished = λ a p c. bad_frame (p ++ take r.filled out) (suc r.before)
              (ap (λ (l : List ℕ). p ++ l) line ∙ sym (append_assoc p (take r.filled out) (bad_line (suc r.before)))) (h a p c []);
          whole = λ w a p c. wholly_any a (p ++ take s.filled out') (h a p c);
        }
    round_ends s end fit line h (stopped k error t) =
        record {
          piece = [];
          sent = take k out';
          moves = moves_out (take k out') (stops_appends fit t);
          finished = λ a p c. part_printed p (take s.filled out') k out' s.filled [] (stops_within t) refl
              (h a p c [] ∙ sym (append-nil (p ++ take s.filled out')));
          whole = λ w. never_both w refl;
        }

-- ---- `wait`

pub waited_stopped : (left holds held : Known) (input out : List ℕ) (r : Run) {x : ControlFlow End Run} {end : End} → r.filled ≤ length out
    → Drains holds held out r x → x ≡ Break end → Waited (Moves left left holds held) left input out r input out (Break end)
unfolding Rounds
waited_stopped left holds held input out r low (on s taken k) e pool st w = absurd (cc e)
waited_stopped left holds held input out r {x} {end} low (stuck n error v) e pool st w =
    let same : NotWritten error ≡ end = cc e in
    subst (λ (y : End). Over (Moves left left holds held) left pool input out r y) same (over_stopped pool input out r n error low v)

drained : {holds held : Known} {out : List ℕ} {r s : Run} {x : ControlFlow End Run} → Drains holds held out r x → x ≡ Continue s
    → Taken holds out r.filled r.filled held × Emptied r s
drained {r} {s} (on n taken k) e = let same : n ≡ s = cc e in (taken, subst (λ (y : Run). Emptied r y) same k)
drained (stuck n error v) e = absurd (cc e)

module _ (holds at : Known) (input out : List ℕ) (r : Run) {x : ControlFlow End Run} (r' : Run) (h : Drains holds at out r x) (e : x ≡ Continue r') where
  flushed : Taken holds out r.filled r.filled at × Emptied r r'
  flushed = drained h e

  pub emptied : Emptied r r'
  emptied = flushed.1

  pub emptied_appends : r.filled ≤ length out → Appends holds at (take r.filled out)
  emptied_appends low = taken_appends low flushed.0

  module _ {left rest : Known} (input' : List ℕ) {g : Result (Option Run) Error} (v : Receives left rest input input' r' g) (same : length input' ≡ length input) where
    pub waited_came : (s : Run) → g ≡ Ok (Some s) → Waited (Moves left rest holds at) rest input out r input' out (Continue s)
    unfolding Rounds
    waited_came s i pool st w =
        onto_came pool input out r input' s _ st emptied
        (came_held (omega (arith, st.low, emptied.at, emptied.end)) (omega (arith, st.high, emptied.end)) v i)
        (record { read = received_piece v; wrote = emptied_appends st.room })

    pub waited_failed : (error : Error) → g ≡ Err error → Waited (Moves left rest holds at) rest input out r input' out (Break (NotRead error))
    unfolding Rounds
    waited_failed error i pool st w = wait_failed pool input out r st w error (received_failed v error i) (emptied_appends st.room)

    pub waited_ended : {held : Known} → g ≡ Ok None → (now : List ℕ) (end : End) → length now ≡ length out → r.end - r.at < length input
        → Ending at held out now r' end → Waited (Moves left rest holds held) rest input out r input' now (Break end)
    unfolding Rounds
    waited_ended i now end long room last pool st w =
        wait_ended pool input out r st w (received_ended v i) (received_at_end v i (omega (arith, room, same, emptied.at, emptied.end)))
        (emptied_appends st.room) now end emptied.before (omega (arith, emptied.at, emptied.end))
        (omega (arith, st.low, emptied.at, emptied.end)) long last

-- ---- `round`

module _ (pool : List ℤ) (input out : List ℕ) (r : Run) (pool' : List ℤ) (out' : List ℕ) (t : Then) (o : Onward pool input out r pool' out' t) (s : Run) where
  pub goes_on : t ≡ Goes s → Comes pool input out r pool' out' s
  unfolding Onward
  goes_on e = subst (λ (x : Then). Onward pool input out r pool' out' x) e o

  pub full_on : t ≡ Full s → Comes pool input out r pool' out' s
  unfolding Onward
  full_on e = subst (λ (x : Then). Onward pool input out r pool' out' x) e o

  waits_all : t ≡ Waits s → Comes pool input out r pool' out' s × (framed (held_in input s) ≡ F.Waits) × (s.before ≤ r.before)
  unfolding Onward
  waits_all e = subst (λ (x : Then). Onward pool input out r pool' out' x) e o

  pub waits_on : t ≡ Waits s → Comes pool input out r pool' out' s
  waits_on e = (waits_all e).0

  pub waits_few : t ≡ Waits s → s.end - s.at < 40
  waits_few e =
      let k = (waits_all e).0.stands in
      omega (arith, waits_within (held_in input s) (waits_all e).1, length-take-le (s.end - s.at) (drop s.at input) (omega (arith, length-drop s.at input, k.low, k.high)))

  pub waits_counted : t ≡ Waits s → s.before ≤ r.before
  waits_counted e = (waits_all e).2

  ends_all : t ≡ Ends s → (s.filled ≤ length out') × (take s.filled out' ≡ take r.filled out ++ bad_line (suc r.before))
      × ((a p : List ℕ) → Claims pool input out r a p → (later : List ℕ) → dustmap (a ++ later) ≡ p ++ take s.filled out')
  unfolding Onward
  ends_all e = subst (λ (x : Then). Onward pool input out r pool' out' x) e o

  pub ends_within : t ≡ Ends s → s.filled ≤ length out'
  ends_within e = (ends_all e).0

  pub rounds_goes : (left holds : Known) → t ≡ Goes s → Rounds (Moves left left holds holds) left pool input out r pool' input out' (Continue s)
  unfolding Rounds
  rounds_goes left holds e = onto_comes pool input out r pool' out' s (goes_on e)

  pub rounds_full : (left : Known) {holds held : Known} → t ≡ Full s → (x : ControlFlow End Run) → Drains holds held out' s x
      → Rounds (Moves left left holds held) left pool input out r pool' input out' x
  rounds_full left e x d = round_drained pool input out r pool' out' left s x (full_on e) d

  pub rounds_waits : (M : List ℕ → List ℕ → Type 0) (rest : Known) → t ≡ Waits s → (input'' out'' : List ℕ) (x : ControlFlow End Run) → Waited M rest input out' s input'' out'' x
      → Rounds M rest pool input out r pool' input'' out'' x
  rounds_waits M rest e input'' out'' x w =
      round_waited pool input out r pool' out' M rest input'' out'' s pool' x (waits_on e) (waits_counted e) (w pool' (waits_on e).stands (waits_all e).1)

  pub rounds_ends : (left : Known) {holds held : Known} → t ≡ Ends s → (end : End) → Closes holds held out' s end
      → Rounds (Moves left left holds held) left pool input out r pool' input out' (Break end)
  unfolding Rounds
  rounds_ends left e end k = let d = ends_all e in round_ends pool input out r pool' out' left s end d.0 d.1 d.2 k

-- ---- the whole run

module _ {M : List ℕ → List ℕ → Type 0} (rest : Known) (pool : List ℤ) (input out : List ℕ) (r : Run) (pool' : List ℤ) (input' out' : List ℕ) (x : ControlFlow End Run)
    (o : Rounds M rest pool input out r pool' input' out' x) where
  pub step_goes : (s : Run) → x ≡ Continue s → Onto M pool input out r pool' input' out' s
  unfolding Rounds
  step_goes s e = subst (λ (y : ControlFlow End Run). Rounds M rest pool input out r pool' input' out' y) e o

  pub step_ends : (end : End) → x ≡ Break end → Over M rest pool input out r end
  unfolding Rounds
  step_ends end e = subst (λ (y : ControlFlow End Run). Rounds M rest pool input out r pool' input' out' y) e o

pub run_endless : {M : List ℕ → List ℕ → Type 0} {rest : Known} (pool : List ℤ) (input out : List ℕ) (r : Run) (arrived text : List ℕ) → M arrived text
    → Claims pool input out r arrived text → (rounds : ℕ) → rounds ≡ most_rounds → RunsTo M rest Endless
unfolding Said
run_endless pool input out r arrived text moves c rounds all_used =
    let m = length (held_in input r ++ []) in
    let after = printed m (suc r.before) pool (held_in input r ++ []) in
    record {
      arrived = arrived;
      printed = text;
      moves = moves;
      finished = endless (take r.filled out ++ after)
          (ap dustmap (sym (append-nil arrived)) ∙ c [] m (omega arith) ∙ append_assoc text (take r.filled out) after) rounds all_used;
      whole = λ w. never_both w refl;
    }

-- ---- by its status

pub runs_by : {M : List ℕ → List ℕ → Type 0} {rest : Known} {end : End} {status : ℤ} → RunsTo M rest end → status ≡ status_of end → Runs M status
runs_by o e = record { arrived = o.arrived; printed = o.printed; moves = o.moves; finished = subst (Finished o.arrived o.printed) (sym e) o.finished }

whole_end : (end : End) → whole_status (status_of end) ≡ true → is_whole end ≡ true
unfolding whole_status same
whole_end Answered h = refl
whole_end BadFrame h = refl
whole_end (NotRead error) h = h
whole_end (NotWritten error) h = h
whole_end Endless h = h

pub prints_all : {left rest holds held : Known} {end : End} {status : ℤ} → RunsTo (Moves left rest holds held) rest end → status ≡ status_of end
    → PrintsAll left holds held status
prints_all {left} {rest} {holds} {held} {end} {status} o e input k w =
    go rest (subst (λ (l : Known). Consumes l rest o.arrived) k o.moves.read) (o.whole (whole_end end (ap whole_status (sym e) ∙ w)))
  where
    go : (left-over : Known) → Consumes (Some input) left-over o.arrived → Wholly left-over o.arrived o.printed → Appends holds held (dustmap input)
    go None h f = absurd h
    go (Some later) h f = subst (Appends holds held) (sym (f later refl) ∙ ap dustmap (sym h)) o.moves.wrote
