-- A frame's call, done by one request: in a sound pool the call is served, and its answers, found list and pool are those of the request.
use mathlib.Core.Path.{◌≡◌, refl, sym, ap, ap₂, ◌∙◌}
use mathlib.Core.Bool.{true}
use mathlib.Core.List.{List, [], ◌∷◌, ◌++◌}
use Rattle.std.specs.Prelude.{None, Some}
use Prim.Native.Nat.{ℕ, suc, min, ◌+◌, ◌-◌, ◌≤◌}
use native.Mathlib.Omega.{arith}
use native.Mathlib.Decide.{dec_le}
use native.Mathlib.Nat.{min-eq_left, min-eq_right}
use lib.ListN.{length, get_or, set, replicate}
use lib.Seq.{sets, length-sets}
use lib.IntN.{ℤ, pos}
use borrow.Author.Tests.{eq-eqb}
use Rattle.rules.specs.declared.FoundRecord.{FoundRecord}
use Rattle.rules.specs.declared.Request.{Request}
use Rattle.rules.specs.declared.Asked.{Asked}
use Rattle.rules.specs.Numbers.{good_owner}
use Rattle.rules.specs.Lists.{every}
use Rattle.rules.specs.Owners.{owner, owner_in}
use Rattle.rules.specs.Layout.{valid_length, words, edition_of, read}
use Rattle.rules.specs.Sound.{sound}
use Rattle.rules.specs.Insert.{ours}
use Rattle.rules.specs.Answers.{answer, answer_of, first_row}
use Rattle.rules.specs.Request.{asked, request}
use Rattle.rules.specs.Call.{Lent, Left, after_turn, do_request, do_requests, is_request, call_fault, served, starting, batch_owner, call_by, call}
use Rattle.rules.specs.Frames.{frame_call, reply_lines}
use Rattle.found_items.specs.Items.{shown_at, shown_from}
use Rattle.found_items.proofs.Words.{items_none, items_one, items_length, items_append}
use Rattle.request.specs.declared.Served.{Served}
use Rattle.request.specs.Serving.{Serves}
use Rattle.in_force_laws.proofs.Sounds.{sound_fit}
use Rattle.frames.specs.Writing.{Wrote}
use Rattle.frames.specs.Said.{reply_shown}
use Rattle.frames.proofs.Texts.{sets_append, sets_beyond, wrote_as}
use Rattle.program.specs.Running.{Replies}
use Rattle.rules.specs.Pool.{no_record}

-- ---- the found list

abbrev empties : List FoundRecord
empties = replicate 64 no_record

-- what is found goes to the first places of a list, one after another
module _ (es : List FoundRecord) (p w : List ℤ) where
  pub filled_none : es ≡ sets es 0 (shown_from p w 0 0)
  filled_none = rw (items_none (shown_at p w) 0)

  pub filled_more : (k : ℕ) → set (sets es 0 (shown_from p w 0 k)) k (shown_at p w k) ≡ sets es 0 (shown_from p w 0 (k + 1))
  filled_more k =
      let n = items_length (shown_at p w) 0 k in
      let e : 0 + length (shown_from p w 0 k) ≡ k = omega arith in
      let z : 0 + k ≡ k = omega arith in
      let more : shown_from p w 0 (k + 1) ≡ shown_from p w 0 k ++ shown_at p w k ∷ [] =
      items_append (shown_at p w) 0 k 1 ∙ ap (λ (l : List FoundRecord). shown_from p w 0 k ++ l) (ap (λ (j : ℕ). shown_from p w j 1) z ∙ items_one (shown_at p w) k) in
      ap (λ (j : ℕ). set (sets es 0 (shown_from p w 0 k)) j (shown_at p w k)) (sym e)
      ∙ sets_append (shown_from p w 0 k) (shown_at p w k ∷ []) es 0 ∙ ap (λ (l : List FoundRecord). sets es 0 l) (sym more)

module _ (p w : List ℤ) where
  -- the list has 64 places, so no more are filled
  pub empties_all : (n : ℕ) → sets empties 0 (shown_from p w 0 (min n 64)) ≡ sets empties 0 (shown_from p w 0 n)
  empties_all n = go (dec_le n 64)
    where
      go : Dec (n ≤ 64) → sets empties 0 (shown_from p w 0 (min n 64)) ≡ sets empties 0 (shown_from p w 0 n)
      go (yes h) = ap (λ (k : ℕ). sets empties 0 (shown_from p w 0 k)) (min-eq_left h)
      go (no h) =
          let m : min n 64 ≡ 64 = min-eq_right {n = 64} {m = n} (omega arith) in
          let e : 64 + (n - 64) ≡ n = omega arith in
          let l = items_length (shown_at p w) 0 64 in
          let f : 0 + length (shown_from p w 0 64) ≡ 64 = omega arith in
          ap (λ (k : ℕ). sets empties 0 (shown_from p w 0 k)) m
          ∙ sym (ap (λ (k : ℕ). sets empties 0 (shown_from p w 0 k)) (sym e) ∙ ap (λ (r : List FoundRecord). sets empties 0 r) (items_append (shown_at p w) 0 64 (n - 64))
          ∙ sym (sets_append (shown_from p w 0 64) (shown_from p w 64 (n - 64)) empties 0)
          ∙ ap (λ (j : ℕ). sets (sets empties 0 (shown_from p w 0 64)) j (shown_from p w 64 (n - 64))) f
          ∙ sets_beyond (shown_from p w 64 (n - 64)) (sets empties 0 (shown_from p w 0 64)) 64 (omega (arith, length-sets empties 0 (shown_from p w 0 64))))

-- ---- the call

lent_by : List ℤ → Request → Lent
lent_by w q = record { owner = owner (pos 1); pool = w; workspace = w; requests = q ∷ []; answers = answer 0 0 0 0 ∷ []; found = empties }

module _ (w : List ℤ) (q : Request) (right : valid_length w ≡ true) (ok : sound w ≡ true) (is : is_request q ≡ true) where
  one_accepted : call_fault (lent_by w q) ≡ None
  unfolding call_fault first_row lent_by every good_owner
  one_accepted = rw (call_fault, first_row, right, eq-eqb (length w) (length w) refl, ok, is)

  one_served : call (lent_by w q) ≡ served (do_requests ours 0 (q ∷ []) (starting (lent_by w q)))
  unfolding call call_by lent_by
  one_served = rw (call, call_by, one_accepted)

  module _ (a : Asked) (e : asked (owner_in (edition_of w) (owner (pos 1))) q ≡ Some a) where
    one_done : do_requests ours 0 (q ∷ []) (starting (lent_by w q)) ≡ after_turn 0 (starting (lent_by w q)) (request ours (read w) 0 64 a)
    unfolding do_requests do_request starting lent_by batch_owner read
    one_done = rw (do_requests, e)

    frame_is : frame_call w q ≡ served (after_turn 0 (starting (lent_by w q)) (request ours (read w) 0 64 a))
    unfolding frame_call lent_by
    frame_is = one_served ∙ ap served one_done

    left_is : (frame_call w q).pool ≡ words (request ours (read w) 0 64 a).pool
    unfolding served after_turn starting lent_by
    left_is = ap (λ (l : Left). l.pool) frame_is

    replied_is : (before : ℕ) → reply_shown before w q
        ≡ reply_lines (suc before) (answer_of (request ours (read w) 0 64 a).reply) (sets empties 0 (request ours (read w) 0 64 a).listed)
    unfolding reply_shown served after_turn starting lent_by
    replied_is before = ap (λ (l : Left). reply_lines (suc before) (get_or l.answers 0 (answer 0 0 0 0)) l.found) frame_is

-- one request does the call, and its lines are the call's
pub replies_by : (w : List ℤ) (q : Request) (a : Asked) (before at : ℕ) (out now : List ℕ) (left scratch : List ℤ) (s : Served) (filled : ℕ)
    (f : List FoundRecord) → valid_length w ≡ true → sound w ≡ true → is_request q ≡ true → asked (owner_in (edition_of w) (owner (pos 1))) q ≡ Some a
    → Serves (length w) (request ours (read w) 0 64 a) s left scratch → f ≡ sets empties 0 (shown_from left scratch 0 (min s.listed 64))
    → Wrote out at (reply_lines (suc before) s.answer f) now filled → filled ≤ at + 7124 → Replies w q before out at left now s.free filled
replies_by w q a before at out now left scratch s filled f right ok is e v g t h =
    record {
      ready = v.ready;
      map = sym (left_is w q right ok is a e ∙ ap words (sym v.pool) ∙ (sound_fit left v.ready.right v.ready.sound).same);
      wrote = wrote_as (ap₂ (reply_lines (suc before)) v.answer (g ∙ empties_all left scratch s.listed ∙ ap (λ (l : List FoundRecord). sets empties 0 l) v.items)
          ∙ sym (replied_is w q right ok is a e before)) t;
      short = h;
    }
