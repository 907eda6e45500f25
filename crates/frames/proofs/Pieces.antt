-- Whatever pieces the input arrives in, what is printed is `dustmap` of the whole: a law for each step that the program makes between the
-- start and the end of its input.
use mathlib.Core.Path.{◌≡◌, refl, sym, ap, subst, ◌∙◌}
use mathlib.Core.Bool.{Bool, true, false}
use mathlib.Core.List.{List, [], ◌∷◌, ◌++◌, append_assoc, append-nil}
use Rattle.std.specs.Prelude.{Option, None, Some}
use Prim.Native.Nat.{ℕ, zero, suc, ◌-◌, ◌≤◌, ◌<◌}
use native.Mathlib.Omega.{arith}
use lib.ListN.{length, drop, length-drop}
use lib.IntN.{ℤ}
use Rattle.rules.specs.declared.Request.{Request}
use Rattle.rules.specs.Call.{is_request}
use Rattle.rules.specs.Frames.{Next, Ended, Complete, Cut, Frame, next_frame, frame_request, frame_call, bad_line, call_printed, printed, dustmap}
use Rattle.frames.specs.Reading.{Framed, Asks, Waits, Bad}
use Rattle.frames.specs.Reading.{Beginning, Nothing, Asking, Wrong, beginning, hopeless, framed}
use Rattle.rules.specs.Layout.{blank_words}
use Rattle.frames.specs.Said.{Said, reply_shown, cut_line}
use Rattle.frames.proofs.Framing.{begun_none, asking_request, asking_more, wrong_more, after_less, after_is, nothing_empty, framed_nothing, framed_asking, framed_bad, framed_waits, waits_short}

-- ---- what is printed, frame by frame

-- with `before` frames done and this pool, the bytes print this text
data Prints : ℕ → List ℤ → List ℕ → List ℕ → Type 0 where
  ends : {before : ℕ} {pool : List ℤ} {bs : List ℕ} → beginning bs ≡ Nothing → Prints before pool bs []
  wrong : {before : ℕ} {pool : List ℤ} {bs : List ℕ} → beginning bs ≡ Wrong → Prints before pool bs (bad_line (suc before))
  asks : {before : ℕ} {pool : List ℤ} {bs after t : List ℕ} (q : Request) → beginning bs ≡ Asking q after
      → Prints (suc before) (frame_call pool q).pool after t → Prints before pool bs (reply_shown before pool q ++ t)

-- the definition, by what the bytes begin with
text_of : ℕ → ℕ → List ℤ → Beginning → List ℕ
text_of n place pool Nothing = []
text_of n place pool Wrong = bad_line place
text_of n place pool (Asking q after) = call_printed place (frame_call pool q) (λ left. printed n (suc place) left after)

printed_text : (n place : ℕ) (pool : List ℤ) (bs : List ℕ) → printed (suc n) place pool bs ≡ text_of n place pool (beginning bs)
unfolding printed beginning text_of
printed_text n place pool bs = go (next_frame bs) refl
  where
    whole : (f : Frame) (after : List ℕ) → next_frame bs ≡ Complete f after → (o : Option Request) → frame_request f ≡ o
        → printed (suc n) place pool bs ≡ text_of n place pool (beginning bs)
    whole f after e None r = rw (printed, beginning, e, r)
    whole f after e (Some q) r = rw (printed, beginning, e, r)

    go : (x : Next) → next_frame bs ≡ x → printed (suc n) place pool bs ≡ text_of n place pool (beginning bs)
    go Ended e = rw (printed, beginning, e)
    go Cut e = rw (printed, beginning, e)
    go (Complete f after) e = whole f after e (frame_request f) refl

text_nothing : (n place : ℕ) (pool : List ℤ) → text_of n place pool Nothing ≡ []
unfolding text_of
text_nothing n place pool = refl

text_wrong : (n place : ℕ) (pool : List ℤ) → text_of n place pool Wrong ≡ bad_line place
unfolding text_of
text_wrong n place pool = refl

text_asking : (n before : ℕ) (pool : List ℤ) (q : Request) (after : List ℕ)
    → text_of n (suc before) pool (Asking q after) ≡ reply_shown before pool q ++ printed n (suc (suc before)) (frame_call pool q).pool after
unfolding text_of call_printed reply_shown
text_asking n before pool q after = refl

printed_zero : (place : ℕ) (pool : List ℤ) (bs : List ℕ) → printed zero place pool bs ≡ []
unfolding printed
printed_zero place pool bs = refl

-- no bytes begin with nothing
none_of_lem : (bs : List ℕ) → length bs ≤ 0 → beginning bs ≡ Nothing
none_of_lem [] h = begun_none
none_of_lem (b ∷ bs) h = absurd (omega arith)

apart : {x y : Beginning} → x ≡ Nothing → x ≡ y → y ≡ Wrong → ⊥
apart p q r = let z : ◌≡◌ {A = ℕ} 0 1 = cc in omega arith

printed_is : {before : ℕ} {pool : List ℤ} {bs t : List ℕ} → Prints before pool bs t → (n : ℕ) → length bs ≤ n → printed n (suc before) pool bs ≡ t
printed_is {before} {pool} {bs} (ends e) zero h = printed_zero (suc before) pool bs
printed_is {before} {pool} {bs} (ends e) (suc n) h = printed_text n (suc before) pool bs ∙ ap (text_of n (suc before) pool) e ∙ text_nothing n (suc before) pool
printed_is {before} {pool} {bs} (wrong e) zero h = absurd (apart (none_of_lem bs h) e refl)
printed_is {before} {pool} {bs} (wrong e) (suc n) h = printed_text n (suc before) pool bs ∙ ap (text_of n (suc before) pool) e ∙ text_wrong n (suc before) pool
printed_is {before} {pool} {bs} (asks {after = after} q e r) zero h = absurd (omega (arith, after_less bs q after e))
printed_is {before} {pool} {bs} (asks {after = after} q e r) (suc n) h =
    printed_text n (suc before) pool bs ∙ ap (text_of n (suc before) pool) e ∙ text_asking n before pool q after
    ∙ ap (λ (l : List ℕ). reply_shown before pool q ++ l) (printed_is r n (omega (arith, after_less bs q after e)))

-- every input prints something
prints : (n before : ℕ) (pool : List ℤ) (bs : List ℕ) → length bs ≤ n → Prints before pool bs (printed n (suc before) pool bs)
prints zero before pool bs h = subst (λ (t : List ℕ). Prints before pool bs t) (sym (printed_zero (suc before) pool bs)) (ends (none_of_lem bs h))
prints (suc n) before pool bs h = go (beginning bs) refl (prints n (suc before))
  where
    go : (x : Beginning) → beginning bs ≡ x → ((p : List ℤ) (l : List ℕ) → length l ≤ n → Prints (suc before) p l (printed n (suc (suc before)) p l))
        → Prints before pool bs (printed (suc n) (suc before) pool bs)
    go Nothing e r =
        subst (λ (t : List ℕ). Prints before pool bs t)
        (sym (printed_text n (suc before) pool bs ∙ ap (text_of n (suc before) pool) e ∙ text_nothing n (suc before) pool)) (ends e)
    go Wrong e r =
        subst (λ (t : List ℕ). Prints before pool bs t)
        (sym (printed_text n (suc before) pool bs ∙ ap (text_of n (suc before) pool) e ∙ text_wrong n (suc before) pool)) (wrong e)
    go (Asking q after) e r =
        subst (λ (t : List ℕ). Prints before pool bs t)
        (sym (printed_text n (suc before) pool bs ∙ ap (text_of n (suc before) pool) e ∙ text_asking n before pool q after))
        (asks q e (r (frame_call pool q).pool after (omega (arith, after_less bs q after e))))

-- .. and the same, however many frames are allowed for
printed_same : (m n before : ℕ) (pool : List ℤ) (bs : List ℕ) → length bs ≤ m → length bs ≤ n
    → printed m (suc before) pool bs ≡ printed n (suc before) pool bs
printed_same m n before pool bs h k = printed_is (prints n before pool bs k) m h

dustmap_is : (n : ℕ) (bs : List ℕ) → length bs ≤ n → dustmap bs ≡ printed n 1 (blank_words 128) bs
unfolding dustmap
dustmap_is n bs h = printed_same (length bs) n 0 (blank_words 128) bs (omega arith) h

pub cut_none : (before : ℕ) → cut_line before [] ≡ []
unfolding cut_line
cut_none before = refl

pub cut_some : (before b : ℕ) (bs : List ℕ) → cut_line before (b ∷ bs) ≡ bad_line (suc before)
unfolding cut_line
cut_some before b bs = refl

-- ---- the program, from step to step

pub said_start : Said [] [] 0 (blank_words 128) []
unfolding Said
said_start later n h = dustmap_is n later h

-- a piece arrives
pub said_more : (arrived out : List ℕ) (before : ℕ) (pool : List ℤ) (held piece : List ℕ) → Said arrived out before pool held
    → Said (arrived ++ piece) out before pool (held ++ piece)
unfolding Said
said_more arrived out before pool held piece s later n h =
    let e = append_assoc held piece later in
    rw (append_assoc arrived piece later, e) (s (piece ++ later) n (omega (arith, ap length e)))

-- what the reader says of the bytes, as what they begin with
data Reads (held : List ℕ) : Framed → Type 0 where
  whole : (q : Request) (n : ℕ) → beginning held ≡ Asking q (drop n held) → n ≤ length held → Reads held (Asks q n)
  empty : held ≡ [] → Reads held Waits
  partly : beginning held ≡ Wrong → length held < 40 → Reads held Waits
  never : hopeless held ≡ true → Reads held Bad

reads : (held : List ℕ) → Reads held (framed held)
reads held = go (beginning held) refl
  where
    bad : (h : Bool) → hopeless held ≡ h → beginning held ≡ Wrong → Reads held (framed held)
    bad true h e = subst (λ (f : Framed). Reads held f) (sym (framed_bad held e h)) (never h)
    bad false h e = subst (λ (f : Framed). Reads held f) (sym (framed_waits held e h)) (partly e (waits_short held e h))

    go : (x : Beginning) → beginning held ≡ x → Reads held (framed held)
    go Nothing e = subst (λ (f : Framed). Reads held f) (sym (framed_nothing held e)) (empty (nothing_empty held e))
    go Wrong e = bad (hopeless held) refl e
    go (Asking q after) e =
        let n = length held - length after in
        let w : beginning held ≡ Asking q (drop n held) = e ∙ ap (λ (l : List ℕ). Asking q l) (after_is held q after e) in
        subst (λ (f : Framed). Reads held f) (sym (framed_asking held q after e)) (whole q n w (omega arith))

asks_begun : {held : List ℕ} {q : Request} {n : ℕ} → Reads held (Asks q n) → beginning held ≡ Asking q (drop n held)
asks_begun (whole q n e l) = e

bad_hopeless : {held : List ℕ} → Reads held Bad → hopeless held ≡ true
bad_hopeless (never h) = h

-- a request takes no more bytes than there are
pub asks_within : (held : List ℕ) (q : Request) (n : ℕ) → framed held ≡ Asks q n → n ≤ length held
asks_within held q n e = go (subst (λ (f : Framed). Reads held f) e (reads held))
  where
    go : Reads held (Asks q n) → n ≤ length held
    go (whole q n e l) = l

pub asks_request : (held : List ℕ) (q : Request) (n : ℕ) → framed held ≡ Asks q n → is_request q ≡ true
asks_request held q n e = asking_request held q (drop n held) (asks_begun (subst (λ (f : Framed). Reads held f) e (reads held)))

pub asks_some : (held : List ℕ) (q : Request) (n : ℕ) → framed held ≡ Asks q n → 0 < n
asks_some held q n e =
    let b = asks_begun (subst (λ (f : Framed). Reads held f) e (reads held)) in
    omega (arith, after_less held q (drop n held) b, length-drop n held)

-- what waits leaves room in a buffer for more
pub waits_within : (held : List ℕ) → framed held ≡ Waits → length held < 40
waits_within held e = go (subst (λ (f : Framed). Reads held f) e (reads held))
  where
    go : Reads held Waits → length held < 40
    go (empty q) = let z = ap length q in omega arith
    go (partly w l) = l

module _ (arrived out : List ℕ) (before : ℕ) (pool : List ℤ) (held : List ℕ) (s : Said arrived out before pool held) where
  -- what is printed of any text that the bytes left print
  by_prints : (later t : List ℕ) → Prints before pool (held ++ later) t → dustmap (arrived ++ later) ≡ out ++ t
  unfolding Said
  by_prints later t p =
      s later (length (held ++ later)) (omega arith)
      ∙ ap (λ (l : List ℕ). out ++ l) (printed_is p (length (held ++ later)) (omega arith))

  -- a frame is asked, and its lines are printed
  pub said_asks : (q : Request) (n : ℕ) → framed held ≡ Asks q n
      → Said arrived (out ++ reply_shown before pool q) (suc before) (frame_call pool q).pool (drop n held)
  unfolding Said
  said_asks q n e later m h =
      let b = asks_begun (subst (λ (f : Framed). Reads held f) e (reads held)) in
      let t = printed m (suc (suc before)) (frame_call pool q).pool (drop n held ++ later) in
      rw (append_assoc out (reply_shown before pool q) t) (by_prints later (reply_shown before pool q ++ t)
      (asks q (asking_more held later q (drop n held) b) (prints m (suc before) (frame_call pool q).pool (drop n held ++ later) h)))

  -- a bad frame is the last, whatever comes
  pub said_bad : framed held ≡ Bad → (later : List ℕ) → dustmap (arrived ++ later) ≡ out ++ bad_line (suc before)
  said_bad e later =
      by_prints later (bad_line (suc before)) (wrong (wrong_more held later (bad_hopeless (subst (λ (f : Framed). Reads held f) e (reads held)))))

  -- the input ends
  pub said_end : framed held ≡ Waits → dustmap arrived ≡ out ++ cut_line before held
  said_end e = go (subst (λ (f : Framed). Reads held f) e (reads held))
    where
      at_end : (t : List ℕ) → Prints before pool held t → dustmap arrived ≡ out ++ t
      at_end t p =
          ap dustmap (sym (append-nil arrived)) ∙ by_prints [] t (subst (λ (l : List ℕ). Prints before pool l t) (sym (append-nil held)) p)

      some_left : (l : List ℕ) → beginning l ≡ Wrong → cut_line before l ≡ bad_line (suc before)
      some_left [] w = absurd (apart begun_none w refl)
      some_left (b ∷ bs) w = cut_some before b bs

      go : Reads held Waits → dustmap arrived ≡ out ++ cut_line before held
      go (empty q) = at_end [] (ends (ap beginning q ∙ begun_none)) ∙ ap (λ (l : List ℕ). out ++ l) (sym (ap (cut_line before) q ∙ cut_none before))
      go (partly w l) = at_end (bad_line (suc before)) (wrong w) ∙ ap (λ (l : List ℕ). out ++ l) (sym (some_left held w))
