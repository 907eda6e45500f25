-- What the bytes that are here show of the frame that they begin; and that it stays so, whatever comes after them.
use mathlib.Core.Path.{◌≡◌, refl, sym, ap, ◌∙◌}
use mathlib.Core.Bool.{Bool, true, false}
use mathlib.Core.List.{List, [], ◌∷◌, ◌++◌}
use Rattle.std.specs.Prelude.{Option, None, Some}
use Prim.Native.Nat.{ℕ, suc, ◌+◌, ◌-◌, ◌≤◌, ◌<◌}
use native.Mathlib.Omega.{arith}
use native.Mathlib.Decide.{dec_le, ℕ_discrete}
use lib.ListN.{length, take, drop, length-drop, length-append}
use lib.Seq.{length-take-le, take-append-le, drop-append-le}
use borrow.Author.Tests.{le-leb, lt-leb, eq-eqb, ne_eqb}
use Rattle.rules.specs.declared.Request.{Request}
use Rattle.rules.specs.Call.{is_request}
use Rattle.rules.specs.Frames.{Frame, Ended, Complete, Cut, pair_value, frame_of, next_frame, frame_request}
use Rattle.frames.specs.Reading.{Asks, Waits, Bad}
use Rattle.frames.specs.Reading.{Nothing, Asking, Wrong, beginning, kind_length, some_length, length_field, kind_field, hopeless, framed}
use Rattle.frames.specs.Places.{request_from}
use Rattle.frames.proofs.Requests.{true_false, length_small, length_least, some_least, no_such, request_none, request_is, frame_asks}

-- ---- a frame that is whole, and one that is cut

-- the frame of length n that the bytes after the length hold
abbrev whole_in : ℕ → List ℕ → Frame
whole_in n rest = record { kind = pair_value (take 2 rest); body = take (n - 2) (drop 2 rest) }

small_cut : (n : ℕ) (rest : List ℕ) → n < 2 → frame_of n rest ≡ Cut
unfolding frame_of
small_cut n rest h = rw (frame_of, lt-leb 2 n h)

long_cut : (n : ℕ) (rest : List ℕ) → 2 ≤ n → length rest < n → frame_of n rest ≡ Cut
unfolding frame_of
long_cut n rest h l = rw (frame_of, le-leb 2 n h, lt-leb n (length rest) l)

is_whole : (n : ℕ) (rest : List ℕ) → 2 ≤ n → n ≤ length rest → frame_of n rest ≡ Complete (whole_in n rest) (drop n rest)
unfolding frame_of
is_whole n rest h l = rw (frame_of, le-leb 2 n h, le-leb n (length rest) l)

whole_more : (n : ℕ) (rest later : List ℕ) → 2 ≤ n → n ≤ length rest → frame_of n (rest ++ later) ≡ Complete (whole_in n rest) (drop n rest ++ later)
whole_more n rest later h l =
    let a = length-append rest later in
    let d = length-drop 2 rest in
    rw (
      is_whole n (rest ++ later) h (omega arith),
      take-append-le 2 rest later (omega arith),
      drop-append-le 2 rest later (omega arith),
      take-append-le (n - 2) (drop 2 rest) later (omega arith),
      drop-append-le n rest later l,
    )

next_of : (b c : ℕ) (rest : List ℕ) → next_frame (b ∷ c ∷ rest) ≡ frame_of (pair_value (b ∷ c ∷ [])) rest
unfolding next_frame
next_of b c rest = refl

module _ (bs : List ℕ) where
  pub begun_cut : next_frame bs ≡ Cut → beginning bs ≡ Wrong
  unfolding beginning
  begun_cut e = rw (beginning, e)

  pub begun_end : next_frame bs ≡ Ended → beginning bs ≡ Nothing
  unfolding beginning
  begun_end e = rw (beginning, e)

  pub begun_no : (f : Frame) (after : List ℕ) → next_frame bs ≡ Complete f after → frame_request f ≡ None → beginning bs ≡ Wrong
  unfolding beginning
  begun_no f after e r = rw (beginning, e, r)

  pub begun_yes : (f : Frame) (after : List ℕ) (q : Request) → next_frame bs ≡ Complete f after → frame_request f ≡ Some q → beginning bs ≡ Asking q after
  unfolding beginning
  begun_yes f after q e r = rw (beginning, e, r)

pub begun_none : beginning [] ≡ Nothing
unfolding beginning next_frame
begun_none = refl

begun_one : (b : ℕ) → beginning (b ∷ []) ≡ Wrong
unfolding beginning next_frame
begun_one b = refl

nothing_asking : {q : Request} {l : List ℕ} → Nothing ≡ Asking q l → ⊥
nothing_asking e = let z : ◌≡◌ {A = ℕ} 0 1 = cc in omega arith

nothing_wrong : Nothing ≡ Wrong → ⊥
nothing_wrong e = let z : ◌≡◌ {A = ℕ} 0 1 = cc in omega arith

wrong_asking : {q : Request} {l : List ℕ} → Wrong ≡ Asking q l → ⊥
wrong_asking e = let z : ◌≡◌ {A = ℕ} 0 1 = cc in omega arith

-- the length is that of the kind, and so many bytes are here
pub record FullFrame (bs : List ℕ) : Type 0 where
  pub kind : kind_length (kind_field bs) ≡ length_field bs
  pub some : 0 < length_field bs
  pub here : 2 + length_field bs ≤ length bs

pub begun_wrong : (bs : List ℕ) → 2 ≤ length bs → (FullFrame bs → ⊥) → beginning bs ≡ Wrong
begun_wrong [] h no_way = absurd (omega arith)
begun_wrong (b ∷ []) h no_way = begun_one b
begun_wrong (b ∷ c ∷ rest) h no_way = go (dec_le 2 n) (dec_le n (length rest))
  where
    n : ℕ
    n = pair_value (b ∷ c ∷ [])

    go : Dec (2 ≤ n) → Dec (n ≤ length rest) → beginning (b ∷ c ∷ rest) ≡ Wrong
    go (no l) m = begun_cut (b ∷ c ∷ rest) (next_of b c rest ∙ small_cut n rest (omega arith))
    go (yes l) (no m) = begun_cut (b ∷ c ∷ rest) (next_of b c rest ∙ long_cut n rest l (omega arith))
    go (yes l) (yes m) =
        let d = length-drop 2 rest in
        let t = length-take-le (n - 2) (drop 2 rest) (omega arith) in
        begun_no (b ∷ c ∷ rest) (whole_in n rest) (drop n rest) (next_of b c rest ∙ is_whole n rest l m)
        (request_none (whole_in n rest) (λ e. no_way (record { kind = e ∙ omega arith; some = omega arith; here = omega arith })))

pub begun_asks : (bs : List ℕ) → FullFrame bs → beginning bs ≡ Asking (request_from (kind_field bs) bs) (drop (2 + length_field bs) bs)
begun_asks [] f = absurd (omega (arith, f.here))
begun_asks (b ∷ []) f = absurd (omega (arith, f.here, f.some))
begun_asks (b ∷ c ∷ rest) f =
    let n = pair_value (b ∷ c ∷ []) in
    let k = pair_value (take 2 rest) in
    let l = length_least k (omega (arith, f.kind, f.some)) in
    let m : 2 ≤ n = omega (arith, f.kind) in
    let e : 2 + n ≡ suc (suc n) = omega arith in
    rw e (begun_yes (b ∷ c ∷ rest) (whole_in n rest) (drop n rest) (request_from k (b ∷ c ∷ rest))
    (next_of b c rest ∙ is_whole n rest m (omega (arith, f.here))) (request_is k n (b ∷ c ∷ rest) f.kind f.some f.here))

-- ---- what is read

module _ (bs : List ℕ) where
  pub framed_nothing : beginning bs ≡ Nothing → framed bs ≡ Waits
  unfolding framed
  framed_nothing e = rw (framed, e)

  pub framed_asking : (q : Request) (after : List ℕ) → beginning bs ≡ Asking q after → framed bs ≡ Asks q (length bs - length after)
  unfolding framed
  framed_asking q after e = rw (framed, e)

  pub framed_bad : beginning bs ≡ Wrong → hopeless bs ≡ true → framed bs ≡ Bad
  unfolding framed
  framed_bad e h = rw (framed, e, h)

  pub framed_waits : beginning bs ≡ Wrong → hopeless bs ≡ false → framed bs ≡ Waits
  unfolding framed
  framed_waits e h = rw (framed, e, h)

  hope_few : length bs < 2 → hopeless bs ≡ false
  unfolding hopeless
  hope_few h = rw (hopeless, lt-leb 2 (length bs) h, lt-leb 4 (length bs) (omega arith))

  no_hope_length : 2 ≤ length bs → some_length (length_field bs) ≡ false → hopeless bs ≡ true
  unfolding hopeless
  no_hope_length h s = rw (hopeless, le-leb 2 (length bs) h, s)

  hope_length : 2 ≤ length bs → length bs < 4 → some_length (length_field bs) ≡ true → hopeless bs ≡ false
  unfolding hopeless
  hope_length h l s = rw (hopeless, le-leb 2 (length bs) h, lt-leb 4 (length bs) l, s)

  no_hope_kind : 4 ≤ length bs → some_length (length_field bs) ≡ true → (kind_length (kind_field bs) ≡ length_field bs → ⊥) → hopeless bs ≡ true
  unfolding hopeless
  no_hope_kind h s k = rw (hopeless, le-leb 2 (length bs) (omega arith), le-leb 4 (length bs) h, s, ne_eqb (kind_length (kind_field bs)) (length_field bs) k)

  hope_kind : 4 ≤ length bs → some_length (length_field bs) ≡ true → kind_length (kind_field bs) ≡ length_field bs → hopeless bs ≡ false
  unfolding hopeless
  hope_kind h s k = rw (hopeless, le-leb 2 (length bs) (omega arith), le-leb 4 (length bs) h, s, eq-eqb (kind_length (kind_field bs)) (length_field bs) k)

  -- ---- .. at each place where the code decides

  pub waits_few : length bs < 2 → framed bs ≡ Waits
  waits_few h = go bs refl
    where
      go : (l : List ℕ) → bs ≡ l → framed bs ≡ Waits
      go [] e = framed_nothing (ap beginning e ∙ begun_none)
      go (b ∷ []) e = framed_waits (ap beginning e ∙ begun_one b) (hope_few h)
      go (b ∷ c ∷ r) e = let m = ap length e in absurd (omega arith)

  pub bad_field : 2 ≤ length bs → some_length (length_field bs) ≡ false → framed bs ≡ Bad
  bad_field h s =
      framed_bad (begun_wrong bs h (λ f. no_such (length_field bs) (kind_field bs)
      (omega (arith, f.kind, length_least (kind_field bs) (omega (arith, f.kind, f.some)))) s f.kind)) (no_hope_length h s)

  pub waits_kind : 2 ≤ length bs → length bs < 4 → some_length (length_field bs) ≡ true → framed bs ≡ Waits
  waits_kind h l s =
      framed_waits (begun_wrong bs h (λ f. omega (arith, f.here, some_least (length_field bs) s))) (hope_length h l s)

  pub bad_kind : 4 ≤ length bs → some_length (length_field bs) ≡ true → (kind_length (kind_field bs) ≡ length_field bs → ⊥) → framed bs ≡ Bad
  bad_kind h s k = framed_bad (begun_wrong bs (omega arith) (λ f. k f.kind)) (no_hope_kind h s k)

  pub waits_words : 4 ≤ length bs → some_length (length_field bs) ≡ true → kind_length (kind_field bs) ≡ length_field bs
      → length bs < 2 + length_field bs → framed bs ≡ Waits
  waits_words h s k l = framed_waits (begun_wrong bs (omega arith) (λ f. omega (arith, f.here))) (hope_kind h s k)

  pub asks_all : some_length (length_field bs) ≡ true → kind_length (kind_field bs) ≡ length_field bs → 2 + length_field bs ≤ length bs
      → framed bs ≡ Asks (request_from (kind_field bs) bs) (2 + length_field bs)
  asks_all s k h =
      let m = some_least (length_field bs) s in
      let d = length-drop (2 + length_field bs) bs in
      framed_asking (request_from (kind_field bs) bs) (drop (2 + length_field bs) bs) (begun_asks bs (record { kind = k; some = omega arith; here = h }))
      ∙ ap (λ (n : ℕ). Asks (request_from (kind_field bs) bs) n) (omega arith)

-- ---- it stays so, whatever comes after

-- the bytes begin with a whole frame of length n that asks q
record AskedFor (bs : List ℕ) (q : Request) (after : List ℕ) : Type 0 where
  b : ℕ
  c : ℕ
  rest : List ℕ
  bytes : bs ≡ b ∷ c ∷ rest
  least : 2 ≤ pair_value (b ∷ c ∷ [])
  here : pair_value (b ∷ c ∷ []) ≤ length rest
  asks : frame_request (whole_in (pair_value (b ∷ c ∷ [])) rest) ≡ Some q
  left : after ≡ drop (pair_value (b ∷ c ∷ [])) rest

asked_by_lem : (bs : List ℕ) (q : Request) (after : List ℕ) → beginning bs ≡ Asking q after → AskedFor bs q after
asked_by_lem [] q after e = absurd (nothing_asking (sym begun_none ∙ e))
asked_by_lem (b ∷ []) q after e = absurd (wrong_asking (sym (begun_one b) ∙ e))
asked_by_lem (b ∷ c ∷ rest) q after e = go (dec_le 2 n) (dec_le n (length rest)) (frame_request (whole_in n rest)) refl
  where
    n : ℕ
    n = pair_value (b ∷ c ∷ [])

    go : Dec (2 ≤ n) → Dec (n ≤ length rest) → (f : Option Request) → frame_request (whole_in n rest) ≡ f → AskedFor (b ∷ c ∷ rest) q after
    go (no l) m f r = absurd (wrong_asking (sym (begun_cut (b ∷ c ∷ rest) (next_of b c rest ∙ small_cut n rest (omega arith))) ∙ e))
    go (yes l) (no m) f r = absurd (wrong_asking (sym (begun_cut (b ∷ c ∷ rest) (next_of b c rest ∙ long_cut n rest l (omega arith))) ∙ e))
    go (yes l) (yes m) None r =
        absurd (wrong_asking (sym (begun_no (b ∷ c ∷ rest) (whole_in n rest) (drop n rest) (next_of b c rest ∙ is_whole n rest l m) r) ∙ e))
    go (yes l) (yes m) (Some p) r =
        let s = sym (begun_yes (b ∷ c ∷ rest) (whole_in n rest) (drop n rest) p (next_of b c rest ∙ is_whole n rest l m) r) ∙ e in
        let x : p ≡ q = cc in
        let y : drop n rest ≡ after = cc in
        record { b = b; c = c; rest = rest; bytes = refl; least = l; here = m; asks = r ∙ ap Some x; left = sym y }

-- only no bytes begin with nothing
pub nothing_empty : (bs : List ℕ) → beginning bs ≡ Nothing → bs ≡ []
nothing_empty [] e = refl
nothing_empty (b ∷ []) e = absurd (nothing_wrong (sym e ∙ begun_one b))
nothing_empty (b ∷ c ∷ rest) e = go (dec_le 2 n) (dec_le n (length rest)) (frame_request (whole_in n rest)) refl
  where
    n : ℕ
    n = pair_value (b ∷ c ∷ [])

    go : Dec (2 ≤ n) → Dec (n ≤ length rest) → (f : Option Request) → frame_request (whole_in n rest) ≡ f → b ∷ c ∷ rest ≡ []
    go (no l) m f r = absurd (nothing_wrong (sym e ∙ begun_cut (b ∷ c ∷ rest) (next_of b c rest ∙ small_cut n rest (omega arith))))
    go (yes l) (no m) f r = absurd (nothing_wrong (sym e ∙ begun_cut (b ∷ c ∷ rest) (next_of b c rest ∙ long_cut n rest l (omega arith))))
    go (yes l) (yes m) None r =
        absurd (nothing_wrong (sym e ∙ begun_no (b ∷ c ∷ rest) (whole_in n rest) (drop n rest) (next_of b c rest ∙ is_whole n rest l m) r))
    go (yes l) (yes m) (Some p) r =
        absurd (nothing_asking (sym e ∙ begun_yes (b ∷ c ∷ rest) (whole_in n rest) (drop n rest) p (next_of b c rest ∙ is_whole n rest l m) r))

-- what is asked is a request
pub asking_request : (bs : List ℕ) (q : Request) (after : List ℕ) → beginning bs ≡ Asking q after → is_request q ≡ true
asking_request bs q after e =
    let a = asked_by_lem bs q after e in
    frame_asks (whole_in (pair_value (a.b ∷ a.c ∷ [])) a.rest) q a.asks

-- a request that is here stays the same, with more after it
pub asking_more : (bs later : List ℕ) (q : Request) (after : List ℕ) → beginning bs ≡ Asking q after → beginning (bs ++ later) ≡ Asking q (after ++ later)
asking_more bs later q after e =
    let a = asked_by_lem bs q after e in
    let n = pair_value (a.b ∷ a.c ∷ []) in
    ap (λ (l : List ℕ). beginning (l ++ later)) a.bytes
    ∙ begun_yes (a.b ∷ a.c ∷ (a.rest ++ later)) (whole_in n a.rest) (drop n a.rest ++ later) q
    (next_of a.b a.c (a.rest ++ later) ∙ whole_more n a.rest later a.least a.here) a.asks
    ∙ ap (λ (l : List ℕ). Asking q (l ++ later)) (sym a.left)

-- a frame has bytes of its own, and what is after it are the bytes less those
pub after_less : (bs : List ℕ) (q : Request) (after : List ℕ) → beginning bs ≡ Asking q after → length after < length bs
after_less bs q after e =
    let a = asked_by_lem bs q after e in
    let n = pair_value (a.b ∷ a.c ∷ []) in
    omega (arith, ap length a.bytes, ap length a.left, length-drop n a.rest)

pub after_is : (bs : List ℕ) (q : Request) (after : List ℕ) → beginning bs ≡ Asking q after → after ≡ drop (length bs - length after) bs
after_is bs q after e =
    let a = asked_by_lem bs q after e in
    let n = pair_value (a.b ∷ a.c ∷ []) in
    let d = length-drop n a.rest in
    let l = ap length a.bytes in
    let m = ap length a.left in
    let k : length bs - length after ≡ suc (suc n) = omega (arith, a.here) in
    a.left ∙ sym (ap (λ (j : ℕ). drop j bs) k ∙ ap (λ (x : List ℕ). drop (suc (suc n)) x) a.bytes)

-- where the fields rule a request out, they do with more after them
pub wrong_more : (bs later : List ℕ) → hopeless bs ≡ true → beginning (bs ++ later) ≡ Wrong
unfolding hopeless
wrong_more bs later h = go (dec_le 2 (length bs)) (dec_le 4 (length bs)) (some_length (length_field bs)) refl (ℕ_discrete (kind_length (kind_field bs)) (length_field bs))
  where
    size : length (bs ++ later) ≡ length bs + length later
    size = length-append bs later

    same_length : 2 ≤ length bs → length_field (bs ++ later) ≡ length_field bs
    same_length l = ap pair_value (take-append-le 2 bs later l)

    same_kind : 4 ≤ length bs → kind_field (bs ++ later) ≡ kind_field bs
    same_kind l =
        let d = length-drop 2 bs in
        ap pair_value (ap (λ (r : List ℕ). take 2 r) (drop-append-le 2 bs later (omega arith)) ∙ take-append-le 2 (drop 2 bs) later (omega arith))

    go : Dec (2 ≤ length bs) → Dec (4 ≤ length bs) → (s : Bool) → some_length (length_field bs) ≡ s → Dec (kind_length (kind_field bs) ≡ length_field bs)
        → beginning (bs ++ later) ≡ Wrong
    go (no l) m s e k = absurd (true_false (sym h ∙ hope_few bs (omega arith)))
    go (yes l) m false e k =
        let f = same_length l in
        begun_wrong (bs ++ later) (omega (arith, size)) (λ w. no_such (length_field (bs ++ later)) (kind_field (bs ++ later))
        (omega (arith, w.kind, length_least (kind_field (bs ++ later)) (omega (arith, w.kind, w.some)))) (ap some_length f ∙ e) w.kind)
    go (yes l) (no m) true e k = absurd (true_false (sym h ∙ hope_length bs l (omega arith) e))
    go (yes l) (yes m) true e (yes k) = absurd (true_false (sym h ∙ hope_kind bs m e k))
    go (yes l) (yes m) true e (no k) =
        let f = same_length l in
        let g = same_kind m in
        begun_wrong (bs ++ later) (omega (arith, size)) (λ w. k (ap kind_length (sym g) ∙ w.kind ∙ f))

-- no frame is longer than 40 bytes, so what waits is shorter
pub waits_short : (bs : List ℕ) → beginning bs ≡ Wrong → hopeless bs ≡ false → length bs < 40
waits_short bs e h = go (dec_le 40 (length bs)) (some_length (length_field bs)) refl (ℕ_discrete (kind_length (kind_field bs)) (length_field bs))
  where
    go : Dec (40 ≤ length bs) → (s : Bool) → some_length (length_field bs) ≡ s → Dec (kind_length (kind_field bs) ≡ length_field bs) → length bs < 40
    go (no l) s q k = omega arith
    go (yes l) false q k = absurd (true_false (sym (no_hope_length bs (omega arith) q) ∙ h))
    go (yes l) true q (no k) = absurd (true_false (sym (no_hope_kind bs (omega arith) q k) ∙ h))
    go (yes l) true q (yes k) =
        let m = length_small (kind_field bs) in
        absurd (wrong_asking (sym e ∙ begun_asks bs (record { kind = k; some = omega (arith, some_least (length_field bs) q); here = omega arith })))
