-- What a call of the reader or the writer moved, by its answer; and how much of the output is taken.
use mathlib.Core.Path.{◌≡◌, refl, sym, ap, subst, ◌∙◌}
use mathlib.Core.List.{List, [], ◌++◌, append_assoc, append-nil}
use mathlib.Core.Bool.{Bool, true, false, cond}
use mathlib.Core.Logic.{◌⊎◌, inl, inr}
use Prim.Native.Nat.{ℕ, zero, suc, ◌+◌, ◌-◌, ◌≤◌}
use native.Mathlib.Omega.{arith}
use lib.ListN.{length, take, drop, length-drop}
use lib.Seq.{length-take-le, take-take, take-add}
use Rattle.std.specs.Prelude.{Option, None, Some, Result, Ok, Err, IfOk, MatchResult, IsErrAnd}
use Rattle.std.specs.Io.KnownBytes.{Keeps, Appends, Consumes, WriteAppends, ReadConsumes}
use Rattle.std.specs.declared.io.Error.{Error}
use Rattle.std.specs.declared.io.ErrorKind.{ErrorKind}
use Rattle.std.specs.declared.io.ErrorKind.TheVariants.{Interrupted, WouldBlock}
use Rattle.program.specs.Moving.{Known, passing, again, moved_by, bytes_of, sent_by, part_of, Sends, Taken, none, more, Stuck, refused, tired, Stops}

-- ---- an error

abbrev pub Passes : ErrorKind → Type 0
Passes k = k ≡ Interrupted ⊎ k ≡ WouldBlock

pub passing_so : (k : ErrorKind) → Passes k → true ≡ passing k
passing_so k (inl e) = sym (ap passing e)
passing_so k (inr e) = sym (ap passing e)

pub passing_not : (k : ErrorKind) → (k ≡ Interrupted → ⊥) → (k ≡ WouldBlock → ⊥) → false ≡ passing k
passing_not Interrupted n m = absurd (n refl)
passing_not WouldBlock n m = absurd (m refl)
passing_not k n m = refl

-- ---- a `Result` whose error was mapped

pub ok_within : {T D E : Type 0} (P : D → E → Type 0) (r : Result T D) (m : Result T E) {x : T}
    → MatchResult r (λ y. m ≡ Ok y) (λ d. IsErrAnd m (P d)) → m ≡ Ok x → r ≡ Ok x
ok_within P (Ok y) m h e = cc
ok_within P (Err d) (Ok y) h e = absurd h
ok_within P (Err d) (Err y) h e = cc

pub err_within : {T D E : Type 0} (P : D → E → Type 0) (r : Result T D) (m : Result T E) {x : E}
    → MatchResult r (λ y. m ≡ Ok y) (λ d. IsErrAnd m (P d)) → m ≡ Err x → (d : D) × (r ≡ Err d) × P d x
err_within P (Ok y) m h e = cc
err_within P (Err d) (Ok y) h e = absurd h
err_within P (Err d) (Err y) {x} h e = let same : y ≡ x = cc in (d, refl, subst (P d) same h)

-- ---- no more bytes are moved than were handed over

refused_none : (error : Error) (b : Bool) → bytes_of (cond b (Ok None) (Err error)) ≡ 0
refused_none error true = refl
refused_none error false = refl

pub few : (n : ℕ) (answer : Result ℕ Error) → IfOk answer (λ k. k ≤ n) → bytes_of (moved_by answer) ≤ n
unfolding moved_by
few n (Ok k) h = h
few n (Err error) h = omega (arith, refused_none error (again error))

-- ---- bytes that are known

pub appends_none : (a : Known) → Appends a a []
appends_none None = tt
appends_none (Some xs) = sym (append-nil xs)

pub consumes_none : (a : Known) → Consumes a a []
consumes_none None = tt
consumes_none (Some xs) = refl

kept_appends : (a b : Known) → Keeps a b → Appends a b []
kept_appends None b h = tt
kept_appends (Some xs) None h = h
kept_appends (Some xs) (Some ys) h = h ∙ sym (append-nil xs)

kept_consumes : (a b : Known) → Keeps a b → Consumes a b []
kept_consumes None b h = tt
kept_consumes (Some xs) None h = h
kept_consumes (Some xs) (Some ys) h = sym h

pub appends_both : (a b c : Known) (x y : List ℕ) → Appends a b x → Appends b c y → Appends a c (x ++ y)
appends_both None b c x y h k = tt
appends_both (Some xs) None c x y h k = absurd h
appends_both (Some xs) (Some ys) None x y h k = k
appends_both (Some xs) (Some ys) (Some zs) x y h k = k ∙ ap (λ (l : List ℕ). l ++ y) h ∙ append_assoc xs x y

pub consumes_both : (a b c : Known) (x y : List ℕ) → Consumes a b x → Consumes b c y → Consumes a c (x ++ y)
consumes_both None b c x y h k = tt
consumes_both (Some xs) None c x y h k = absurd h
consumes_both (Some xs) (Some ys) None x y h k = k
consumes_both (Some xs) (Some ys) (Some zs) x y h k = h ∙ ap (λ (l : List ℕ). x ++ l) k ∙ sym (append_assoc x y zs)

-- a call appends or takes the bytes that it moved
pub moved_appends : (a b : Known) (answer : Result ℕ Error) (buf : List ℕ) → WriteAppends a b answer buf → Appends a b (take (bytes_of (moved_by answer)) buf)
unfolding moved_by
moved_appends a b (Ok n) buf h = h
moved_appends a b (Err error) buf h =
    subst (λ (n : ℕ). Appends a b (take n buf)) (sym (refused_none error (again error))) (kept_appends a b h)

pub moved_consumes : (a b : Known) (answer : Result ℕ Error) (buf : List ℕ) → ReadConsumes a b answer buf → Consumes a b (take (bytes_of (moved_by answer)) buf)
unfolding moved_by
moved_consumes a b (Ok n) buf h = h.0
moved_consumes a b (Err error) buf h =
    subst (λ (n : ℕ). Consumes a b (take n buf)) (sym (refused_none error (again error))) (kept_consumes a b h)

-- ---- what is taken of the output

-- where a write goes on
next_place : (sent next : ℕ) (m : Result (Option ℕ) Error) → Ok next ≡ sent_by sent m → next ≡ sent + bytes_of m
unfolding sent_by
next_place sent next (Ok None) e = let n : sent ≡ next = cc e in omega arith
next_place sent next (Ok (Some zero)) e = cc e
next_place sent next (Ok (Some (suc n))) e = cc e
next_place sent next (Err error) e = cc e

pub sent_some : (sent n : ℕ) → (n ≡ 0 → ⊥) → Ok (sent + n) ≡ sent_by sent (Ok (Some n))
unfolding sent_by
sent_some sent zero h = absurd (h refl)
sent_some sent (suc n) h = refl

-- .. and where it failed, no byte was moved
no_place : (sent : ℕ) (error : Option Error) (m : Result (Option ℕ) Error) → Err error ≡ sent_by sent m → bytes_of m ≡ 0
unfolding sent_by
no_place sent error (Ok None) e = refl
no_place sent error (Ok (Some zero)) e = refl
no_place sent error (Ok (Some (suc n))) e = cc e
no_place sent error (Err x) e = refl

stuck_appends : {at held : Known} {out : List ℕ} {n filled : ℕ} {error : Option Error} → Stuck at held out n filled error → Appends at held []
stuck_appends {at} {held} {out} {n} {filled} (refused error s) =
    subst (λ (k : ℕ). Appends at held (take k (part_of out n filled))) (no_place n error (moved_by s.answer) s.is)
    (moved_appends at held s.answer (part_of out n filled) s.wrote)
stuck_appends {at} (tired tries all e) = subst (λ (k : Known). Appends at k []) (sym e) (appends_none at)

module _ {holds : Known} {out : List ℕ} {filled : ℕ} where
  pub taken_within : {n : ℕ} {held : Known} → Taken holds out filled n held → n ≤ filled
  taken_within none = omega arith
  taken_within (more sent next held now t s) =
      omega (arith, taken_within t, few (filled - sent) s.answer s.within, next_place sent next (moved_by s.answer) s.is)

  -- the writer holds what is taken, after what it held
  pub taken_appends : {n : ℕ} {held : Known} → filled ≤ length out → Taken holds out filled n held → Appends holds held (take n out)
  taken_appends h none = appends_none holds
  taken_appends h (more sent next held now t s) =
      let k = bytes_of (moved_by s.answer) in
      let f = few (filled - sent) s.answer s.within in
      let whole : take sent out ++ take k (part_of out sent filled) ≡ take next out =
      ap (λ (l : List ℕ). take sent out ++ l) (take-take k (filled - sent) (drop sent out) f) ∙ sym (take-add sent k out)
      ∙ ap (λ (j : ℕ). take j out) (sym (next_place sent next (moved_by s.answer) s.is)) in
      subst (Appends holds now) whole
      (appends_both holds held now (take sent out) (take k (part_of out sent filled)) (taken_appends h t)
      (moved_appends held now s.answer (part_of out sent filled) s.wrote))

  pub stops_appends : {held : Known} {n : ℕ} {error : Option Error} → filled ≤ length out → Stops holds held out filled n error → Appends holds held (take n out)
  stops_appends {held} {n} h s =
      subst (Appends holds held) (append-nil (take n out))
      (appends_both holds s.at held (take n out) [] (taken_appends h s.taken) (stuck_appends s.stuck))

  pub stops_within : {held : Known} {n : ℕ} {error : Option Error} → Stops holds held out filled n error → n ≤ filled
  stops_within s = taken_within s.taken

-- one write, by what it answered
module _ (sent filled : ℕ) (out : List ℕ) (answer : Result ℕ Error) (k : Result (Option ℕ) Error) (low : sent ≤ filled) (high : filled ≤ length out)
    (h : IfOk answer (λ n. n ≤ length (part_of out sent filled))) (e : k ≡ moved_by answer) where
  part_long : length (part_of out sent filled) ≡ filled - sent
  part_long = let d = length-drop sent out in length-take-le (filled - sent) (drop sent out) (omega arith)

  pub sends_by : {holds held : Known} {r : Result ℕ (Option Error)} → WriteAppends holds held answer (part_of out sent filled) → r ≡ sent_by sent k
      → Sends holds held out sent filled r
  sends_by w is =
      record { answer = answer; within = subst (λ (m : ℕ). IfOk answer (λ n. n ≤ m)) part_long h; is = is ∙ ap (sent_by sent) e; wrote = w }

  pub sends_few : sent + bytes_of k ≤ filled
  sends_few = omega (arith, few _ answer h, ap bytes_of e, part_long)

-- no more is taken after a write that failed
pub stops_by : {holds at held : Known} {out : List ℕ} {sent filled : ℕ} {error : Option Error} {r : Result ℕ (Option Error)} → Taken holds out filled sent at
    → Sends at held out sent filled r → r ≡ Err error → Stops holds held out filled sent error
stops_by {at} {held} {out} {sent} {filled} {error} t s e =
    record { at = at; taken = t; stuck = refused error (subst (Sends at held out sent filled) e s) }
