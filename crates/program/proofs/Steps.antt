-- Each way on from a frame keeps what has to hold.
use mathlib.Core.Path.{◌≡◌, sym, ap, subst, ◌∙◌}
use mathlib.Core.List.{List, [], ◌∷◌, ◌++◌, append_assoc}
use Prim.Native.Nat.{ℕ, zero, suc, ◌+◌, ◌-◌, ◌≤◌}
use native.Mathlib.Omega.{arith}
use native.Mathlib.Numerals.{add-one}
use lib.ListN.{length, take, drop, length-drop, length-append}
use lib.Seq.{sets-eq, length-take-le, take_at, drop-drop, take-nil}
use lib.IntN.{ℤ}
use Rattle.rules.specs.declared.Request.{Request}
use Rattle.rules.specs.Frames.{bad_line}
use Rattle.free_slots.specs.declared.FreeSlots.{FreeSlots}
use Rattle.frames.specs.Reading as F
use Rattle.frames.specs.Reading.{framed}
use Rattle.frames.specs.Writing.{Wrote}
use Rattle.frames.specs.Said.{Said, reply_shown}
use Rattle.frames.proofs.Texts.{wrote_length}
use Rattle.frames.proofs.Pieces.{said_asks, said_bad, asks_within}
use Rattle.program.specs.declared.Run.{Run}
use Rattle.program.specs.declared.Then.TheVariants.{Goes, Waits, Full, Ends}
use Rattle.program.specs.Moving.{held_in}
use Rattle.program.specs.Running.{Stands, Comes, Onward, Replies, passed_by}

-- ---- lists

drop_take : (n m : ℕ) (l : List ℕ) → drop n (take (n + m) l) ≡ take m (drop n l)
drop_take zero m l = let e : zero + m ≡ m = omega arith in ap (λ (k : ℕ). take k l) e
drop_take (suc n) m [] = ap (drop (suc n)) (take-nil (suc n + m)) ∙ sym (take-nil m)
drop_take (suc n) m (x ∷ l) =
    let e : suc n + m ≡ suc (n + m) = omega arith in
    ap (λ (k : ℕ). drop (suc n) (take k (x ∷ l))) e ∙ drop_take n m l

-- what is written so far
pub wrote_front : {l t m : List ℕ} {at n : ℕ} → Wrote l at t m n → n ≤ length l → take n m ≡ take at l ++ t
wrote_front {l} {t} {m} {at} {n} w h =
    let p = w.place in
    let k = length-take-le at l (omega arith) in
    ap (take n) (w.bytes ∙ sets-eq t l at (omega arith))
    ∙ take_at (take at l ++ t) (drop (at + length t) l) n (omega (arith, length-append (take at l) t))

-- what is held, less the n bytes of a frame
held_less : (input : List ℕ) (at end n : ℕ) → at ≤ end → n ≤ end - at → drop n (take (end - at) (drop at input)) ≡ take (end - (at + n)) (drop (at + n) input)
held_less input at end n h k =
    let e : end - at ≡ n + (end - (at + n)) = omega arith in
    ap (λ (j : ℕ). drop n (take j (drop at input))) e ∙ drop_take n (end - (at + n)) (drop at input)
    ∙ ap (take (end - (at + n))) (drop-drop n at input)

pub said_as : (arrived : List ℕ) {o o' : List ℕ} {b b' : ℕ} {p p' : List ℤ} {h h' : List ℕ} → o ≡ o' → b ≡ b' → p ≡ p' → h ≡ h' → Said arrived o b p h
    → Said arrived o' b' p' h'
said_as arrived {o} {o'} {b} {b'} {p} {p'} {h} {h'} e f g k s =
    subst (λ (x : List ℕ). Said arrived o' b' p' x) k
    (subst (λ (x : List ℤ). Said arrived o' b' x h) g
    (subst (λ (x : ℕ). Said arrived o' x p h) f (subst (λ (x : List ℕ). Said arrived x b p h) e s)))

-- ---- the ways on

module _ {pool : List ℤ} {input out : List ℕ} {r : Run} (s : Stands pool input out r) where
  same_run : Comes pool input out r pool out r
  same_run = record { stands = s; counted = omega arith; keeps = λ a p c. c }

  pub onward_full : Onward pool input out r pool out (Full r)
  unfolding Onward
  onward_full = same_run

  pub onward_waits : framed (held_in input r) ≡ F.Waits → Onward pool input out r pool out (Waits r)
  unfolding Onward
  onward_waits e = (same_run, e, omega arith)

  held_length : length (held_in input r) ≡ r.end - r.at
  held_length = length-take-le (r.end - r.at) (drop r.at input) (omega (arith, length-drop r.at input, s.low, s.high))

  pub asks_in : (q : Request) (n : ℕ) → framed (held_in input r) ≡ F.Asks q n → r.at + n ≤ r.end
  asks_in q n e = omega (arith, asks_within (held_in input r) q n e, held_length, s.low)

  goes : (q : Request) (n : ℕ) {left : List ℤ} {now : List ℕ} {free : FreeSlots} {filled : ℕ} → framed (held_in input r) ≡ F.Asks q n
      → r.filled + 7124 ≤ length out → Replies pool q r.before out r.filled left now free filled
      → Comes pool input out r left now (passed_by r n free filled)
  goes q n {left} {now} {free} {filled} e room w =
      let k = asks_in q n e in
      let z = wrote_length w.wrote in
      let f = wrote_front w.wrote (omega (arith, w.short)) in
      record {
        stands = record { ready = w.ready; low = k; high = s.high; room = omega (arith, w.short) };
        counted = omega arith;
        keeps = λ a p c. said_as a
            (append_assoc p (take r.filled out) (reply_shown r.before pool q) ∙ ap (λ (l : List ℕ). p ++ l) (sym f)) (sym (add-one r.before)) (sym w.map)
            (held_less input r.at r.end n s.low (omega arith))
            (said_asks a (p ++ take r.filled out) r.before pool (held_in input r) c q n e);
      }

  pub onward_goes : (q : Request) (n : ℕ) (then : Run) {left : List ℤ} {now : List ℕ} → framed (held_in input r) ≡ F.Asks q n
      → r.filled + 7124 ≤ length out → Replies pool q r.before out r.filled left now then.free then.filled
      → then ≡ passed_by r n then.free then.filled → Onward pool input out r left now (Goes then)
  unfolding Onward
  onward_goes q n then {left} {now} e room w is = subst (λ (x : Run). Comes pool input out r left now x) (sym is) (goes q n e room w)

  pub onward_ends : (then : Run) {now : List ℕ} → framed (held_in input r) ≡ F.Bad → then.filled ≤ length out
      → Wrote out r.filled (bad_line (suc r.before)) now then.filled → Onward pool input out r pool now (Ends then)
  unfolding Onward
  onward_ends then {now} e h w =
      let z = wrote_length w in (
        omega arith,
        wrote_front w h,
        λ a p c later. said_bad a (p ++ take r.filled out) r.before pool (held_in input r) c e later
            ∙ append_assoc p (take r.filled out) (bad_line (suc r.before)) ∙ ap (λ (l : List ℕ). p ++ l) (sym (wrote_front w h)),
      )
