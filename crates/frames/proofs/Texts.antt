-- What is written after what was written: the two texts stand as one.
use mathlib.Core.Path.{◌≡◌, refl, sym, ap, ◌∙◌, subst}
use mathlib.Core.List.{List, [], ◌∷◌, ◌++◌, append_assoc}
use Prim.Native.Nat.{ℕ, suc, ◌+◌, ◌≤◌}
use native.Mathlib.Omega.{arith}
use lib.ListN.{length, set, take, drop, length-append}
use lib.Seq.{set_out, sets, sets-eq, length-sets, drop-drop}
use Rattle.frames.specs.declared.Lines.{Lines}
use Rattle.frames.specs.Writing.{Wrote, Adds}

module _ {A : Type 0} where
  pub sets_append : (a b l : List A) (i : ℕ) → sets (sets l i a) (i + length a) b ≡ sets l i (a ++ b)
  sets_append [] b l i = let e : i + 0 ≡ i = omega arith in rw e
  sets_append (v ∷ a) b l i = let e : i + suc (length a) ≡ suc i + length a = omega arith in rw e (sets_append a b (set l i v) (suc i))

  -- beyond the end nothing is written
  pub sets_beyond : (vs l : List A) (i : ℕ) → length l ≤ i → sets l i vs ≡ l
  sets_beyond [] l i h = refl
  sets_beyond (v ∷ vs) l i h = rw (set_out l i v h) (sets_beyond vs l (suc i) (omega arith))

pub nothing_wrote : (l : List ℕ) (at : ℕ) → Wrote l at [] l at
nothing_wrote l at = record { place = omega arith; bytes = refl }

pub wrote_byte : (l : List ℕ) (at x : ℕ) → Wrote l at (x ∷ []) (set l at x) (at + 1)
wrote_byte l at x = record { place = refl; bytes = refl }

pub wrote_then : {l a m b o : List ℕ} {at n p : ℕ} → Wrote l at a m n → Wrote m n b o p → Wrote l at (a ++ b) o p
wrote_then {l} {a} {m} {b} {o} {at} {n} {p} v w =
    record {
      place = omega (arith, v.place, w.place, length-append a b);
      bytes = w.bytes ∙ rw (v.bytes, v.place) (sets_append a b l at);
    }

pub wrote_as : {l a b m : List ℕ} {at n : ℕ} → a ≡ b → Wrote l at a m n → Wrote l at b m n
wrote_as {l} {a} {b} {m} {at} {n} e w = subst (λ (t : List ℕ). Wrote l at t m n) e w

-- a buffer keeps its length
pub wrote_length : {l a m : List ℕ} {at n : ℕ} → Wrote l at a m n → length m ≡ length l
wrote_length {l} {a} {m} {at} {n} w = ap length w.bytes ∙ length-sets l at a

-- a text that stands in place of the n bytes from `at` on
pub wrote_part : (l text part : List ℕ) (at n : ℕ) {p : ℕ} → at + length text ≤ length l → n ≡ length text → part ≡ text → p ≡ at + length text
    → Wrote l at text (take at l ++ (part ++ drop n (drop at l))) p
wrote_part l text part at n h e q f =
    record {
      place = f;
      bytes = rw (q, e, drop-drop (length text) at l, sets-eq text l at h)
          (sym (append_assoc (take at l) text (drop (at + length text) l)));
    }

-- ---- in lines

pub adds_none : (x : Lines) → Adds 0 x [] x
adds_none x = record { same = refl; size = refl; wrote = nothing_wrote x.out.now x.at; short = omega arith }

pub adds_then : {m n : ℕ} {x y z : Lines} {s t : List ℕ} → Adds m x s y → Adds n y t z → Adds (m + n) x (s ++ t) z
adds_then a b =
    record {
      same = b.same ∙ a.same;
      size = b.size ∙ a.size;
      wrote = wrote_then a.wrote b.wrote;
      short = omega (arith, a.short, b.short);
    }

pub adds_byte : (x : Lines) (b : ℕ)
    → Adds 1 x (b ∷ []) (record { out = record { ref_ptr = x.out.ref_ptr; ghost_name = x.out.ghost_name; now = set x.out.now x.at b }; at = x.at + 1 })
adds_byte x b =
    let w = wrote_byte x.out.now x.at b in record { same = refl; size = wrote_length w; wrote = w; short = omega arith }

-- .. of so many bytes at most, and another text that is the same
pub adds_as : {m n : ℕ} {x y : Lines} {s t : List ℕ} → m ≤ n → s ≡ t → Adds m x s y → Adds n x t y
adds_as {m} {n} h e a = record { same = a.same; size = a.size; wrote = wrote_as e a.wrote; short = omega (arith, a.short) }
