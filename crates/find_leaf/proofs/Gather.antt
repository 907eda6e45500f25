-- The places gathered with no branch: each is written after those that count, and counts where the test holds. Those that count, and what
-- the test leaves of the places ahead, are together what it leaves of all.
use mathlib.Core.Path.{◌≡◌, sym, ap, ◌∙◌}
use mathlib.Core.Bool.{Bool, true, false, cond}
use mathlib.Core.List.{List, ◌++◌, append-nil}
use Prim.Native.Nat.{ℕ, ◌+◌, ◌-◌, ◌≤◌, ◌<◌}
use native.Mathlib.Numerals.{add-one}
use native.Mathlib.Omega.{arith}
use lib.ListN.{length, set, take, length-set}
use lib.Seq.{take-suc-set, take-set-le, append_snoc}
use Rattle.rules.specs.Lists.{those, up_from}
use Rattle.rules_laws.proofs.Parts.{those_yes, those_no, those_none}
use Rattle.rules_laws.proofs.Turns.{up_more, up_none}

pub record Gathered (f : ℕ → Bool) (n : ℕ) (places : List ℕ) (count i : ℕ) : Type 0 where
  pub most : n ≤ 8
  pub many : i ≤ n
  pub few : count ≤ i
  pub long : length places ≡ 8
  pub are : take count places ++ those f (up_from i (n - i)) ≡ those f (up_from 0 n)

gather_step : {f : ℕ → Bool} {n : ℕ} {places : List ℕ} {count i : ℕ} → Gathered f n places count i → i < n → (b : Bool) → f i ≡ b
    → Gathered f n (set places count i) (count + cond b 1 0) (i + 1)
gather_step {f} {n} {places} {count} {i} g h b e = record {
  most = g.most;
  many = omega arith;
  few = go b;
  long = length-set places count i ∙ g.long;
  are = are b e;
}
  where
    go : (b : Bool) → count + cond b 1 0 ≤ i + 1
    go true = omega (arith, g.few)
    go false = omega (arith, g.few)

    ahead : List ℕ
    ahead = up_from (i + 1) (n - (i + 1))

    are : (b : Bool) → f i ≡ b → take (count + cond b 1 0) (set places count i) ++ those f ahead ≡ those f (up_from 0 n)
    are true e =
        rw (add-one count, take-suc-set places count i (omega (arith, g.few, g.long, g.most)))
        (append_snoc (take count places) i (those f ahead)
        ∙ ap (λ (xs : List ℕ). take count places ++ xs) (sym (ap (those f) (up_more i n h) ∙ those_yes f i ahead e)) ∙ g.are)
    are false e =
        let z : count + 0 ≡ count = omega arith in
        rw (z, take-set-le count places count i (omega arith))
        (ap (λ (xs : List ℕ). take count places ++ xs) (sym (ap (those f) (up_more i n h) ∙ those_no f i ahead e)) ∙ g.are)

-- .. as the code has it
pub gather_on : {f : ℕ → Bool} {n : ℕ} {places : List ℕ} {count i : ℕ} → Gathered f n places count i → i < n → (b : Bool) → b ≡ f i
    → (m : ℕ) → m ≡ cond b 1 0 → Gathered f n (set places count i) (count + m) (i + 1)
gather_on g h b e m q = rw q (gather_step g h b (sym e))

pub gather_first : (f : ℕ → Bool) (n : ℕ) (places : List ℕ) → length places ≡ 8 → n ≤ 8 → Gathered f n places 0 0
gather_first f n places l h =
    let e : n - 0 ≡ n = omega arith in
    record { most = h; many = omega arith; few = omega arith; long = l; are = ap (λ (k : ℕ). those f (up_from 0 k)) e }

pub gathered_all : {f : ℕ → Bool} {n : ℕ} {places : List ℕ} {count i : ℕ} → Gathered f n places count i → n ≤ i
    → take count places ≡ those f (up_from 0 n)
gathered_all {f} {n} {places} {count} {i} g h =
    sym (append-nil (take count places))
    ∙ ap (λ (xs : List ℕ). take count places ++ xs) (sym (ap (those f) (up_none i n h) ∙ those_none f)) ∙ g.are
