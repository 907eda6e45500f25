-- Slots met one list after the other: what is unmet and marked is so of both lists together.
use mathlib.Core.Path.{◌≡◌, refl, subst, ◌∙◌}
use mathlib.Core.List.{List, [], ◌∷◌, ◌++◌}
use Prim.Native.Nat.{ℕ, ◌+◌, ◌-◌, ◌≤◌}
use native.Mathlib.Decide.{dec_le}
use native.Mathlib.Omega.{arith}
use lib.ListN.{length, set, length-set}
use lib.Seq.{get_or-set_same, get_or-set_other}
use Rattle.rules.specs.declared.SlotNumber.{SlotNumber}
use Rattle.rules.specs.Pool.{same_slot}
use Rattle.rules_laws.proofs.Parts.{count_append}
use Rattle.sound_laws.specs.Tree.{times}
use Rattle.sound_laws.proofs.Times.{slot_discrete, times_none, times_self, times_other}
use Rattle.sound.specs.Walked.{mark_of, Unmet, Marked}

times_append : (t : SlotNumber) (xs ys : List SlotNumber) → times t (xs ++ ys) ≡ times t xs + times t ys
times_append t xs ys = count_append (λ u. same_slot u t) xs ys

pub unmet_none : (seen : List ℕ) → Unmet [] seen
unmet_none seen = record { each = λ t l m. absurd (omega (arith, times_none t)) }

pub marked_none : (seen : List ℕ) → Marked [] seen seen
marked_none seen = record { size = refl; each = λ t l. omega (arith, times_none t) }

module _ (xs ys : List SlotNumber) {a : List ℕ} where
  pub unmet_front : Unmet (xs ++ ys) a → Unmet xs a
  unmet_front h = record { each = λ t l m. omega (arith, h.each t l (omega (arith, times_append t xs ys)), times_append t xs ys) }

  module _ {b : List ℕ} (f : Marked xs a b) where
    pub unmet_back : Unmet (xs ++ ys) a → Unmet ys b
    unmet_back h = record {
      each = λ t l m. omega (arith, h.each t l (omega (arith, times_append t xs ys)), times_append t xs ys, f.each t l);
    }

    pub unmet_both : Unmet xs a → Unmet ys b → Unmet (xs ++ ys) a
    unmet_both h k = record { each = λ t l m. go t l m (dec_le 1 (times t ys)) }
      where
        go : (t : SlotNumber) → 1 ≤ t.0 → 1 ≤ times t (xs ++ ys) → Dec (1 ≤ times t ys) → mark_of a t + times t (xs ++ ys) ≤ 1
        go t l m (yes n) = omega (arith, k.each t l n, times_append t xs ys, f.each t l)
        go t l m (no n) = omega (arith, h.each t l (omega (arith, times_append t xs ys)), times_append t xs ys)

    pub marked_both : {c : List ℕ} → Marked ys b c → Marked (xs ++ ys) a c
    marked_both g = record { size = g.size ∙ f.size; each = λ t l. omega (arith, times_append t xs ys, f.each t l, g.each t l) }

-- ---- one slot

module _ (s : SlotNumber) (low : 1 ≤ s.0) (a : List ℕ) where
  pub one_unmet : mark_of a s ≡ 0 → Unmet (s ∷ []) a
  one_unmet h = record { each = λ t l m. go t m (slot_discrete s t) }
    where
      go : (t : SlotNumber) → 1 ≤ times t (s ∷ []) → Dec (s ≡ t) → mark_of a t + times t (s ∷ []) ≤ 1
      go t m (yes e) = subst (λ (u : SlotNumber). mark_of a u + times u (s ∷ []) ≤ 1) e (omega (arith, h, times_self s))
      go t m (no n) = absurd (omega (arith, times_other t s n))

  pub unmet_one : Unmet (s ∷ []) a → mark_of a s ≡ 0
  unmet_one h = omega (arith, h.each s low (omega (arith, times_self s)), times_self s)

  pub one_marked : s.0 ≤ length a → mark_of a s ≡ 0 → Marked (s ∷ []) a (set a (s.0 - 1) 1)
  one_marked high h = record { size = length-set a (s.0 - 1) 1; each = λ t l. go t l (slot_discrete s t) }
    where
      sum : {m n : ℕ} → m ≡ 0 → n ≡ 1 → 1 ≡ m + n
      sum p q = omega arith

      same : {t : ℕ} → 1 ≤ t → t - 1 ≡ s.0 - 1 → s.0 ≡ t
      same l e = omega arith

      go : (t : SlotNumber) → 1 ≤ t.0 → Dec (s ≡ t) → mark_of (set a (s.0 - 1) 1) t ≡ mark_of a t + times t (s ∷ [])
      go t l (yes e) = subst (λ (u : SlotNumber). mark_of (set a (s.0 - 1) 1) u ≡ mark_of a u + times u (s ∷ [])) e
          (get_or-set_same a (s.0 - 1) 1 0 (omega arith) ∙ sum h (times_self s))
      go t l (no n) =
          get_or-set_other a (s.0 - 1) (t.0 - 1) 1 0 (λ e. n (λ i. record { 0 = same l e i })) ∙ omega (arith, times_other t s n)
