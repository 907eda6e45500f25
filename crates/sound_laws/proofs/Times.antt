-- How often slots occur in a list. A sum over a list is made of what each slot adds, as often as it occurs there: so it suffices to know
-- how often each occurs.
use mathlib.Core.Path.{◌≡◌, refl, sym, ap}
use mathlib.Core.Logic.{◌≢◌}
use mathlib.Core.Bool.{Bool, true, false}
use mathlib.Core.List.Memᴰ
use mathlib.Core.List.{List, [], ◌∷◌, map}
use Prim.Native.Nat.{ℕ, suc, ◌+◌, ◌≤◌, ◌<◌}
use native.Mathlib.Decide.{dec_le}
use native.Mathlib.Omega.{arith}
use lib.ListN.{length, get_or}
use Rattle.rules.specs.declared.SlotNumber.{SlotNumber}
use Rattle.rules.specs.Lists.{total, without}
use Rattle.rules.specs.Pool.{same_slot}
use Rattle.rules_laws.proofs.Orders.{never_both}
use Rattle.rules_laws.proofs.Places.{Among, place_of_lem}
use Rattle.rules_laws.proofs.Parts.{those_yes, those_no, those_none, count_cons, counted, without_parted}
use Rattle.rules_laws.proofs.Sums.{total_none, total_more, total_without}
use Rattle.sound_laws.specs.Tree.{times}
use Rattle.sound_laws.proofs.Same.{same_slot_lem}

-- the same slot or another
pub slot_discrete : (s t : SlotNumber) → Dec (s ≡ t)
slot_discrete s t = go (same_slot s t) refl
  where
    go : (b : Bool) → same_slot s t ≡ b → Dec (s ≡ t)
    go true e = yes ((same_slot_lem s t).0 e)
    go false e = no (λ h. never_both ((same_slot_lem s t).1 h) e)

another : (s t : SlotNumber) → s ≢ t → same_slot s t ≡ false
another s t n = go (same_slot s t) refl
  where
    go : (b : Bool) → same_slot s t ≡ b → b ≡ false
    go true e = absurd (n ((same_slot_lem s t).0 e))
    go false e = refl

module _ (s : SlotNumber) where
  pub times_none : times s [] ≡ 0
  times_none = rw (those_none (λ t. same_slot t s))

  pub times_more : (t : SlotNumber) (ts : List SlotNumber) → times s (t ∷ ts) ≡ times s (t ∷ []) + times s ts
  times_more t ts = count_cons (λ u. same_slot u s) t ts

  pub times_self : times s (s ∷ []) ≡ 1
  times_self = rw (those_yes (λ t. same_slot t s) s [] ((same_slot_lem s s).1 refl)) (ap suc times_none)

  pub times_other : (t : SlotNumber) → t ≢ s → times s (t ∷ []) ≡ 0
  times_other t n = rw (those_no (λ u. same_slot u s) t [] (another t s n)) times_none

  pub times_one : (t : SlotNumber) → times s (t ∷ []) ≤ 1
  times_one t = go (slot_discrete t s)
    where
      go : Dec (t ≡ s) → times s (t ∷ []) ≤ 1
      go (yes e) = rw e (omega (arith, times_self))
      go (no n) = omega (arith, times_other t n)

  -- it occurs there where it counts
  pub among_times : {ts : List SlotNumber} → Among s ts → 0 < times s ts
  among_times m = counted (λ t. same_slot t s) m ((same_slot_lem s s).1 refl)

  pub times_among : (ts : List SlotNumber) → 0 < times s ts → Among s ts
  times_among [] h = absurd (omega (arith, times_none))
  times_among (t ∷ ts) h = go (slot_discrete t s) (times_among ts)
    where
      go : Dec (t ≡ s) → (0 < times s ts → Among s ts) → Among s (t ∷ ts)
      go (yes e) f = Memᴰ.head (sym e)
      go (no n) f = Memᴰ.tail (f (omega (arith, times_more t ts, times_other t n)))

  pub not_among : (ts : List SlotNumber) → (Among s ts → ⊥) → times s ts ≡ 0
  not_among ts n = go (dec_le 1 (times s ts))
    where
      go : Dec (1 ≤ times s ts) → times s ts ≡ 0
      go (yes h) = absurd (n (times_among ts h))
      go (no h) = omega arith

-- ---- sums

-- where each slot that counts occurs no more often, the sum is no greater
pub total_le : (f : SlotNumber → ℕ) (xs ys : List SlotNumber) → ((s : SlotNumber) → 0 < f s → times s xs ≤ times s ys)
    → total (map f xs) ≤ total (map f ys)
total_le f [] ys h = omega (arith, total_none f)
total_le f (x ∷ xs) ys h = go (dec_le 1 (f x)) (total_le f xs)
  where
    go : Dec (1 ≤ f x) → ((zs : List SlotNumber) → ((s : SlotNumber) → 0 < f s → times s xs ≤ times s zs) → total (map f xs) ≤ total (map f zs))
        → total (map f (x ∷ xs)) ≤ total (map f ys)
    go (no n) k = omega (arith, total_more f x xs, k ys (λ s c. omega (arith, h s c, times_more s x xs)))
    go (yes c) k =
        let q = place_of_lem (times_among x ys (omega (arith, h x c, times_more x x xs, times_self x))) in
        let i = q.0 in
        let e = q.2 x in
        omega (arith, total_more f x xs, total_without f ys i x q.1, ap f e, k (without i ys) (rest i q.1 e))
      where
        rest : (i : ℕ) → i < length ys → get_or ys i x ≡ x → (s : SlotNumber) → 0 < f s → times s xs ≤ times s (without i ys)
        rest i l e s c =
            omega (arith, h s c, times_more s x xs, (without_parted ys i x l).each (λ t. same_slot t s), ap (λ (z : SlotNumber). times s (z ∷ [])) e)

pub total_same : (f : SlotNumber → ℕ) (xs ys : List SlotNumber) → ((s : SlotNumber) → 0 < f s → times s xs ≡ times s ys)
    → total (map f xs) ≡ total (map f ys)
total_same f xs ys h =
    let a = total_le f xs ys (λ s c. omega (arith, h s c)) in
    let b = total_le f ys xs (λ s c. omega (arith, h s c)) in
    omega arith
