-- What the lowest free slot is: a slot of the pool, free, with every slot below in use. A search that starts above slots in use finds it
-- too, and a node put into a slot leaves the other slots as they are.
use mathlib.Core.Path.{◌≡◌, sym, ap, subst⁻¹, ◌∙◌}
use mathlib.Core.Logic.{◌≢◌}
use Prim.Native.Nat.{ℕ, zero, suc, ◌+◌, ◌-◌, ◌≤◌, ◌<◌}
use native.Mathlib.Decide.{dec_le, ℕ_discrete}
use native.Mathlib.Numerals.{add-one}
use native.Mathlib.Omega.{arith}
use lib.ListN.{length, get_or-eq_default}
use borrow.Author.Tests.{ne_eqb}
use Rattle.rules.specs.declared.SlotNumber.{SlotNumber}
use Rattle.std.specs.Prelude.{Some}
use Rattle.rules.specs.Pool.{Node, Pool, slot, free_node, node_at, lowest_free, put_node}
use Rattle.free_slots.specs.Known.{UsedBelow}
use Rattle.sound_laws.specs.Tree.{Slot}
use Rattle.sound_laws.proofs.Frame.{put_same, put_other}
use Rattle.sound_laws.proofs.Free.{lowest_slot, lowest_free_lem, lower_used}
use Rattle.free_slots.proofs.Frees.{lowest_from, lowest_next, lowest_all}

-- past the last slot there is none in use
used_within : (p : Pool) (t : ℕ) → 1 ≤ t → (node_at p (slot t)).level ≢ 0 → t ≤ length p.slots
unfolding node_at
used_within p t l n = go (dec_le t (length p.slots))
  where
    go : Dec (t ≤ length p.slots) → t ≤ length p.slots
    go (yes h) = h
    go (no h) = absurd (n (ap (λ (m : Node). m.level) (get_or-eq_default p.slots free_node {n = t - 1} (omega arith))))

lowest_above : (p : Pool) (s : ℕ) → UsedBelow p (suc s) → lowest_from p (suc s) ≡ lowest_free p
lowest_above p zero u = lowest_all p
lowest_above p (suc s) u =
    let n = u.used (suc s) (omega arith) (omega arith) in
    ap (lowest_from p) (sym (add-one (suc s))) ∙ sym (lowest_next p (suc s) (omega arith) (used_within p (suc s) (omega arith) n) (ne_eqb _ 0 n))
    ∙ lowest_above p s (record { used = λ t a b. u.used t a (omega arith) })

-- a search that starts above slots in use finds what a search of all finds
pub lowest_from_lem : (p : Pool) (s : ℕ) → 1 ≤ s → UsedBelow p s → lowest_from p s ≡ lowest_free p
lowest_from_lem p zero h u = absurd (omega arith)
lowest_from_lem p (suc s) h u = lowest_above p s u

-- ---- what a search tells

pub record LowestAt (p : Pool) (s : SlotNumber) : Type 0 where
  pub slot : Slot p s
  pub free : (node_at p s).level ≡ 0
  pub below : UsedBelow p s.0

pub lowest_at : (p : Pool) (s : SlotNumber) → lowest_free p ≡ Some s → LowestAt p s
lowest_at p s h = record {
  slot = lowest_slot p s h;
  free = lowest_free_lem p s h;
  below = record { used = λ t a b z. omega (arith, lower_used p s h (record { 0 = t }) a b) };
}

-- ---- slots in use

pub used_next : {p : Pool} {s : ℕ} → UsedBelow p s → (node_at p (slot s)).level ≢ 0 → UsedBelow p (s + 1)
used_next {p} {s} u n = record { used = λ t a b. go t a (omega arith) (ℕ_discrete t s) }
  where
    go : (t : ℕ) → 1 ≤ t → t ≤ s → Dec (t ≡ s) → (node_at p (slot t)).level ≢ 0
    go t a b (yes e) = rw e n
    go t a b (no h) = u.used t a (omega arith)

-- a node put into a slot: the slots below k stay in use
pub used_put : (p : Pool) (s : SlotNumber) (n : Node) → Slot p s → (k : ℕ) → UsedBelow p k → (s.0 < k → n.level ≢ 0) → UsedBelow (put_node p s n) k
used_put p s n i k u f = record { used = λ t a b. go t a b (ℕ_discrete t s.0) }
  where
    go : (t : ℕ) → 1 ≤ t → t < k → Dec (t ≡ s.0) → (node_at (put_node p s n) (slot t)).level ≢ 0
    go t a b (yes e) = subst⁻¹ (λ (x : ℕ). (node_at (put_node p s n) (slot x)).level ≢ 0) e (subst⁻¹ (λ (x : Node). x.level ≢ 0) (put_same p s n i) (f (omega arith)))
    go t a b (no h) =
        subst⁻¹ (λ (x : Node). x.level ≢ 0) (put_other p s n (slot t) i.low a (λ e. h (ap (λ (v : SlotNumber). v.0) e))) (u.used t a b)
