-- What is known of the free slots stays true: when the lowest free slot is taken, when a slot becomes free, and when a node is written again.
-- One slot changes each time, so the count changes by that one, and a slot in use below another stays so.
use mathlib.Core.Path.{◌≡◌, sym, ap, subst, subst⁻¹, ◌∙◌}
use mathlib.Core.Logic.{◌≢◌}
use Prim.Native.Nat.{ℕ, ◌≤◌, min}
use native.Mathlib.Numerals.{add-one}
use native.Mathlib.Omega.{arith}
use lib.ListN.{length}
use Rattle.rules.specs.declared.SlotNumber.{SlotNumber}
use Rattle.std.specs.Prelude.{Some}
use Rattle.rules.specs.Pool.{Node, Pool, free_node, node_at, lowest_free, free_count, put_node, put_root, put_records}
use Rattle.free_slots.specs.declared.FreeSlots.{FreeSlots}
use Rattle.free_slots.specs.Known.{UsedBelow, Known, less_slot, more_slot}
use Rattle.sound_laws.specs.Tree.{Slot}
use Rattle.sound_laws.proofs.Frame.{put_length, put_same, put_other}
use Rattle.sound_laws.proofs.Free.{zero_freed, put_used, put_free}
use Rattle.free_slots.proofs.LowestSlot.{LowestAt, lowest_at, used_next, used_put}

module _ (p : Pool) (f : FreeSlots) (k : Known p f) where
  -- the lowest free slot is taken
  pub known_at : (t : SlotNumber) (n : Node) → LowestAt p t → n.level ≢ 0 → Known (put_node p t n) (less_slot f t)
  unfolding less_slot
  known_at t n l d = record {
    many = omega (arith, put_free p t n l.slot (omega (arith, d)) l.free, k.many);
    first = omega arith;
    below =
        subst (UsedBelow (put_node p t n)) (add-one t.0)
        (used_next (used_put p t n l.slot t.0 l.below (λ h. absurd (omega arith)))
        (subst⁻¹ (λ (x : Node). x.level ≢ 0) (put_same p t n l.slot) d));
  }

  pub known_less : (t : SlotNumber) (n : Node) → lowest_free p ≡ Some t → n.level ≢ 0 → Known (put_node p t n) (less_slot f t)
  known_less t n e d = known_at t n (lowest_at p t e) d

  module _ (s : SlotNumber) (low : 1 ≤ s.0) (high : s.0 ≤ length p.slots) (u : (node_at p s).level ≢ 0) where
    here : Slot p s
    here = record { low = low; high = high }

    -- a slot in use becomes free
    pub known_more : Known (put_node p s free_node) (more_slot f s)
    unfolding more_slot
    known_more = record {
      many = omega (arith, zero_freed p s here (omega (arith, u)), k.many);
      first = omega (arith, k.first);
      below = used_put p s free_node here (min f.low.0 s.0) (record { used = λ t a b. k.below.used t a (omega arith) }) (λ h. absurd (omega arith));
    }

    -- a slot in use gets another node
    pub known_put : (n : Node) → n.level ≢ 0 → Known (put_node p s n) f
    known_put n d = record {
      many = omega (arith, put_used p s n here (omega (arith, d)) (omega (arith, u)), k.many);
      first = k.first;
      below = used_put p s n here f.low.0 k.below (λ _. d);
    }

  -- the head's words say nothing of the slots
  pub known_head : (s : SlotNumber) (h : ℕ) → Known (put_root p s h) f
  unfolding put_root node_at free_count
  known_head s h = record { many = k.many; first = k.first; below = record { used = k.below.used } }

  pub known_records : (n : ℕ) → Known (put_records p n) f
  unfolding put_records node_at free_count
  known_records n = record { many = k.many; first = k.first; below = record { used = k.below.used } }

-- a slot in use gets another node, and the lowest free slot is the same
pub lowest_put : (p : Pool) (t s : SlotNumber) (n : Node) → LowestAt p t → Slot p s → (node_at p s).level ≢ 0 → n.level ≢ 0
    → LowestAt (put_node p s n) t
lowest_put p t s n l i u d = record {
  slot = record { low = l.slot.low; high = omega (arith, l.slot.high, put_length p s n) };
  free = ap (λ (m : Node). m.level) (put_other p s n t i.low l.slot.low (λ e. u (ap (λ (v : SlotNumber). (node_at p v).level) (sym e) ∙ l.free))) ∙ l.free;
  below = used_put p s n i t.0 l.below (λ _. d);
}
