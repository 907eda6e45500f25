-- Slots of a pool and of its words. By any slot number a node has at most eight entries: number 0 is read as 1, and beyond the last slot nothing stands.
use mathlib.Core.Path.{◌≡◌, ap}
use mathlib.Core.Bool.{true}
use mathlib.Core.List.{List, []}
use Prim.Native.Nat.{ℕ, ◌-◌, ◌≤◌, ◌<◌}
use native.Mathlib.Omega.{arith}
use native.Mathlib.Decide.{dec_le}
use lib.ListN.{length, get_or, get_or-eq_default}
use lib.IntN.{ℤ}
use borrow.Author.Tests.{leb-true}
use Rattle.rules.specs.declared.SlotNumber.{SlotNumber}
use Rattle.rules.specs.Numbers.{most_slots}
use Rattle.rules.specs.Pool.{Node, Pool, slot, free_node, node_at, entries_at}
use Rattle.rules.specs.Layout.{valid_length, slot_count, read}
use Rattle.rules.specs.Sound.{is_slot}
use Rattle.rules_laws.proofs.Bools.{and_both}
use Rattle.layout_laws.specs.Slots.{InPool}
use Rattle.layout_laws.proofs.Parts.{few_slots, slot_few}
use Rattle.layout_laws.proofs.Written.{read_slots}

-- ---- a slot of the pool is a slot of its words

pub most_slots_lem : (w : List ℤ) → valid_length w ≡ true → length (read w).slots ≤ most_slots
most_slots_lem w r = omega (arith, read_slots w, few_slots w r)

pub within : (w : List ℤ) (s : SlotNumber) → valid_length w ≡ true → 1 ≤ s.0 → s.0 ≤ length (read w).slots → InPool w s
within w s r low high = record { right = r; low = low; high = omega (arith, high, read_slots w) }

pub asked_within : (w : List ℤ) (s : SlotNumber) → valid_length w ≡ true → is_slot (read w) s ≡ true → InPool w s
unfolding is_slot
asked_within w s r e =
    let b = and_both _ _ e in
    within w s r (leb-true 1 s.0 b.0) (leb-true s.0 (length (read w).slots) b.1)

-- ---- any slot number

-- two numbers of one place
same_entries : (p : Pool) (s t : SlotNumber) → s.0 - 1 ≡ t.0 - 1 → entries_at p s ≡ entries_at p t
unfolding entries_at node_at
same_entries p s t e = ap (λ (i : ℕ). (get_or p.slots i free_node).entries) e

none_beyond : (w : List ℤ) (s : SlotNumber) → slot_count w < s.0 → entries_at (read w) s ≡ []
unfolding entries_at node_at
none_beyond w s h = ap (λ (n : Node). n.entries) (get_or-eq_default (read w).slots free_node (omega (arith, read_slots w)))

-- ---- at most eight

few_entries : (w : List ℤ) (s : SlotNumber) → valid_length w ≡ true → 1 ≤ s.0 → length (entries_at (read w) s) ≤ 8
few_entries w s r l = go (dec_le s.0 (slot_count w))
  where
    go : Dec (s.0 ≤ slot_count w) → length (entries_at (read w) s) ≤ 8
    go (yes q) = slot_few (record { right = r; low = l; high = q })
    go (no q) = omega (arith, ap length (none_beyond w s (omega arith)))

pub most_entries : (w : List ℤ) → valid_length w ≡ true → (s : SlotNumber) → length (entries_at (read w) s) ≤ 8
most_entries w r s = go (dec_le 1 s.0)
  where
    go : Dec (1 ≤ s.0) → length (entries_at (read w) s) ≤ 8
    go (yes q) = few_entries w s r q
    go (no q) = rw (same_entries (read w) s (slot 1) (omega arith)) (few_entries w (slot 1) r (omega arith))
