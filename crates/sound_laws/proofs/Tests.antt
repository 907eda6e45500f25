-- What the tests of `rules` ask, as types. Each test is a comparison of numbers, or made of such.
use mathlib.Core.Path.{◌≡◌, refl, ap}
use mathlib.Core.Logic.{◌↔◌}
use mathlib.Core.Bool.{Bool, true, false, not, ◌||◌}
use Prim.Native.Nat.{◌≤◌}
use native.Mathlib.Omega.{arith}
use lib.Dec.{leb, eqb}
use lib.ListN.{length}
use borrow.Author.Tests.{leb-true, le-leb, eqb-true, eqb-false, eq-eqb, ne_eqb, not-true}
use Rattle.rules.specs.declared.SlotNumber.{SlotNumber}
use Rattle.rules.specs.declared.Entry.{Entry}
use Rattle.rules.specs.Numbers.{good_number}
use Rattle.rules.specs.Geometry.{valid}
use Rattle.rules.specs.Pool.{Node, Pool, free_node, number_of, is_leaf}
use Rattle.rules.specs.Sound.{is_slot, in_use, is_root, free_empty, leaf_entry_sound}
use Rattle.rules_laws.proofs.Bools.{and_both, both_and}
use Rattle.rules_laws.proofs.Orders.{never_both}
use Rattle.rules_laws.proofs.Places.{nothing}
use Rattle.sound_laws.specs.Tree.{Slot, LeafEntry}
use Rattle.sound_laws.proofs.Same.{same_slot_lem}

-- "unless a, b"
pub unless_is : (a b : Bool) → ((not a || b) ≡ true) ↔ (a ≡ true → b ≡ true)
unless_is true b = (λ h e. h, λ h. h refl)
unless_is false b = (λ h e. never_both e refl, λ h. refl)

pub or_is : (a b : Bool) → ((a || b) ≡ true) ↔ (a ≡ false → b ≡ true)
or_is true b = (λ h e. never_both refl e, λ h. refl)
or_is false b = (λ h e. h, λ h. h refl)

-- ---- of nodes and slots

pub slot_is : (p : Pool) (s : SlotNumber) → (is_slot p s ≡ true) ↔ Slot p s
unfolding is_slot
slot_is p s = (
  λ h. let q = and_both (leb 1 s.0) (leb s.0 (length p.slots)) h in
      record { low = leb-true 1 s.0 q.0; high = leb-true s.0 (length p.slots) q.1 },
  λ h. both_and (leb 1 s.0) (leb s.0 (length p.slots)) (le-leb 1 s.0 h.low) (le-leb s.0 (length p.slots) h.high),
)

pub slot_or_not : (p : Pool) (s : SlotNumber) → Dec (Slot p s)
slot_or_not p s = go (is_slot p s) refl
  where
    go : (b : Bool) → is_slot p s ≡ b → Dec (Slot p s)
    go true e = yes ((slot_is p s).0 e)
    go false e = no (λ h. never_both ((slot_is p s).1 h) e)

pub root_is : (p : Pool) (s : SlotNumber) → (is_root p s ≡ true) ↔ (s ≡ p.root)
unfolding is_root
root_is p s = same_slot_lem s p.root

pub leaf_is : (n : Node) → (is_leaf n ≡ true) ↔ (n.level ≡ 1)
unfolding is_leaf
leaf_is n = (eqb-true n.level 1, eq-eqb n.level 1)

pub used_is : (n : Node) → (in_use n ≡ true) ↔ (1 ≤ n.level)
unfolding in_use
used_is n = (
  λ h. let z = eqb-false n.level 0 (not-true (eqb n.level 0) h) in omega arith,
  λ h. ap not (ne_eqb n.level 0 (λ e. omega arith)),
)

pub unused_is : (n : Node) → (in_use n ≡ false) ↔ (n.level ≡ 0)
unfolding in_use
unused_is n = (λ h. go (eqb n.level 0) refl h, λ h. ap not (eq-eqb n.level 0 h))
  where
    go : (t : Bool) → eqb n.level 0 ≡ t → not t ≡ false → n.level ≡ 0
    go true e k = eqb-true n.level 0 e
    go false e k = never_both refl k

-- a node that is not in use has no entries
pub empty_is : (n : Node) → (free_empty n ≡ true) ↔ (n.level ≡ 0 → n ≡ free_node)
unfolding free_empty
empty_is n = (
  λ h e. let z = nothing n.entries (eqb-true (length n.entries) 0 ((or_is (in_use n) (eqb (length n.entries) 0)).0 h ((unused_is n).1 e))) in
      λ i. record { level = e i; entries = z i },
  λ h. (or_is (in_use n) (eqb (length n.entries) 0)).1
      (λ e. eq-eqb (length n.entries) 0 (ap (λ (m : Node). length m.entries) (h ((unused_is n).0 e)))),
)

pub leaf_entry_is : (e : Entry) → (leaf_entry_sound e ≡ true) ↔ LeafEntry e
unfolding leaf_entry_sound
leaf_entry_is e = (
  λ h. let q = and_both (valid e.rect) (good_number (number_of e)) h in record { rect = q.0; number = q.1 },
  λ h. both_and (valid e.rect) (good_number (number_of e)) h.rect h.number,
)
