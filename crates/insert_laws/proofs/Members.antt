-- The two parts of a list have no other members than the list: an entry that is in a part counts there, and so in the whole.
use mathlib.Core.Path.{◌≡◌, refl, ap}
use mathlib.Core.Bool.{Bool, true, false, ◌&&◌}
use mathlib.Core.List.{List}
use Prim.Native.Nat.{ℕ, ◌<◌}
use native.Mathlib.Omega.{arith}
use lib.ListN.{length}
use Rattle.rules.specs.declared.Pointer.{Pointer}
use Rattle.rules.specs.declared.Pointer.TheVariants.{Number, Child}
use Rattle.rules.specs.declared.Entry.{Entry}
use Rattle.rules.specs.Lists.{those, same}
use Rattle.rules.specs.Geometry.{same_rect}
use Rattle.rules.specs.Pool.{same_slot, no_entry}
use Rattle.rules.specs.Lawful.{Parted}
use Rattle.rules_laws.proofs.Bools.{and_both, both_and}
use Rattle.rules_laws.proofs.Places.{Among, at_place}
use Rattle.rules_laws.proofs.Parts.{counted, among_those}
use Rattle.sound_laws.proofs.Same.{same_is, same_rect_lem, same_slot_lem}

-- the same pointer, the same entry
same_pointer : Pointer → Pointer → Bool
same_pointer (Number m a) (Number n b) = same m.0 n.0 && same a.0 b.0
same_pointer (Number m a) (Child t) = false
same_pointer (Child s) (Number n b) = false
same_pointer (Child s) (Child t) = same_slot s t

pointer_to : (x y : Pointer) → same_pointer x y ≡ true → x ≡ y
unfolding same_pointer
pointer_to (Number m a) (Number n b) h =
    let q = and_both (same m.0 n.0) (same a.0 b.0) h in
    let e = (same_is m.0 n.0).0 q.0 in
    let f = (same_is a.0 b.0).0 q.1 in
    λ i. Number (record { 0 = e i }) (record { 0 = f i })
pointer_to (Number m a) (Child t) h = let z : ◌≡◌ {A = ℕ} 0 1 = cc in absurd (omega arith)
pointer_to (Child s) (Number n b) h = let z : ◌≡◌ {A = ℕ} 0 1 = cc in absurd (omega arith)
pointer_to (Child s) (Child t) h = ap Child ((same_slot_lem s t).0 h)

pointer_self : (x : Pointer) → same_pointer x x ≡ true
unfolding same_pointer
pointer_self (Number m a) =
    both_and (same m.0 m.0) (same a.0 a.0) ((same_is m.0 m.0).1 refl) ((same_is a.0 a.0).1 refl)
pointer_self (Child s) = (same_slot_lem s s).1 refl

same_entry : Entry → Entry → Bool
same_entry x y = same_rect x.rect y.rect && same_pointer x.pointer y.pointer

entry_to : (x y : Entry) → same_entry x y ≡ true → x ≡ y
unfolding same_entry
entry_to x y h =
    let q = and_both (same_rect x.rect y.rect) (same_pointer x.pointer y.pointer) h in
    let r = (same_rect_lem x.rect y.rect).0 q.0 in
    let t = pointer_to x.pointer y.pointer q.1 in
    λ i. record { rect = r i; pointer = t i }

entry_self : (x : Entry) → same_entry x x ≡ true
unfolding same_entry
entry_self x =
    both_and (same_rect x.rect x.rect) (same_pointer x.pointer x.pointer)
    ((same_rect_lem x.rect x.rect).1 refl) (pointer_self x.pointer)

-- where it counts it stands
stands : (x : Entry) (xs : List Entry) → 0 < length (those (same_entry x) xs) → Among x xs
stands x xs h =
    let q = (among_those (same_entry x) _ xs).0 (at_place (those (same_entry x) xs) 0 no_entry h) in
    rw (← entry_to x _ q.1) at q.0

module _ {whole one two : List Entry} (h : Parted whole one two) (x : Entry) where
  pub one_among : Among x one → Among x whole
  one_among m = stands x whole (omega (arith, h.each (same_entry x), counted (same_entry x) m (entry_self x)))

  pub two_among : Among x two → Among x whole
  two_among m = stands x whole (omega (arith, h.each (same_entry x), counted (same_entry x) m (entry_self x)))
