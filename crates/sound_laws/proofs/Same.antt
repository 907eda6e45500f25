-- The tests of sameness say that two things are equal: each at most the other is the same number, and a thing is its parts.
use mathlib.Core.Path.{◌≡◌, refl, sym, ap, subst}
use mathlib.Core.Logic.{◌↔◌}
use mathlib.Core.Bool.{true}
use lib.IntN.{ℤ}
use lib.Signed.{le_z}
use borrow.Author.Tests.{eqb-true, eq-eqb}
use Rattle.rules.specs.declared.Rect.{Rect}
use Rattle.rules.specs.declared.SlotNumber.{SlotNumber}
use Rattle.rules.specs.declared.Owner.{Owner}
use Rattle.rules.specs.declared.Record.{Record}
use Rattle.rules.specs.declared.FoundRecord.{FoundRecord}
use Rattle.rules.specs.Lists.{same}
use Rattle.rules.specs.Owners.{owned_by, as_found}
use Rattle.rules.specs.Geometry.{meets, same_rect, same_found, same_pair}
use Rattle.rules.specs.Compare.{compared, is_equal, exact_pair}
use Rattle.rules.specs.Pool.{same_slot}
use Rattle.rules_laws.proofs.Bools.{and_both, both_and}
use Rattle.rules_laws.proofs.Orders.{both_at_most, at_most_self}
use Rattle.rules_laws.proofs.Compares.{equal_same, same_equal}

pub same_is : (a b : ℤ) → (same a b ≡ true) ↔ (a ≡ b)
unfolding same
same_is a b = (
  λ h. let q = and_both (le_z a b) (le_z b a) h in both_at_most a b q.0 q.1,
  λ e. rw e (both_and (le_z b b) (le_z b b) (at_most_self b) (at_most_self b)),
)

pub same_rect_lem : (a b : Rect) → (same_rect a b ≡ true) ↔ (a ≡ b)
unfolding same_rect
same_rect_lem a b = (to, λ e. rw (e, itself b.lowX, itself b.lowY, itself b.highX, itself b.highY))
  where
    itself : (z : ℤ) → same z z ≡ true
    itself z = (same_is z z).1 refl

    to : same_rect a b ≡ true → a ≡ b
    to h =
        let q = and_both _ (same a.highY b.highY) h in
        let r = and_both _ (same a.highX b.highX) q.0 in
        let s = and_both (same a.lowX b.lowX) (same a.lowY b.lowY) r.0 in
        λ i. record {
          lowX = (same_is a.lowX b.lowX).0 s.0 i;
          lowY = (same_is a.lowY b.lowY).0 s.1 i;
          highX = (same_is a.highX b.highX).0 r.1 i;
          highY = (same_is a.highY b.highY).0 q.1 i;
        }

pub same_found_lem : (a b : FoundRecord) → (same_found a b ≡ true) ↔ (a ≡ b)
unfolding same_found
same_found_lem a b = (to, λ e. rw (e, (same_is b.number.0 b.number.0).1 refl, (same_rect_lem b.rect b.rect).1 refl))
  where
    to : same_found a b ≡ true → a ≡ b
    to h =
        let q = and_both (same a.number.0 b.number.0) (same_rect a.rect b.rect) h in
        λ i. record { number = record { 0 = (same_is a.number.0 b.number.0).0 q.0 i }; rect = (same_rect_lem a.rect b.rect).0 q.1 i }

-- whose a record is
pub owned_is : (o : Owner) (r : Record) → (owned_by o r ≡ true) ↔ (r.owner ≡ o)
unfolding owned_by
owned_is o r = (
  λ h. λ i. record { 0 = (same_is r.owner.0 o.0).0 h i },
  λ e. (same_is r.owner.0 o.0).1 (ap (λ (w : Owner). w.0) e),
)

-- a record is its owner and what is shown of it
pub owned_found : (a b : Record) → a.owner ≡ b.owner → as_found a ≡ as_found b → a ≡ b
owned_found a b e f = λ i. record { owner = e i; number = (f i).number; rect = (f i).rect }

pub same_pair_lem : (a b : Record) → (same_pair a b ≡ true) ↔ (a ≡ b)
unfolding same_pair
same_pair_lem a b = (to, λ e. rw (e, (owned_is b.owner b).1 refl, (same_found_lem (as_found b) (as_found b)).1 refl))
  where
    to : same_pair a b ≡ true → a ≡ b
    to h =
        let q = and_both (owned_by a.owner b) (same_found (as_found a) (as_found b)) h in
        owned_found a b (sym ((owned_is a.owner b).0 q.0)) ((same_found_lem (as_found a) (as_found b)).0 q.1)

-- an exact pair by the comparison is the same pair; and a pair is exactly itself, where no low of it is above its high
pub exact_same : (a b : Record) → exact_pair a b ≡ true → a ≡ b
unfolding exact_pair
exact_same a b h =
    let p = and_both _ (owned_by a.owner b) h in
    let q = and_both (same a.number.0 b.number.0) (is_equal (compared a.rect b.rect)) p.0 in
    λ i. record {
      owner = sym ((owned_is a.owner b).0 p.1) i;
      number = record { 0 = (same_is a.number.0 b.number.0).0 q.0 i };
      rect = equal_same a.rect b.rect q.1 i;
    }

pub exact_self : (a b : Record) → meets a.rect a.rect ≡ true → a ≡ b → exact_pair a b ≡ true
exact_self a b m e = subst (λ (x : Record). exact_pair a x ≡ true) e itself
  where
    itself : exact_pair a a ≡ true
    itself = unfold exact_pair in rw ((same_is a.number.0 a.number.0).1 refl, same_equal a.rect m, (owned_is a.owner a).1 refl)

pub same_slot_lem : (s t : SlotNumber) → (same_slot s t ≡ true) ↔ (s ≡ t)
unfolding same_slot
same_slot_lem s t = (λ h. λ i. record { 0 = eqb-true s.0 t.0 h i }, λ e. eq-eqb s.0 t.0 (ap (λ (u : SlotNumber). u.0) e))
