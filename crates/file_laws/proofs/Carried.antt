-- The records that a file of a pool has: they ascend, each is stored, and where no pair is held twice they are all that is stored. What is carried
-- of one owner rises, and the owners of an edition are in order.
use mathlib.Core.Path.{◌≡◌, refl, sym, ap, ap₂, subst, ◌∙◌}
use mathlib.Core.Logic.{◌⊎◌, inl, inr, ⊎_elim}
use mathlib.Core.Bool.{Bool, true, not}
use mathlib.Core.List.Memᴰ
use mathlib.Core.List.{List, [], ◌∷◌, map}
use Prim.Native.Nat.{zero, suc, ◌≤◌}
use native.Mathlib.Omega.{arith}
use lib.ListN.{length}
use lib.IntN.{ℤ, pos, negsuc}
use lib.Signed.{le_z, lt_z}
use borrow.Author.Tests.{leb-true}
use Rattle.rules.specs.declared.Edition.{Edition}
use Rattle.rules.specs.declared.Edition.TheVariants.{One, Two}
use Rattle.rules.specs.declared.Owner.{Owner}
use Rattle.rules.specs.declared.Record.{Record}
use Rattle.rules.specs.declared.FoundRecord.{FoundRecord}
use Rattle.rules.specs.Lists.{those, joined, total, same}
use Rattle.rules.specs.Numbers.{good_owner}
use Rattle.rules.specs.Owners.{owner, nobody, owner_sound, owners_of, owned_by, as_found, of_owner}
use Rattle.rules.specs.Geometry.{same_found, same_pair}
use Rattle.rules.specs.Pool.{Pool, stored}
use Rattle.rules.specs.Sound.{owners_sound}
use Rattle.rules.specs.Search.{before, ordered}
use Rattle.rules.specs.File.{before_in_file, carried_of, records_carried}
use Rattle.rules_laws.proofs.Bools.{and_both}
use Rattle.rules_laws.proofs.Orders.{never_both}
use Rattle.rules_laws.proofs.Places.{Among, Ordered, ordered_append, each_among, each_of, map_same}
use Rattle.rules_laws.proofs.Parts.{among_those, those_and, those_every, those_same, those_parted, count_map}
use Rattle.rules_laws.proofs.Joins.{joined_none, joined_more, among_joined, count_joined}
use Rattle.sound_laws.specs.Tree.{Whole}
use Rattle.sound_laws.proofs.Same.{same_is, owned_is, owned_found}
use Rattle.search_laws.specs.Order.{Alike}
use Rattle.search_laws.proofs.Order.{alike_on, alike_map, alike_shown, ordered_sorted, ordered_alike}
use Rattle.search_laws.proofs.Site.{stored_good}
use Rattle.in_force_laws.specs.Shows.{EachOnce, HoldsRecords}
use Rattle.in_force_laws.proofs.Owned.{owned_sound, holds_owners}
use Rattle.file_laws.specs.Ascending.{Rising, Ascending, GoodRecord, Carriable}
use Rattle.file_laws.proofs.Distinct.{distinct_ascending, distinct_among, once_distinct}
use Rattle.file_laws.proofs.InFile.{one_owner, lower_owner, ascending_same}
use Rattle.file_laws.proofs.Numbers.{each_map}

-- ---- the owners of an edition

abbrev OwnersRise : List Owner → Type 0
OwnersRise os = Ordered (λ a b. lt_z a.0 b.0 ≡ true) os

owners_rise : (e : Edition) → OwnersRise (owners_of e)
unfolding owners_of
owners_rise One = (tt, tt)
owners_rise Two = ((refl, tt), (tt, tt))

one_or_two : (z : ℤ) → le_z (pos 1) z ≡ true → le_z z (pos 2) ≡ true → (z ≡ pos 1) ⊎ (z ≡ pos 2)
one_or_two (negsuc n) a b = never_both a refl
one_or_two (pos zero) a b = absurd (omega (arith, leb-true 1 0 a))
one_or_two (pos (suc zero)) a b = inl refl
one_or_two (pos (suc (suc zero))) a b = inr refl
one_or_two (pos (suc (suc (suc n)))) a b = absurd (omega (arith, leb-true (suc (suc (suc n))) 2 b))

-- of the two owners of edition 2, a record is the other's where it is not the one's
other_owner : (r : Record) → owner_sound Two r.owner ≡ true → not (owned_by (owner (pos 1)) r) ≡ owned_by (owner (pos 2)) r
unfolding owner_sound good_owner owned_by
other_owner r h =
    let q = and_both (le_z (pos 1) r.owner.0) (le_z r.owner.0 (pos 2)) h in
    ⊎_elim (λ e. one r.owner.0 e) (λ e. two r.owner.0 e) (one_or_two r.owner.0 q.0 q.1)
  where
    one : (z : ℤ) → z ≡ pos 1 → not (same z (pos 1)) ≡ same z (pos 2)
    one z e = unfold same in rw e

    two : (z : ℤ) → z ≡ pos 2 → not (same z (pos 1)) ≡ same z (pos 2)
    two z e = unfold same in rw e

pub nobody_is : (r : Record) → owner_sound One r.owner ≡ true → r.owner ≡ nobody
unfolding owner_sound
nobody_is r s = λ i. record { 0 = (same_is r.owner.0 (pos 0)).0 s i }

-- records of an edition's owners, by their owners, are all of them
parts_all : (e : Edition) (xs : List Record) → ((r : Record) → Among r xs → owner_sound e r.owner ≡ true) → (q : Record → Bool)
    → total (map (λ o. length (those q (those (owned_by o) xs))) (owners_of e)) ≡ length (those q xs)
unfolding owners_of total
parts_all One xs h q =
    let all = those_every (owned_by nobody) xs (λ r m. (owned_is nobody r).1 (nobody_is r (h r m))) in
    omega (arith, ap (λ (l : List Record). length (those q l)) all)
parts_all Two xs h q =
    let one = owner (pos 1) in
    let others = those_same (λ r. not (owned_by one r)) (owned_by (owner (pos 2))) xs (λ r m. other_owner r (h r m)) in
    omega (arith, (those_parted (owned_by one) xs).each q, ap (λ (l : List Record). length (those q l)) others)

-- ---- one owner's records

-- as they are shown, and back
own_back : (o : Owner) (xs : List Record) → ((r : Record) → Among r xs → r.owner ≡ o) → map (of_owner o) (map as_found xs) ≡ xs
own_back o [] h = refl
own_back o (x ∷ xs) h =
    ap₂ (λ (r : Record) (rs : List Record). r ∷ rs) (owned_found (of_owner o (as_found x)) x (sym (h x (Memᴰ.head refl))) refl)
    (own_back o xs (λ r m. h r (Memᴰ.tail m)))

own_ascending : (o : Owner) (fs : List FoundRecord) → Rising fs → Ascending (map (of_owner o) fs)
own_ascending o [] a = tt
own_ascending o (f ∷ fs) a = (
  each_map (λ g. before f g ≡ true) (λ r. before_in_file (of_owner o f) r ≡ true) (of_owner o) (λ g h. one_owner (of_owner o f) (of_owner o g) refl ∙ h) fs a.0,
  own_ascending o fs a.1,
)

-- ---- those of all owners

module _ (p : Pool) where
  -- what the owner has stored, and what of it is carried
  abbrev own_stored : Owner → List Record
  own_stored o = those (owned_by o) (stored p)

  abbrev shown : Owner → List FoundRecord
  shown o = ordered (map as_found (own_stored o))

  abbrev carried : Owner → List Record
  carried o = map (of_owner o) (carried_of p o)

  pub carried_rising : (o : Owner) → Rising (carried_of p o)
  unfolding carried_of
  carried_rising o = distinct_ascending (shown o) (ordered_sorted (map as_found (own_stored o)))

  carried_owner : (o : Owner) (x : Record) → Among x (carried o) → x.owner ≡ o
  carried_owner o x m = let q = Memᴰ.of_map (of_owner o) (carried_of p o) m in sym (ap (λ (r : Record). r.owner) q.2)

  -- in the file's order
  by_owners : (os : List Owner) → OwnersRise os → Ascending (joined (map carried os))
  by_owners [] a = subst Ascending (sym (joined_none carried)) tt
  by_owners (o ∷ os) a =
      subst Ascending (sym (joined_more carried o os))
      (ordered_append (λ x y. before_in_file x y ≡ true) (carried o) (joined (map carried os)) (own_ascending o (carried_of p o) (carried_rising o)) (by_owners os a.1)
      (each_among _ (carried o) (λ x m. each_among _ (joined (map carried os)) (λ y n. later x m y n))))
    where
      later : (x : Record) → Among x (carried o) → (y : Record) → Among y (joined (map carried os)) → before_in_file x y ≡ true
      later x m y n =
          let q = among_joined carried y os n in
          lower_owner x y (rw (carried_owner o x m, carried_owner q.0 y q.2) (each_of (λ w. lt_z o.0 w.0 ≡ true) a.0 q.1))

  pub carried_ascending : Ascending (records_carried p)
  unfolding records_carried
  carried_ascending = by_owners (owners_of p.edition) (owners_rise p.edition)

  -- each is stored
  carried_stored : (o : Owner) (f : FoundRecord) → Among f (carried_of p o) → Among (of_owner o f) (stored p)
  unfolding carried_of
  carried_stored o f m =
      let n = alike_shown (ordered_alike (map as_found (own_stored o))) f (distinct_among f (shown o) m) in
      let q = Memᴰ.of_map as_found (own_stored o) n in
      let h = (among_those (owned_by o) q.0 (stored p)).0 q.1 in
      subst (λ (x : Record). Among x (stored p)) (owned_found q.0 (of_owner o f) ((owned_is o q.0).0 h.1) q.2) h.0

  pub carried_among : (x : Record) → Among x (records_carried p) → Among x (stored p)
  unfolding records_carried
  carried_among x m =
      let q = among_joined carried x (owners_of p.edition) m in
      let f = Memᴰ.of_map (of_owner q.0) (carried_of p q.0) q.2 in
      subst (λ (y : Record). Among y (stored p)) f.2 (carried_stored q.0 f.0 f.1)

  module _ (h : owners_sound p ≡ true) where
    -- so they may stand in a file
    pub carried_good : Whole p → Carriable p.edition (records_carried p)
    carried_good w = record {
      ascending = carried_ascending;
      good = each_among (GoodRecord p.edition) (records_carried p) (λ x m.
          let n = carried_among x m in
          let g = stored_good p w x n in
          (g.0, g.1, (owned_sound p).0 h x n));
    }

    -- ---- nothing is dropped where no pair is held twice

    module _ (once : EachOnce (stored p)) where
      shown_once : (o : Owner) (f : FoundRecord) → length (those (same_found f) (shown o)) ≤ 1
      unfolding same_pair
      shown_once o f =
          omega (
            arith,
            (ordered_alike (map as_found (own_stored o))).each (same_found f),
            count_map as_found (same_found f) (own_stored o),
            ap length (those_and (owned_by o) (λ r. same_found f (as_found r)) (stored p)),
            once (of_owner o f),
          )

      pub carried_own : (o : Owner) → carried_of p o ≡ ordered (map as_found (those (owned_by o) (stored p)))
      unfolding carried_of
      carried_own o = once_distinct (shown o) (shown_once o)

      own_alike : (o : Owner) → Alike (carried o) (own_stored o)
      own_alike o =
          let back = own_back o (own_stored o) (λ r m. (owned_is o r).0 ((among_those (owned_by o) r (stored p)).0 m).1) in
          rw (carried_own o) (subst (Alike (map (of_owner o) (shown o))) back (alike_map (of_owner o) (ordered_alike (map as_found (own_stored o)))))

      pub carried_alike : Alike (records_carried p) (stored p)
      unfolding records_carried
      carried_alike = record {
        each = λ q.
            count_joined carried q (owners_of p.edition)
            ∙ ap total (map_same (λ o. length (those q (carried o))) (λ o. length (those q (own_stored o))) (owners_of p.edition) (λ o m. (own_alike o).each q))
            ∙ parts_all p.edition (stored p) ((owned_sound p).0 h) q;
      }

-- a pool that holds records which ascend carries just these
pub carried_is : (p : Pool) (rs : List Record) → HoldsRecords p rs → Ascending rs → records_carried p ≡ rs
carried_is p rs k a =
    ascending_same (records_carried p) rs (carried_ascending p) a
    (alike_on (carried_alike p (holds_owners p rs k) (λ x. omega (arith, k.once x, k.alike.each (same_pair x)))) k.alike)
