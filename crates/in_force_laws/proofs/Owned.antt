-- Whose the records of a pool are: each change leaves records of owners that the pool's edition can have, where the one that it brings is so.
use mathlib.Core.Path.{◌≡◌, refl, sym, subst}
use mathlib.Core.Logic.{◌↔◌, ⊎_elim}
use mathlib.Core.Bool.{true}
use mathlib.Core.List.Memᴰ
use mathlib.Core.List.{List, ◌∷◌}
use native.Mathlib.Omega.{arith}
use Rattle.rules.specs.declared.Edition.{Edition}
use Rattle.rules.specs.declared.Edition.TheVariants.{One, Two}
use Rattle.rules.specs.declared.Owner.{Owner}
use Rattle.rules.specs.declared.Rect.{Rect}
use Rattle.rules.specs.declared.Record.{Record}
use Rattle.rules.specs.Lists.{same}
use Rattle.rules.specs.Numbers.{good_number, good_owner}
use Rattle.rules.specs.Owners.{owner_in, owner_sound}
use Rattle.rules.specs.Geometry.{valid}
use Rattle.rules.specs.Pool.{Pool, moved, stored, held}
use Rattle.rules.specs.Sound.{owners_sound}
use Rattle.rules.specs.Insert.{Choice, Done, insert_record}
use Rattle.rules.specs.Lawful.{Lawful}
use Rattle.rules.specs.Delete.{delete_record, update_record}
use Rattle.rules_laws.proofs.Parts.{count_cons}
use Rattle.rules_laws.proofs.Everies.{every_is}
use Rattle.sound_laws.specs.Tree.{Whole}
use Rattle.search_laws.specs.Order.{Alike}
use Rattle.search_laws.proofs.Order.{alike_among, alike_back}
use Rattle.insert_laws.proofs.Whole.{insert_stored}
use Rattle.insert_laws.proofs.Lasting.{insert_edition}
use Rattle.delete_laws.proofs.Held.{held_stored}
use Rattle.delete_laws.proofs.Delete.{delete_stored}
use Rattle.delete_laws.proofs.Update.{update_stored}
use Rattle.delete_laws.proofs.Lasting.{delete_edition, update_edition}
use Rattle.in_force_laws.specs.Shows.{EachOwned, HoldsRecords}

-- whose batch it is, in a pool of either edition
pub owner_in_sound : (e : Edition) (o : Owner) → good_owner o ≡ true → owner_sound e (owner_in e o) ≡ true
unfolding owner_sound owner_in same
owner_in_sound One o h = refl
owner_in_sound Two o h = h

-- the test says so
pub owned_sound : (p : Pool) → (owners_sound p ≡ true) ↔ EachOwned p (stored p)
unfolding owners_sound
owned_sound p = every_is (λ (r : Record). owner_sound p.edition r.owner) (stored p)

-- ---- other records, another pool

pub owned_alike : (p : Pool) {xs ys : List Record} → Alike xs ys → EachOwned p xs → EachOwned p ys
owned_alike p a h r m = h r (alike_among (alike_back a) r m)

pub holds_owners : (p : Pool) (rs : List Record) → HoldsRecords p rs → owners_sound p ≡ true
holds_owners p rs k = (owned_sound p).1 (owned_alike p (alike_back k.alike) k.owners)

pub owned_more : (p : Pool) (r : Record) (rs : List Record) → owner_sound p.edition r.owner ≡ true → EachOwned p rs → EachOwned p (r ∷ rs)
owned_more p r rs s h x m = ⊎_elim (λ e. subst (λ (y : Record). owner_sound p.edition y.owner ≡ true) (sym e) s) (h x) (Memᴰ.cases_cons m)

owned_less : (p : Pool) (r : Record) (rs : List Record) → EachOwned p (r ∷ rs) → EachOwned p rs
owned_less p r rs h x m = h x (Memᴰ.tail m)

owned_in : (p q : Pool) (rs : List Record) → q.edition ≡ p.edition → EachOwned p rs → EachOwned q rs
owned_in p q rs e h x m = subst (λ (d : Edition). owner_sound d x.owner ≡ true) (sym e) (h x m)

-- ---- each kind of change

module _ (c : Choice) (lawful : Lawful c) (p : Pool) (w : Whole p) (h : EachOwned p (stored p)) where
  pub insert_owned : (r : Record) → valid r.rect ≡ true → good_number r.number ≡ true → owner_sound p.edition r.owner ≡ true
      → (q : Pool) → insert_record c p r ≡ Done q → EachOwned q (stored q)
  insert_owned r v n s q d = owned_in p q (stored q) (insert_edition c p q r d) (owned_alike p all (owned_more p r (stored p) s h))
    where
      all : Alike (r ∷ stored p) (stored q)
      all = record { each = λ f. omega (arith, insert_stored c lawful p w r v n q d f, count_cons f r (stored p)) }

  pub delete_owned : (r : Record) → held p r ≡ true → (q : Pool) → delete_record c p r ≡ Done q → EachOwned q (stored q)
  delete_owned r y q d = owned_in p q (stored q) (delete_edition c p q r d) (owned_less p r (stored q) (owned_alike p all h))
    where
      all : Alike (stored p) (r ∷ stored q)
      all = record { each = λ f. omega (arith, delete_stored c lawful p w r q d y f, count_cons f r (stored q)) }

  -- the new pair is of the old one's owner
  pub update_owned : (old : Record) (new : Rect) → held p old ≡ true → valid new ≡ true → (q : Pool) → update_record c p old new ≡ Done q
      → EachOwned q (stored q)
  update_owned old new y v q d =
      owned_in p q (stored q) (update_edition c p q old new d)
      (owned_less p old (stored q) (owned_alike p all (owned_more p (moved old new) (stored p) (h old (held_stored old p y)) h)))
    where
      all : Alike (moved old new ∷ stored p) (old ∷ stored q)
      all = record {
        each = λ f.
            omega (arith, update_stored c p old new lawful w y v q d f, count_cons f (moved old new) (stored p), count_cons f old (stored q));
      }
