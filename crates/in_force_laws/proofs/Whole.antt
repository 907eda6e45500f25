-- A request of any kind, accepted or refused, leaves a whole pool whole, for every lawful choice: what is refused changes nothing, and insert,
-- delete and update keep a whole pool whole. So it is with the owners of its records, where the request is of one that the pool can have.
use mathlib.Core.Path.{◌≡◌, refl}
use mathlib.Core.Bool.{true}
use Prim.Native.Nat.{ℕ}
use Rattle.rules.specs.declared.Asked.{Asked}
use Rattle.rules.specs.Owners.{owner_sound}
use Rattle.rules.specs.Pool.{Pool, stored}
use Rattle.rules.specs.Sound.{owners_sound}
use Rattle.rules.specs.Insert.{Choice, Change, Done, NoneFree, insert_record}
use Rattle.rules.specs.Lawful.{Lawful}
use Rattle.rules.specs.Delete.{delete_record, update_record}
use Rattle.rules.specs.Request.{Turn, after_change, request}
use Rattle.sound_laws.specs.Tree.{Whole}
use Rattle.insert_laws.proofs.Whole.{insert_whole}
use Rattle.delete_laws.proofs.Delete.{delete_whole}
use Rattle.delete_laws.proofs.Update.{update_whole}
use Rattle.in_force_laws.specs.Force.{asked_by}
use Rattle.in_force_laws.specs.Shows.{EachOwned}
use Rattle.in_force_laws.proofs.Owned.{owned_sound, insert_owned, delete_owned, update_owned}
use Rattle.in_force_laws.proofs.Change.{insert_passed, delete_passed, update_passed, request_cases}

module _ (c : Choice) (lawful : Lawful c) (p : Pool) (w : Whole p) (filled room : ℕ) where
  abbrev LeavesWhole : Turn → Type 0
  LeavesWhole t = Whole t.pool

  after_whole : (o : Change) → ((q : Pool) → o ≡ Done q → Whole q) → LeavesWhole (after_change p o)
  unfolding after_change
  after_whole (Done q) h = h q refl
  after_whole NoneFree h = w

  pub request_whole : (a : Asked) → Whole (request c p filled room a).pool
  request_whole =
      request_cases c p filled room (λ a. LeavesWhole) (λ a reply g. w)
      (λ r h. let y = insert_passed p r h in after_whole (insert_record c p r) (insert_whole c lawful p w r y.0 y.1))
      (λ r h. after_whole (delete_record c p r) (delete_whole c lawful p w r))
      (λ old new h. let y = update_passed p old new h in after_whole (update_record c p old new) (update_whole c p old new lawful w y.1 y.0))
      (λ o mode window h. w)

  -- ---- owners

  module _ (h : owners_sound p ≡ true) where
    abbrev LeavesOwned : Asked → Turn → Type 0
    LeavesOwned a t = owner_sound p.edition (asked_by a) ≡ true → owners_sound t.pool ≡ true

    owned : EachOwned p (stored p)
    owned = (owned_sound p).0 h

    after_owned : (o : Change) → ((q : Pool) → o ≡ Done q → EachOwned q (stored q)) → owners_sound (after_change p o).pool ≡ true
    unfolding after_change
    after_owned (Done q) f = (owned_sound q).1 (f q refl)
    after_owned NoneFree f = h

    pub request_owned : (a : Asked) → owner_sound p.edition (asked_by a) ≡ true → owners_sound (request c p filled room a).pool ≡ true
    unfolding asked_by
    request_owned =
        request_cases c p filled room LeavesOwned (λ a reply g s. h)
        (λ r z s. let y = insert_passed p r z in after_owned (insert_record c p r) (insert_owned c lawful p w owned r y.0 y.1 s))
        (λ r z s. after_owned (delete_record c p r) (delete_owned c lawful p w owned r (delete_passed p r z)))
        (λ old new z s. let y = update_passed p old new z in after_owned (update_record c p old new) (update_owned c lawful p w owned old new y.1 y.0))
        (λ o mode window z s. h)
