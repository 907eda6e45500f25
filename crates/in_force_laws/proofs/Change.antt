-- A request, accepted or refused, leaves a whole pool that holds the records in force: for every lawful choice. A row of its table refuses
-- it and nothing changes; or it has passed every row, and the laws of insert, delete and update apply.
use mathlib.Core.Path.{◌≡◌, refl, sym, subst}
use mathlib.Core.Bool.{Bool, true, false, cond, not, ◌&&◌, ◌||◌}
use mathlib.Core.List.{List, [], ◌∷◌}
use Rattle.std.specs.Prelude.{Option, None, Some, Ok, Err}
use Prim.Native.Nat.{ℕ, ◌≤◌}
use native.Mathlib.Omega.{arith}
use lib.Dec.{ltb, eqb}
use lib.ListN.{length}
use borrow.Author.Tests.{ltb-false}
use Rattle.rules.specs.declared.RequestFault.{RequestFault}
use Rattle.rules.specs.declared.Rect.{Rect}
use Rattle.rules.specs.declared.Mode.{Mode}
use Rattle.rules.specs.declared.Owner.{Owner}
use Rattle.rules.specs.declared.Record.{Record}
use Rattle.rules.specs.declared.Asked.{Asked}
use Rattle.rules.specs.declared.Asked.TheVariants.{Insert, Delete, Update, Search}
use Rattle.rules.specs.declared.Accepted.TheVariants.{Changed, Listed}
use Rattle.rules.specs.declared.RequestFault.TheVariants.{BadRectangle, BadNumber, NotHeld, Held, NoSlot, NoRoom}
use Rattle.rules.specs.Numbers.{good_number}
use Rattle.rules.specs.Geometry.{valid}
use Rattle.rules.specs.Compare.{exact_pair}
use Rattle.rules.specs.Owners.{owner_sound}
use Rattle.rules.specs.Pool.{Pool, moved, stored, held}
use Rattle.rules.specs.Search.{found, opened}
use Rattle.rules.specs.Answers.{Reply, answer_of}
use Rattle.rules.specs.Insert.{Choice, Change, Done, NoneFree, insert_record}
use Rattle.rules.specs.Lawful.{Lawful}
use Rattle.rules.specs.Delete.{delete_record, update_record}
use Rattle.rules.specs.Request.{Turn, turn, after_change, insert_fault, delete_fault, update_fault, search_fault, request}
use Rattle.rules_laws.proofs.Bools.{or_neither, not_false}
use Rattle.rules_laws.proofs.Orders.{never_both}
use Rattle.rules_laws.proofs.Places.{Among}
use Rattle.rules_laws.proofs.Parts.{count_cons}
use Rattle.sound_laws.proofs.Same.{exact_same}
use Rattle.search_laws.specs.Order.{Alike}
use Rattle.search_laws.proofs.Order.{alike_back}
use Rattle.insert_laws.proofs.Whole.{insert_whole, insert_stored}
use Rattle.delete_laws.proofs.Delete.{delete_whole, delete_stored}
use Rattle.delete_laws.proofs.Update.{update_whole, update_stored}
use Rattle.in_force_laws.specs.Force.{asked_by, less_pair, change, in_force}
use Rattle.in_force_laws.specs.Shows.{EachOwned, HoldsRecords}
use Rattle.in_force_laws.proofs.Pairs.{less_count, less_once, less_among, less_gone, more_once, held_in_lem, in_held}
use Rattle.in_force_laws.proofs.Faults.{EachGiven, given_none, given_row, no_row}
use Rattle.in_force_laws.proofs.Owned.{owned_alike, insert_owned, delete_owned, update_owned}

-- ---- what is refused, and answered otherwise than by 0, changes nothing

abbrev pub Refused : RequestFault → Type 0
Refused fault = eqb (answer_of (Err fault)).number 0 ≡ false

pub force_refused : (rs : List Record) (a : Asked) (fault : RequestFault) → Refused fault → in_force rs a (answer_of (Err fault)) ≡ rs
unfolding in_force
force_refused rs a fault h = subst (λ (b : Bool). cond b (change rs a) rs ≡ rs) (sym h) refl

pub force_changed : (rs : List Record) (a : Asked) → in_force rs a (answer_of (Ok Changed)) ≡ change rs a
unfolding in_force answer_of
force_changed rs a = refl

module _ (p : Pool) where
  pub insert_refused : (r : Record) → EachGiven Refused (insert_fault p r)
  unfolding insert_fault answer_of
  insert_refused r =
      given_row Refused _ BadRectangle _ refl (given_row Refused _ BadNumber _ refl (given_row Refused _ Held _ refl (given_none Refused)))

  pub delete_refused : (r : Record) → EachGiven Refused (delete_fault p r)
  unfolding delete_fault answer_of
  delete_refused r =
      given_row Refused _ BadRectangle _ refl (given_row Refused _ BadNumber _ refl (given_row Refused _ NotHeld _ refl (given_none Refused)))

  pub update_refused : (old : Record) (new : Rect) → EachGiven Refused (update_fault p old new)
  unfolding update_fault answer_of
  update_refused old new =
      given_row Refused _ BadRectangle _ refl
      (given_row Refused _ BadNumber _ refl (given_row Refused _ NotHeld _ refl (given_row Refused _ Held _ refl (given_none Refused))))

  pub search_refused : (room : ℕ) (o : Owner) (mode : Mode) (window : Rect) → EachGiven Refused (search_fault p room o mode window)
  unfolding search_fault answer_of
  search_refused room o mode window =
      given_row Refused _ BadRectangle _ refl (given_row Refused _ (NoRoom _ _) _ refl (given_none Refused))

-- ---- what is accepted has passed every row

and_unless : (a b : Bool) → (a && not b) ≡ false → b ≡ false → a ≡ false
and_unless true true h e = e
and_unless true false h e = h
and_unless false b h e = refl

module _ (p : Pool) where
  pub insert_passed : (r : Record) → insert_fault p r ≡ None → (valid r.rect ≡ true) × (good_number r.number ≡ true) × (held p r ≡ false)
  unfolding insert_fault
  insert_passed r h =
      let a = no_row (not (valid r.rect)) BadRectangle _ h in
      let b = no_row (not (good_number r.number)) BadNumber _ a.1 in
      let d = no_row (held p r) Held _ b.1 in
      (not_false _ a.0, not_false _ b.0, d.0)

  pub delete_passed : (r : Record) → delete_fault p r ≡ None → held p r ≡ true
  unfolding delete_fault
  delete_passed r h =
      let a = no_row (not (valid r.rect)) BadRectangle _ h in
      let b = no_row (not (good_number r.number)) BadNumber _ a.1 in
      let d = no_row (not (held p r)) NotHeld _ b.1 in
      not_false _ d.0

  pub update_passed : (old : Record) (new : Rect) → update_fault p old new ≡ None
      → (valid new ≡ true) × (held p old ≡ true) × ((held p (moved old new) && not (exact_pair old (moved old new))) ≡ false)
  unfolding update_fault
  update_passed old new h =
      let a = no_row (not (valid old.rect) || not (valid new)) BadRectangle _ h in
      let b = no_row (not (good_number old.number)) BadNumber _ a.1 in
      let d = no_row (not (held p old)) NotHeld _ b.1 in
      let e = no_row (held p (moved old new) && not (exact_pair old (moved old new))) Held _ d.1 in
      (not_false _ (or_neither (not (valid old.rect)) (not (valid new)) a.0).1, not_false _ d.0, e.0)

  pub search_passed : (room : ℕ) (o : Owner) (mode : Mode) (window : Rect) → search_fault p room o mode window ≡ None → length (found p o mode window) ≤ room
  unfolding search_fault
  search_passed room o mode window h =
      let a = no_row (not (valid window)) BadRectangle _ h in
      let b = no_row (ltb room (length (found p o mode window))) (NoRoom (length (found p o mode window)) (opened p window)) _ a.1 in
      ltb-false room (length (found p o mode window)) b.0

-- ---- a request opened at its table

module _ (c : Choice) (p : Pool) (filled room : ℕ) where
  pub insert_some : (r : Record) (fault : RequestFault) → insert_fault p r ≡ Some fault → request c p filled room (Insert r) ≡ turn p (Err fault) []
  unfolding request
  insert_some r fault h = rw (h, request)

  pub insert_none : (r : Record) → insert_fault p r ≡ None → request c p filled room (Insert r) ≡ after_change p (insert_record c p r)
  unfolding request
  insert_none r h = rw (h, request)

  pub delete_some : (r : Record) (fault : RequestFault) → delete_fault p r ≡ Some fault → request c p filled room (Delete r) ≡ turn p (Err fault) []
  unfolding request
  delete_some r fault h = rw (h, request)

  pub delete_none : (r : Record) → delete_fault p r ≡ None → request c p filled room (Delete r) ≡ after_change p (delete_record c p r)
  unfolding request
  delete_none r h = rw (h, request)

  pub update_some : (old : Record) (new : Rect) (fault : RequestFault) → update_fault p old new ≡ Some fault
      → request c p filled room (Update old new) ≡ turn p (Err fault) []
  unfolding request
  update_some old new fault h = rw (h, request)

  pub update_none : (old : Record) (new : Rect) → update_fault p old new ≡ None
      → request c p filled room (Update old new) ≡ after_change p (update_record c p old new)
  unfolding request
  update_none old new h = rw (h, request)

  pub search_some : (o : Owner) (mode : Mode) (window : Rect) (fault : RequestFault) → search_fault p room o mode window ≡ Some fault
      → request c p filled room (Search o mode window) ≡ turn p (Err fault) []
  unfolding request
  search_some o mode window fault h = rw (h, request)

  pub search_none : (o : Owner) (mode : Mode) (window : Rect) → search_fault p room o mode window ≡ None
      → request c p filled room (Search o mode window) ≡ turn p (Ok (Listed (length (found p o mode window)) filled (opened p window))) (found p o mode window)
  unfolding request
  search_none o mode window h = rw (h, request)

-- a row of a table applies, or none does
row_or_none : {X : Type 0} (row : Option RequestFault) → EachGiven Refused row → ((fault : RequestFault) → row ≡ Some fault → Refused fault → X)
    → (row ≡ None → X) → X
row_or_none None g f h = h refl
row_or_none (Some fault) g f h = f fault refl g

-- what is true of every turn that refuses, and of every request that is done, is true of every request
module _ (c : Choice) (p : Pool) (filled room : ℕ) (P : Asked → Turn → Type 0)
    (refused : (a : Asked) (fault : RequestFault) → Refused fault → P a (turn p (Err fault) []))
    (inserted : (r : Record) → insert_fault p r ≡ None → P (Insert r) (after_change p (insert_record c p r)))
    (deleted : (r : Record) → delete_fault p r ≡ None → P (Delete r) (after_change p (delete_record c p r)))
    (updated : (old : Record) (new : Rect) → update_fault p old new ≡ None → P (Update old new) (after_change p (update_record c p old new)))
    (listed : (o : Owner) (mode : Mode) (window : Rect) → search_fault p room o mode window ≡ None
    → P (Search o mode window) (turn p (Ok (Listed (length (found p o mode window)) filled (opened p window))) (found p o mode window))) where
  pub request_cases : (a : Asked) → P a (request c p filled room a)
  request_cases (Insert r) =
      row_or_none (insert_fault p r) (insert_refused p r)
      (λ fault h g. subst (P (Insert r)) (sym (insert_some c p filled room r fault h)) (refused (Insert r) fault g))
      (λ h. subst (P (Insert r)) (sym (insert_none c p filled room r h)) (inserted r h))
  request_cases (Delete r) =
      row_or_none (delete_fault p r) (delete_refused p r)
      (λ fault h g. subst (P (Delete r)) (sym (delete_some c p filled room r fault h)) (refused (Delete r) fault g))
      (λ h. subst (P (Delete r)) (sym (delete_none c p filled room r h)) (deleted r h))
  request_cases (Update old new) =
      row_or_none (update_fault p old new) (update_refused p old new)
      (λ fault h g. subst (P (Update old new)) (sym (update_some c p filled room old new fault h)) (refused (Update old new) fault g))
      (λ h. subst (P (Update old new)) (sym (update_none c p filled room old new h)) (updated old new h))
  request_cases (Search o mode window) =
      row_or_none (search_fault p room o mode window) (search_refused p room o mode window)
      (λ fault h g. subst (P (Search o mode window)) (sym (search_some c p filled room o mode window fault h)) (refused (Search o mode window) fault g))
      (λ h. subst (P (Search o mode window)) (sym (search_none c p filled room o mode window h)) (listed o mode window h))

-- what a request lists has room
module _ (c : Choice) (p : Pool) (filled room : ℕ) where
  change_fits : (o : Change) → length (after_change p o).listed ≤ room
  unfolding after_change
  change_fits (Done q) = omega arith
  change_fits NoneFree = omega arith

  pub listed_fits : (a : Asked) → length (request c p filled room a).listed ≤ room
  listed_fits =
      request_cases c p filled room (λ a t. length t.listed ≤ room) (λ a fault h. omega arith) (λ r h. change_fits (insert_record c p r))
      (λ r h. change_fits (delete_record c p r)) (λ old new h. change_fits (update_record c p old new)) (search_passed p room)

-- ---- each kind of change

module _ (c : Choice) (lawful : Lawful c) (p : Pool) (rs : List Record) (k : HoldsRecords p rs) where
  owned : EachOwned p (stored p)
  owned = owned_alike p (alike_back k.alike) k.owners

  abbrev Good : Asked → Turn → Type 0
  Good a t = HoldsRecords t.pool (in_force rs a (answer_of t.reply))

  -- the request is of an owner that the pool can have
  abbrev Fair : Asked → Type 0
  Fair a = owner_sound p.edition (asked_by a) ≡ true

  refused_good : (a : Asked) (fault : RequestFault) → Refused fault → Good a (turn p (Err fault) [])
  refused_good a fault h = subst (HoldsRecords p) (sym (force_refused rs a fault h)) k

  none_refused : Refused NoSlot
  unfolding answer_of
  none_refused = refl

  after_good : (a : Asked) (o : Change) → ((q : Pool) → o ≡ Done q → HoldsRecords q (change rs a)) → Good a (after_change p o)
  unfolding after_change
  after_good a (Done q) h = subst (HoldsRecords q) (sym (force_changed rs a)) (h q refl)
  after_good a NoneFree h = refused_good a NoSlot none_refused

  insert_holds : (r : Record) → insert_fault p r ≡ None → Fair (Insert r) → (q : Pool) → insert_record c p r ≡ Done q
      → HoldsRecords q (change rs (Insert r))
  unfolding change asked_by
  insert_holds r h s q d =
      let y = insert_passed p r h in
      let alike : Alike (stored q) (r ∷ rs) = record {
        each = λ f. omega (arith, insert_stored c lawful p k.whole r y.0 y.1 q d f, k.alike.each f, count_cons f r rs);
      } in
      record {
        whole = insert_whole c lawful p k.whole r y.0 y.1 q d;
        alike = alike;
        once = more_once r rs (λ m. never_both (in_held p k.whole rs k.alike r m) y.2) k.once;
        owners = owned_alike q alike (insert_owned c lawful p k.whole owned r y.0 y.1 s q d);
      }

  delete_holds : (r : Record) → delete_fault p r ≡ None → (q : Pool) → delete_record c p r ≡ Done q → HoldsRecords q (change rs (Delete r))
  unfolding change
  delete_holds r h q d =
      let y = delete_passed p r h in
      let m = held_in_lem p rs k.alike r y in
      let alike : Alike (stored q) (less_pair r rs) = record {
        each = λ f. omega (arith, delete_stored c lawful p k.whole r q d y f, k.alike.each f, less_count f r rs m);
      } in
      record {
        whole = delete_whole c lawful p k.whole r q d;
        alike = alike;
        once = less_once r rs m k.once;
        owners = owned_alike q alike (delete_owned c lawful p k.whole owned r y q d);
      }

  -- the new pair is not there once the old is out: it was not there before, or it is the old one, which stood there once
  moved_out : (old : Record) (new : Rect) → held p old ≡ true → (held p (moved old new) && not (exact_pair old (moved old new))) ≡ false
      → Among (moved old new) (less_pair old rs) → ⊥
  moved_out old new y n m = go (exact_pair old (moved old new)) refl
    where
      there : Among old rs
      there = held_in_lem p rs k.alike old y

      go : (b : Bool) → exact_pair old (moved old new) ≡ b → ⊥
      go true e = less_gone old rs there k.once (subst (λ (x : Record). Among x (less_pair old rs)) (sym (exact_same old (moved old new) e)) m)
      go false e =
          never_both (in_held p k.whole rs k.alike (moved old new) (less_among (moved old new) old rs there m))
          (and_unless (held p (moved old new)) (exact_pair old (moved old new)) n e)

  update_holds : (old : Record) (new : Rect) → update_fault p old new ≡ None → (q : Pool) → update_record c p old new ≡ Done q
      → HoldsRecords q (change rs (Update old new))
  unfolding change
  update_holds old new h q d =
      let y = update_passed p old new h in
      let m = held_in_lem p rs k.alike old y.1 in
      let alike : Alike (stored q) (moved old new ∷ less_pair old rs) = record {
        each = λ f.
            omega (
              arith,
              update_stored c p old new lawful k.whole y.1 y.0 q d f,
              k.alike.each f,
              less_count f old rs m,
              count_cons f (moved old new) (less_pair old rs),
            );
      } in
      record {
        whole = update_whole c p old new lawful k.whole y.1 y.0 q d;
        alike = alike;
        once = more_once (moved old new) (less_pair old rs) (moved_out old new y.1 y.2) (less_once old rs m k.once);
        owners = owned_alike q alike (update_owned c lawful p k.whole owned old new y.1 y.0 q d);
      }

  -- ---- the request

  search_force : (o : Owner) (mode : Mode) (window : Rect) (reply : Reply) → in_force rs (Search o mode window) (answer_of reply) ≡ rs
  unfolding in_force change
  search_force o mode window reply = go (eqb (answer_of reply).number 0) refl
    where
      go : (b : Bool) → eqb (answer_of reply).number 0 ≡ b → in_force rs (Search o mode window) (answer_of reply) ≡ rs
      go true h = rw (h, in_force, change)
      go false h = rw (h, in_force, change)

  -- a request of any kind, accepted or refused
  pub request_force : (filled room : ℕ) (a : Asked) → owner_sound p.edition (asked_by a) ≡ true → Good a (request c p filled room a)
  request_force filled room =
      request_cases c p filled room (λ a t. Fair a → Good a t) (λ a fault h s. refused_good a fault h)
      (λ r h s. after_good (Insert r) (insert_record c p r) (insert_holds r h s))
      (λ r h s. after_good (Delete r) (delete_record c p r) (delete_holds r h))
      (λ old new h s. after_good (Update old new) (update_record c p old new) (update_holds old new h))
      (λ o mode window h s. subst (HoldsRecords p) (sym (search_force o mode window (Ok (Listed (length (found p o mode window)) filled (opened p window))))) k)
