-- An owner's records among those in force: the owner's requests change them as if there were no others, and another owner's leave them as they are.
use mathlib.Core.Path.{◌≡◌, refl, sym, ap, ◌∙◌}
use mathlib.Core.Logic.{◌≢◌}
use mathlib.Core.Bool.{Bool, true, false, cond}
use mathlib.Core.List.{List, [], ◌∷◌}
use Rattle.std.specs.Prelude.{Option, None, Some}
use Prim.Native.Nat.{ℕ, suc, ◌≤◌}
use native.Mathlib.Decide.{dec_le}
use native.Mathlib.Omega.{arith}
use lib.Dec.{eqb}
use lib.ListN.{length, get_or}
use Rattle.rules.specs.declared.Owner.{Owner}
use Rattle.rules.specs.declared.Record.{Record}
use Rattle.rules.specs.declared.Request.{Request}
use Rattle.rules.specs.declared.Asked.{Asked}
use Rattle.rules.specs.declared.Asked.TheVariants.{Insert, Delete, Update, Search}
use Rattle.rules.specs.declared.Answer.{Answer}
use Rattle.rules.specs.Lists.{those}
use Rattle.rules.specs.Owners.{owned_by}
use Rattle.rules.specs.Geometry.{same_pair}
use Rattle.rules.specs.Pool.{moved}
use Rattle.rules.specs.Request.{asked}
use Rattle.rules_laws.proofs.Orders.{never_both}
use Rattle.rules_laws.proofs.Parts.{those_yes, those_no, those_none}
use Rattle.sound_laws.proofs.Same.{same_pair_lem, owned_is}
use Rattle.search_laws.specs.Order.{Alike}
use Rattle.search_laws.proofs.Order.{alike_among, alike_more}
use Rattle.in_force_laws.specs.Force.{asked_by, less_pair, change, in_force, force_by, force_after}
use Rattle.in_force_laws.proofs.Pairs.{less_count, less_yes, less_no, less_none, some_in}
use Rattle.in_force_laws.proofs.Asks.{asked_owner}
use Rattle.in_force_laws.proofs.Batch.{no_answer}

-- ---- lists that hold the same

alike_pair : (r : Record) {xs ys : List Record} → Alike xs ys → Alike (less_pair r xs) (less_pair r ys)
alike_pair r {xs} {ys} a = go (dec_le 1 (length (those (same_pair r) xs)))
  where
    go : Dec (1 ≤ length (those (same_pair r) xs)) → Alike (less_pair r xs) (less_pair r ys)
    go (yes h) =
        let m = some_in r xs h in
        record { each = λ f. omega (arith, less_count f r xs m, less_count f r ys (alike_among a r m), a.each f) }
    go (no h) = rw (less_none r xs (omega arith), less_none r ys (omega (arith, a.each (same_pair r)))) a

alike_change : (a : Asked) {xs ys : List Record} → Alike xs ys → Alike (change xs a) (change ys a)
unfolding change
alike_change (Insert r) h = alike_more r h
alike_change (Delete r) h = alike_pair r h
alike_change (Update old new) h = alike_more (moved old new) (alike_pair old h)
alike_change (Search o mode window) h = h

alike_force : (a : Asked) (told : Answer) {xs ys : List Record} → Alike xs ys → Alike (in_force xs a told) (in_force ys a told)
unfolding in_force
alike_force a told {xs} {ys} h = go (eqb told.number 0)
  where
    go : (b : Bool) → Alike (cond b (change xs a) xs) (cond b (change ys a) ys)
    go true = alike_change a h
    go false = h

pub alike_by : (x : Option Asked) (told : Answer) {xs ys : List Record} → Alike xs ys → Alike (force_by xs x told) (force_by ys x told)
unfolding force_by
alike_by None told h = h
alike_by (Some a) told h = alike_force a told h

-- by the same requests and answers, records that are alike stay so
pub alike_after : (o : Owner) (i : ℕ) (qs : List Request) (told : List Answer) {xs ys : List Record} → Alike xs ys
    → Alike (force_after o xs i qs told) (force_after o ys i qs told)
unfolding force_after
alike_after o i [] told h = h
alike_after o i (q ∷ qs) told h = alike_after o (suc i) qs told (alike_by (asked o q) (get_or told i no_answer) h)

-- ---- an owner's records

module _ (o : Owner) where
  abbrev own : List Record → List Record
  own rs = those (owned_by o) rs

  not_own : (r : Record) → r.owner ≢ o → owned_by o r ≡ false
  not_own r n = go (owned_by o r) refl
    where
      go : (b : Bool) → owned_by o r ≡ b → owned_by o r ≡ false
      go true h = absurd (n ((owned_is o r).0 h))
      go false h = h

  -- a pair of the owner is taken out of the owner's
  less_own : (r : Record) → owned_by o r ≡ true → (xs : List Record) → own (less_pair r xs) ≡ less_pair r (own xs)
  less_own r y [] = unfold less_pair in rw (those_none (owned_by o))
  less_own r y (x ∷ xs) = go (same_pair r x) (owned_by o x) refl refl (less_own r y xs)
    where
      go : (s t : Bool) → same_pair r x ≡ s → owned_by o x ≡ t → own (less_pair r xs) ≡ less_pair r (own xs)
          → own (less_pair r (x ∷ xs)) ≡ less_pair r (own (x ∷ xs))
      go true true h k e = rw (less_yes r x xs h, those_yes (owned_by o) x xs k, less_yes r x (own xs) h)
      go true false h k e = never_both (rw ((same_pair_lem r x).0 h) at y) k
      go false true h k e =
          rw (less_no r x xs h, those_yes (owned_by o) x (less_pair r xs) k, those_yes (owned_by o) x xs k, less_no r x (own xs) h)
          (ap (λ (l : List Record). x ∷ l) e)
      go false false h k e = rw (less_no r x xs h, those_no (owned_by o) x (less_pair r xs) k, those_no (owned_by o) x xs k) e

  -- another's is not
  less_other : (r : Record) → owned_by o r ≡ false → (xs : List Record) → own (less_pair r xs) ≡ own xs
  less_other r n [] = unfold less_pair in refl
  less_other r n (x ∷ xs) = go (same_pair r x) (owned_by o x) refl refl (less_other r n xs)
    where
      go : (s t : Bool) → same_pair r x ≡ s → owned_by o x ≡ t → own (less_pair r xs) ≡ own xs → own (less_pair r (x ∷ xs)) ≡ own (x ∷ xs)
      go true true h k e = never_both k (rw ((same_pair_lem r x).0 h) at n)
      go true false h k e = rw (less_yes r x xs h, those_no (owned_by o) x xs k)
      go false true h k e =
          rw (less_no r x xs h, those_yes (owned_by o) x (less_pair r xs) k, those_yes (owned_by o) x xs k) (ap (λ (l : List Record). x ∷ l) e)
      go false false h k e = rw (less_no r x xs h, those_no (owned_by o) x (less_pair r xs) k, those_no (owned_by o) x xs k) e

  -- ---- one request

  own_change : (rs : List Record) (a : Asked) → asked_by a ≡ o → own (change rs a) ≡ change (own rs) a
  unfolding change asked_by
  own_change rs (Insert r) e = those_yes (owned_by o) r rs ((owned_is o r).1 e)
  own_change rs (Delete r) e = less_own r ((owned_is o r).1 e) rs
  own_change rs (Update old new) e =
      those_yes (owned_by o) (moved old new) (less_pair old rs) ((owned_is o (moved old new)).1 e)
      ∙ ap (λ (l : List Record). moved old new ∷ l) (less_own old ((owned_is o old).1 e) rs)
  own_change rs (Search w mode window) e = refl

  other_change : (rs : List Record) (a : Asked) → asked_by a ≢ o → own (change rs a) ≡ own rs
  unfolding change asked_by
  other_change rs (Insert r) n = those_no (owned_by o) r rs (not_own r n)
  other_change rs (Delete r) n = less_other r (not_own r n) rs
  other_change rs (Update old new) n =
      those_no (owned_by o) (moved old new) (less_pair old rs) (not_own (moved old new) n) ∙ less_other old (not_own old n) rs
  other_change rs (Search w mode window) n = refl

  pub own_force : (rs : List Record) (a : Asked) (told : Answer) → asked_by a ≡ o → own (in_force rs a told) ≡ in_force (own rs) a told
  unfolding in_force
  own_force rs a told e = go (eqb told.number 0)
    where
      go : (b : Bool) → own (cond b (change rs a) rs) ≡ cond b (change (own rs) a) (own rs)
      go true = own_change rs a e
      go false = refl

  pub other_force : (rs : List Record) (a : Asked) (told : Answer) → asked_by a ≢ o → own (in_force rs a told) ≡ own rs
  unfolding in_force
  other_force rs a told n = go (eqb told.number 0)
    where
      go : (b : Bool) → own (cond b (change rs a) rs) ≡ own rs
      go true = other_change rs a n
      go false = refl

  pub own_by : (rs : List Record) (q : Request) (told : Answer) → own (force_by rs (asked o q) told) ≡ force_by (own rs) (asked o q) told
  own_by rs q told = go (asked o q) refl
    where
      go : (x : Option Asked) → asked o q ≡ x → own (force_by rs x told) ≡ force_by (own rs) x told
      go None e = unfold force_by in refl
      go (Some a) e = unfold force_by in own_force rs a told (asked_owner o q a e)

  other_by : (w : Owner) → w ≢ o → (rs : List Record) (q : Request) (told : Answer) → own (force_by rs (asked w q) told) ≡ own rs
  other_by w n rs q told = go (asked w q) refl
    where
      go : (x : Option Asked) → asked w q ≡ x → own (force_by rs x told) ≡ own rs
      go None e = unfold force_by in refl
      go (Some a) e = unfold force_by in other_force rs a told (λ h. n (sym (asked_owner w q a e) ∙ h))

  -- ---- a batch: the owner's, and another's

  pub own_after : (rs : List Record) (i : ℕ) (qs : List Request) (told : List Answer) → own (force_after o rs i qs told) ≡ force_after o (own rs) i qs told
  unfolding force_after
  own_after rs i [] told = refl
  own_after rs i (q ∷ qs) told =
      own_after (force_by rs (asked o q) (get_or told i no_answer)) (suc i) qs told
      ∙ ap (λ (l : List Record). force_after o l (suc i) qs told) (own_by rs q (get_or told i no_answer))

  pub other_after : (w : Owner) → w ≢ o → (rs : List Record) (i : ℕ) (qs : List Request) (told : List Answer) → own (force_after w rs i qs told) ≡ own rs
  unfolding force_after
  other_after w n rs i [] told = refl
  other_after w n rs i (q ∷ qs) told =
      other_after w n (force_by rs (asked w q) (get_or told i no_answer)) (suc i) qs told ∙ other_by w n rs q (get_or told i no_answer)
