-- What is a request, by whether it asks something; and whoever sends it, it asks for that owner.
use mathlib.Core.Path.{◌≡◌, refl, subst}
use mathlib.Core.Bool.{true, false}
use Rattle.std.specs.Prelude.{Option, None, Some}
use lib.IntN.{pos}
use Rattle.rules.specs.declared.Owner.{Owner}
use Rattle.rules.specs.declared.Request.{Request}
use Rattle.rules.specs.declared.Mode.TheVariants.{Meeting, OnlyInside, OnlyEnclosing}
use Rattle.rules.specs.declared.Asked.{Asked}
use Rattle.rules.specs.declared.Asked.TheVariants.{Insert, Delete, Update, Search}
use Rattle.rules.specs.Lists.{same}
use Rattle.rules.specs.Owners.{nobody}
use Rattle.rules.specs.Request.{pair_in, asked}
use Rattle.rules.specs.Call.{is_request}
use Rattle.rules_laws.proofs.Orders.{never_both}
use Rattle.in_force_laws.specs.Force.{asked_by}
use Rattle.in_force_laws.proofs.Faults.{EachGiven, given_none, given_row, no_row, no_rows, row_passed}

-- what asks nothing for one owner asks nothing for another
pub none_for : (o w : Owner) (q : Request) → asked o q ≡ None → asked w q ≡ None
unfolding asked
none_for o w q h =
    let r1 = no_row (same q.kind (pos 1)) (Insert (pair_in o q)) _ h in
    let r2 = no_row (same q.kind (pos 2)) (Delete (pair_in o q)) _ r1.1 in
    let r3 = no_row (same q.kind (pos 3)) (Update (pair_in o q) q.second) _ r2.1 in
    let r4 = no_row (same q.kind (pos 4)) (Search o Meeting q.first) _ r3.1 in
    let r5 = no_row (same q.kind (pos 5)) (Search o OnlyInside q.first) _ r4.1 in
    let r6 = no_row (same q.kind (pos 6)) (Search o OnlyEnclosing q.first) _ r5.1 in
    row_passed _ _ _ r1.0 (row_passed _ _ _ r2.0 (row_passed _ _ _ r3.0
    (row_passed _ _ _ r4.0 (row_passed _ _ _ r5.0 (row_passed _ _ _ r6.0 no_rows)))))

pub asks_nothing : (o : Owner) (q : Request) → asked o q ≡ None → is_request q ≡ false
unfolding is_request
asks_nothing o q h = rw (none_for o nobody q h, is_request)

-- what is a request asks something, whoever sends it
pub asks_something : (o : Owner) (q : Request) → is_request q ≡ true → (a : Asked) × (asked o q ≡ Some a)
asks_something o q h = go (asked o q) refl
  where
    go : (x : Option Asked) → asked o q ≡ x → (a : Asked) × (asked o q ≡ Some a)
    go None e = never_both h (asks_nothing o q e)
    go (Some a) e = (a, e)

-- .. and it is the request of that owner
asked_each : (o : Owner) (q : Request) → EachGiven (λ a. asked_by a ≡ o) (asked o q)
unfolding asked asked_by
asked_each o q =
    given_row _ _ (Insert (pair_in o q)) _ refl
    (given_row _ _ (Delete (pair_in o q)) _ refl
    (given_row _ _ (Update (pair_in o q) q.second) _ refl
    (given_row _ _ (Search o Meeting q.first) _ refl
    (given_row _ _ (Search o OnlyInside q.first) _ refl
    (given_row _ _ (Search o OnlyEnclosing q.first) _ refl (given_none _))))))

pub asked_owner : (o : Owner) (q : Request) (a : Asked) → asked o q ≡ Some a → asked_by a ≡ o
asked_owner o q a h = subst (EachGiven (λ x. asked_by x ≡ o)) h (asked_each o q)
