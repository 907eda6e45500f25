-- The order of a file: by owner first, and among one owner's records found order.
use mathlib.Core.Path.{◌≡◌, ap}
use mathlib.Core.Bool.{true}
use mathlib.Core.List.{List}
use Prim.Native.Nat.{◌≤◌}
use lib.ListN.{length}
use lib.Signed.{lt_z}
use Rattle.rules.specs.declared.Owner.{Owner}
use Rattle.rules.specs.declared.Record.{Record}
use Rattle.rules.specs.Lists.{those}
use Rattle.rules.specs.Owners.{as_found}
use Rattle.rules.specs.Geometry.{same_pair}
use Rattle.rules.specs.Search.{before}
use Rattle.rules.specs.File.{before_in_file}
use Rattle.rules_laws.proofs.Orders.{Strict, by_key, beats_on, then_less, then_same, then_strict}
use Rattle.sound_laws.proofs.Same.{same_pair_lem}
use Rattle.search_laws.specs.Order.{Alike}
use Rattle.search_laws.proofs.Order.{before_strict}
use Rattle.file_laws.specs.Ascending.{Ascending}
use Rattle.file_laws.proofs.Ascends.{up_once, up_same}

pub file_strict : Strict before_in_file
unfolding before_in_file
file_strict = then_strict (λ (r : Record). r.owner.0) (by_key before_strict as_found)

pub file_on : (a b c : Record) → before_in_file a b ≡ true → before_in_file b c ≡ true → before_in_file a c ≡ true
file_on = beats_on file_strict

-- of one owner, and of two
pub one_owner : (a b : Record) → a.owner ≡ b.owner → before_in_file a b ≡ before (as_found a) (as_found b)
unfolding before_in_file
one_owner a b e = then_same a.owner.0 b.owner.0 (before (as_found a) (as_found b)) (ap (λ (o : Owner). o.0) e)

pub lower_owner : (a b : Record) → lt_z a.owner.0 b.owner.0 ≡ true → before_in_file a b ≡ true
unfolding before_in_file
lower_owner a b h = then_less a.owner.0 b.owner.0 (before (as_found a) (as_found b)) h

-- what ascends has each pair once, and is settled by the records that it holds
pub ascending_once : (xs : List Record) → Ascending xs → (x : Record) → length (those (same_pair x) xs) ≤ 1
ascending_once = up_once file_strict same_pair same_pair_lem

pub ascending_same : (xs ys : List Record) → Ascending xs → Ascending ys → Alike xs ys → xs ≡ ys
ascending_same = up_same file_strict same_pair same_pair_lem
