-- Sums and joined lists over a list, from a place on, as a loop goes through it: a member at a time.
use mathlib.Core.Path.{◌≡◌}
use mathlib.Core.List.{List, [], ◌++◌, map}
use Prim.Native.Nat.{ℕ, suc, ◌+◌, ◌≤◌, ◌<◌}
use native.Mathlib.Numerals.{add-one}
use lib.ListN.{length, get_or, drop, drop_of_length-le}
use lib.Seq.{drop-cons}
use Rattle.rules.specs.Lists.{joined, total}
use Rattle.rules_laws.proofs.Joins.{joined_none, joined_more}
use Rattle.rules_laws.proofs.Sums.{total_none, total_more}

module _ {A : Type 0} (f : A → ℕ) (xs : List A) (i : ℕ) where
  pub total_end : length xs ≤ i → total (map f (drop i xs)) ≡ 0
  total_end h = rw (drop_of_length-le xs h) (total_none f)

  pub total_next : (d : A) → i < length xs → total (map f (drop i xs)) ≡ f (get_or xs i d) + total (map f (drop (i + 1) xs))
  total_next d h = rw (drop-cons xs i d h, add-one i) (total_more f (get_or xs i d) (drop (suc i) xs))

module _ {A B : Type 0} (f : A → List B) (xs : List A) (i : ℕ) where
  pub joined_end : length xs ≤ i → joined (map f (drop i xs)) ≡ []
  joined_end h = rw (drop_of_length-le xs h) (joined_none f)

  pub joined_next : (d : A) → i < length xs → joined (map f (drop i xs)) ≡ f (get_or xs i d) ++ joined (map f (drop (i + 1) xs))
  joined_next d h = rw (drop-cons xs i d h, add-one i) (joined_more f (get_or xs i d) (drop (suc i) xs))
