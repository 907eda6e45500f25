-- An owner's records as items in found order, which of them are another pair than the one before, and whose records come first in a file.
use Rattle.std.specs.Prelude.{◌≡◌, Bool, true, cond, List, [], ◌∷◌, map, ℕ, zero, suc, ◌≤◌, length, ℤ, pos}
use Rattle.rules.specs.declared.Edition.{Edition}
use Rattle.rules.specs.declared.Edition.TheVariants.{One, Two}
use Rattle.rules.specs.declared.Owner.{Owner}
use Rattle.rules.specs.declared.Record.{Record}
use Rattle.rules.specs.declared.FoundRecord.{FoundRecord}
use Rattle.rules.specs.Lists.{those}
use Rattle.rules.specs.Owners.{owner, nobody, owned_by, as_found, of_owner}
use Rattle.rules.specs.Pool.{Pool, stored}
use Rattle.rules.specs.Layout.{edition_of, read}
use Rattle.rules.specs.Search.{before, ordered}
use Rattle.rules.specs.File.{carried_of, records_carried}
use Rattle.found_items.specs.Items.{shown_at, shown_from, Pointing}

-- two words for each item, and as many again, for 8 records in each of 4,096 slots
abbrev pub item_words : ℕ
item_words = 131072

-- the first n items are there, and each points into the pool
pub record Listed (pool items : List ℤ) (n : ℕ) : Type 0 where
  pub few : n ≤ 32768
  pub long : length items ≡ item_words
  pub pointing : Pointing pool items 0 n

-- .. and they are the owner's stored records, in found order
pub record InOrder (pool : List ℤ) (o : Owner) (items : List ℤ) (n : ℕ) : Type 0 where
  pub listed : Listed pool items n
  pub is : shown_from pool items 0 n ≡ ordered (map as_found (those (owned_by o) (stored (read pool))))

-- item k is the first, or the one before it goes before it
unfoldable pub is_new : List ℤ → List ℤ → ℕ → Bool
is_new pool items zero = true
is_new pool items (suc k) = before (shown_at pool items k) (shown_at pool items (suc k))

-- of n items from item k on, what is shown of those that are new
unfoldable pub new_from : List ℤ → List ℤ → ℕ → ℕ → List FoundRecord
new_from pool items k zero = []
new_from pool items k (suc n) = cond (is_new pool items k) (shown_at pool items k ∷ new_from pool items (suc k) n) (new_from pool items (suc k) n)

-- Req 07: "ordered by owner first": the first owner of an edition, and the records of a file that come after the first owner's
unfoldable pub first_owner : Edition → Owner
first_owner One = nobody
first_owner Two = owner (pos 1)

unfoldable pub second_carried : Edition → Pool → List Record
second_carried One p = []
second_carried Two p = map (of_owner (owner (pos 2))) (carried_of p (owner (pos 2)))

-- the records of a pool's file are counted, and the items there are the first owner's
pub record CountsFile (pool items : List ℤ) (n count : ℕ) : Type 0 where
  pub first : InOrder pool (first_owner (edition_of pool)) items n
  pub is : count ≡ length (records_carried (read pool))
  pub few : count ≤ 65536
