-- What a walk that finds some records and opens some nodes needs, and what it does: the records become the next items, the nodes are
-- counted, and the items before stay. Of what comes after the last item nothing is said: an item is written there before it is known to be kept.
use Rattle.std.specs.Prelude.{◌≡◌, Bool, List, ℕ, ◌+◌, ◌*◌, ◌≤◌, ◌<◌, length, ℤ}
use Rattle.rules.specs.declared.Rect.{Rect}
use Rattle.rules.specs.declared.Owner.{Owner}
use Rattle.rules.specs.declared.Record.{Record}
use Rattle.rules.specs.declared.Mode.{Mode}
use Rattle.rules.specs.Lists.{those}
use Rattle.rules.specs.Owners.{owned_by}
use Rattle.rules.specs.Layout.{word_at, read}
use Rattle.rules.specs.Search.{found_from_root, opened_from_root}
use Rattle.found_items.specs.Items.{spot_at, item_at, items_from, Pointing}
use Rattle.search.specs.declared.Walked.{Walked}

abbrev pub walked : ℕ → ℕ → Walked
walked next opened = record { next = next; opened = opened }

-- the items have room, and for one more; and the count stays below what 8 levels can open
pub record ItemRoom (items : List ℤ) (a : Walked) (rs : List Record) (n : ℕ) : Type 0 where
  pub room : 2 * (a.next + length rs) + 2 ≤ length items
  pub opened : a.opened + n ≤ 43046721

-- from a to b, and from the items u to the items v
pub record Went (pool u v : List ℤ) (a b : Walked) (rs : List Record) (n : ℕ) : Type 0 where
  pub next : b.next ≡ a.next + length rs
  pub opened : b.opened ≡ a.opened + n
  pub stay : (i : ℕ) → i < 2 * a.next → word_at v i ≡ word_at u i
  pub listed : items_from pool v a.next (length rs) ≡ rs
  pub pointing : Pointing pool v a.next (length rs)
  pub long : length v ≡ length u

-- ---- of what is listed, the records that a test holds for

-- of the first n items of u, those whose records the test holds for are the first `count` items of v, in their order
pub record KeptAll (pool : List ℤ) (test : Record → Bool) (u v : List ℤ) (n count : ℕ) : Type 0 where
  pub kept : items_from pool v 0 count ≡ those test (items_from pool u 0 n)
  pub pointing : Pointing pool v 0 count
  pub long : length v ≡ length u

-- .. that, for whatever pool the items point into, and whatever test of a record it is that `said`
-- tells by the place of the record's entry
abbrev pub KeptBy : (ℕ → Bool → Type 0) → List ℤ → List ℤ → ℕ → ℕ → Type 0
KeptBy said u v n count =
    (pool : List ℤ) (test : Record → Bool) → Pointing pool u 0 n
    → ((k : ℕ) (b : Bool) → k < n → said (spot_at u k) b → b ≡ test (item_at pool u k))
    → KeptAll pool test u v n count

-- ---- a search

-- these records are left as items, in the place of the items u, and what was opened is counted
pub record Lists (pool : List ℤ) (window : Rect) (rs : List Record) (u v : List ℤ) (w : Walked) : Type 0 where
  pub found : w.next ≡ length rs
  pub opened : w.opened ≡ opened_from_root (read pool) window
  pub most : w.opened ≤ 43046721
  pub listed : items_from pool v 0 w.next ≡ rs
  pub pointing : Pointing pool v 0 w.next
  pub long : length v ≡ length u

-- what a search of the mode leaves, and what it leaves of an owner's
abbrev pub FindsAll : List ℤ → Mode → Rect → List ℤ → List ℤ → Walked → Type 0
FindsAll pool mode window u v w = Lists pool window (found_from_root (read pool) mode window) u v w

abbrev pub Finds : List ℤ → Owner → Mode → Rect → List ℤ → List ℤ → Walked → Type 0
Finds pool o mode window u v w = Lists pool window (those (owned_by o) (found_from_root (read pool) mode window)) u v w
