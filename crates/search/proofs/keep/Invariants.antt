-- Whatever pool the items point into, and whatever test is asked by their places: those kept so far
-- are those of the items looked at.
use Rattle.std.proofs.Common.{◌≡◌, ℕ, ◌<◌, Bool, List, ℤ}
use Rattle.rules.specs.declared.Record.{Record}
use Rattle.found_items.specs.Items.{spot_at, item_at, Pointing}
use Rattle.search.proofs.Keeping.{Ahead, Keeping}
use Rattle.search.proofs.keep.Given as goal

abbrev pub invariant-loop-k : goal.invariant-loop-k
invariant-loop-k g l =
    Ahead l.initial.items l.items l.n l.count l.k
    × ((pool : List ℤ) (test : Record → Bool) → Pointing pool l.initial.items 0 l.n
    → ((k : ℕ) (b : Bool) → k < l.n → goal.F-post g l.test (spot_at l.initial.items k) b
    → b ≡ test (item_at pool l.initial.items k))
    → Keeping pool test l.initial.items l.items l.count l.k)
