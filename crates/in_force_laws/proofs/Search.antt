-- A search in a pool that holds the records in force shows those of its owner that meet its window: it is exact on the stored records, which
-- are the records in force in another order, and found order does not depend on that.
use mathlib.Core.Path.{◌≡◌, refl, sym, subst, ap, ◌∙◌}
use mathlib.Core.Logic.{◌⊎◌}
use mathlib.Core.Bool.{true, false}
use mathlib.Core.List.{List, map}
use Rattle.std.specs.Prelude.{None, Ok}
use Prim.Native.Nat.{ℕ, ◌-◌, ◌*◌, ◌^◌, ◌≤◌}
use native.Mathlib.Omega.{arith}
use lib.ListN.{length, length-map}
use lib.Dec.{ltb}
use borrow.Author.Tests.{le-ltb}
use Rattle.rules.specs.declared.Rect.{Rect}
use Rattle.rules.specs.declared.Mode.{Mode}
use Rattle.rules.specs.declared.Owner.{Owner}
use Rattle.rules.specs.declared.Record.{Record}
use Rattle.rules.specs.declared.Asked.TheVariants.{Search}
use Rattle.rules.specs.declared.Accepted.TheVariants.{Listed}
use Rattle.rules.specs.Lists.{those}
use Rattle.rules.specs.Owners.{as_found}
use Rattle.rules.specs.Geometry.{valid, same_pair}
use Rattle.rules.specs.Pool.{Pool, stored}
use Rattle.rules.specs.Search.{ordered, found, opened}
use Rattle.rules.specs.Answers.{first_row}
use Rattle.rules.specs.Insert.{Choice}
use Rattle.rules.specs.Request.{turn, search_fault, request}
use Rattle.search_laws.specs.Window.{own_wanted}
use Rattle.search_laws.proofs.Order.{alike_length, alike_those, alike_map, ordered_alike, ordered_same}
use Rattle.search_laws.proofs.Exact.{search_exact, opened_exact, found_once}
use Rattle.sound_laws.proofs.Heights.{height_records}
use Rattle.in_force_laws.specs.Shows.{EachShown, HoldsRecords, High, SearchShows}
use Rattle.in_force_laws.proofs.Change.{search_none}

-- the height of a pool that holds the records rs, by their number
pub holds_high : (p : Pool) (rs : List Record) → HoldsRecords p rs → High p rs
holds_high p rs k =
    subst (λ (n : ℕ). (p.height ≡ 1) ⊎ (2 * 3 ^ (p.height - 1) ≤ n)) (k.whole.counted ∙ alike_length k.alike)
    (height_records p k.whole)

-- what is listed of some records is as many as they are
pub listed_many : (rs : List Record) → length (ordered (map as_found rs)) ≡ length rs
listed_many rs = alike_length (ordered_alike (map as_found rs)) ∙ length-map rs as_found

module _ (p : Pool) (rs : List Record) (k : HoldsRecords p rs) (o : Owner) (mode : Mode) (window : Rect) where
  pub found_force : found p o mode window ≡ ordered (map as_found (those (own_wanted o mode window) rs))
  found_force =
      search_exact p k.whole o mode window
      ∙ ordered_same (map as_found (those (own_wanted o mode window) (stored p))) (map as_found (those (own_wanted o mode window) rs))
      (alike_map as_found (alike_those (own_wanted o mode window) k.alike))

  pub found_many : length (found p o mode window) ≡ length (those (own_wanted o mode window) rs)
  found_many = ap length found_force ∙ listed_many (those (own_wanted o mode window) rs)

  found_each : EachShown (found p o mode window)
  found_each = found_once p k.whole o mode window (λ x. omega (arith, k.alike.each (same_pair x), k.once x))

  module _ (room : ℕ) where
    room_enough : valid window ≡ true → length (those (own_wanted o mode window) rs) ≤ room → search_fault p room o mode window ≡ None
    unfolding search_fault first_row
    room_enough v r =
        let enough : ltb room (length (found p o mode window)) ≡ false = le-ltb room (length (found p o mode window)) (omega (arith, found_many, r)) in
        rw (v, enough)

    module _ (c : Choice) (filled : ℕ) where
      shown : SearchShows p rs filled o mode window (turn p (Ok (Listed (length (found p o mode window)) filled (opened p window))) (found p o mode window))
      shown = record {
        lists = found_force;
        once = found_each;
        reply = rw (found_many, opened_exact p k.whole window);
        same = refl;
        high = holds_high p rs k;
      }

      -- "valid window, room in its list"
      pub request_search : valid window ≡ true → length (those (own_wanted o mode window) rs) ≤ room
          → SearchShows p rs filled o mode window (request c p filled room (Search o mode window))
      request_search v r = subst (SearchShows p rs filled o mode window) (sym (search_none c p filled room o mode window (room_enough v r))) shown
