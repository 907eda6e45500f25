-- What a request lists has room in the found list, and stood as items in the workspace.
use mathlib.Core.Path.{◌≡◌}
use mathlib.Core.Bool.{true, not}
use mathlib.Core.List.{List, [], map}
use Rattle.std.specs.Prelude.{None, Ok, Err}
use Prim.Native.Nat.{ℕ, ◌*◌, ◌≤◌}
use native.Mathlib.Omega.{arith}
use lib.ListN.{length, length-map}
use lib.Dec.{ltb}
use lib.IntN.{ℤ}
use borrow.Author.Tests.{ltb-false}
use Rattle.rules.specs.declared.RequestFault.{RequestFault}
use Rattle.rules.specs.declared.Owner.{Owner}
use Rattle.rules.specs.declared.Rect.{Rect}
use Rattle.rules.specs.declared.Mode.{Mode}
use Rattle.rules.specs.declared.Asked.{Asked}
use Rattle.rules.specs.declared.Accepted.TheVariants.{Listed}
use Rattle.rules.specs.declared.RequestFault.TheVariants.{BadRectangle, NoRoom}
use Rattle.rules.specs.Lists.{those}
use Rattle.rules.specs.Owners.{owned_by, as_found}
use Rattle.rules.specs.Geometry.{valid}
use Rattle.rules.specs.Pool.{Pool}
use Rattle.rules.specs.Layout.{edition_of, slot_count, valid_length, read}
use Rattle.rules.specs.Sound.{sound}
use Rattle.rules.specs.Search.{found, opened, found_from_root}
use Rattle.rules.specs.Insert.{Choice, Change, Done, NoneFree, insert_record}
use Rattle.rules.specs.Delete.{delete_record, update_record}
use Rattle.rules.specs.Request.{Turn, turn, after_change, search_fault, request}
use Rattle.rules_laws.proofs.Parts.{those_fewer}
use Rattle.request.proofs.Listing.{size_least}
use Rattle.search_laws.proofs.Order.{alike_length, ordered_alike}
use Rattle.layout_laws.proofs.Parts.{right_size}
use Rattle.in_force_laws.proofs.Faults.{no_row}
use Rattle.in_force_laws.proofs.Change.{request_cases}
use Rattle.in_force_laws.proofs.Sounds.{sound_tree, found_few}

-- there are places for what a turn lists, and two words for each in as many words
pub record Placed (room long : ℕ) (t : Turn) : Type 0 where
  pub places : length t.listed ≤ room
  pub words : 2 * length t.listed ≤ long

module _ (room long : ℕ) where
  none_listed : (p : Pool) (fault : RequestFault) → Placed room long (turn p (Err fault) [])
  none_listed p reply = record { places = omega arith; words = omega arith }

  after_none : (p : Pool) (o : Change) → Placed room long (after_change p o)
  unfolding after_change
  after_none p (Done q) = record { places = omega arith; words = omega arith }
  after_none p NoneFree = record { places = omega arith; words = omega arith }

module _ (w : List ℤ) (right : valid_length w ≡ true) (s : sound w ≡ true) where
  found_size : (o : Owner) (mode : Mode) (window : Rect) → 2 * length (found (read w) o mode window) ≤ length w
  unfolding found
  found_size o mode window =
      let walk = found_from_root (read w) mode window in
      omega (
        arith,
        alike_length (ordered_alike (map as_found (those (owned_by o) walk))),
        length-map (those (owned_by o) walk) as_found,
        those_fewer (owned_by o) walk,
        found_few w (sound_tree w s) mode window,
        right_size w right,
        size_least (edition_of w) (slot_count w),
      )

  module _ (c : Choice) (filled room : ℕ) where
    abbrev P : Turn → Type 0
    P t = Placed room (length w) t

    search_listed : (o : Owner) (mode : Mode) (window : Rect) → search_fault (read w) room o mode window ≡ None
        → P (turn (read w) (Ok (Listed (length (found (read w) o mode window)) filled (opened (read w) window))) (found (read w) o mode window))
    unfolding search_fault
    search_listed o mode window h =
        let a = no_row (not (valid window)) BadRectangle _ h in
        let b = no_row (ltb room (length (found (read w) o mode window))) (NoRoom (length (found (read w) o mode window)) (opened (read w) window)) _ a.1 in
        record { places = ltb-false room (length (found (read w) o mode window)) b.0; words = found_size o mode window }

    pub request_placed : (a : Asked) → P (request c (read w) filled room a)
    request_placed =
        request_cases c (read w) filled room (λ a. P) (λ a fault g. none_listed room (length w) (read w) fault)
        (λ r h. after_none room (length w) (read w) (insert_record c (read w) r))
        (λ r h. after_none room (length w) (read w) (delete_record c (read w) r))
        (λ old new h. after_none room (length w) (read w) (update_record c (read w) old new)) search_listed
