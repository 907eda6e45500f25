-- One request: the checks in the table's order, and what an accepted one does.
use Rattle.std.specs.Prelude.{not, ◌&&◌, ◌||◌, List, [], ◌∷◌, ℕ, length, ltb, pos, Option, None, Some, Ok, Err}
use Rattle.rules.specs.declared.Rect.{Rect}
use Rattle.rules.specs.declared.Owner.{Owner}
use Rattle.rules.specs.declared.Record.{Record}
use Rattle.rules.specs.declared.FoundRecord.{FoundRecord}
use Rattle.rules.specs.declared.Request.{Request}
use Rattle.rules.specs.declared.Asked.{Asked}
use Rattle.rules.specs.declared.Asked.TheVariants.{Insert, Delete, Update, Search}
use Rattle.rules.specs.declared.Mode.{Mode}
use Rattle.rules.specs.declared.Mode.TheVariants.{Meeting, OnlyInside, OnlyEnclosing}
use Rattle.rules.specs.declared.Accepted.TheVariants.{Changed, Listed}
use Rattle.rules.specs.declared.RequestFault.{RequestFault}
use Rattle.rules.specs.declared.RequestFault.TheVariants.{BadRectangle, BadNumber, NotHeld, Held, NoSlot, NoRoom}
use Rattle.rules.specs.Lists.{same}
use Rattle.rules.specs.Numbers.{good_number}
use Rattle.rules.specs.Geometry.{valid}
use Rattle.rules.specs.Compare.{exact_pair}
use Rattle.rules.specs.Pool.{Pool, moved, held}
use Rattle.rules.specs.Search.{found, opened}
use Rattle.rules.specs.Insert.{Choice, Change, Done, NoneFree, insert_record}
use Rattle.rules.specs.Delete.{delete_record, update_record}
use Rattle.rules.specs.Answers.{Reply, row, first_row}

-- "A request is of one of the four kinds; fields that its kind doesn't use are not looked at". Req 01: "kind 4 keeps meeting; kinds 5 and 6,
-- of the same layout, are inside and enclosing". Any other kind is no request. Req 07: it is its owner's
abbrev pub pair_in : Owner → Request → Record
pair_in o q = record { owner = o; number = q.number; rect = q.first }

unfoldable pub asked : Owner → Request → Option Asked
asked o q =
    first_row (
    row (same q.kind (pos 1)) (Insert (pair_in o q))
    ∷ row (same q.kind (pos 2)) (Delete (pair_in o q))
    ∷ row (same q.kind (pos 3)) (Update (pair_in o q) q.second)
    ∷ row (same q.kind (pos 4)) (Search o Meeting q.first)
    ∷ row (same q.kind (pos 5)) (Search o OnlyInside q.first)
    ∷ row (same q.kind (pos 6)) (Search o OnlyEnclosing q.first)
    ∷ [])

-- what a request leaves: the pool, the reply, and the records that a search lists
pub record Turn : Type 0 where
  pub pool : Pool
  pub reply : Reply
  pub listed : List FoundRecord

abbrev pub turn : Pool → Reply → List FoundRecord → Turn
turn p r rs = record { pool = p; reply = r; listed = rs }

-- 7: "the rules call for a slot at a moment when none is free"; "A refused request changes neither pool nor found list."
unfoldable pub after_change : Pool → Change → Turn
after_change p (Done q) = turn q (Ok Changed) []
after_change p NoneFree = turn p (Err NoSlot) []

-- the rows 3, 4 and 6 for an insert
unfoldable pub insert_fault : Pool → Record → Option RequestFault
insert_fault p r =
    first_row (
    row (not (valid r.rect)) BadRectangle
    ∷ row (not (good_number r.number)) BadNumber
    ∷ row (held p r) Held
    ∷ [])

-- 3, 4 and 5 for a delete
unfoldable pub delete_fault : Pool → Record → Option RequestFault
delete_fault p r =
    first_row (
    row (not (valid r.rect)) BadRectangle
    ∷ row (not (good_number r.number)) BadNumber
    ∷ row (not (held p r)) NotHeld
    ∷ [])

-- 3, 4, 5 and 6 for an update: "new pair held and not the old pair"
unfoldable pub update_fault : Pool → Record → Rect → Option RequestFault
update_fault p old new =
    first_row (
    row (not (valid old.rect) || not (valid new)) BadRectangle
    ∷ row (not (good_number old.number)) BadNumber
    ∷ row (not (held p old)) NotHeld
    ∷ row (held p (moved old new) && not (exact_pair old (moved old new))) Held
    ∷ [])

-- 3 and 8 for a search: "more found than places left in the found list"
unfoldable pub search_fault : Pool → ℕ → Owner → Mode → Rect → Option RequestFault
search_fault p room o mode window =
    first_row (
    row (not (valid window)) BadRectangle
    ∷ row (ltb room (length (found p o mode window))) (NoRoom (length (found p o mode window)) (opened p window))
    ∷ [])

-- a request done in a pool, with `filled` places of the found list filled and `room` left
unfoldable pub request : Choice → Pool → ℕ → ℕ → Asked → Turn
request c p filled room (Insert r) =
    elim (insert_fault p r) [ Some fault ↦ turn p (Err fault) [] | None ↦ after_change p (insert_record c p r) ]
request c p filled room (Delete r) =
    elim (delete_fault p r) [ Some fault ↦ turn p (Err fault) [] | None ↦ after_change p (delete_record c p r) ]
request c p filled room (Update old new) =
    elim (update_fault p old new) [ Some fault ↦ turn p (Err fault) [] | None ↦ after_change p (update_record c p old new) ]
request c p filled room (Search o mode window) =
    elim (search_fault p room o mode window) [
      | Some fault ↦ turn p (Err fault) []
      | None ↦ turn p (Ok (Listed (length (found p o mode window)) filled (opened p window))) (found p o mode window)
    ]
