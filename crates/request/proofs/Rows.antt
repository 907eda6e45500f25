-- The rows of the table that apply, request by request: what is refused, and that what passes every row is done. The table is read from the
-- top, so a row decides where those above it do not apply.
use Rattle.std.specs.Prelude.{Ok, Err}
use mathlib.Core.Path.{◌≡◌, refl}
use mathlib.Core.Bool.{Bool, true, false, ◌&&◌}
use mathlib.Core.List.{[]}
use Prim.Native.Nat.{ℕ, ◌≤◌, ◌<◌}
use lib.ListN.{length}
use borrow.Author.Tests.{lt-ltb, le-ltb}
use Rattle.rules.specs.declared.Rect.{Rect}
use Rattle.rules.specs.declared.Owner.{Owner}
use Rattle.rules.specs.declared.Record.{Record}
use Rattle.rules.specs.declared.Mode.{Mode}
use Rattle.rules.specs.declared.Asked.TheVariants.{Insert, Delete, Update, Search}
use Rattle.rules.specs.declared.Accepted.TheVariants.{Listed}
use Rattle.rules.specs.declared.RequestFault.TheVariants.{BadRectangle, BadNumber, NotHeld, Held, NoRoom}
use Rattle.rules.specs.Numbers.{good_number}
use Rattle.rules.specs.Lists.{same}
use Rattle.rules.specs.Owners.{owned_by}
use Rattle.rules.specs.Geometry.{valid}
use Rattle.rules.specs.Compare.{compared, is_equal, exact_pair}
use Rattle.rules.specs.Pool.{Pool, moved, held}
use Rattle.rules.specs.Search.{found, opened}
use Rattle.rules.specs.Insert.{ours, insert_record}
use Rattle.rules.specs.Delete.{delete_record, update_record}
use Rattle.rules.specs.Answers.{first_row}
use Rattle.rules.specs.Request.{Turn, turn, after_change, insert_fault, delete_fault, update_fault, search_fault, request}
use Rattle.sound_laws.proofs.Same.{same_is}
use Rattle.request.specs.Serving.{other_held}
use Rattle.in_force_laws.proofs.Change.{insert_some, insert_none, delete_some, delete_none, update_some, update_none, search_some, search_none}

-- ---- insert: 3, 4, 6

module _ (p : Pool) (filled room : ℕ) (r : Record) where
  abbrev inserts : Turn
  inserts = request ours p filled room (Insert r)

  pub insert_3 : valid r.rect ≡ false → inserts ≡ turn p (Err BadRectangle) []
  unfolding insert_fault first_row
  insert_3 v = insert_some ours p filled room r BadRectangle (rw (v, first_row))

  pub insert_4 : valid r.rect ≡ true → good_number r.number ≡ false → inserts ≡ turn p (Err BadNumber) []
  unfolding insert_fault first_row
  insert_4 v g = insert_some ours p filled room r BadNumber (rw (v, g, first_row))

  pub insert_6 : valid r.rect ≡ true → good_number r.number ≡ true → held p r ≡ true → inserts ≡ turn p (Err Held) []
  unfolding insert_fault first_row
  insert_6 v g h = insert_some ours p filled room r Held (rw (v, g, h, first_row))

  pub insert_0 : valid r.rect ≡ true → good_number r.number ≡ true → held p r ≡ false → inserts ≡ after_change p (insert_record ours p r)
  unfolding insert_fault first_row
  insert_0 v g h = insert_none ours p filled room r (rw (v, g, h, first_row))

  -- ---- delete: 3, 4, 5

  abbrev deletes : Turn
  deletes = request ours p filled room (Delete r)

  pub delete_3 : valid r.rect ≡ false → deletes ≡ turn p (Err BadRectangle) []
  unfolding delete_fault first_row
  delete_3 v = delete_some ours p filled room r BadRectangle (rw (v, first_row))

  pub delete_4 : valid r.rect ≡ true → good_number r.number ≡ false → deletes ≡ turn p (Err BadNumber) []
  unfolding delete_fault first_row
  delete_4 v g = delete_some ours p filled room r BadNumber (rw (v, g, first_row))

  pub delete_5 : valid r.rect ≡ true → good_number r.number ≡ true → held p r ≡ false → deletes ≡ turn p (Err NotHeld) []
  unfolding delete_fault first_row
  delete_5 v g h = delete_some ours p filled room r NotHeld (rw (v, g, h, first_row))

  pub delete_0 : valid r.rect ≡ true → good_number r.number ≡ true → held p r ≡ true → deletes ≡ after_change p (delete_record ours p r)
  unfolding delete_fault first_row
  delete_0 v g h = delete_none ours p filled room r (rw (v, g, h, first_row))

-- ---- update: 3, 4, 5, 6

module _ (p : Pool) (filled room : ℕ) (old : Record) (new : Rect) where
  abbrev updates : Turn
  updates = request ours p filled room (Update old new)

  pub update_old : valid old.rect ≡ false → updates ≡ turn p (Err BadRectangle) []
  unfolding update_fault first_row other_held
  update_old v = update_some ours p filled room old new BadRectangle (rw (v, first_row))

  pub update_new : valid old.rect ≡ true → valid new ≡ false → updates ≡ turn p (Err BadRectangle) []
  unfolding update_fault first_row other_held
  update_new v u = update_some ours p filled room old new BadRectangle (rw (v, u, first_row))

  module _ (v : valid old.rect ≡ true) (u : valid new ≡ true) where
    pub update_4 : good_number old.number ≡ false → updates ≡ turn p (Err BadNumber) []
    unfolding update_fault first_row other_held
    update_4 g = update_some ours p filled room old new BadNumber (rw (v, u, g, first_row))

    pub update_5 : good_number old.number ≡ true → held p old ≡ false → updates ≡ turn p (Err NotHeld) []
    unfolding update_fault first_row other_held
    update_5 g h = update_some ours p filled room old new NotHeld (rw (v, u, g, h, first_row))

    pub update_6 : good_number old.number ≡ true → held p old ≡ true → other_held p old new ≡ true → updates ≡ turn p (Err Held) []
    unfolding update_fault first_row other_held
    update_6 g h o =
        update_some ours p filled room old new Held
        (rw (v, u, g, h, o, first_row))

    pub update_0 : good_number old.number ≡ true → held p old ≡ true → other_held p old new ≡ false → updates ≡ after_change p (update_record ours p old new)
    unfolding update_fault first_row other_held
    update_0 g h o =
        update_none ours p filled room old new
        (rw (v, u, g, h, o, first_row))

-- ---- search: 3, 8

module _ (p : Pool) (filled room : ℕ) (o : Owner) (mode : Mode) (window : Rect) where
  abbrev searches : Turn
  searches = request ours p filled room (Search o mode window)

  pub search_3 : valid window ≡ false → searches ≡ turn p (Err BadRectangle) []
  unfolding search_fault first_row
  search_3 v = search_some ours p filled room o mode window BadRectangle (rw (v, first_row))

  pub search_8 : valid window ≡ true → room < length (found p o mode window) → searches ≡ turn p (Err (NoRoom (length (found p o mode window)) (opened p window))) []
  unfolding search_fault first_row
  search_8 v h = search_some ours p filled room o mode window (NoRoom (length (found p o mode window)) (opened p window)) (rw (v, lt-ltb _ _ h, first_row))

  pub search_0 : valid window ≡ true → length (found p o mode window) ≤ room
      → searches ≡ turn p (Ok (Listed (length (found p o mode window)) filled (opened p window))) (found p o mode window)
  unfolding search_fault first_row
  search_0 v h = search_none ours p filled room o mode window (rw (v, le-ltb _ _ h, first_row))

-- ---- "and not the old pair"

module _ (p : Pool) (old : Record) (new : Rect) where
  abbrev moves : Record
  moves = moved old new

  same_number : same old.number.0 old.number.0 ≡ true
  same_number = (same_is old.number.0 old.number.0).1 refl

  same_owner : same old.owner.0 old.owner.0 ≡ true
  same_owner = (same_is old.owner.0 old.owner.0).1 refl

  -- the pair is the old one where the rectangle is
  pub other_same : is_equal (compared old.rect new) ≡ true → false ≡ other_held p old new
  unfolding other_held exact_pair owned_by
  other_same h = rw (same_number, h, same_owner) (go (held p moves))
    where
      go : (b : Bool) → false ≡ (b && false)
      go true = refl
      go false = refl

  pub other_new : is_equal (compared old.rect new) ≡ false → held p moves ≡ other_held p old new
  unfolding other_held exact_pair owned_by
  other_new h = rw (same_number, h) (go (held p moves))
    where
      go : (b : Bool) → b ≡ (b && true)
      go true = refl
      go false = refl
