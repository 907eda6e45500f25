-- "Update deletes the old pair, then inserts the new rectangle under the same number; also where old equals new." So its laws are those of
-- delete and then of insert.
use mathlib.Core.Path.{◌≡◌, refl, sym, subst, ◌∙◌}
use mathlib.Core.Logic.{◌≢◌}
use mathlib.Core.Bool.{Bool, true}
use mathlib.Core.List.{[], ◌∷◌}
use Rattle.std.specs.Prelude.{Some}
use Prim.Native.Nat.{suc, ◌+◌, ◌≤◌}
use native.Mathlib.Omega.{arith}
use lib.ListN.{length}
use Rattle.rules.specs.declared.Rect.{Rect}
use Rattle.rules.specs.declared.Record.{Record}
use Rattle.rules.specs.Lists.{those}
use Rattle.rules.specs.Numbers.{good_number}
use Rattle.rules.specs.Geometry.{valid}
use Rattle.rules.specs.Pool.{Pool, moved, stored, held, free_count}
use Rattle.rules.specs.Sound.{sound_pool}
use Rattle.rules.specs.Insert.{Choice, Change, Done, NoneFree, insert_record}
use Rattle.rules.specs.Lawful.{Lawful}
use Rattle.rules.specs.Delete.{Path, path_to, delete_record, update_record}
use Rattle.sound_laws.specs.Tree.{Whole}
use Rattle.sound_laws.proofs.Sound.{whole_sound}
use Rattle.insert_laws.proofs.Whole.{insert_whole, insert_stored}
use Rattle.insert_laws.proofs.Slots.{insert_fits}
use Rattle.delete_laws.specs.Way.{most_back}
use Rattle.delete_laws.specs.Shrunk.{EachPool, Sure, room_for, SlotRoom}
use Rattle.delete_laws.proofs.Held.{held_number}
use Rattle.delete_laws.proofs.Delete.{delete_room, delete_whole, delete_stored}

module _ (c : Choice) (p : Pool) (old : Record) (new : Rect) where
  pub update_done : (q : Pool) → delete_record c p old ≡ Done q → update_record c p old new ≡ insert_record c q (moved old new)
  unfolding update_record
  update_done q h = rw (h, update_record)

  pub update_stuck : delete_record c p old ≡ NoneFree → update_record c p old new ≡ NoneFree
  unfolding update_record
  update_stuck h = rw (h, update_record)

  module _ (lawful : Lawful c) (w : Whole p) (y : held p old ≡ true) (v : valid new ≡ true) (z : Pool) (u : update_record c p old new ≡ Done z) where
    abbrev Updated : Type 0
    Updated = Whole z × ((f : Record → Bool)
        → length (those f (stored z)) + length (those f (old ∷ [])) ≡ length (those f (stored p)) + length (those f (moved old new ∷ [])))

    updated : Updated
    updated = go (delete_record c p old) refl
      where
        number : good_number old.number ≡ true
        number = held_number p w old y

        go : (o : Change) → delete_record c p old ≡ o → Updated
        go (Done q) h =
            let whole = delete_whole c lawful p w old q h in
            let is = sym (update_done q h) ∙ u in (
              insert_whole c lawful q whole (moved old new) v number z is,
              λ f. omega (arith, delete_stored c lawful p w old q h y f, insert_stored c lawful q whole (moved old new) v number z is f),
            )
        go NoneFree h = absurd (subst (EachPool (λ x. ⊥)) (sym (update_stuck h) ∙ u) tt)

    pub update_whole : Whole z
    update_whole = updated.0

    pub update_stored : (f : Record → Bool)
        → length (those f (stored z)) + length (those f (old ∷ [])) ≡ length (those f (stored p)) + length (those f (moved old new ∷ []))
    update_stored = updated.1

    pub update_sound : sound_pool z ≡ true
    update_sound = whole_sound z update_whole

  -- with enough slots an update is done: those of a delete, and one for each level that the tree may have then and one more
  module _ (lawful : Lawful c) (w : Whole p) (y : held p old ≡ true) (v : valid new ≡ true) (way : Path)
      (finds : path_to p old ≡ Some way) where
    pub update_fits : room_for (most_back p way) p.height + suc (p.height + most_back p way) ≤ free_count p
        → update_record c p old new ≢ NoneFree
    update_fits room u = go (delete_record c p old) refl
      where
        sure : Sure (SlotRoom p (most_back p way)) (delete_record c p old)
        sure = delete_room c p old w lawful way finds (omega (arith, room))

        go : (o : Change) → delete_record c p old ≡ o → ⊥
        go (Done q) h =
            let k = subst (Sure (SlotRoom p (most_back p way))) h sure in
            insert_fits c lawful q (delete_whole c lawful p w old q h) (moved old new) v (held_number p w old y)
            (omega (arith, room, k.high, k.left)) (sym (update_done q h) ∙ u)
        go NoneFree h = subst (Sure (SlotRoom p (most_back p way))) h sure
