-- A turn in words: what is refused leaves the words; what a change leaves is sound again, since insert, delete and update leave a whole pool.
use mathlib.Core.Path.{◌≡◌, refl, sym, subst, ◌∙◌}
use mathlib.Core.Logic.{◌≢◌}
use mathlib.Core.Bool.{Bool, true, false}
use mathlib.Core.List.{List, []}
use Prim.Native.Nat.{ℕ, suc, ◌+◌, ◌*◌, ◌≤◌}
use native.Mathlib.Omega.{arith}
use native.Mathlib.Nat.{mul-le-mul}
use lib.Dec.{ltb}
use lib.ListN.{length}
use lib.IntN.{ℤ}
use Rattle.std.specs.Prelude.{Option, Some, None, Ok, Err, ok_or}
use borrow.Author.Tests.{ltb-false}
use Rattle.rules.specs.declared.RequestFault.{RequestFault}
use Rattle.rules.specs.declared.Rect.{Rect}
use Rattle.rules.specs.declared.Record.{Record}
use Rattle.rules.specs.declared.Asked.{Asked}
use Rattle.rules.specs.declared.Asked.TheVariants.{Insert, Delete, Update}
use Rattle.rules.specs.declared.Accepted.TheVariants.{Changed}
use Rattle.rules.specs.declared.RequestFault.TheVariants.{NoSlot}
use Rattle.rules.specs.Owners.{owner_sound}
use Rattle.rules.specs.Pool.{Pool, stored, held, free_count}
use Rattle.rules.specs.Sound.{owners_sound}
use Rattle.rules.specs.Layout.{read}
use Rattle.rules.specs.Numbers.{good_number}
use Rattle.rules.specs.Geometry.{valid}
use Rattle.rules.specs.Insert.{ours, Change, Done, NoneFree, insert_record}
use Rattle.rules.specs.Delete.{Path, path_to, delete_record, update_record}
use Rattle.rules.specs.Request.{Turn, turn, after_change, request}
use Rattle.layout_laws.specs.Slots.{Fit}
use Rattle.sound_laws.specs.Tree.{Whole}
use Rattle.free_slots.specs.declared.FreeSlots.{FreeSlots}
use Rattle.free_slots.specs.Known.{Known}
use Rattle.delete_laws.specs.Way.{thin_levels, most_back}
use Rattle.delete_laws.specs.Shrunk.{EachPool, room_for}
use Rattle.delete_laws.proofs.Spare.{room_least}
use Rattle.find_leaf.specs.declared.Way.{Way}
use Rattle.find_leaf.specs.Ways.{path_of, Gives}
use Rattle.insert.specs.Left.{HoldsPool, Leaves}
use Rattle.delete.specs.Removed.{Removes}
use Rattle.delete.proofs.Deleted.{ToDelete, finds}
use Rattle.request.specs.Serving.{Ready, Changes, ChangesTo, replied, changed, TakenBack, room_from, other_held}
use Rattle.rules_laws.proofs.Splits.{ours_lawful}
use Rattle.insert_laws.proofs.Whole.{insert_whole}
use Rattle.delete_laws.proofs.Delete.{delete_whole, delete_fits, pool_left}
use Rattle.delete_laws.proofs.Held.{held_stored}
use Rattle.delete_laws.proofs.Update.{update_whole, update_fits}
use Rattle.request.proofs.Rows.{insert_0, delete_0, update_0}
use Rattle.in_force_laws.proofs.Sounds.{sound_fit, sound_tree, sound_owners, fit_sound}
use Rattle.in_force_laws.specs.Shows.{EachOwned}
use Rattle.in_force_laws.proofs.Owned.{owned_sound, insert_owned, delete_owned, update_owned}

-- ---- ready

module _ (w : List ℤ) (f : FreeSlots) (r : Ready w f) where
  pub ready_fit : Fit w
  ready_fit = sound_fit w r.right r.sound

  pub ready_whole : Whole (read w)
  ready_whole = sound_tree w r.sound

  pub ready_owners : owners_sound (read w) ≡ true
  ready_owners = sound_owners w r.sound

  ready_each : EachOwned (read w) (stored (read w))
  ready_each = (owned_sound (read w)).0 ready_owners

  -- a pair that is held is of an owner that the edition has
  pub ready_owner : (x : Record) → held (read w) x ≡ true → owner_sound (read w).edition x.owner ≡ true
  ready_owner x h = ready_each x (held_stored x (read w) h)

-- what a change leaves: one tree, with owners that its edition has
abbrev Keeps : Pool → Type 0
Keeps q = Whole q × (owners_sound q ≡ true)

held_ready : (q : Pool) (f : FreeSlots) (w : List ℤ) → Keeps q → HoldsPool q f w → Ready w f
held_ready q f w t h = record {
  right = h.fit.right;
  sound = fit_sound w h.fit (subst Whole (sym h.is) t.0) (subst (λ (p : Pool). owners_sound p ≡ true) (sym h.is) t.1);
  known = subst (λ (p : Pool). Known p f) (sym h.is) h.known;
}

-- ---- refused

module _ (w : List ℤ) (f : FreeSlots) (r : Ready w f) where
  pub stays : (t : Turn) (fault : RequestFault) → t ≡ turn (read w) (Err fault) [] → Changes (length w) t (replied (Err fault) f) w
  unfolding replied
  stays t fault h = rw h (record { ready = r; pool = refl; answer = refl; none = refl; listed = refl; same = refl })

-- ---- changed

made : (q : Pool) (g : FreeSlots) (v : List ℤ) (n : ℕ) → Keeps q → HoldsPool q g v → length v ≡ n
    → Changes n (turn q (Ok Changed) []) (replied (Ok Changed) g) v
unfolding replied
made q g v n t h e = record { ready = held_ready q g v t h; pool = h.is; answer = refl; none = refl; listed = refl; same = e }

module _ (w : List ℤ) (f : FreeSlots) (r : Ready w f) where
  -- an insert: where it is refused nothing was written
  pub inserted : (change : Change) → EachPool Keeps change → (o : Option FreeSlots) (v : List ℤ) → length v ≡ length w → Leaves w change o v
      → Changes (length w) (after_change (read w) change) (changed f (ok_or o NoSlot)) v
  unfolding after_change changed
  inserted (Done q) t (Some g) v e h = made q g v (length w) t h e
  inserted (Done q) t None v e h = absurd h
  inserted NoneFree t (Some g) v e h = absurd h
  inserted NoneFree t None v e h = subst (Changes (length w) (turn (read w) (Err NoSlot) []) (replied (Err NoSlot) f)) (sym h) (stays w f r (turn (read w) (Err NoSlot) []) NoSlot refl)

  -- a delete or an update: where it is refused it is taken back from the copy, which was made where slots are scarce; where they are not,
  -- it is not refused
  module _ (room : ℕ) (kept : List ℤ) (copied : ltb f.count room ≡ true → kept ≡ w) where
    pub removed : (change : Change) → EachPool Keeps change → (room ≤ f.count → change ≢ NoneFree) → (o : Option FreeSlots) (v : List ℤ)
        → Removes w change o v → (u : List ℤ) → length u ≡ length w → TakenBack o v kept u
        → Changes (length w) (after_change (read w) change) (changed f (ok_or o NoSlot)) u
    unfolding after_change changed
    removed (Done q) t enough (Some g) v h u e back = made q g u (length w) t (subst (HoldsPool q g) (sym back) h) e
    removed (Done q) t enough None v h u e back = absurd h
    removed NoneFree t enough (Some g) v h u e back = absurd h
    removed NoneFree t enough None v h u e back = go (ltb f.count room) refl
      where
        go : (b : Bool) → ltb f.count room ≡ b → Changes (length w) (turn (read w) (Err NoSlot) []) (replied (Err NoSlot) f) u
        go true s = subst (Changes (length w) (turn (read w) (Err NoSlot) []) (replied (Err NoSlot) f)) (sym (back ∙ copied s)) (stays w f r (turn (read w) (Err NoSlot) []) NoSlot refl)
        go false s = absurd (enough (ltb-false f.count room s) refl)

module _ (o : Option FreeSlots) (changed copy w : List ℤ) where
  pub back_made : (g : FreeSlots) → o ≡ Some g → w ≡ changed → TakenBack o changed copy w
  back_made g h e = rw h e

  pub back_refused : o ≡ None → w ≡ copy → TakenBack o changed copy w
  back_refused h e = rw h e

-- ---- how many free slots are enough

pub room_small : (k h records : ℕ) → k ≤ 7 → h ≤ 8 → records ≤ 1 → (2 * k * (h + 2 * k) ≤ 308) × (records * (h + 2 * k + 1) ≤ 23)
unfolding room_for
room_small k h records a b c =
    let high : h + 2 * k + 1 ≤ 23 = omega arith in
    (room_least (2 * k) 14 8 h (omega arith) b, mul-le-mul c high)

-- as the code has it
pub room_is : (p : Pool) (way : Path) (records h k : ℕ) → h ≡ p.height → k ≡ thin_levels p way
    → 2 * k * (h + 2 * k) + records * (h + 2 * k + 1) ≡ room_from p way records
unfolding room_from room_for
room_is p way records h k eh ek = rw (eh, ek, ← (plus_one (p.height + most_back p way)))
  where
    plus_one : (m : ℕ) → m + 1 ≡ suc m
    plus_one m = omega arith

-- ---- the three changes

-- what a delete is asked with
pub to_delete : (w : List ℤ) (f : FreeSlots) → Ready w f → (p : Record) (way : Way)
    → Gives (path_to (read w) p) (read w).height (Some way) → ToDelete w p way
to_delete w f r p way shows = record { fit = ready_fit w f r; whole = ready_whole w f r; owned = ready_owners w f r; shows = shows }

module _ (p : Pool) (way : Path) (f : FreeSlots) (many : f.count ≡ free_count p) where
  delete_enough : room_from p way 0 ≤ f.count → room_for (most_back p way) p.height ≤ free_count p
  unfolding room_from
  delete_enough n = omega (arith, many, n)

  update_enough : room_from p way 1 ≤ f.count → room_for (most_back p way) p.height + suc (p.height + most_back p way) ≤ free_count p
  unfolding room_from
  update_enough n = omega (arith, many, n)

module _ (w : List ℤ) (f : FreeSlots) (r : Ready w f) where
  -- a row of the table applies
  pub row_applies : (a : Asked) (fault : RequestFault) → ((filled room : ℕ) → request ours (read w) filled room a ≡ turn (read w) (Err fault) [])
      → ChangesTo w a (changed f (Err fault)) w
  unfolding changed
  row_applies a fault h filled room = stays w f r _ fault (h filled room)

  module _ (p : Record) (a : valid p.rect ≡ true) (b : good_number p.number ≡ true) where
    pub insert_changes : owner_sound (read w).edition p.owner ≡ true → held (read w) p ≡ false → (o : Option FreeSlots) (v : List ℤ)
        → length v ≡ length w → Leaves w (insert_record ours (read w) p) o v → ChangesTo w (Insert p) (changed f (ok_or o NoSlot)) v
    insert_changes s d o v e h filled room =
        subst (λ (t : Turn). Changes (length w) t (changed f (ok_or o NoSlot)) v) (sym (insert_0 (read w) filled room p a b d))
        (inserted w f r (insert_record ours (read w) p)
        (pool_left Keeps (insert_record ours (read w) p) (λ q z. (
          insert_whole ours ours_lawful (read w) (ready_whole w f r) p a b q z,
          (owned_sound q).1 (insert_owned ours ours_lawful (read w) (ready_whole w f r) (ready_each w f r) p a b s q z),
        ))) o v e h)

    module _ (d : held (read w) p ≡ true) (way : Way) (g : ToDelete w p way) (kept : List ℤ) where
      abbrev path : Path
      path = path_of (read w).height way

      pub delete_changes : (halfway : Bool) → halfway ≡ ltb f.count (room_from (read w) path 0) → (halfway ≡ true → kept ≡ w)
          → (o : Option FreeSlots) (v : List ℤ) → Removes w (delete_record ours (read w) p) o v → (u : List ℤ) → length u ≡ length w → TakenBack o v kept u
          → ChangesTo w (Delete p) (changed f (ok_or o NoSlot)) u
      delete_changes halfway is copied o v h u e back filled room =
          subst (λ (t : Turn). Changes (length w) t (changed f (ok_or o NoSlot)) u) (sym (delete_0 (read w) filled room p a b d))
          (removed w f r (room_from (read w) path 0) kept (λ few. copied (is ∙ few)) (delete_record ours (read w) p)
          (pool_left Keeps (delete_record ours (read w) p) (λ q z. (
            delete_whole ours ours_lawful (read w) (ready_whole w f r) p q z,
            (owned_sound q).1 (delete_owned ours ours_lawful (read w) (ready_whole w f r) (ready_each w f r) p d q z),
          )))
          (λ n.
          delete_fits ours (read w) p (ready_whole w f r) ours_lawful path (finds g) (delete_enough (read w) path f r.known.many n))
          o v h u e back)

      module _ (new : Rect) (c : valid new ≡ true) (other : other_held (read w) p new ≡ false) where
        pub update_changes : (halfway : Bool) → halfway ≡ ltb f.count (room_from (read w) path 1) → (halfway ≡ true → kept ≡ w)
            → (o : Option FreeSlots) (v : List ℤ) → Removes w (update_record ours (read w) p new) o v → (u : List ℤ) → length u ≡ length w
            → TakenBack o v kept u → ChangesTo w (Update p new) (changed f (ok_or o NoSlot)) u
        update_changes halfway is copied o v h u e back filled room =
            subst (λ (t : Turn). Changes (length w) t (changed f (ok_or o NoSlot)) u) (sym (update_0 (read w) filled room p new a c b d other))
            (removed w f r (room_from (read w) path 1) kept (λ few. copied (is ∙ few)) (update_record ours (read w) p new)
            (pool_left Keeps (update_record ours (read w) p new) (λ q z. (
              update_whole ours (read w) p new ours_lawful (ready_whole w f r) d c q z,
              (owned_sound q).1 (update_owned ours ours_lawful (read w) (ready_whole w f r) (ready_each w f r) p new d c q z),
            )))
            (λ n.
            update_fits ours (read w) p new ours_lawful (ready_whole w f r) d c path (finds g)
            (update_enough (read w) path f r.known.many n))
            o v h u e back)
