-- With so many slots free that each entry put back finds one for each level and one more, none is refused: an entry takes no more than that
-- (Slots), and the tree rises by one level at most for each.
use mathlib.Core.Path.{◌≡◌, refl}
use mathlib.Core.Logic.{⊎_elim}
use mathlib.Core.List.Memᴰ
use mathlib.Core.List.{List, [], ◌∷◌}
use Prim.Native.Nat.{ℕ, suc, ◌+◌, ◌≤◌}
use native.Mathlib.Omega.{arith}
use native.Mathlib.Nat.{suc-mul, mul-le-mul_left, mul-le-mul}
use lib.ListN.{length}
use Rattle.rules.specs.Pool.{Pool, free_count}
use Rattle.rules.specs.Insert.{Choice, Change, Done, NoneFree, insert_at}
use Rattle.rules.specs.Lawful.{Lawful}
use Rattle.rules.specs.Room.{slots_needed}
use Rattle.rules.specs.Delete.{Aside, reinsert}
use Rattle.insert_laws.proofs.Standing.{standing_once}
use Rattle.insert_laws.proofs.Slots.{level_slots, level_takes, level_needs_few}
use Rattle.delete_laws.specs.Shrunk.{slots_aside, Waiting, Sure, room_for, SlotRoom}
use Rattle.delete_laws.proofs.Again.{reinsert_none, reinsert_done, first_put, still_waiting}

pub sure_also : (Good Fine : Pool → Type 0) → ((q : Pool) → Good q → Fine q) → (o : Change) → Sure Good o → Sure Fine o
sure_also Good Fine f (Done q) h = f q h
sure_also Good Fine f NoneFree h = h

-- one entry and the rest
room_more : (n h g : ℕ) → g ≤ suc h → room_for n g + (h + suc n) ≤ room_for (suc n) h
unfolding room_for
room_more n h g l = let step : g + n ≤ h + suc n = omega arith in omega (arith, suc-mul n (h + suc n), mul-le-mul_left n step)

pub room_least : (n m h g : ℕ) → n ≤ m → g ≤ h → room_for n g ≤ room_for m h
unfolding room_for
room_least n m h g a b = let step : g + n ≤ h + m = omega arith in mul-le-mul a step

module _ (c : Choice) (lawful : Lawful c) where
  -- the first of them
  module _ (p : Pool) (a : Aside) (rest : List Aside) (w : Waiting p (a ∷ rest)) where
    abbrev needed : ℕ
    needed = slots_needed c a.level p a.entry.rect

    low : a.level ≤ p.height
    low = omega (arith, w.low a (Memᴰ.head refl))

    needs_few : needed ≤ suc p.height
    needs_few =
        level_needs_few c lawful p a.level a.entry w.stands.tree (standing_once p (slots_aside p (a ∷ rest)) w.stands) w.stands.some
        (w.fit a (Memᴰ.head refl)) low

    refused : insert_at c a.level p a.entry ≡ NoneFree → suc (free_count p) ≤ needed
    refused h =
        (level_slots c lawful p a.level a.entry w.stands.tree (standing_once p (slots_aside p (a ∷ rest)) w.stands) w.stands.some
        (w.fit a (Memᴰ.head refl)) low).0 h

    takes : (q : Pool) → insert_at c a.level p a.entry ≡ Done q → free_count q + needed ≡ free_count p
    takes q h =
        level_takes c lawful p a.level a.entry w.stands.tree (standing_once p (slots_aside p (a ∷ rest)) w.stands) w.stands.some
        (w.fit a (Memᴰ.head refl)) low q h

    higher : (q : Pool) → insert_at c a.level p a.entry ≡ Done q → q.height ≤ suc p.height
    higher q h = ⊎_elim (λ o. omega (arith, o.1)) (λ o. omega (arith, o.1)) (first_put c lawful p a rest w q h).head

  pub reinsert_room : (xs : List Aside) (p : Pool) → Waiting p xs → room_for (length xs) p.height ≤ free_count p
      → Sure (SlotRoom p (length xs)) (reinsert c p xs)
  reinsert_room [] p w room = rw (reinsert_none c p) (record { high = omega arith; left = omega arith })
  reinsert_room (a ∷ rest) p w room = go (insert_at c a.level p a.entry) refl (reinsert_room rest)
    where
      go : (o : Change) → insert_at c a.level p a.entry ≡ o
          → ((q : Pool) → Waiting q rest → room_for (length rest) q.height ≤ free_count q → Sure (SlotRoom q (length rest)) (reinsert c q rest))
          → Sure (SlotRoom p (suc (length rest))) (reinsert c p (a ∷ rest))
      go (Done q) h later =
          let k = higher p a rest w q h in
          let more = room_more (length rest) p.height q.height k in
          let t = takes p a rest w q h in
          let few = needs_few p a rest w in
          rw (reinsert_done c p a rest q h)
          (sure_also (SlotRoom q (length rest)) (SlotRoom p (suc (length rest)))
          (λ z g. record { high = omega (arith, g.high, k); left = omega (arith, g.left, more, t, few) })
          (reinsert c q rest) (later q (still_waiting c lawful p a rest w q h) (omega (arith, room, more, t, few))))
      go NoneFree h later =
          let more = room_more (length rest) p.height 0 (omega arith) in
          absurd (omega (arith, room, more, refused p a rest w h, needs_few p a rest w))
