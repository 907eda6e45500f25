-- `every`, one after the other, as a loop or a recursion goes through a list.
use mathlib.Core.Path.{◌≡◌, refl, sym, ap, ap₂, ◌∙◌}
use mathlib.Core.Bool.{Bool, true, ◌&&◌, and_assoc, and-true}
use mathlib.Core.List.Memᴰ
use mathlib.Core.List.{List, [], ◌∷◌, map}
use Prim.Native.Nat.{ℕ, zero, suc, ◌+◌, ◌≤◌, ◌<◌}
use native.Mathlib.Numerals.{add-one}
use native.Mathlib.Omega.{arith}
use lib.ListN.{length, get_or, drop, drop_of_length-le}
use lib.Seq.{drop-cons}
use Rattle.std.specs.List.{list_all, range_with_len}
use Rattle.rules.specs.declared.SlotNumber.{SlotNumber}
use Rattle.rules.specs.Lists.{every, up_from}
use Rattle.rules.specs.Pool.{Pool, slot, slot_numbers}
use Rattle.rules_laws.proofs.Everies.{every_nil, every_cons}
use Rattle.rules_laws.proofs.Places.{Among}

module _ {A : Type 0} (p : A → Bool) where
  module _ (xs : List A) (i : ℕ) where
    pub every_more : (d : A) → i < length xs → every p (drop i xs) ≡ (p (get_or xs i d) && every p (drop (i + 1) xs))
    every_more d h = rw (drop-cons xs i d h, add-one i) (every_cons p (get_or xs i d) (drop (suc i) xs))

    pub every_none : length xs ≤ i → every p (drop i xs) ≡ true
    every_none h = rw (drop_of_length-le xs h) (every_nil p)

  pub every_same : (q : A → Bool) (xs : List A) → ((x : A) → Among x xs → p x ≡ q x) → every p xs ≡ every q xs
  unfolding every
  every_same q [] h = refl
  every_same q (x ∷ xs) h = ap₂ ◌&&◌ (h x (Memᴰ.head refl)) (every_same q xs (λ y m. h y (Memᴰ.tail m)))

  -- what was asked so far, with those from place i on
  module _ (xs : List A) (i : ℕ) (so_far : Bool) where
    pub asked_more : (d : A) → i < length xs → (good next : Bool) → good ≡ p (get_or xs i d) → next ≡ (so_far && good)
        → (so_far && every p (drop i xs)) ≡ every p xs
        → (next && every p (drop (i + 1) xs)) ≡ every p xs
    asked_more d h good next e f rest =
        ap (λ (b : Bool). b && every p (drop (i + 1) xs)) (f ∙ ap (λ (b : Bool). so_far && b) e)
        ∙ and_assoc so_far (p (get_or xs i d)) (every p (drop (i + 1) xs))
        ∙ ap (λ (b : Bool). so_far && b) (sym (every_more xs i d h))
        ∙ rest

    pub asked_end : length xs ≤ i → (so_far && every p (drop i xs)) ≡ every p xs → so_far ≡ every p xs
    asked_end h rest = sym (and-true so_far) ∙ ap (λ (b : Bool). so_far && b) (sym (every_none xs i h)) ∙ rest

-- asked of each slot by its place, as `all` goes through them
module _ (p : SlotNumber → Bool) where
  all_from : (a n : ℕ) → list_all (λ (i : ℕ). p (slot (i + 1))) (range_with_len a n) ≡ every p (map slot (up_from (a + 1) n))
  unfolding every up_from
  all_from a zero = refl
  all_from a (suc n) =
      let e : a + 1 + 1 ≡ suc (a + 1) = omega arith in
      ap (λ (b : Bool). p (slot (a + 1)) && b) (all_from (a + 1) n ∙ ap (λ (k : ℕ). every p (map slot (up_from k n))) e)

  pub all_slots : (q : Pool) (n : ℕ) → n ≡ length q.slots → list_all (λ (i : ℕ). p (slot (i + 1))) (range_with_len 0 n) ≡ every p (slot_numbers q)
  unfolding slot_numbers
  all_slots q n e = all_from 0 n ∙ ap (λ (k : ℕ). every p (map slot (up_from 1 k))) e
