-- A plain list less a pair: what is left, and the pair, are the list. So what stood once is gone, and every other occurs as often as
-- before.
use mathlib.Core.Path.{◌≡◌, refl, ap, subst, ◌∙◌}
use mathlib.Core.Logic.{⊎_elim}
use mathlib.Core.Bool.{Bool, true, false, cond}
use mathlib.Core.List.Memᴰ
use mathlib.Core.List.{List, [], ◌∷◌}
use Prim.Native.Nat.{ℕ, zero, suc, ◌+◌, ◌≤◌}
use native.Mathlib.Omega.{arith}
use lib.ListN.{length}
use Rattle.rules.specs.declared.Record.{Record}
use Rattle.rules.specs.Lists.{those}
use Rattle.rules.specs.Geometry.{same_pair}
use Rattle.rules.specs.Pool.{Pool, stored, held}
use Rattle.rules_laws.proofs.Orders.{never_both}
use Rattle.rules_laws.proofs.Places.{Among}
use Rattle.rules_laws.proofs.Parts.{those_yes, those_no, those_none, count_cons, counted}
use Rattle.sound_laws.specs.Tree.{Whole}
use Rattle.sound_laws.proofs.Same.{same_pair_lem}
use Rattle.search_laws.specs.Order.{Alike}
use Rattle.search_laws.proofs.Order.{alike_among, alike_back}
use Rattle.delete_laws.proofs.Held.{held_stored, held_is}
use Rattle.in_force_laws.specs.Force.{less_pair}
use Rattle.in_force_laws.specs.Shows.{EachOnce}

module _ (f : Record → Bool) (r : Record) where
  pub less_count : (xs : List Record) → Among r xs → length (those f (less_pair r xs)) + length (those f (r ∷ [])) ≡ length (those f xs)
  unfolding less_pair
  less_count [] m = absurd (Memᴰ.not-nil m)
  less_count (x ∷ xs) m = go (same_pair r x) refl (less_count xs)
    where
      go : (b : Bool) → same_pair r x ≡ b
          → (Among r xs → length (those f (less_pair r xs)) + length (those f (r ∷ [])) ≡ length (those f xs))
          → length (those f (cond b xs (x ∷ less_pair r xs))) + length (those f (r ∷ [])) ≡ length (those f (x ∷ xs))
      go true e later =
          subst (λ (y : Record). length (those f xs) + length (those f (r ∷ [])) ≡ length (those f (y ∷ xs))) ((same_pair_lem r x).0 e)
          (omega (arith, count_cons f r xs))
      go false e later =
          omega (
            arith,
            count_cons f x (less_pair r xs),
            count_cons f x xs,
            later (⊎_elim (λ h. never_both ((same_pair_lem r x).1 h) e) (λ h. h) (Memᴰ.cases_cons m)),
          )

module _ (r x : Record) (xs : List Record) where
  pub less_yes : same_pair r x ≡ true → less_pair r (x ∷ xs) ≡ xs
  unfolding less_pair
  less_yes h = rw h

  pub less_no : same_pair r x ≡ false → less_pair r (x ∷ xs) ≡ x ∷ less_pair r xs
  unfolding less_pair
  less_no h = rw h

-- what is not there stays out
pub less_none : (r : Record) (xs : List Record) → length (those (same_pair r) xs) ≡ 0 → less_pair r xs ≡ xs
less_none r [] h = unfold less_pair in refl
less_none r (x ∷ xs) h = go (same_pair r x) refl (less_none r xs)
  where
    go : (b : Bool) → same_pair r x ≡ b → (length (those (same_pair r) xs) ≡ 0 → less_pair r xs ≡ xs) → less_pair r (x ∷ xs) ≡ x ∷ xs
    go true e later = absurd (omega (arith, h, ap length (those_yes (same_pair r) x xs e)))
    go false e later = less_no r x xs e ∙ ap (λ (l : List Record). x ∷ l) (later (rw (those_no (same_pair r) x xs e) at h))

-- ---- none twice

pair_most : (x r : Record) → length (those (same_pair x) (r ∷ [])) ≤ 1
pair_most x r = go (same_pair x r) refl
  where
    go : (b : Bool) → same_pair x r ≡ b → length (those (same_pair x) (r ∷ [])) ≤ 1
    go true e = rw (those_yes (same_pair x) r [] e, those_none (same_pair x)) (omega arith)
    go false e = rw (those_no (same_pair x) r [] e, those_none (same_pair x)) (omega arith)

pub less_once : (r : Record) (xs : List Record) → Among r xs → EachOnce xs → EachOnce (less_pair r xs)
less_once r xs m h x = omega (arith, h x, less_count (same_pair x) r xs m)

pub some_in : (x : Record) (ys : List Record) → 1 ≤ length (those (same_pair x) ys) → Among x ys
some_in x [] k = absurd (omega (arith, k, ap length (those_none (same_pair x))))
some_in x (y ∷ ys) k = go (same_pair x y) refl (some_in x ys)
  where
    go : (b : Bool) → same_pair x y ≡ b → (1 ≤ length (those (same_pair x) ys) → Among x ys) → Among x (y ∷ ys)
    go true e later = Memᴰ.head ((same_pair_lem x y).0 e)
    go false e later = Memᴰ.tail (later (rw (those_no (same_pair x) y ys e) at k))

-- a pair that is not there yet
pub more_once : (r : Record) (xs : List Record) → (Among r xs → ⊥) → EachOnce xs → EachOnce (r ∷ xs)
more_once r xs n h x = go (same_pair x r) refl
  where
    count : (k : ℕ) → length (those (same_pair x) xs) ≡ k → x ≡ r → length (those (same_pair x) (r ∷ xs)) ≤ 1
    count zero e s = omega (arith, e, count_cons (same_pair x) r xs, pair_most x r)
    count (suc k) e s = absurd (n (subst (λ (y : Record). Among y xs) s (some_in x xs (omega (arith, e)))))

    go : (b : Bool) → same_pair x r ≡ b → length (those (same_pair x) (r ∷ xs)) ≤ 1
    go true e = count (length (those (same_pair x) xs)) refl ((same_pair_lem x r).0 e)
    go false e = rw (those_no (same_pair x) r xs e) (h x)

-- what is left was there
pub less_among : (x r : Record) (xs : List Record) → Among r xs → Among x (less_pair r xs) → Among x xs
less_among x r xs m n =
    some_in x xs (omega (arith, less_count (same_pair x) r xs m, counted (same_pair x) n ((same_pair_lem x x).1 refl)))

-- .. and a pair that stood there once is gone
pub less_gone : (r : Record) (xs : List Record) → Among r xs → EachOnce xs → Among r (less_pair r xs) → ⊥
less_gone r xs m h n =
    omega (
      arith,
      h r,
      less_count (same_pair r) r xs m,
      counted (same_pair r) n ((same_pair_lem r r).1 refl),
      counted (same_pair r) {x = r} {xs = r ∷ []} (Memᴰ.head refl) ((same_pair_lem r r).1 refl),
    )

-- ---- a pair that is held is in force

pub held_in_lem : (p : Pool) (rs : List Record) → Alike (stored p) rs → (r : Record) → held p r ≡ true → Among r rs
held_in_lem p rs a r h = alike_among a r (held_stored r p h)

pub in_held : (p : Pool) → Whole p → (rs : List Record) → Alike (stored p) rs → (r : Record) → Among r rs → held p r ≡ true
in_held p w rs a r m = (held_is r p w).1 (alike_among (alike_back a) r m)
