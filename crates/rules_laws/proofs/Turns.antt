-- `earliest_best`, and the numbers below one, a candidate at a time, as a loop goes through them: both are defined so.
use mathlib.Core.Path.{◌≡◌, refl}
use mathlib.Core.Bool.{Bool, cond}
use mathlib.Core.List.{List, [], ◌∷◌}
use Prim.Native.Nat.{ℕ, suc, ◌+◌, ◌-◌, ◌≤◌, ◌<◌}
use native.Mathlib.Numerals.{add-one}
use native.Mathlib.Omega.{arith}
use Rattle.rules.specs.Lists.{earliest_best, up_from}

module _ {A : Type 0} (better : A → A → Bool) where
  pub best_nil : (x : A) → earliest_best better x [] ≡ x
  unfolding earliest_best
  best_nil x = refl

  pub best_cons : (x y : A) (ys : List A) → earliest_best better x (y ∷ ys) ≡ earliest_best better (cond (better y x) y x) ys
  unfolding earliest_best
  best_cons x y ys = refl

-- the numbers from i to n
pub up_more : (i n : ℕ) → i < n → up_from i (n - i) ≡ i ∷ up_from (i + 1) (n - (i + 1))
unfolding up_from
up_more i n h = let e : n - i ≡ suc (n - (i + 1)) = omega arith in rw (e, add-one i)

pub up_none : (i n : ℕ) → n ≤ i → up_from i (n - i) ≡ []
unfolding up_from
up_none i n h = let e : n - i ≡ 0 = omega arith in rw e
