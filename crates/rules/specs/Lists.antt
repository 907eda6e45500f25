-- Small words on lists and numbers, and the one form that every choice of document 01 has.
use Rattle.std.specs.Prelude.{Bool, true, false, cond, not, ◌&&◌, ◌||◌, List, [], ◌∷◌, ◌++◌, ℕ, zero, suc, ◌+◌, ℤ}
use Rattle.std.specs.Int.Signed.{le_z, lt_z}

module _ {A : Type 0} where
  -- the members for which p holds, in their order
  unfoldable pub those : (A → Bool) → List A → List A
  those p [] = []
  those p (x ∷ xs) = cond (p x) (x ∷ those p xs) (those p xs)

  -- p holds for each
  unfoldable pub every : (A → Bool) → List A → Bool
  every p [] = true
  every p (x ∷ xs) = p x && every p xs

  -- p holds for at least one
  unfoldable pub one_of : (A → Bool) → List A → Bool
  one_of p [] = false
  one_of p (x ∷ xs) = p x || one_of p xs

  -- the lists, one after another
  unfoldable pub joined : List (List A) → List A
  joined [] = []
  joined (l ∷ ls) = l ++ joined ls

  -- the list less the one at place i; "Later entries close up"
  unfoldable pub without : ℕ → List A → List A
  without i [] = []
  without zero (x ∷ xs) = xs
  without (suc i) (x ∷ xs) = x ∷ without i xs

  -- the earliest of x and the xs that none of them is better than. `better` is strict, so in a tie the earlier one stays
  unfoldable pub earliest_best : (A → A → Bool) → A → List A → A
  earliest_best better x [] = x
  earliest_best better x (y ∷ ys) = earliest_best better (cond (better y x) y x) ys

-- the sum of the numbers
unfoldable pub total : List ℕ → ℕ
total [] = 0
total (n ∷ ns) = n + total ns

-- n numbers, from i on
unfoldable pub up_from : ℕ → ℕ → List ℕ
up_from i zero = []
up_from i (suc n) = i ∷ up_from (suc i) n

-- the same whole number
unfoldable pub same : ℤ → ℤ → Bool
same a b = le_z a b && le_z b a

-- a rule and the next: a is less than b; or neither is less, and the next rule decides
unfoldable pub less_then : ℤ → ℤ → Bool → Bool
less_then a b next = lt_z a b || (not (lt_z b a) && next)
