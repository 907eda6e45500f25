-- PickSeeds a first member at a time: the best of a row of pairs, and of all rows.
use mathlib.Core.Path.{◌≡◌, sym, ap, ◌∙◌}
use mathlib.Core.List.{List, [], ◌++◌, map}
use Prim.Native.Nat.{ℕ, suc, ◌+◌, ◌-◌, ◌≤◌, ◌<◌}
use native.Mathlib.Numerals.{add-one}
use native.Mathlib.Omega.{arith}
use lib.ListN.{length}
use Rattle.rules.specs.declared.Rect.{Rect}
use Rattle.rules.specs.Lists.{earliest_best, up_from}
use Rattle.rules.specs.Split as S
use Rattle.rules_laws.proofs.Earliest.{best_append, best_again}
use Rattle.rules_laws.proofs.Picks.{wastes_strict}
use Rattle.rules_laws.proofs.Turns.{best_nil}
use Rattle.split.specs.declared.seeds.Seeds.{Seeds}
use Rattle.split.specs.State.{seeds_of, wastes_more}
use Rattle.split.proofs.Choices.{best_from, best_map}

module _ (rs : List Rect) where
  -- the best of s and the pairs of i with the places from j on
  abbrev pub row : ℕ → S.Seeds → ℕ → S.Seeds
  row i s j = earliest_best (S.wastes_more rs) s (map (S.seeds i) (up_from j (9 - j)))

  -- .. as the code finds it
  abbrev pub found : ℕ → Seeds → ℕ → Seeds
  found i s j = best_from (wastes_more rs) (λ k. record { first = i; second = k }) s j 9

  pub row_found : (i : ℕ) (s : Seeds) (j : ℕ) → seeds_of (found i s j) ≡ row i (seeds_of s) j
  row_found i s j = best_map seeds_of (S.wastes_more rs) (λ k. record { first = i; second = k }) s (up_from j (9 - j))

  -- the best of s and the pairs whose first member is at place i or later
  abbrev pub outer : S.Seeds → ℕ → S.Seeds
  outer s i = earliest_best (S.wastes_more rs) s (S.pairs_from i (9 - i))

  pairs_more : (i : ℕ) → i < 9
      → S.pairs_from i (9 - i) ≡ map (S.seeds i) (up_from (i + 1) (9 - (i + 1))) ++ S.pairs_from (i + 1) (9 - (i + 1))
  unfolding S.pairs_from
  pairs_more i h = let e : 9 - i ≡ suc (9 - (i + 1)) = omega arith in rw (e, add-one i)

  pairs_none : (i : ℕ) → 9 ≤ i → S.pairs_from i (9 - i) ≡ []
  unfolding S.pairs_from
  pairs_none i h = let e : 9 - i ≡ 0 = omega arith in rw e

  pub outer_step : (s : S.Seeds) (i : ℕ) → i < 9 → outer s i ≡ outer (row i s (i + 1)) (i + 1)
  outer_step s i h =
      rw (pairs_more i h) (best_append (S.wastes_more rs) s (map (S.seeds i) (up_from (i + 1) (9 - (i + 1)))) (S.pairs_from (i + 1) (9 - (i + 1))))

  pub outer_none : (s : S.Seeds) (i : ℕ) → 9 ≤ i → outer s i ≡ s
  outer_none s i h = rw (pairs_none i h) (best_nil (S.wastes_more rs) s)

  -- the first pair is in hand, and would be met again
  first_row_lem : row 0 (S.seeds 0 1) 1 ≡ row 0 (S.seeds 0 1) 2
  unfolding up_from
  first_row_lem = best_again (wastes_strict rs) (S.seeds 0 1) _

  pub outer_all : length rs ≡ 9 → outer (row 0 (S.seeds 0 1) 2) 1 ≡ S.pick_seeds rs
  unfolding S.pick_seeds
  outer_all e = ap (λ (s : S.Seeds). outer s 1) (sym first_row_lem) ∙ sym (outer_step (S.seeds 0 1) 0 (omega arith)) ∙ rw e
