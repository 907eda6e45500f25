use mathlib.Core.Path.{◌≡◌}
use Prim.Native.Nat.{ℕ, ◌+◌, ◌≤◌, ◌<◌}
use Rattle.rules.specs.Pool.{Pool, free_count}
use Rattle.pool.specs.Reading.{read}
use Rattle.free_slots.proofs.Frees.{count_from}
use Rattle.free_slots.proofs.free_count.Given as goal

-- the free slots counted so far, with those from slot `at` on, are all
pub record Turn (p : Pool) (free at : ℕ) : Type 0 where
  pub low : 1 ≤ at
  pub small : free < at
  pub rest : free + count_from p at ≡ free_count p

abbrev pub invariant-loop-at : goal.invariant-loop-at
invariant-loop-at l = Turn (read l.pool) l.free l.at
