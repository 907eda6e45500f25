use mathlib.Core.Path.{◌≡◌}
use Prim.Native.Nat.{ℕ, ◌≤◌}
use Rattle.rules.specs.Pool.{Pool}
use Rattle.pool.specs.Reading.{read}
use Rattle.free_slots.proofs.Frees.{lowest_from}
use Rattle.free_slots.proofs.lowest_free_from.Given as goal

-- the slots from s on give what those from the first on give
pub record Turn (p : Pool) (from s : ℕ) : Type 0 where
  pub low : 1 ≤ s
  pub rest : lowest_from p s ≡ lowest_from p from

abbrev pub invariant-loop-s : goal.invariant-loop-s
invariant-loop-s l = Turn (read l.pool) l.initial.s l.s
