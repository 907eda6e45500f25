use mathlib.Core.Path.{◌≡◌}
use mathlib.Core.List.{List}
use Prim.Native.Nat.{ℕ, ◌+◌, ◌*◌, ◌≤◌}
use lib.ListN.{length}
use lib.Seq.{sets}
use lib.IntN.{ℤ}
use Rattle.rules.specs.declared.Edition.{Edition}
use Rattle.rules.specs.declared.Entry.{Entry}
use Rattle.rules.specs.Layout.{entry_size, slot_head}
use Rattle.pool.proofs.Fronts.{front}
use Rattle.pool.proofs.write_slot.Given as goal

-- i entries are written, after the level and the count
pub record Turn (e : Edition) (pool₀ : List ℤ) (es : List Entry) (at next : ℕ) (pool : List ℤ) (i : ℕ) : Type 0 where
  pub many : i ≤ length es
  pub size : length pool ≡ length pool₀
  pub here : next ≡ at + slot_head + entry_size e * i
  pub is : pool ≡ sets pool₀ (at + slot_head) (front e es i)

abbrev pub invariant-loop-e : goal.invariant-loop-e
invariant-loop-e l = Turn l.edition l.initial.pool l.es l.at l.next l.pool l.e-index
