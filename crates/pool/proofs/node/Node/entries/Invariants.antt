use mathlib.Core.Path.{◌≡◌}
use mathlib.Core.List.{List}
use Prim.Native.Nat.{ℕ, ◌+◌, ◌≤◌}
use lib.ListN.{length, take}
use Rattle.rules.specs.declared.Entry.{Entry}
use Rattle.rules.specs.Numbers.{most}
use Rattle.layout_laws.specs.Slots.{NoneFrom}
use Rattle.pool.specs.Reading.{entries_of}
use Rattle.pool.proofs.node.Node.entries.Given as goal

-- the first i places hold the first i entries, and the others none
pub record Turn (all : List Entry) (n : ℕ) (es : List Entry) (i : ℕ) : Type 0 where
  pub size : n ≡ length all
  pub few : n ≤ most
  pub many : i ≤ n
  pub nine : length es ≡ most + 1
  pub is : take i es ≡ take i all
  pub rest : NoneFrom i es

abbrev pub invariant-loop-i : goal.invariant-loop-i
invariant-loop-i l = Turn (entries_of l.self) l.n l.es l.i
