use mathlib.Core.Path.{◌≡◌}
use mathlib.Core.List.{List}
use Prim.Native.Nat.{ℕ}
use lib.ListN.{length}
use Rattle.rules.specs.declared.Rect.{Rect}
use Rattle.rules.specs.declared.Entry.{Entry}
use Rattle.rules.specs.Pool.{cover_of}
use Rattle.pool.specs.Reading.{entries_of}
use Rattle.nodes.proofs.Covers.{ahead}
use Rattle.nodes.proofs.cover_of.Given as goal

-- the cover so far, with the entries from place i on, gives the cover of all
pub record Turn (es : List Entry) (n : ℕ) (all : Rect) (i : ℕ) : Type 0 where
  pub size : n ≡ length es
  pub rest : ahead es all i ≡ cover_of es

abbrev pub invariant-loop-i : goal.invariant-loop-i
invariant-loop-i l = Turn (entries_of l.node) l.n l.all l.i
