use mathlib.Core.Path.{◌≡◌}
use mathlib.Core.Bool.{Bool, ◌&&◌}
use mathlib.Core.List.{List}
use Prim.Native.Nat.{ℕ}
use lib.ListN.{length, drop}
use Rattle.rules.specs.declared.Rect.{Rect}
use Rattle.rules.specs.declared.Entry.{Entry}
use Rattle.rules.specs.Lists.{every}
use Rattle.rules.specs.Pool.{entries_at, cover_of}
use Rattle.rules.specs.Layout.{read}
use Rattle.nodes.proofs.Covers.{ahead}
use Rattle.sound.proofs.Looks.{upright_entry}
use Rattle.sound.proofs.look.Given as goal

-- the cover so far with the entries from place i on, and what was asked so far with them
pub record Turn (es : List Entry) (n : ℕ) (cover : Rect) (plain : Bool) (i : ℕ) : Type 0 where
  pub size : n ≡ length es
  pub rest : ahead es cover i ≡ cover_of es
  pub asked : (plain && every upright_entry (drop i es)) ≡ every upright_entry es

abbrev pub invariant-loop-i : goal.invariant-loop-i
invariant-loop-i l = Turn (entries_at (read l.node.words.now) l.node.slot) l.n l.cover l.plain l.i
