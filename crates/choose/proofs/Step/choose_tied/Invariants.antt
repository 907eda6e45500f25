use mathlib.Core.Path.{◌≡◌}
use mathlib.Core.List.{List}
use Prim.Native.Nat.{ℕ}
use Rattle.rules.specs.declared.Rect.{Rect}
use Rattle.choose.specs.declared.Best.{Best}
use Rattle.pool.specs.Reading.{rects_of}
use Rattle.choose.specs.State.{Measured, ahead}
use Rattle.choose.proofs.Step.choose_tied.Given as goal

-- the best so far is measured, and the places from i on give what those from `from` on give
pub record Turn (rs : List Rect) (new : Rect) (first from : ℕ) (best : Best) (i : ℕ) : Type 0 where
  pub held : Measured rs new best
  pub rest : ahead rs new best.at i ≡ ahead rs new first from

abbrev pub invariant-loop-i : goal.invariant-loop-i
invariant-loop-i l = Turn (rects_of l.self.node) l.self.new l.first l.from l.best l.i
