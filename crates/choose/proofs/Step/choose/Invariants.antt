use mathlib.Core.Path.{◌≡◌}
use mathlib.Core.List.{List}
use Prim.Native.Nat.{ℕ, ◌<◌}
use lib.ListN.{length}
use lib.IntN.{pos}
use Rattle.rules.specs.declared.Rect.{Rect}
use Rattle.rules.specs.Geometry.{enlargement}
use Rattle.rules.specs.Choose.{rect_from, choose_child}
use Rattle.pool.specs.Reading.{rects_of}
use Rattle.choose.specs.State.{ahead}
use Rattle.choose.proofs.Step.choose.Given as goal

-- the least enlargement so far is that of its place, and the places from i on give what all give
pub record Turn (rs : List Rect) (new : Rect) (at least i : ℕ) : Type 0 where
  pub there : at < length rs
  pub is : pos least ≡ enlargement (rect_from rs at) new
  pub rest : ahead rs new at i ≡ choose_child rs new

abbrev pub invariant-loop-i : goal.invariant-loop-i
invariant-loop-i l = Turn (rects_of l.self.node) l.self.new l.at l.least l.i
