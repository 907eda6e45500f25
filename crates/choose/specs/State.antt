-- What `choose` asks of a node's rectangles, and what its struct stands for.
use Rattle.std.specs.Prelude.{◌≡◌, Bool, true, List, ℕ, ◌-◌, ◌<◌, length, pos}
use Rattle.rules.specs.declared.Rect.{Rect}
use Rattle.rules.specs.Lists.{earliest_best, up_from}
use Rattle.rules.specs.Geometry.{valid, area, enlargement}
use Rattle.rules.specs.Choose.{rect_from, takes_better}
use Rattle.choose.specs.declared.Best.{Best}

-- there is at least one, and all are valid
pub record Choosable (rs : List Rect) : Type 0 where
  pub some : 0 < length rs
  pub ok : (i : ℕ) → i < length rs → valid (rect_from rs i) ≡ true

-- a place among the rectangles, with its enlargement for the new one and its area
pub record Measured (rs : List Rect) (new : Rect) (b : Best) : Type 0 where
  pub there : b.at < length rs
  pub grows : pos b.grows ≡ enlargement (rect_from rs b.at) new
  pub size : pos b.size ≡ area (rect_from rs b.at)

-- CL3 of the entries at two places
abbrev pub better : List Rect → Rect → ℕ → ℕ → Bool
better rs new i j = takes_better new (rect_from rs i) (rect_from rs j)

-- the best of place k and the places from i on
abbrev pub ahead : List Rect → Rect → ℕ → ℕ → ℕ
ahead rs new k i = earliest_best (better rs new) k (up_from i (length rs - i))
