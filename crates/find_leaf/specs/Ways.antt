-- The way that FindLeaf comes down, as the code has it: a step for each level.
use Rattle.std.specs.Prelude.{◌≡◌, [], ◌∷◌, ℕ, zero, suc, ◌≤◌, length, get_or, Option, Some, None}
use Rattle.rules.specs.Pool.{slot}
use Rattle.rules.specs.Delete.{Place, Path, place}
use Rattle.find_leaf.specs.declared.Step.{Step}
use Rattle.find_leaf.specs.declared.Way.{Way}

-- a step that is none
abbrev pub no_step : Step
no_step = record { node = slot 0; place = 0 }

-- a step, as the definitions have it
abbrev pub place_of : Step → Place
place_of s = place s.node s.place

-- the places from level l down to the leaf
unfoldable pub path_of : ℕ → Way → Path
path_of zero w = []
path_of (suc l) w = place_of (get_or w.steps l no_step) ∷ path_of l w

-- there is room for 8 levels, and above level l there are no steps
pub record UpTo (l : ℕ) (w : Way) : Type 0 where
  pub long : length w.steps ≡ 8
  pub above : (k : ℕ) → l ≤ k → get_or w.steps k no_step ≡ no_step

-- what FindLeaf gives from level l down, as the code has it
abbrev pub Gives : Option Path → ℕ → Option Way → Type 0
Gives None l None = Unit
Gives None l (Some w) = ⊥
Gives (Some path) l None = ⊥
Gives (Some path) l (Some w) = (path_of l w ≡ path) × UpTo l w
