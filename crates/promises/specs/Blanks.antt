-- What `dustmap_blank` and `dustmap_blank_as` promise, for any words.
use Rattle.std.specs.Prelude.{◌≡◌, List, ℤ}
use Rattle.rules.specs.declared.Edition.{Edition}
use Rattle.rules.specs.Layout.{blank, blank_as}

-- of a lent pool w: the number, and the pool that is left. `dustmap_blank` is told edition 1
pub record Blanks (e : Edition) (w : List ℤ) (n : ℤ) (v : List ℤ) : Type 0 where
  pub number : n ≡ (blank e w).number
  pub pool : v ≡ (blank e w).pool

-- .. of `dustmap_blank_as`, which is told the numbers of an edition and of a rule
pub record BlanksAs (edition rule : ℤ) (w : List ℤ) (n : ℤ) (v : List ℤ) : Type 0 where
  pub number : n ≡ (blank_as edition rule w).number
  pub pool : v ≡ (blank_as edition rule w).pool
