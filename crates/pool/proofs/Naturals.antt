-- A word that is read.
use mathlib.Core.Path.{◌≡◌, ◌∙◌}
use lib.IntN.{ℤ}
use mir.Syntax.{w32}
use mir.Val.{SFits, to_z, of_z}
use mir.Facts.{to_z-of_z}

-- a word that one function reads and another takes
pub word_read : {z x : ℤ} → SFits w32 z → z ≡ x → to_z w32 (of_z w32 z) ≡ x
word_read {z} f e = to_z-of_z {w = w32} {z = z} f ∙ e
