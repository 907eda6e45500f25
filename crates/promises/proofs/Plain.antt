-- What is told nothing is told edition 1 and rule 0: what `dustmap_blank` and `dustmap_read` promise is what the others promise of these numbers.
use mathlib.Core.List.{List}
use Prim.Native.Nat.{ℕ}
use lib.IntN.{ℤ, pos}
use Rattle.rules.specs.declared.Edition.TheVariants.{One}
use Rattle.rules.specs.Lists.{same}
use Rattle.rules.specs.Answers.{first_row}
use Rattle.rules.specs.Owners.{edition_told}
use Rattle.rules.specs.Layout.{blank_as}
use Rattle.rules.specs.File.{read_file_as}
use Rattle.promises.specs.Blanks.{Blanks, BlanksAs}
use Rattle.promises.specs.Files.{Reads, ReadsAs}

pub blanks_plain : (w : List ℤ) (n : ℤ) (v : List ℤ) → Blanks One w n v → BlanksAs (pos 1) (pos 0) w n v
unfolding blank_as edition_told same first_row
blanks_plain w n v k = record { number = k.number; pool = k.pool }

pub reads_plain : (w u : List ℤ) (file : List ℕ) (n : ℤ) (v x : List ℤ) → Reads One w u file n v x → ReadsAs (pos 1) (pos 0) w u file n v x
unfolding read_file_as edition_told same first_row
reads_plain w u file n v x k = record { number = k.number; pool = k.pool; workspace = k.workspace }
