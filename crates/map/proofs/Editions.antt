-- What is promised of a call that is told an edition, or none.
use mathlib.Core.Path.{◌≡◌}
use mathlib.Core.List.{List}
use Rattle.std.specs.Prelude.{None, Some}
use Prim.Native.Nat.{ℕ}
use lib.IntN.{ℤ, negsuc}
use Rattle.rules.specs.declared.Edition.{Edition}
use Rattle.rules.specs.Owners.{edition_told}
use Rattle.rules.specs.Layout.{blank_as}
use Rattle.rules.specs.File.{read_file_as}
use Rattle.promises.specs.Blanks.{Blanks, BlanksAs}
use Rattle.promises.specs.Files.{Reads, ReadsAs}

module _ (edition rule : ℤ) where
  module _ (w : List ℤ) where
    pub blanks_told : (e : Edition) → edition_told edition rule ≡ Some e → (n : ℤ) (v : List ℤ) → Blanks e w n v → BlanksAs edition rule w n v
    unfolding blank_as
    blanks_told e is n v b = record { number = rw (blank_as, is) b.number; pool = rw (blank_as, is) b.pool }

    pub blanks_not : edition_told edition rule ≡ None → BlanksAs edition rule w (negsuc 0) w
    unfolding blank_as
    blanks_not is = record { number = rw (blank_as, is); pool = rw (blank_as, is) }

    module _ (u : List ℤ) (file : List ℕ) where
      pub reads_told : (e : Edition) → edition_told edition rule ≡ Some e → (n : ℤ) (v x : List ℤ) → Reads e w u file n v x → ReadsAs edition rule w u file n v x
      unfolding read_file_as
      reads_told e is n v x r =
          record { number = rw (read_file_as, is) r.number; pool = rw (read_file_as, is) r.pool; workspace = rw (read_file_as, is) r.workspace }

      pub reads_not : edition_told edition rule ≡ None → ReadsAs edition rule w u file (negsuc 0) w u
      unfolding read_file_as
      reads_not is = record { number = rw (read_file_as, is); pool = rw (read_file_as, is); workspace = rw (read_file_as, is) }
