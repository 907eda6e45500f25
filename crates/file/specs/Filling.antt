-- The bytes of an owner's records, and what a write comes to when the pool is known to be sound: the last row of its table is left.
use Rattle.std.specs.Prelude.{◌≡◌, true, false, List, [], map, ℕ, length, ltb, ℤ, pos, Result}
use Rattle.std.specs.Result.{result_unwrap_or}
use Rattle.std.proofs.lemmas.List.Edits.{sets}
use Rattle.rules.specs.declared.Edition.{Edition}
use Rattle.rules.specs.declared.Edition.TheVariants.{One, Two}
use Rattle.rules.specs.declared.Owner.{Owner}
use Rattle.rules.specs.declared.FoundRecord.{FoundRecord}
use Rattle.rules.specs.declared.FileFault.{FileFault}
use Rattle.rules.specs.declared.FileFault.TheVariants.{ShortBuffer}
use Rattle.rules.specs.Lists.{joined}
use Rattle.rules.specs.Owners.{of_owner}
use Rattle.rules.specs.Layout.{edition_of, read}
use Rattle.file.specs.Items.{new_from, second_carried}
use Rattle.file.specs.Loading.{number_of}
use Rattle.rules.specs.File.{file_number, word_bytes, record_frame, pool_file, WriteLeft}

-- "kind 19 (owner, then as 17)": what a record's frame has before its number
unfoldable pub owner_bytes : Edition → Owner → List ℕ
owner_bytes One o = []
owner_bytes Two o = word_bytes o.0

-- the frames of an owner's records
abbrev pub own_frames : Edition → Owner → List FoundRecord → List ℕ
own_frames e o fs = joined (map (λ f. record_frame e (of_owner o f)) fs)

-- .. of n items from item k on, where they are new
abbrev pub new_frames : List ℤ → Owner → List ℤ → ℕ → ℕ → List ℕ
new_frames pool o items k n = own_frames (edition_of pool) o (new_from pool items k n)

-- the frames that come after those of the first owner
abbrev pub second_frames : List ℤ → List ℕ
second_frames pool = joined (map (record_frame (edition_of pool)) (second_carried (edition_of pool) (read pool)))

-- of a write of a sound pool, whose file is given: refused only where it is too long for the buffer
unfoldable pub filled : List ℕ → List ℕ → WriteLeft
filled file buffer =
    elim (ltb (length buffer) (length file)) [
      | true ↦ record { number = file_number ShortBuffer; file = buffer; size = 0 }
      | false ↦ record { number = pos 0; file = sets buffer 0 file; size = length file }
    ]

pub record Fills (pool : List ℤ) (buffer : List ℕ) (r : Result ℕ FileFault) (bytes : List ℕ) : Type 0 where
  pub number : number_of r ≡ (filled (pool_file (read pool)) buffer).number
  pub file : bytes ≡ (filled (pool_file (read pool)) buffer).file
  pub size : result_unwrap_or r 0 ≡ (filled (pool_file (read pool)) buffer).size
