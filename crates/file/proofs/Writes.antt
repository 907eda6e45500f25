-- What a write comes to, by the rows of its table.
use mathlib.Core.Path.{◌≡◌, refl, sym, ap, ap₂, ◌∙◌}
use mathlib.Core.Bool.{Bool, true, false}
use mathlib.Core.List.{List}
use Prim.Native.Nat.{ℕ, ◌+◌, ◌≤◌, ◌<◌}
use native.Mathlib.Omega.{arith}
use lib.ListN.{length}
use lib.Seq.{sets}
use lib.Dec.{ltb}
use lib.IntN.{ℤ, pos}
use borrow.Author.Tests.{lt-ltb, le-ltb}
use Rattle.std.specs.Prelude.{Result, Ok, Err}
use Rattle.std.specs.Result.{result_unwrap_or}
use Rattle.rules.specs.declared.Edition.{Edition}
use Rattle.rules.specs.declared.FileFault.{FileFault}
use Rattle.rules.specs.declared.FileFault.TheVariants.{BadLength, NotSound, ShortBuffer}
use Rattle.rules.specs.Layout.{valid_length, edition_of, read}
use Rattle.rules.specs.Sound.{sound}
use Rattle.rules.specs.Answers.{first_row}
use Rattle.rules.specs.File.{file_number, records_carried, pool_file, WriteLeft, write_fault, write_file}
use Rattle.layout_laws.proofs.Written.{edition_is}
use Rattle.promises.specs.Files.{Writes}
use Rattle.file.specs.Filling.{filled, Fills}
use Rattle.file.specs.Loading.{place_of, number_of}
use Rattle.file.proofs.Sizes.{file_long}

-- ---- of a sound pool

module _ (pool : List ℤ) (buffer : List ℕ) where
  abbrev all : List ℕ
  all = pool_file (read pool)

  fills : {r : Result ℕ FileFault} {file : List ℕ} → filled all buffer ≡ record { number = number_of r; file = file; size = result_unwrap_or r 0 }
      → Fills pool buffer r file
  fills {r} {file} e =
      let f : record { number = number_of r; file = file; size = result_unwrap_or r 0 } ≡ filled all buffer = sym e in
      record { number = ap (λ (x : WriteLeft). x.number) f; file = ap (λ (x : WriteLeft). x.file) f; size = ap (λ (x : WriteLeft). x.size) f }

  short_is : length buffer < length all → filled all buffer ≡ record { number = file_number ShortBuffer; file = buffer; size = 0 }
  unfolding filled
  short_is h = rw (filled, lt-ltb (length buffer) (length all) h)

  all_is : length all ≤ length buffer → filled all buffer ≡ record { number = pos 0; file = sets buffer 0 all; size = length all }
  unfolding filled
  all_is h = rw (filled, le-ltb (length buffer) (length all) h)

  -- how many bytes the file has, by the count of its records
  module _ {ed : Edition} (q : ed ≡ edition_of pool) {count : ℕ} (c : count ≡ length (records_carried (read pool))) {at : ℕ} (place : at ≡ place_of ed count) where
    pub all_long : length all ≡ at + 4
    unfolding pool_file
    all_long =
        file_long (read pool).edition (records_carried (read pool))
        ∙ ap (λ (n : ℕ). n + 4) (sym (place ∙ ap₂ place_of (q ∙ edition_is pool) c))

    pub fills_short : length buffer < at + 4 → Fills pool buffer (Err ShortBuffer) buffer
    fills_short h = fills {r = Err ShortBuffer} (short_is (omega (arith, h, all_long)))

    pub fills_all : at + 4 ≤ length buffer → {file : List ℕ} → file ≡ sets buffer 0 all → Fills pool buffer (Ok (at + 4)) file
    fills_all h {file} f = fills {r = Ok (at + 4)} (all_is (omega (arith, h, all_long)) ∙ (λ i. record { number = pos 0; file = sym f i; size = all_long i }))

-- ---- of any words

module _ (pool : List ℤ) (buffer : List ℕ) where
  left : {n : ℤ} {file : List ℕ} {long : ℕ} → write_file pool buffer ≡ record { number = n; file = file; size = long } → Writes pool buffer n file long
  left e =
      let f = sym e in
      record { number = ap (λ (x : WriteLeft). x.number) f; file = ap (λ (x : WriteLeft). x.file) f; size = ap (λ (x : WriteLeft). x.size) f }

  refused_1 : valid_length pool ≡ false → write_file pool buffer ≡ record { number = file_number BadLength; file = buffer; size = 0 }
  unfolding write_file write_fault first_row
  refused_1 h = rw (write_file, h)

  refused_2 : valid_length pool ≡ true → sound pool ≡ false → write_file pool buffer ≡ record { number = file_number NotSound; file = buffer; size = 0 }
  unfolding write_file write_fault first_row
  refused_2 h s = rw (write_file, h, s)

  -- 8 is the last row
  sound_filled : valid_length pool ≡ true → sound pool ≡ true → (b : Bool) → ltb (length buffer) (length (pool_file (read pool))) ≡ b
      → filled (pool_file (read pool)) buffer ≡ write_file pool buffer
  unfolding filled write_file write_fault first_row
  sound_filled h s true e = rw (filled, write_file, h, s, e)
  sound_filled h s false e = rw (filled, write_file, h, s, e)

  pub writes_1 : valid_length pool ≡ false → Writes pool buffer (file_number BadLength) buffer 0
  writes_1 h = left (refused_1 h)

  pub writes_2 : valid_length pool ≡ true → sound pool ≡ false → Writes pool buffer (file_number NotSound) buffer 0
  writes_2 h s = left (refused_2 h s)

  pub writes_filled : valid_length pool ≡ true → sound pool ≡ true → {r : Result ℕ FileFault} {file : List ℕ} → Fills pool buffer r file
      → Writes pool buffer (number_of r) file (result_unwrap_or r 0)
  writes_filled h s f =
      let same = sound_filled h s (ltb (length buffer) (length (pool_file (read pool)))) refl in
      record {
        number = f.number ∙ ap (λ (x : WriteLeft). x.number) same;
        file = f.file ∙ ap (λ (x : WriteLeft). x.file) same;
        size = f.size ∙ ap (λ (x : WriteLeft). x.size) same;
      }
