-- What a write and a read come to, case by case.
use mathlib.Core.Path.{◌≡◌, refl, sym, subst}
use mathlib.Core.Bool.{Bool, true, false, not, ◌||◌}
use mathlib.Core.List.{List}
use Rattle.std.specs.Prelude.{Option, None, Some}
use Prim.Native.Nat.{ℕ, ◌-◌, ◌≤◌}
use lib.ListN.{length}
use lib.Seq.{sets}
use lib.Dec.{eqb}
use lib.IntN.{ℤ, pos}
use borrow.Author.Tests.{ltb-false, le-ltb}
use Rattle.rules.specs.declared.Edition.{Edition}
use Rattle.rules.specs.declared.FileFault.{FileFault}
use Rattle.rules.specs.declared.FileFault.TheVariants.{BadLength, NotSound, BadRectangle, BadNumber, BadOwner, NoSlot, ShortBuffer, BadFrame, NotAfter}
use Rattle.rules.specs.Lists.{same}
use Rattle.rules.specs.Pool.{Pool, blank_pool}
use Rattle.rules.specs.Layout.{valid_length, valid_size, slots_fitting, words, read}
use Rattle.rules.specs.Sound.{sound}
use Rattle.rules.specs.Insert.{ours}
use Rattle.rules.specs.Answers.{first_row}
use Rattle.rules.specs.File.{file_number, pool_file, WriteLeft, write_fault, write_file, Load, Loaded, Fails, load_file, ReadLeft, after_load, read_file}
use Rattle.rules_laws.proofs.Bools.{not_false}
use Rattle.in_force_laws.proofs.Faults.{no_row}

-- ---- the number 0 is no refusal

pub some_fault : (f : FileFault) → same (file_number f) (pos 0) ≡ false
unfolding file_number same
some_fault BadLength = refl
some_fault NotSound = refl
some_fault BadRectangle = refl
some_fault BadNumber = refl
some_fault BadOwner = refl
some_fault NoSlot = refl
some_fault ShortBuffer = refl
some_fault BadFrame = refl
some_fault NotAfter = refl

pub none_zero : same (pos 0) (pos 0) ≡ true
unfolding same
none_zero = refl

-- ---- a write

-- a pool that is written, into a buffer that is long enough
pub record Writable (w : List ℤ) (buffer : List ℕ) : Type 0 where
  pub right : valid_length w ≡ true
  pub good : sound w ≡ true
  pub long : length (pool_file (read w)) ≤ length buffer

module _ (w : List ℤ) (buffer : List ℕ) where
  fault_none : write_fault w buffer ≡ None → Writable w buffer
  unfolding write_fault
  fault_none h =
      let a = no_row _ _ _ h in
      let b = no_row _ _ _ a.1 in
      let c = no_row _ _ _ b.1 in
      record { right = not_false _ a.0; good = not_false _ b.0; long = ltb-false (length buffer) (length (pool_file (read w))) c.0 }

  write_done : write_fault w buffer ≡ None
      → write_file w buffer ≡ record { number = pos 0; file = sets buffer 0 (pool_file (read w)); size = length (pool_file (read w)) }
  unfolding write_file
  write_done h = rw (write_file, h)

  write_refused : (f : FileFault) → write_fault w buffer ≡ Some f → write_file w buffer ≡ record { number = file_number f; file = buffer; size = 0 }
  unfolding write_file
  write_refused f h = rw (write_file, h)

  pub write_cases : (P : WriteLeft → Type 0) → ((f : FileFault) → P (record { number = file_number f; file = buffer; size = 0 }))
      → (Writable w buffer → P (record { number = pos 0; file = sets buffer 0 (pool_file (read w)); size = length (pool_file (read w)) }))
      → P (write_file w buffer)
  write_cases P refused done = go (write_fault w buffer) refl
    where
      go : (o : Option FileFault) → write_fault w buffer ≡ o → P (write_file w buffer)
      go (Some f) h = subst P (sym (write_refused f h)) (refused f)
      go None h = subst P (sym (write_done h)) (done (fault_none h))

  no_fault : Writable w buffer → write_fault w buffer ≡ None
  unfolding write_fault first_row
  no_fault k = rw (k.right, k.good, le-ltb (length buffer) (length (pool_file (read w))) k.long)

  pub write_writes : Writable w buffer
      → write_file w buffer ≡ record { number = pos 0; file = sets buffer 0 (pool_file (read w)); size = length (pool_file (read w)) }
  write_writes k = write_done (no_fault k)

-- ---- a read

-- where 1 is given
abbrev pub lengths_wrong : Edition → List ℤ → List ℤ → Bool
lengths_wrong ed w u = not (valid_size ed (length w)) || not (eqb (length u) (length w))

module _ (ed : Edition) (w u : List ℤ) (bs : List ℕ) where
  pub read_short : lengths_wrong ed w u ≡ true → read_file ed w u bs ≡ record { number = pos 1; pool = w; workspace = u }
  unfolding read_file file_number
  read_short h = rw (read_file, h)

  module _ (h : lengths_wrong ed w u ≡ false) where
    pub read_goes : (l : Load) → load_file ours ed (blank_pool ed (slots_fitting ed (length w) - 1)) bs ≡ l → read_file ed w u bs ≡ after_load w l
    unfolding read_file
    read_goes l e = rw (read_file, h, e)

    pub read_in : (q : Pool) → load_file ours ed (blank_pool ed (slots_fitting ed (length w) - 1)) bs ≡ Loaded q → read_file ed w u bs ≡ record { number = pos 0; pool = words q; workspace = words q }
    unfolding after_load
    read_in q e = read_goes (Loaded q) e

    pub read_out : (f : FileFault) → load_file ours ed (blank_pool ed (slots_fitting ed (length w) - 1)) bs ≡ Fails f
        → read_file ed w u bs ≡ record { number = file_number f; pool = w; workspace = w }
    unfolding after_load
    read_out f e = read_goes (Fails f) e

  pub read_cases : (P : ReadLeft → Type 0) → P (record { number = pos 1; pool = w; workspace = u })
      → ((f : FileFault) → P (record { number = file_number f; pool = w; workspace = w }))
      → ((q : Pool) → load_file ours ed (blank_pool ed (slots_fitting ed (length w) - 1)) bs ≡ Loaded q → P (record { number = pos 0; pool = words q; workspace = words q }))
      → P (read_file ed w u bs)
  read_cases P short refused done = go (lengths_wrong ed w u) refl
    where
      load : lengths_wrong ed w u ≡ false → (l : Load) → load_file ours ed (blank_pool ed (slots_fitting ed (length w) - 1)) bs ≡ l → P (read_file ed w u bs)
      load h (Loaded q) e = subst P (sym (read_in h q e)) (done q e)
      load h (Fails f) e = subst P (sym (read_out h f e)) (refused f)

      go : (b : Bool) → lengths_wrong ed w u ≡ b → P (read_file ed w u bs)
      go true h = subst P (sym (read_short h)) short
      go false h = load h (load_file ours ed (blank_pool ed (slots_fitting ed (length w) - 1)) bs) refl
