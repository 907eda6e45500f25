-- What a read comes to. The workspace is blank, and takes the file; where it is accepted the pool becomes what the workspace is, and otherwise
-- the workspace what the pool is.
use mathlib.Core.Path.{◌≡◌, refl, sym, ap, ap₂, subst, ◌∙◌}
use mathlib.Core.Bool.{Bool, true, false}
use mathlib.Core.List.{List, []}
use Prim.Native.Nat.{ℕ, ◌-◌}
use lib.ListN.{length}
use lib.IntN.{ℤ, pos}
use borrow.Author.Tests.{eq-eqb, ne_eqb}
use Rattle.std.specs.Prelude.{Result, Ok, Err}
use Rattle.std.specs.Result.{is_ok}
use Rattle.rules.specs.declared.Edition.{Edition}
use Rattle.rules.specs.declared.FileFault.{FileFault}
use Rattle.rules.specs.declared.FileFault.TheVariants.{BadLength}
use Rattle.rules.specs.Pool.{Pool, blank_pool}
use Rattle.rules.specs.Layout.{slots_fitting, valid_size, valid_length, words, read, blank}
use Rattle.rules.specs.Insert.{ours}
use Rattle.rules.specs.File.{file_number, Load, Loaded, Fails, load_file, ReadLeft, read_file}
use Rattle.sound_laws.specs.Tree.{Whole}
use Rattle.sound_laws.proofs.Blank.{blank_whole}
use Rattle.layout_laws.specs.Slots.{Fit}
use Rattle.layout_laws.proofs.Written.{edition_is}
use Rattle.in_force_laws.proofs.Written.{holds_reads}
use Rattle.in_force_laws.proofs.Call.{blank_holds}
use Rattle.file.specs.Loading.{number_of, Loads, settled}
use Rattle.promises.specs.Files.{Reads}
use Rattle.file_laws.proofs.Cases.{lengths_wrong, read_short, read_in, read_out}

module _ (ed : Edition) (w u : List ℤ) (bs : List ℕ) where
  left : {n : ℤ} {v x : List ℤ} → read_file ed w u bs ≡ record { number = n; pool = v; workspace = x } → Reads ed w u bs n v x
  left e =
      let f = sym e in
      record { number = ap (λ (r : ReadLeft). r.number) f; pool = ap (λ (r : ReadLeft). r.pool) f; workspace = ap (λ (r : ReadLeft). r.workspace) f }

  short : lengths_wrong ed w u ≡ true → read_file ed w u bs ≡ record { number = file_number BadLength; pool = w; workspace = u }
  unfolding file_number
  short h = read_short ed w u bs h

  -- 1, for the pool's length or for the workspace's
  pub reads_wrong : valid_size ed (length w) ≡ false → Reads ed w u bs (file_number BadLength) w u
  reads_wrong s = left (short (rw s))

  pub reads_other : valid_size ed (length w) ≡ true → (length u ≡ length w → ⊥) → Reads ed w u bs (file_number BadLength) w u
  reads_other s l = left (short (rw (s, ne_eqb (length u) (length w) l)))

  module _ (s : valid_size ed (length w) ≡ true) (as_long : length u ≡ length w) where
    h : lengths_wrong ed w u ≡ false
    h = rw (s, eq-eqb (length u) (length w) as_long)

    right : valid_size ed (length u) ≡ true
    right = ap (valid_size ed) as_long ∙ s

    abbrev blanked : Pool
    blanked = blank_pool ed (slots_fitting ed (length w) - 1)

    blank_is : (blank ed u).pool ≡ words blanked
    unfolding blank
    blank_is = rw (blank, right) (ap (λ (n : ℕ). words (blank_pool ed (slots_fitting ed n - 1))) as_long)

    pub blank_pool_lem : {v : List ℤ} → v ≡ (blank ed u).pool → read v ≡ blanked
    blank_pool_lem e = ap read (e ∙ blank_is) ∙ holds_reads blanked [] (blank_holds ed (slots_fitting ed (length w) - 1))

    pub blank_edition : {v : List ℤ} → v ≡ (blank ed u).pool → (read v).edition ≡ ed
    blank_edition e = ap (λ (p : Pool). p.edition) (blank_pool_lem e) ∙ (unfold blank_pool in refl)

    pub blank_fit : {v : List ℤ} → v ≡ (blank ed u).pool → length v ≡ length u → Fit v
    blank_fit {v} e l = record {
      right = (unfold valid_length in ap₂ valid_size (edition_is v ∙ blank_edition e) (l ∙ as_long) ∙ s);
      same = ap words (blank_pool_lem e) ∙ sym (e ∙ blank_is);
    }

    pub blank_tree : {v : List ℤ} → v ≡ (blank ed u).pool → Whole (read v)
    blank_tree e = subst Whole (sym (blank_pool_lem e)) (blank_whole ed (slots_fitting ed (length w) - 1))

    module _ {v : List ℤ} (e : v ≡ (blank ed u).pool) (r : Result (Unit {0}) FileFault) (x : List ℤ) (d : Loads (load_file ours ed (read v) bs) r x) where
      loads : Loads (load_file ours ed blanked bs) r x
      loads = subst (λ (p : Pool). Loads (load_file ours ed p bs) r x) (blank_pool_lem e) d

      pub reads_settled : {b : Bool} {y z : List ℤ} → b ≡ is_ok r → y ≡ settled b w x → z ≡ settled b w x → Reads ed w u bs (number_of r) y z
      reads_settled {b} {y} {z} o f g = go (load_file ours ed blanked bs) refl r loads o
        where
          go : (l : Load) → load_file ours ed blanked bs ≡ l → (t : Result (Unit {0}) FileFault) → Loads l t x → b ≡ is_ok t → Reads ed w u bs (number_of t) y z
          go (Loaded q) l (Ok v) k o =
              let i : settled b w x ≡ words q = unfold settled in rw o (sym k.0.same ∙ ap words k.1) in
              left (read_in ed w u bs h q l ∙ (λ j. record { number = pos 0; pool = sym (f ∙ i) j; workspace = sym (g ∙ i) j }))
          go (Loaded q) l (Err c) k o = absurd k
          go (Fails c) l (Ok v) k o = absurd k
          go (Fails c) l (Err t) k o =
              let i : settled b w x ≡ w = unfold settled in rw o in
              left (read_out ed w u bs h c l ∙ (λ j. record { number = file_number (sym k j); pool = sym (f ∙ i) j; workspace = sym (g ∙ i) j }))
