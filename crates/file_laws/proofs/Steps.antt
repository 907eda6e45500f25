-- A load one frame at a time, for any choice: what becomes of it by what the frame that is due turns out to be.
use mathlib.Core.Path.{◌≡◌}
use mathlib.Core.Bool.{true, false}
use mathlib.Core.List.{List, [], ◌∷◌}
use Rattle.std.specs.Prelude.{Option, None, Some}
use Prim.Native.Nat.{ℕ, suc}
use Rattle.rules.specs.declared.Edition.{Edition}
use Rattle.rules.specs.declared.Record.{Record}
use Rattle.rules.specs.declared.FileFault.{FileFault}
use Rattle.rules.specs.declared.FileFault.TheVariants.{NoSlot, BadFrame}
use Rattle.rules.specs.Numbers.{good_number}
use Rattle.rules.specs.Owners.{owner_sound}
use Rattle.rules.specs.Geometry.{valid}
use Rattle.rules.specs.Pool.{Pool}
use Rattle.rules.specs.Insert.{Choice, Done, NoneFree, insert_record}
use Rattle.rules.specs.Answers.{first_row}
use Rattle.rules.specs.File.{Due, frame_due, record_due, good_head, count_in, record_in, records_from, file_records, Loaded, Fails, follows, record_fault, end_of, load_records, load_file}
use Rattle.rules_laws.proofs.Bools.{not_false}
use Rattle.in_force_laws.proofs.Faults.{no_row}

-- ---- the last frame

pub end_none : (p : Pool) (bs : List ℕ) → frame_due 18 0 bs ≡ None → end_of p (frame_due 18 0 bs) ≡ Fails BadFrame
unfolding end_of
end_none p bs e = rw (end_of, e)

pub end_more : (p : Pool) (bs : List ℕ) (d : Due) (b : ℕ) (rest : List ℕ) → frame_due 18 0 bs ≡ Some d → d.after ≡ b ∷ rest
    → end_of p (frame_due 18 0 bs) ≡ Fails BadFrame
unfolding end_of
end_more p bs d b rest e f = rw (end_of, e, f)

pub end_here : (p : Pool) (bs : List ℕ) (d : Due) → frame_due 18 0 bs ≡ Some d → d.after ≡ [] → end_of p (frame_due 18 0 bs) ≡ Loaded p
unfolding end_of
end_here p bs d e f = rw (end_of, e, f)

-- ---- a record

-- Req 07: of the edition that the reader is told
module _ (e : Edition) where
  -- a record that nothing but a missing slot can refuse
  pub record Passes (last : Option Record) (r : Record) : Type 0 where
    pub rect : valid r.rect ≡ true
    pub number : good_number r.number ≡ true
    pub owner : owner_sound e r.owner ≡ true
    pub after : follows last r ≡ true

  pub fault_passes : (last : Option Record) (r : Record) → record_fault e last r ≡ None → Passes last r
  unfolding record_fault
  fault_passes last r h =
      let a = no_row _ _ _ h in
      let b = no_row _ _ _ a.1 in
      let c = no_row _ _ _ b.1 in
      let d = no_row _ _ _ c.1 in
      record { rect = not_false _ a.0; number = not_false _ b.0; owner = not_false _ c.0; after = not_false _ d.0 }

  pub passes_fault : (last : Option Record) (r : Record) → Passes last r → record_fault e last r ≡ None
  unfolding record_fault first_row
  passes_fault last r h = rw (h.rect, h.number, h.owner, h.after)

  pub records_more : (n : ℕ) (bs : List ℕ) (d : Due) → record_due e bs ≡ Some d → records_from e (suc n) bs ≡ record_in e d.words ∷ records_from e n d.after
  unfolding records_from
  records_more n bs d q = rw (records_from, q)

  pub file_records_lem : (bs : List ℕ) (d : Due) → frame_due 16 2 bs ≡ Some d → file_records e bs ≡ records_from e (count_in d.words) d.after
  unfolding file_records
  file_records_lem bs d q = rw (file_records, q)

module _ (c : Choice) (e : Edition) where
  module _ (n : ℕ) (last : Option Record) (p : Pool) (bs : List ℕ) where
    pub load_none : record_due e bs ≡ None → load_records c e (suc n) last p bs ≡ Fails BadFrame
    unfolding load_records
    load_none q = rw (load_records, q)

    module _ (d : Due) (q : record_due e bs ≡ Some d) where
      pub load_fault : (f : FileFault) → record_fault e last (record_in e d.words) ≡ Some f → load_records c e (suc n) last p bs ≡ Fails f
      unfolding load_records
      load_fault f h = rw (load_records, q, h)

      pub load_full : record_fault e last (record_in e d.words) ≡ None → insert_record c p (record_in e d.words) ≡ NoneFree
          → load_records c e (suc n) last p bs ≡ Fails NoSlot
      unfolding load_records
      load_full h i = rw (load_records, q, h, i)

      pub load_next : record_fault e last (record_in e d.words) ≡ None → (z : Pool) → insert_record c p (record_in e d.words) ≡ Done z
          → load_records c e (suc n) last p bs ≡ load_records c e n (Some (record_in e d.words)) z d.after
      unfolding load_records
      load_next h z i = rw (load_records, q, h, i)

  -- ---- the first frame

  module _ (p : Pool) (bs : List ℕ) where
    pub head_none : frame_due 16 2 bs ≡ None → load_file c e p bs ≡ Fails BadFrame
    unfolding load_file
    head_none q = rw (load_file, q)

    pub head_bad : (d : Due) → frame_due 16 2 bs ≡ Some d → good_head e d.words ≡ false → load_file c e p bs ≡ Fails BadFrame
    unfolding load_file
    head_bad d q h = rw (load_file, q, h)

    pub head_good : (d : Due) → frame_due 16 2 bs ≡ Some d → good_head e d.words ≡ true
        → load_file c e p bs ≡ load_records c e (count_in d.words) None p d.after
    unfolding load_file
    head_good d q h = rw (load_file, q, h)
