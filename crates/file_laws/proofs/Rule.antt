-- A load, case by case: what holds of it at the last frame, and at each frame before where it holds of what comes after, holds of all of it.
use mathlib.Core.Path.{◌≡◌, refl, sym, subst}
use mathlib.Core.Bool.{Bool, true, false}
use mathlib.Core.List.{List, [], ◌∷◌}
use Rattle.std.specs.Prelude.{Option, None, Some}
use Prim.Native.Nat.{ℕ, zero, suc}
use Rattle.rules.specs.declared.Edition.{Edition}
use Rattle.rules.specs.declared.Record.{Record}
use Rattle.rules.specs.declared.FileFault.{FileFault}
use Rattle.rules.specs.declared.FileFault.TheVariants.{NoSlot, BadFrame}
use Rattle.rules.specs.Pool.{Pool}
use Rattle.rules.specs.Insert.{Choice, Change, Done, NoneFree, insert_record}
use Rattle.rules.specs.File.{Due, frame_due, record_due, good_head, count_in, record_in, Load, Loaded, Fails, record_fault, end_of, load_records, load_file}
use Rattle.file_laws.proofs.Steps as S
use Rattle.file_laws.proofs.Steps.{Passes}

-- P is said of n records that are due after the last one, of the pool that they go into, of the bytes, and of what becomes of the load
module _ (c : Choice) (ed : Edition) (P : ℕ → Option Record → Pool → List ℕ → Load → Type 0)
    (wrong : (n : ℕ) (last : Option Record) (p : Pool) (bs : List ℕ) → P n last p bs (Fails BadFrame))
    (ends : (last : Option Record) (p : Pool) (bs : List ℕ) (d : Due) → frame_due 18 0 bs ≡ Some d → d.after ≡ [] → P zero last p bs (Loaded p))
    (faulty : (n : ℕ) (last : Option Record) (p : Pool) (bs : List ℕ) (r : Record) (f : FileFault) → record_fault ed last r ≡ Some f
    → P (suc n) last p bs (Fails f))
    (full : (n : ℕ) (last : Option Record) (p : Pool) (bs : List ℕ) → P (suc n) last p bs (Fails NoSlot))
    (goes : (n : ℕ) (last : Option Record) (p : Pool) (bs : List ℕ) (d : Due) (q : Pool) (l : Load) → record_due ed bs ≡ Some d
    → Passes ed last (record_in ed d.words) → insert_record c p (record_in ed d.words) ≡ Done q → P n (Some (record_in ed d.words)) q d.after l
    → P (suc n) last p bs l) where
  at_end : (last : Option Record) (p : Pool) (bs : List ℕ) → P zero last p bs (end_of p (frame_due 18 0 bs))
  at_end last p bs = go (frame_due 18 0 bs) refl
    where
      after : (d : Due) → frame_due 18 0 bs ≡ Some d → (l : List ℕ) → d.after ≡ l → P zero last p bs (end_of p (frame_due 18 0 bs))
      after d e [] f = subst (P zero last p bs) (sym (S.end_here p bs d e f)) (ends last p bs d e f)
      after d e (b ∷ rest) f = subst (P zero last p bs) (sym (S.end_more p bs d b rest e f)) (wrong zero last p bs)

      go : (o : Option Due) → frame_due 18 0 bs ≡ o → P zero last p bs (end_of p (frame_due 18 0 bs))
      go None e = subst (P zero last p bs) (sym (S.end_none p bs e)) (wrong zero last p bs)
      go (Some d) e = after d e d.after refl

  pub load_cases : (n : ℕ) (last : Option Record) (p : Pool) (bs : List ℕ) → P n last p bs (load_records c ed n last p bs)
  load_cases zero last p bs = unfold load_records in at_end last p bs
  load_cases (suc n) last p bs = go (record_due ed bs) refl (λ q d. load_cases n (Some (record_in ed d.words)) q d.after)
    where
      put : (d : Due) → record_due ed bs ≡ Some d → record_fault ed last (record_in ed d.words) ≡ None
          → ((q : Pool) → P n (Some (record_in ed d.words)) q d.after (load_records c ed n (Some (record_in ed d.words)) q d.after))
          → (o : Change) → insert_record c p (record_in ed d.words) ≡ o → P (suc n) last p bs (load_records c ed (suc n) last p bs)
      put d e h later NoneFree i = subst (P (suc n) last p bs) (sym (S.load_full c ed n last p bs d e h i)) (full n last p bs)
      put d e h later (Done q) i =
          subst (P (suc n) last p bs) (sym (S.load_next c ed n last p bs d e h q i))
          (goes n last p bs d q (load_records c ed n (Some (record_in ed d.words)) q d.after) e (S.fault_passes ed last (record_in ed d.words) h) i (later q))

      fault : (d : Due) → record_due ed bs ≡ Some d
          → ((q : Pool) → P n (Some (record_in ed d.words)) q d.after (load_records c ed n (Some (record_in ed d.words)) q d.after))
          → (o : Option FileFault) → record_fault ed last (record_in ed d.words) ≡ o → P (suc n) last p bs (load_records c ed (suc n) last p bs)
      fault d e later (Some f) h = subst (P (suc n) last p bs) (sym (S.load_fault c ed n last p bs d e f h)) (faulty n last p bs (record_in ed d.words) f h)
      fault d e later None h = put d e h later (insert_record c p (record_in ed d.words)) refl

      go : (o : Option Due) → record_due ed bs ≡ o
          → ((q : Pool) (d : Due) → P n (Some (record_in ed d.words)) q d.after (load_records c ed n (Some (record_in ed d.words)) q d.after))
          → P (suc n) last p bs (load_records c ed (suc n) last p bs)
      go None e later = subst (P (suc n) last p bs) (sym (S.load_none c ed n last p bs e)) (wrong (suc n) last p bs)
      go (Some d) e later = fault d e (λ q. later q d) (record_fault ed last (record_in ed d.words)) refl

-- .. and of a file: its first frame is wrong, or the records after it are due
pub file_cases : (c : Choice) (ed : Edition) (p : Pool) (bs : List ℕ) (P : Load → Type 0) → P (Fails BadFrame)
    → ((d : Due) → frame_due 16 2 bs ≡ Some d → good_head ed d.words ≡ true → P (load_records c ed (count_in d.words) None p d.after))
    → P (load_file c ed p bs)
file_cases c ed p bs P wrong right = go (frame_due 16 2 bs) refl
  where
    head : (d : Due) → frame_due 16 2 bs ≡ Some d → (b : Bool) → good_head ed d.words ≡ b → P (load_file c ed p bs)
    head d e false h = subst P (sym (S.head_bad c ed p bs d e h)) wrong
    head d e true h = subst P (sym (S.head_good c ed p bs d e h)) (right d e h)

    go : (o : Option Due) → frame_due 16 2 bs ≡ o → P (load_file c ed p bs)
    go None e = subst P (sym (S.head_none c ed p bs e)) wrong
    go (Some d) e = head d e (good_head ed d.words) refl

-- ---- where it is accepted

-- what holds of the pool that is left
abbrev pub IfLoaded : (Pool → Type 0) → Load → Type 0
IfLoaded P (Loaded q) = P q
IfLoaded P (Fails f) = Unit {0}

pub then_loaded : (P Q : Pool → Type 0) → ((q : Pool) → P q → Q q) → (l : Load) → IfLoaded P l → IfLoaded Q l
then_loaded P Q f (Loaded q) h = f q h
then_loaded P Q f (Fails x) h = tt

module _ (c : Choice) (ed : Edition) (P : ℕ → Option Record → Pool → List ℕ → Pool → Type 0)
    (ends : (last : Option Record) (p : Pool) (bs : List ℕ) (d : Due) → frame_due 18 0 bs ≡ Some d → d.after ≡ [] → P zero last p bs p)
    (goes : (n : ℕ) (last : Option Record) (p : Pool) (bs : List ℕ) (d : Due) (q s : Pool) → record_due ed bs ≡ Some d → Passes ed last (record_in ed d.words)
    → insert_record c p (record_in ed d.words) ≡ Done q → P n (Some (record_in ed d.words)) q d.after s → P (suc n) last p bs s) where
  pub load_by : (n : ℕ) (last : Option Record) (p : Pool) (bs : List ℕ) → IfLoaded (P n last p bs) (load_records c ed n last p bs)
  load_by =
      load_cases c ed (λ n last p bs l. IfLoaded (P n last p bs) l) (λ n last p bs. tt) ends (λ n last p bs r f h. tt) (λ n last p bs. tt)
      (λ n last p bs d q l e g i t.
      then_loaded (P n (Some (record_in ed d.words)) q d.after) (P (suc n) last p bs) (λ s u. goes n last p bs d q s e g i u) l t)
