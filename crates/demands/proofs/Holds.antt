-- The pool that a history leaves holds the pairs in force. By induction on its steps: blanking leaves none, a refused call or file leaves what was
-- there, each request of a served call does to the pool what it does to the plain list, and an accepted file leaves its records.
use mathlib.Core.Path.{◌≡◌, refl, sym, ap, subst, ◌∙◌}
use mathlib.Core.Logic.{◌≢◌}
use mathlib.Core.Bool.{Bool, true, false}
use mathlib.Core.List.{List, [], ◌∷◌}
use Rattle.std.specs.Prelude.{Option, None, Some}
use Prim.Native.Nat.{ℕ, ◌-◌}
use lib.ListN.{length}
use lib.IntN.{ℤ, pos, negsuc}
use Rattle.rules.specs.declared.Edition.{Edition}
use Rattle.rules.specs.declared.Record.{Record}
use Rattle.rules.specs.declared.CallFault.{CallFault}
use Rattle.rules.specs.Lists.{same}
use Rattle.rules.specs.Pool.{Pool, blank_pool}
use Rattle.rules.specs.Owners.{edition_told}
use Rattle.rules.specs.Sound.{sound}
use Rattle.rules.specs.Layout.{Blanked, valid_size, slots_fitting, words, read, blank, blank_as}
use Rattle.rules.specs.Insert.{ours}
use Rattle.rules.specs.Answers.{call_fault_number}
use Rattle.rules.specs.Call.{Lent, Left, call_fault, refused, served, batch_owner, call_by, call}
use Rattle.rules.specs.File.{file_number, file_records, Loaded, load_file, ReadLeft, read_file, read_file_as}
use Rattle.rules_laws.proofs.Orders.{never_both}
use Rattle.sound_laws.proofs.Same.{same_is}
use Rattle.in_force_laws.specs.Force.{force_after}
use Rattle.in_force_laws.specs.Shows.{HoldsRecords}
use Rattle.demands.specs.Steps.{Step, Blank, Call, Read, pool_after, History, records_told, in_force_after}
use Rattle.promises.specs.Blanks.{BlanksAs}
use Rattle.promises.specs.Files.{ReadsAs}
use Rattle.file_laws.proofs.Rule.{IfLoaded}
use Rattle.file_laws.proofs.Loads.{Holds, file_loads}
use Rattle.file_laws.proofs.Cases.{some_fault, none_zero, read_cases}
use Rattle.promises.specs.Calls.{Allowed}
use Rattle.rules_laws.proofs.Splits.{ours_lawful}
use Rattle.in_force_laws.proofs.Written.{holds_reads}
use Rattle.in_force_laws.proofs.Sounds.{holds_sound}
use Rattle.in_force_laws.proofs.Call.{call_by_refused, call_by_served, no_fault, call_force, call_pool, blank_holds}

-- ---- what blanking leaves

module _ (e : Edition) (w : List ℤ) where
  blank_done : valid_size e (length w) ≡ true → blank e w ≡ record { number = pos 0; pool = words (blank_pool e (slots_fitting e (length w) - 1)) }
  unfolding blank
  blank_done h = rw (h, blank)

  blank_left : valid_size e (length w) ≡ false → blank e w ≡ record { number = pos 1; pool = w }
  unfolding blank
  blank_left h = rw (h, blank)

  -- a blank pool where it is accepted, otherwise the words as they were
  pub blank_cases : (P : Blanked → Type 0) → P (record { number = pos 0; pool = words (blank_pool e (slots_fitting e (length w) - 1)) })
      → P (record { number = pos 1; pool = w }) → P (blank e w)
  blank_cases P done left = go (valid_size e (length w)) refl
    where
      go : (t : Bool) → valid_size e (length w) ≡ t → P (blank e w)
      go true h = subst P (sym (blank_done h)) done
      go false h = subst P (sym (blank_left h)) left

-- .. told the edition by numbers: where they tell none, nothing is done
module _ (edition rule : ℤ) where
  blank_told : (e : Edition) → edition_told edition rule ≡ Some e → (w : List ℤ) → blank_as edition rule w ≡ blank e w
  unfolding blank_as
  blank_told e h w = rw (blank_as, h)

  blank_untold : edition_told edition rule ≡ None → (w : List ℤ) → blank_as edition rule w ≡ record { number = negsuc 0; pool = w }
  unfolding blank_as
  blank_untold h w = rw (blank_as, h)

  blank_as_lem : (w : List ℤ) (P : Blanked → Type 0) → ((e : Edition) → P (record { number = pos 0; pool = words (blank_pool e (slots_fitting e (length w) - 1)) }))
      → P (record { number = pos 1; pool = w }) → P (record { number = negsuc 0; pool = w }) → P (blank_as edition rule w)
  blank_as_lem w P done left untold = go (edition_told edition rule) refl
    where
      go : (x : Option Edition) → edition_told edition rule ≡ x → P (blank_as edition rule w)
      go None h = subst P (sym (blank_untold h w)) untold
      go (Some e) h = subst P (sym (blank_told e h w)) (blank_cases e w P (done e) left)

  pub read_told : (e : Edition) → edition_told edition rule ≡ Some e → (w u : List ℤ) (file : List ℕ) → read_file_as edition rule w u file ≡ read_file e w u file
  unfolding read_file_as
  read_told e h w u file = rw (read_file_as, h)

  pub read_untold : edition_told edition rule ≡ None → (w u : List ℤ) (file : List ℕ)
      → read_file_as edition rule w u file ≡ record { number = negsuc 0; pool = w; workspace = u }
  unfolding read_file_as
  read_untold h w u file = rw (read_file_as, h)

  records_told_lem : (e : Edition) → edition_told edition rule ≡ Some e → (file : List ℕ) → records_told edition rule file ≡ file_records e file
  unfolding records_told
  records_told_lem e h file = rw (records_told, h)

-- ---- what a refused call leaves

module _ (l : Lent) where
  call_is : call l ≡ call_by ours l
  unfolding call
  call_is = refl

  served_number : (call l).number ≡ pos 0 → call_fault l ≡ None
  unfolding call
  served_number z = no_fault ours l z

  refused_pool : (v : CallFault) → (refused l v).pool ≡ l.pool
  unfolding refused
  refused_pool v = refl

  served_zero : call_fault l ≡ None → (call l).number ≡ pos 0
  unfolding call served call_fault_number
  served_zero h = ap (λ (x : Left). x.number) (call_by_served ours l h)

  -- "A refused call returns its number and writes nothing at all."
  pub refused_left : (call l).number ≢ pos 0 → (v : CallFault) × (call_fault l ≡ Some v) × (call l ≡ refused l v)
  refused_left n = go (call_fault l) refl
    where
      go : (o : Option CallFault) → call_fault l ≡ o → (v : CallFault) × (call_fault l ≡ Some v) × (call l ≡ refused l v)
      go None h = absurd (n (served_zero h))
      go (Some v) h = (v, h, call_is ∙ call_by_refused ours l v h)

-- ---- in force, step by step

module _ (l : Lent) (o : Left) (steps : List Step) where
  pub call_gives : o.number ≡ pos 0 → in_force_after (Call l o ∷ steps) ≡ force_after (batch_owner l) (in_force_after steps) 0 l.requests o.answers
  unfolding in_force_after
  call_gives h = rw ((same_is o.number (pos 0)).1 h, in_force_after)

  pub call_keeps : same o.number (pos 0) ≡ false → in_force_after (Call l o ∷ steps) ≡ in_force_after steps
  unfolding in_force_after
  call_keeps h = rw (h, in_force_after)

-- ---- the pool holds them

-- words that are sound, of a pool that holds the records
pub record Holding (w : List ℤ) (rs : List Record) : Type 0 where
  pub holds : HoldsRecords (read w) rs
  pub good : sound w ≡ true

-- the words of a pool that holds them
holding : (p : Pool) (rs : List Record) → HoldsRecords p rs → Holding (words p) rs
holding p rs k = record { holds = subst (λ (q : Pool). HoldsRecords q rs) (sym (holds_reads p rs k)) k; good = holds_sound p rs k }

-- what is in force, by whether the number that came back is 0
abbrev by_test : Bool → List Record → List Record → List Record
by_test t now before = elim t [ true ↦ now | false ↦ before ]

module _ (w : List ℤ) (steps : List Step) (now : Holding w (in_force_after steps)) where
  kept : (z : ℤ) (rs : List Record) → same z (pos 0) ≡ false → Holding w (by_test (same z (pos 0)) rs (in_force_after steps))
  kept z rs h = rw h now

  one_no : same (pos 1) (pos 0) ≡ false
  unfolding same
  one_no = refl

  untold_no : same (negsuc 0) (pos 0) ≡ false
  unfolding same
  untold_no = refl

  module _ (edition rule : ℤ) where
    module _ (b : Blanked) (k : BlanksAs edition rule w b.number b.pool) where
      abbrev BlankedSo : Blanked → Type 0
      BlankedSo x = Holding x.pool (by_test (same x.number (pos 0)) [] (in_force_after steps))

      blanked : (e : Edition) (m : ℕ) → BlankedSo (record { number = pos 0; pool = words (blank_pool e m) })
      blanked e m = rw none_zero (holding (blank_pool e m) [] (blank_holds e m))

      blank_step : Holding b.pool (in_force_after (Blank edition rule b ∷ steps))
      unfolding in_force_after
      blank_step =
          subst (λ (v : List ℤ). Holding v (by_test (same b.number (pos 0)) [] (in_force_after steps))) (sym k.pool)
          (subst (λ (z : ℤ). Holding (blank_as edition rule w).pool (by_test (same z (pos 0)) [] (in_force_after steps))) (sym k.number)
          (blank_as_lem edition rule w BlankedSo (λ e. blanked e (slots_fitting e (length w) - 1)) (kept (pos 1) [] one_no) (kept (negsuc 0) [] untold_no)))

    module _ (u : List ℤ) (file : List ℕ) (o : ReadLeft) (k : ReadsAs edition rule w u file o.number o.pool o.workspace) where
      abbrev ReadSo : ReadLeft → Type 0
      ReadSo r = Holding r.pool (by_test (same r.number (pos 0)) (records_told edition rule file) (in_force_after steps))

      taken : (e : Edition) → edition_told edition rule ≡ Some e → (m : ℕ) (q : Pool) → load_file ours e (blank_pool e m) file ≡ Loaded q
          → ReadSo (record { number = pos 0; pool = words q; workspace = words q })
      taken e told m q x =
          let h = (subst (IfLoaded (Holds ours ours_lawful e m file)) x (file_loads ours ours_lawful e m file)).records in
          rw (none_zero, records_told_lem edition rule e told file) (holding q (file_records e file) h)

      read_so : (x : Option Edition) → edition_told edition rule ≡ x → ReadSo (read_file_as edition rule w u file)
      read_so None h = subst ReadSo (sym (read_untold edition rule h w u file)) (kept (negsuc 0) (records_told edition rule file) untold_no)
      read_so (Some e) h =
          subst ReadSo (sym (read_told edition rule e h w u file))
          (read_cases e w u file ReadSo (kept (pos 1) (records_told edition rule file) one_no)
          (λ f. kept (file_number f) (records_told edition rule file) (some_fault f)) (λ q l. taken e h (slots_fitting e (length w) - 1) q l))

      read_step : Holding o.pool (in_force_after (Read edition rule u file o ∷ steps))
      unfolding in_force_after
      read_step =
          subst (λ (v : List ℤ). Holding v (by_test (same o.number (pos 0)) (records_told edition rule file) (in_force_after steps))) (sym k.pool)
          (subst (λ (z : ℤ). Holding (read_file_as edition rule w u file).pool (by_test (same z (pos 0)) (records_told edition rule file) (in_force_after steps))) (sym k.number)
          (read_so (edition_told edition rule) refl))

module _ (l : Lent) (o : Left) (k : Allowed l o) where
  -- a refused call leaves the pool
  pub refused_pool_is : o.number ≢ pos 0 → o.pool ≡ l.pool
  refused_pool_is n =
      let r = refused_left l (λ e. n (k.number ∙ e)) in
      k.pool ∙ ap (λ (x : Left). x.pool) r.2 ∙ refused_pool l r.0

  module _ (steps : List Step) (now : Holding l.pool (in_force_after steps)) where
    zero_number : o.number ≡ pos 0 → (call_by ours l).number ≡ pos 0
    unfolding call
    zero_number z = sym k.number ∙ z

    served_step : o.number ≡ pos 0 → Holding o.pool (force_after (batch_owner l) (in_force_after steps) 0 l.requests o.answers)
    unfolding call
    served_step z =
        let y = zero_number z in
        let h = call_force ours l ours_lawful (in_force_after steps) now.holds y in
        rw (k.answers, k.pool, call_pool ours l ours_lawful (in_force_after steps) now.holds y) (holding _ _ h)

    call_step : Holding o.pool (in_force_after (Call l o ∷ steps))
    call_step = go (same o.number (pos 0)) refl
      where
        go : (t : Bool) → same o.number (pos 0) ≡ t → Holding o.pool (in_force_after (Call l o ∷ steps))
        go true h = let z = (same_is o.number (pos 0)).0 h in rw (call_gives l o steps z) (served_step z)
        go false h =
            rw (call_keeps l o steps h, refused_pool_is (λ z. never_both ((same_is o.number (pos 0)).1 z) h)) now

pub history_keeps : (e : Edition) (n : ℕ) (steps : List Step) → History e n steps → Holding (pool_after e n steps) (in_force_after steps)
unfolding pool_after
history_keeps e n [] h = unfold in_force_after in holding (blank_pool e n) [] (blank_holds e n)
history_keeps e n (Blank edition rule b ∷ steps) h = blank_step (pool_after e n steps) steps (history_keeps e n steps h.1) edition rule b h.0
history_keeps e n (Call l o ∷ steps) h =
    call_step l o h.1 steps (subst (λ (w : List ℤ). Holding w (in_force_after steps)) (sym h.0) (history_keeps e n steps h.2))
history_keeps e n (Read edition rule u file o ∷ steps) h =
    read_step (pool_after e n steps) steps (history_keeps e n steps h.1) edition rule u file o h.0

pub history_holds : (e : Edition) (n : ℕ) (steps : List Step) → History e n steps → HoldsRecords (read (pool_after e n steps)) (in_force_after steps)
history_holds e n steps h = (history_keeps e n steps h).holds

-- the pool that a history leaves is never refused 2
pub history_sound : (e : Edition) (n : ℕ) (steps : List Step) → History e n steps → sound (pool_after e n steps) ≡ true
history_sound e n steps h = (history_keeps e n steps h).good
