-- What an accepted load leaves, for every lawful choice: a whole pool that holds the records of the file and those of before; and these
-- records ascend and are each as a leaf entry is to be.
use mathlib.Core.Path.{◌≡◌, refl, sym, ap, subst, ◌∙◌}
use mathlib.Core.Bool.{Bool, true}
use mathlib.Core.List.{List, ◌∷◌}
use Rattle.std.specs.Prelude.{Option, None, Some}
use Prim.Native.Nat.{ℕ, zero, suc, ◌+◌}
use native.Mathlib.Omega.{arith}
use lib.ListN.{length}
use Rattle.rules.specs.declared.Edition.{Edition}
use Rattle.rules.specs.declared.Record.{Record}
use Rattle.rules.specs.Lists.{those}
use Rattle.rules.specs.Owners.{owner_sound}
use Rattle.rules.specs.Pool.{Pool, stored, blank_pool}
use Rattle.rules.specs.Insert.{Choice, Done, insert_record}
use Rattle.rules.specs.Lawful.{Lawful}
use Rattle.rules.specs.File.{Due, frame_due, record_due, count_in, record_in, records_from, file_records, records_carried, follows, load_records, load_file}
use Rattle.rules_laws.proofs.Places.{Each, each_among, each_of}
use Rattle.rules_laws.proofs.Parts.{those_none, count_cons}
use Rattle.sound_laws.specs.Tree.{Whole}
use Rattle.insert_laws.proofs.Whole.{insert_whole, insert_stored}
use Rattle.insert_laws.proofs.Lasting.{insert_edition}
use Rattle.in_force_laws.specs.Shows.{HoldsRecords}
use Rattle.in_force_laws.proofs.Call.{blank_holds}
use Rattle.in_force_laws.proofs.Many.{ChangeHas, insert_has}
use Rattle.file_laws.specs.Ascending.{Ascending, GoodRecord, Carriable}
use Rattle.file_laws.proofs.InFile.{file_on, ascending_once}
use Rattle.file_laws.proofs.Carried.{carried_is}
use Rattle.file_laws.proofs.Steps as S
use Rattle.file_laws.proofs.Steps.{Passes}
use Rattle.file_laws.proofs.Rule.{file_cases, IfLoaded, then_loaded, load_by}

-- n records have gone into p, after the one given, and it is q now
pub record Took (e : Edition) (p : Pool) (last : Option Record) (n : ℕ) (bs : List ℕ) (q : Pool) : Type 0 where
  pub whole : Whole q
  pub edition : q.edition ≡ p.edition
  pub slots : length p.slots ≡ length q.slots
  pub stored_are : (f : Record → Bool) → length (those f (stored q)) ≡ length (those f (stored p)) + length (those f (records_from e n bs))
  pub carriable : Carriable e (records_from e n bs)
  pub after : Each (λ r. follows last r ≡ true) (records_from e n bs)

nothing_took : (e : Edition) (p : Pool) → Whole p → (last : Option Record) (bs : List ℕ) → Took e p last zero bs p
unfolding records_from
nothing_took e p w last bs =
    record {
      whole = w;
      edition = refl;
      slots = refl;
      stored_are = λ f. omega (arith, ap length (those_none f));
      carriable = record { ascending = tt; good = tt };
      after = tt;
    }

-- what follows a record that follows the last follows the last too
follows_on : (last : Option Record) (r x : Record) → follows last r ≡ true → follows (Some r) x ≡ true → follows last x ≡ true
unfolding follows
follows_on None r x a b = refl
follows_on (Some l) r x a b = file_on l r x a b

-- an insert leaves as many slots
pub same_slots : (c : Choice) (p q : Pool) (r : Record) → insert_record c p r ≡ Done q → length p.slots ≡ length q.slots
same_slots c p q r i = sym (subst (ChangeHas (length p.slots)) i (insert_has (length p.slots) c p r refl))

module _ (c : Choice) (lawful : Lawful c) (e : Edition) where
  -- one more in front of the others
  one_more : (p q s : Pool) (last : Option Record) (r : Record) (n : ℕ) (bs : List ℕ) → Whole p → Passes e last r → insert_record c p r ≡ Done q
      → (d : Due) → record_due e bs ≡ Some d → record_in e d.words ≡ r → Took e q (Some r) n d.after s → Took e p last (suc n) bs s
  unfolding follows
  one_more p q s last r n bs w h i d due is t =
      let rest = records_from e n d.after in
      let all : records_from e (suc n) bs ≡ r ∷ rest = subst (λ (x : Record). records_from e (suc n) bs ≡ x ∷ rest) is (S.records_more e n bs d due) in
      record {
        whole = t.whole;
        edition = t.edition ∙ insert_edition c p q r i;
        slots = same_slots c p q r i ∙ t.slots;
        stored_are = λ f.
            omega (
              arith,
              t.stored_are f,
              insert_stored c lawful p w r h.rect h.number q i f,
              count_cons f r rest,
              ap (λ (l : List Record). length (those f l)) all,
            );
        carriable = record {
          ascending = subst Ascending (sym all) (t.after, t.carriable.ascending);
          good = subst (Each (GoodRecord e)) (sym all) ((h.rect, h.number, h.owner), t.carriable.good);
        };
        after = subst (Each (λ x. follows last x ≡ true)) (sym all)
            (h.after, each_among (λ x. follows last x ≡ true) rest (λ x m. follows_on last r x h.after (each_of (λ y. follows (Some r) y ≡ true) t.after m)));
      }

  pub load_takes : (n : ℕ) (last : Option Record) (p : Pool) (bs : List ℕ) → Whole p → IfLoaded (Took e p last n bs) (load_records c e n last p bs)
  load_takes n last p bs w =
      then_loaded (λ q. Whole p → Took e p last n bs q) (Took e p last n bs) (λ q f. f w) (load_records c e n last p bs)
      (load_by c e (λ n last p bs q. Whole p → Took e p last n bs q) (λ last p bs d x f w. nothing_took e p w last bs)
      (λ n last p bs d q s x g i t w. one_more p q s last (record_in e d.words) n bs w g i d x refl
      (t (insert_whole c lawful p w (record_in e d.words) g.rect g.number q i))) n last p bs)

  -- ---- a file

  -- a blank pool that has taken a file: it holds the file's records, and a file of it has these in this order
  pub record Holds (m : ℕ) (bs : List ℕ) (q : Pool) : Type 0 where
    pub slots : length q.slots ≡ length (blank_pool e m).slots
    pub edition : q.edition ≡ e
    pub records : HoldsRecords q (file_records e bs)
    pub carriable : Carriable e (file_records e bs)
    pub order : records_carried q ≡ file_records e bs

  blank_edition : (m : ℕ) → (blank_pool e m).edition ≡ e
  unfolding blank_pool
  blank_edition m = refl

  file_holds : (m : ℕ) (bs : List ℕ) (d : Due) → frame_due 16 2 bs ≡ Some d
      → (q : Pool) → Took e (blank_pool e m) None (count_in d.words) d.after q → Holds m bs q
  file_holds m bs d x q t =
      let all = S.file_records_lem e bs d x in
      let rs = records_from e (count_in d.words) d.after in
      let empty = (blank_holds e m).alike.each in
      let same = t.edition ∙ blank_edition m in
      let like : HoldsRecords q rs =
      record {
        whole = t.whole;
        alike = record { each = λ f. omega (arith, t.stored_are f, empty f, ap length (those_none f)) };
        once = ascending_once rs t.carriable.ascending;
        owners = λ r n. subst (λ (y : Edition). owner_sound y r.owner ≡ true) (sym same) (each_of (GoodRecord e) t.carriable.good n).2;
      } in
      record {
        slots = sym t.slots;
        edition = same;
        records = subst (HoldsRecords q) (sym all) like;
        carriable = subst (Carriable e) (sym all) t.carriable;
        order = subst (λ (l : List Record). records_carried q ≡ l) (sym all) (carried_is q rs like t.carriable.ascending);
      }

  pub file_loads : (m : ℕ) (bs : List ℕ) → IfLoaded (Holds m bs) (load_file c e (blank_pool e m) bs)
  file_loads m bs =
      file_cases c e (blank_pool e m) bs (IfLoaded (Holds m bs)) tt
      (λ d x h. then_loaded (Took e (blank_pool e m) None (count_in d.words) d.after) (Holds m bs) (file_holds m bs d x)
      (load_records c e (count_in d.words) None (blank_pool e m) d.after)
      (load_takes (count_in d.words) None (blank_pool e m) d.after (blank_holds e m).whole))
