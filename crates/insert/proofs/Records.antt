-- A record goes in. The number of records is no part of the tree, so with the record counted the pool stands as before; and with the number
-- put back the words are what they were. A slot has eight entries at most, so the number is one that a word holds.
use mathlib.Core.Path.{◌≡◌, refl, sym, ap, subst, subst⁻¹, ◌∙◌}
use mathlib.Core.Bool.{true, false}
use mathlib.Core.List.{List, []}
use Prim.Native.Nat.{ℕ, ◌+◌, ◌≤◌}
use native.Mathlib.Omega.{arith}
use lib.IntN.{ℤ}
use Rattle.std.specs.Prelude.{Option, Some, None, is_some}
use Rattle.rules.specs.declared.Record.{Record}
use Rattle.rules.specs.declared.Edition.{Edition}
use Rattle.rules.specs.Numbers.{good_number}
use Rattle.rules.specs.Owners.{owner_sound}
use Rattle.rules.specs.Geometry.{valid}
use Rattle.rules.specs.Pool.{Pool, owner_of, leaf_entry, put_records}
use Rattle.rules.specs.Insert.{Change, Done, NoneFree, ours, insert_at, insert_record}
use Rattle.rules.specs.Layout.{valid_length, words, read}
use Rattle.rules_laws.proofs.Orders.{never_both}
use Rattle.layout_laws.specs.Slots.{Fit}
use Rattle.layout_laws.proofs.Few.{stored_few}
use Rattle.layout_laws.proofs.Parts.{few_slots}
use Rattle.free_slots.specs.declared.FreeSlots.{FreeSlots}
use Rattle.free_slots.specs.Known.{Known}
use Rattle.free_slots.proofs.Known.{known_records}
use Rattle.sound_laws.specs.Tree.{Whole}
use Rattle.sound_laws.proofs.Heights.{height_eight}
use Rattle.sound_laws.proofs.Walk.{tree_positive}
use Rattle.insert_laws.specs.Grown.{Fits}
use Rattle.insert_laws.proofs.Standing.{standing_once}
use Rattle.insert_laws.proofs.Whole.{head_standing, whole_standing, record_fits}
use Rattle.insert.specs.Left.{Leaves, MayGo, Upright}
use Rattle.insert.proofs.Fitted.{fits_kind}
use Rattle.nodes.proofs.Slots.{most_slots_lem}

-- ---- how many records there can be

pub records_few : (w : List ℤ) → valid_length w ≡ true → Whole (read w) → (read w).records ≤ 32768
records_few w r h = omega (arith, h.counted, stored_few w, few_slots w r)

-- ---- a change that was made, and one that was not

made_too : (o : Change) (f : Option FreeSlots) (a b u : List ℤ) → is_some f ≡ true → Leaves a o f u → Leaves b o f u
made_too (Done q) (Some f) a b u t x = x
made_too (Done q) None a b u t x = absurd x
made_too NoneFree (Some f) a b u t x = absurd x
made_too NoneFree None a b u t x = never_both t refl

refused_is : (o : Change) (f : Option FreeSlots) (a u : List ℤ) → is_some f ≡ false → Leaves a o f u → (f ≡ None) × (o ≡ NoneFree) × (u ≡ a)
refused_is o (Some f) a u t x = never_both refl t
refused_is (Done q) None a u t x = absurd x
refused_is NoneFree None a u t x = (refl, refl, x)

-- ---- another number of records

module _ (w : List ℤ) (right : valid_length w ≡ true) (h : Whole (read w)) (m : ℕ) (v : List ℤ) (put : read v ≡ put_records (read w) m) where
  pub head_upright : Upright (read v)
  head_upright =
      let s = head_standing (read w) m [] (whole_standing (read w) h) in
      subst⁻¹ Upright put (record { tree = s.tree; once = standing_once (put_records (read w) m) [] s; some = s.some })

  height_is : (put_records (read w) m).height ≡ (read w).height
  unfolding put_records
  height_is = refl

  pub head_levels : (1 ≤ (read v).height) × ((read v).height ≤ 64)
  head_levels =
      let e = ap (λ (p : Pool). p.height) put in (
        omega (arith, e, height_is, tree_positive (read w) (read w).height (read w).root h.tree),
        omega (arith, e, height_is, height_eight (read w) h (most_slots_lem w right)),
      )

  pub head_known : (f : FreeSlots) → Known (read w) f → Known (read v) f
  head_known f k = subst⁻¹ (λ (p : Pool). Known p f) put (known_records (read w) f k m)

  head_fits : (r : Record) → valid r.rect ≡ true → good_number r.number ≡ true → Fits (read v) 1 (leaf_entry r)
  head_fits r ok good = record_fits (read v) r ok good

  edition_is : (read v).edition ≡ (read w).edition
  unfolding put_records
  edition_is = ap (λ (q : Pool). q.edition) put

  pub head_goes : (r : Record) → valid r.rect ≡ true → good_number r.number ≡ true → owner_sound (read w).edition r.owner ≡ true
      → MayGo (read v) 1 (leaf_entry r)
  unfolding leaf_entry owner_of
  head_goes r ok good mine = record {
    fits = head_fits r ok good;
    kind = fits_kind (read v) 1 (leaf_entry r) (head_fits r ok good)
        (λ _. subst⁻¹ (λ (e : Edition). owner_sound e r.owner ≡ true) edition_is mine);
  }

-- ---- a record goes in, and is counted

-- where it is refused, nothing was written since
pub refused_fit : (r : Record) (v u : List ℤ) (f : Option FreeSlots) → Leaves v (insert_at ours 1 (read v) (leaf_entry r)) f u
    → is_some f ≡ false → Fit v → Fit u
refused_fit r v u f leaves t x = subst⁻¹ Fit (refused_is (insert_at ours 1 (read v) (leaf_entry r)) f v u t leaves).2 x

module _ (w : List ℤ) (r : Record) (n : ℕ) (is : n ≡ (read w).records) (v : List ℤ) (put : read v ≡ put_records (read w) (n + 1))
    (f : Option FreeSlots) (u : List ℤ) (leaves : Leaves v (insert_at ours 1 (read v) (leaf_entry r)) f u) where
  record_is : insert_at ours 1 (read v) (leaf_entry r) ≡ insert_record ours (read w) r
  unfolding insert_record
  record_is =
      ap (λ (p : Pool). insert_at ours 1 p (leaf_entry r))
      (put ∙ ap (λ (m : ℕ). put_records (read w) (m + 1)) is)

  leaves_record : Leaves v (insert_record ours (read w) r) f u
  leaves_record = subst (λ (c : Change). Leaves v c f u) record_is leaves

  pub record_made : is_some f ≡ true → Leaves w (insert_record ours (read w) r) f u
  record_made t = made_too (insert_record ours (read w) r) f v w u t leaves_record

  -- nothing was written, and the number is put back
  module _ (t : is_some f ≡ false) where
    refused : (f ≡ None) × (insert_record ours (read w) r ≡ NoneFree) × (u ≡ v)
    refused = refused_is (insert_record ours (read w) r) f v u t leaves_record

    back_is : put_records (put_records (read w) (n + 1)) n ≡ read w
    unfolding put_records
    back_is i = record { edition = (read w).edition; root = (read w).root; height = (read w).height; records = is i; slots = (read w).slots }

    pub record_refused : Fit w → (z : List ℤ) → Fit z → read z ≡ put_records (read u) n → Leaves w (insert_record ours (read w) r) f z
    record_refused x z y back =
        let same : read z ≡ read w =
        back ∙ ap (λ (a : List ℤ). put_records (read a) n) refused.2 ∙ ap (λ (p : Pool). put_records p n) put ∙ back_is in
        subst⁻¹ (λ (o : Option FreeSlots). Leaves w (insert_record ours (read w) r) o z) refused.0
        (subst⁻¹ (λ (c : Change). Leaves w c None z) refused.1 (sym y.same ∙ ap words same ∙ x.same))
