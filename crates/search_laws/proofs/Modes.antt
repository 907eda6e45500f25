-- What a search of any mode finds is what one of mode meeting finds, less what the mode does not want, in the same order. Below the entries
-- that are opened, which are the same in every mode, each leaf lists in mode meeting all that any mode lists there. No pool is asked to be sound.
use mathlib.Core.Path.{◌≡◌, refl, sym, ap, ◌∙◌}
use mathlib.Core.Bool.{Bool, true, false, ◌&&◌}
use mathlib.Core.List.{List, map}
use Prim.Native.Nat.{ℕ, zero, suc}
use Rattle.rules.specs.declared.Rect.{Rect}
use Rattle.rules.specs.declared.SlotNumber.{SlotNumber}
use Rattle.rules.specs.declared.Entry.{Entry}
use Rattle.rules.specs.declared.Mode.{Mode}
use Rattle.rules.specs.declared.Mode.TheVariants.{Meeting}
use Rattle.rules.specs.Lists.{those, joined}
use Rattle.rules.specs.Geometry.{meets}
use Rattle.rules.specs.Compare.{compared, wanted}
use Rattle.rules.specs.Pool.{Pool, entries_at, child_of, record_of}
use Rattle.rules.specs.Search.{found_in, found_from_root}
use Rattle.rules_laws.proofs.Places.{map_same}
use Rattle.rules_laws.proofs.Parts.{those_none, those_map, those_and, those_same}
use Rattle.rules_laws.proofs.Joins.{those_joined}
use Rattle.rules_laws.proofs.Compares.{wanted_misses}
use Rattle.search_laws.specs.Window.{record_wanted}
use Rattle.search_laws.proofs.Clauses.{found_none, found_leaf, found_leaf_met, found_inner}

module _ (p : Pool) (mode : Mode) (window : Rect) where
  -- what the mode wants meets the window: asked after that, it is asked alone
  met_first : (r : Rect) → (meets r window && wanted mode (compared r window)) ≡ wanted mode (compared r window)
  met_first r = go (meets r window) refl
    where
      go : (t : Bool) → meets r window ≡ t → (meets r window && wanted mode (compared r window)) ≡ wanted mode (compared r window)
      go true e = rw e
      go false e = rw e (sym (wanted_misses mode r window e))

  leaf_wanted : (es : List Entry) → map record_of (those (λ e. wanted mode (compared e.rect window)) es)
      ≡ those (record_wanted mode window) (map record_of (those (λ e. meets e.rect window) es))
  unfolding record_of
  leaf_wanted es =
      ap (map record_of)
      (those_same (λ e. wanted mode (compared e.rect window)) (λ e. meets e.rect window && wanted mode (compared e.rect window)) es
      (λ e m. sym (met_first e.rect))
      ∙ those_and (λ e. meets e.rect window) (λ e. wanted mode (compared e.rect window)) es)
      ∙ sym (those_map record_of (record_wanted mode window) (those (λ e. meets e.rect window) es))

  pub wanted_in : (l : ℕ) (s : SlotNumber) → found_in p mode window l s ≡ those (record_wanted mode window) (found_in p Meeting window l s)
  wanted_in zero s = rw (found_none p window mode s, found_none p window Meeting s, those_none (record_wanted mode window))
  wanted_in (suc zero) s = rw (found_leaf p window mode s, found_leaf_met p window s) (leaf_wanted (entries_at p s))
  wanted_in (suc (suc l)) s =
      rw (found_inner p window mode l s, found_inner p window Meeting l s)
      (ap joined (map_same (λ (e : Entry). found_in p mode window (suc l) (child_of e))
      (λ (e : Entry). those (record_wanted mode window) (found_in p Meeting window (suc l) (child_of e))) opened (λ e m. wanted_in (suc l) (child_of e)))
      ∙ sym (those_joined (record_wanted mode window) (λ (e : Entry). found_in p Meeting window (suc l) (child_of e)) opened))
    where
      opened : List Entry
      opened = those (λ e. meets e.rect window) (entries_at p s)

  -- from the root on
  pub wanted_found : found_from_root p mode window ≡ those (record_wanted mode window) (found_from_root p Meeting window)
  wanted_found = wanted_in p.height p.root
