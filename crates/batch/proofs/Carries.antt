-- The loop of `carry`: k items stand in the found list, and a turn stores one more.
use mathlib.Core.Path.{◌≡◌, sym, ◌∙◌, ap}
use Prim.Native.Nat.{ℕ, suc, ◌+◌}
use native.Mathlib.Omega.{arith}
use native.Mathlib.Numerals.{add-one}
use mathlib.Core.List.{List, [], ◌∷◌, ◌++◌}
use lib.ListN.{length, set}
use lib.Seq.{sets, length-sets}
use lib.IntN.{ℤ}
use Rattle.rules.specs.declared.FoundRecord.{FoundRecord}
use Rattle.found_items.specs.Items.{shown_at, shown_from}
use Rattle.found_items.proofs.Words.{items_none, items_one, items_length, items_append}
use Rattle.layout_laws.proofs.Runs.{sets_more}

module _ (p w : List ℤ) (fs : List FoundRecord) (at : ℕ) where
  abbrev pub stored : ℕ → List FoundRecord
  stored k = sets fs at (shown_from p w 0 k)

  pub stored_long : (k : ℕ) → length (stored k) ≡ length fs
  stored_long k = length-sets fs at (shown_from p w 0 k)

  pub stored_none : fs ≡ stored 0
  stored_none = ap (sets fs at) (sym (items_none (shown_at p w) 0))

  last : (k : ℕ) → shown_from p w 0 k ++ shown_at p w k ∷ [] ≡ shown_from p w 0 (suc k)
  last k =
      ap (λ (l : List FoundRecord). shown_from p w 0 k ++ l) (sym (items_one (shown_at p w) k) ∙ ap (λ (i : ℕ). shown_from p w i 1) (sym none_before))
      ∙ sym (items_append (shown_at p w) 0 k 1) ∙ ap (shown_from p w 0) (add-one k)
    where
      none_before : 0 + k ≡ k
      none_before = omega arith

  pub stored_more : (k : ℕ) → set (stored k) (at + k) (shown_at p w k) ≡ stored (suc k)
  stored_more k =
      ap (λ (i : ℕ). sets (stored k) (at + i) (shown_at p w k ∷ [])) (sym (items_length (shown_at p w) 0 k))
      ∙ sets_more (shown_from p w 0 k) (shown_at p w k ∷ []) fs at ∙ ap (sets fs at) (last k)
