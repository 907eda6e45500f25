-- FindLeaf by its clauses, each said once: no entry, an entry that is the pair or leads on, and one that is not; level 0, a leaf, an inner node.
use mathlib.Core.Path.{◌≡◌, refl}
use mathlib.Core.Bool.{true, false}
use mathlib.Core.List.{List, [], ◌∷◌}
use Rattle.std.specs.Prelude.{Option, None, Some}
use Prim.Native.Nat.{ℕ, suc}
use Rattle.rules.specs.declared.Rect.{Rect}
use Rattle.rules.specs.declared.SlotNumber.{SlotNumber}
use Rattle.rules.specs.declared.Record.{Record}
use Rattle.rules.specs.declared.Entry.{Entry}
use Rattle.rules.specs.Geometry.{meets}
use Rattle.rules.specs.Compare.{exact_pair}
use Rattle.rules_laws.proofs.Compares.{meeting_is}
use Rattle.rules.specs.Pool.{Pool, entries_at, child_of, record_of}
use Rattle.rules.specs.Delete.{Path, place, find_entry, or_later, find_child, find_leaf}

-- ---- FL2, in a leaf

module _ (r : Record) (s : SlotNumber) (i : ℕ) where
  pub entry_none : find_entry r s i [] ≡ None
  unfolding find_entry
  entry_none = refl

  pub entry_yes : (e : Entry) (es : List Entry) → exact_pair r (record_of e) ≡ true → find_entry r s i (e ∷ es) ≡ Some (place s i ∷ [])
  unfolding find_entry
  entry_yes e es h = rw (h, find_entry)

  pub entry_no : (e : Entry) (es : List Entry) → exact_pair r (record_of e) ≡ false → find_entry r s i (e ∷ es) ≡ find_entry r s (suc i) es
  unfolding find_entry
  entry_no e es h = rw (h, find_entry)

-- ---- FL1, in an inner node

module _ (s : SlotNumber) (i : ℕ) where
  pub or_some : (way : Path) (later : Option Path) → or_later s i (Some way) later ≡ Some (place s i ∷ way)
  unfolding or_later
  or_some way later = refl

  pub or_none : (later : Option Path) → or_later s i None later ≡ later
  unfolding or_later
  or_none later = refl

module _ (find : SlotNumber → Option Path) (r : Rect) (s : SlotNumber) (i : ℕ) where
  pub child_none : find_child find r s i [] ≡ None
  unfolding find_child
  child_none = refl

  pub child_yes : (e : Entry) (es : List Entry) → meets e.rect r ≡ true
      → find_child find r s i (e ∷ es) ≡ or_later s i (find (child_of e)) (find_child find r s (suc i) es)
  unfolding find_child
  child_yes e es h = rw (meeting_is e.rect r, h, find_child)

  pub child_no : (e : Entry) (es : List Entry) → meets e.rect r ≡ false → find_child find r s i (e ∷ es) ≡ find_child find r s (suc i) es
  unfolding find_child
  child_no e es h = rw (meeting_is e.rect r, h, find_child)

-- ---- FindLeaf

module _ (p : Pool) (r : Record) where
  pub leaf_none : (s : SlotNumber) → find_leaf p r 0 s ≡ None
  unfolding find_leaf
  leaf_none s = refl

  pub leaf_at : (s : SlotNumber) → find_leaf p r 1 s ≡ find_entry r s 0 (entries_at p s)
  unfolding find_leaf
  leaf_at s = refl

  pub leaf_below : (l : ℕ) (s : SlotNumber) → find_leaf p r (suc (suc l)) s ≡ find_child (λ t. find_leaf p r (suc l) t) r.rect s 0 (entries_at p s)
  unfolding find_leaf
  leaf_below l s = refl
