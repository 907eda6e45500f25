-- The cover of a node's entries, an entry at a time: the cover so far, joined with the entries from a place on, is the cover of all.
use mathlib.Core.Path.{◌≡◌, refl}
use mathlib.Core.List.{List, [], ◌∷◌, foldl}
use Prim.Native.Nat.{ℕ, ◌+◌, ◌≤◌, ◌<◌}
use native.Mathlib.Numerals.{add-one}
use native.Mathlib.Omega.{arith}
use lib.ListN.{length, drop, drop_of_length-le}
use lib.Seq.{drop-cons}
use Rattle.rules.specs.declared.Rect.{Rect}
use Rattle.rules.specs.declared.Entry.{Entry}
use Rattle.rules.specs.Geometry.{cover, cover_all, no_rect}
use Rattle.rules.specs.Choose.{rect_from}
use Rattle.rules.specs.Pool.{rects, cover_of}
use Rattle.layout_laws.proofs.Parts.{length_rects}

all_first : (rs : List Rect) → 0 < length rs → foldl cover (rect_from rs 0) (drop 1 rs) ≡ cover_all rs
unfolding rect_from cover_all
all_first [] h = absurd (omega arith)
all_first (r ∷ rs) h = refl

module _ (es : List Entry) where
  -- the cover of r and of the entries from place i on
  abbrev pub ahead : Rect → ℕ → Rect
  ahead r i = foldl cover r (drop i (rects es))

  pub first : 0 < length es → ahead (rect_from (rects es) 0) 1 ≡ cover_of es
  unfolding cover_of
  first h = all_first (rects es) (rw length_rects h)

  pub step : (r : Rect) (i : ℕ) → i < length es → ahead r i ≡ ahead (cover r (rect_from (rects es) i)) (i + 1)
  unfolding rect_from
  step r i h = rw (add-one i, drop-cons (rects es) i no_rect (rw length_rects h))

  pub last : (r : Rect) (i : ℕ) → length es ≤ i → ahead r i ≡ r
  last r i h = rw (drop_of_length-le (rects es) {i = i} (rw length_rects h))

-- of no entries, the point (0, 0)
pub cover_none : (es : List Entry) → length es ≡ 0 → no_rect ≡ cover_of es
unfolding cover_of cover_all rects
cover_none [] e = refl
cover_none (x ∷ es) e = absurd (omega arith)
