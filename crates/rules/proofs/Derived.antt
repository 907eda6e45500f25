-- What the derived `==` and `<` of the types of `rules`, and `.min()` and `.max()`, compute is what the
-- definitions say: by cases of the comparisons of two whole numbers, and field by field.
use mathlib.Core.Path.{◌≡◌, refl, ap, ◌∙◌}
use mathlib.Core.Bool.{Bool, true, false, cond, not, ◌&&◌, ◌||◌}
use Prim.Native.Nat.{ℕ}
use lib.Dec.{leb, ltb}
use lib.IntN.{ℤ, pos, negsuc}
use lib.Signed.{le_z, lt_z}
use borrow.Author.Tests.{ltb-true, ltb-false, le-leb, lt-leb}
use Rattle.std.specs.Int.{int_min, int_max}
use Rattle.std.specs.Ordering.{int_cmp, int_eq, is_eq, is_lt, is_some_and, partial_lt, partial_ordering_then}
use Rattle.std.specs.declared.cmp.Ordering.{Ordering}
use Rattle.std.specs.declared.cmp.Ordering.TheVariants.{Less, Equal, Greater}
use Rattle.std.specs.declared.option.Option.{Option}
use Rattle.std.specs.declared.option.Option.TheVariants.{Some}
use Rattle.rules.specs.declared.Rect.{Rect}
use Rattle.rules.specs.declared.FoundRecord.{FoundRecord}
use Rattle.rules.specs.contracts.RectPartialEq.TheImpl as rect
use Rattle.rules.specs.contracts.RectPartialOrd.TheImpl as rect_ord
use Rattle.rules.specs.contracts.FoundRecordPartialEq.TheImpl as found_eq
use Rattle.rules.specs.contracts.FoundRecordPartialOrd.TheImpl as found_ord
use Rattle.rules.specs.Lists.{same, less_then}
use Rattle.rules.specs.Geometry.{smaller, larger, same_rect, same_found}
use Rattle.rules.specs.Search.{before}

-- ---- two whole numbers

-- at most, as not above
at_most_ℕ : (m n : ℕ) → leb m n ≡ not (ltb n m)
at_most_ℕ m n = go (ltb n m) refl
  where
    go : (t : Bool) → ltb n m ≡ t → leb m n ≡ not t
    go true e = lt-leb m n (ltb-true n m e)
    go false e = le-leb m n (ltb-false n m e)

at_most_not : (x y : ℤ) → le_z x y ≡ not (lt_z y x)
at_most_not (pos m) (pos n) = at_most_ℕ m n
at_most_not (pos m) (negsuc n) = refl
at_most_not (negsuc m) (pos n) = refl
at_most_not (negsuc m) (negsuc n) = at_most_ℕ n m

pub number_same : (x y : ℤ) → int_eq x y ≡ same x y
unfolding same
number_same x y = rw (at_most_not x y, at_most_not y x) (go (lt_z x y) (lt_z y x))
  where
    go : (s t : Bool) → is_eq (cond s Less (cond t Greater Equal)) ≡ (not t && not s)
    go true true = refl
    go true false = refl
    go false true = refl
    go false false = refl

pub min_smaller : (x y : ℤ) → int_min x y ≡ smaller x y
unfolding smaller
min_smaller x y = rw (at_most_not x y) (go (lt_z y x))
  where
    go : (s : Bool) → cond s y x ≡ cond (not s) x y
    go true = refl
    go false = refl

pub max_larger : (x y : ℤ) → int_max x y ≡ larger x y
unfolding larger
max_larger x y = rw (at_most_not x y) (go (lt_z y x))
  where
    go : (s : Bool) → cond s x y ≡ cond (not s) y x
    go true = refl
    go false = refl

-- a field and those after it
field_first : (x y : ℤ) (o : Option Ordering)
    → is_some_and is_lt (partial_ordering_then (Some (int_cmp x y)) o)
    ≡ less_then x y (is_some_and is_lt o)
unfolding less_then
field_first x y o = go (lt_z x y) (lt_z y x)
  where
    go : (s t : Bool)
        → is_some_and is_lt (partial_ordering_then (Some (cond s Less (cond t Greater Equal))) o)
        ≡ (s || (not t && is_some_and is_lt o))
    go true t = refl
    go false true = refl
    go false false = refl

-- the last field
field_last : (x y : ℤ) → is_some_and is_lt (Some (int_cmp x y)) ≡ less_then x y false
unfolding less_then
field_last x y = go (lt_z x y) (lt_z y x)
  where
    go : (s t : Bool) → is_lt (cond s Less (cond t Greater Equal)) ≡ (s || (not t && false))
    go true t = refl
    go false true = refl
    go false false = refl

-- ---- rectangles, and records of the found list

pub rects_same : (a b : Rect) → (rect.eq-value).it a b ≡ same_rect a b
unfolding same_rect
rects_same a b =
    rw (
      number_same a.lowX b.lowX,
      number_same a.lowY b.lowY,
      number_same a.highX b.highX,
      number_same a.highY b.highY,
    )
    (go (same a.lowX b.lowX) (same a.lowY b.lowY) _ _)
  where
    go : (p q r s : Bool) → (p && (q && (r && s))) ≡ (p && q && r && s)
    go true true r s = refl
    go true false r s = refl
    go false q r s = refl

pub founds_same : (a b : FoundRecord) → (found_eq.eq-value).it a b ≡ same_found a b
unfolding same_found
founds_same a b = rw (number_same a.number.0 b.number.0, rects_same a.rect b.rect) refl

-- "low x, low y, high x, high y"
pub rect_lt : (a b : Rect) → partial_lt (rect_ord.partial_cmp-value).it a b
    ≡ less_then a.lowX b.lowX
    (less_then a.lowY b.lowY
    (less_then a.highX b.highX
    (less_then a.highY b.highY false)))
rect_lt a b =
    field_first a.lowX b.lowX _ ∙ ap (less_then a.lowX b.lowX)
    (field_first a.lowY b.lowY _ ∙ ap (less_then a.lowY b.lowY)
    (field_first a.highX b.highX _ ∙ ap (less_then a.highX b.highX)
    (field_last a.highY b.highY)))

-- "ordered by record number, then low x, low y, high x, high y"
pub found_lt : (a b : FoundRecord) → partial_lt (found_ord.partial_cmp-value).it a b ≡ before a b
unfolding before
found_lt a b =
    field_first a.number.0 b.number.0 _
    ∙ ap (less_then a.number.0 b.number.0) (rect_lt a.rect b.rect)
