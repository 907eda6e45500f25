-- A cover holds what it covers: its lows are at most theirs, and its highs at least. So where one of them meets a window, the cover
-- does; touching counts, since nothing here is strict.
use mathlib.Core.Path.{◌≡◌, refl, sym, subst}
use mathlib.Core.Bool.{Bool, true, false, cond}
use mathlib.Core.List.Memᴰ
use mathlib.Core.List.{List, [], ◌∷◌, foldl}
use lib.IntN.{ℤ}
use lib.Signed.{lt_z, le_z}
use Rattle.rules.specs.declared.Rect.{Rect}
use Rattle.rules.specs.declared.Entry.{Entry}
use Rattle.rules.specs.Geometry.{meets, smaller, larger, cover, cover_all}
use Rattle.rules.specs.Pool.{rects, cover_of}
use Rattle.rules_laws.proofs.Orders.{never_both, lt_z_strict, not_less, at_most_self}
use Rattle.rules_laws.proofs.Compares.{HoldsRect, holds_self, holds_on, holds_meets}
use Rattle.rules_laws.proofs.Places.{Among}

-- ---- numbers

pub at_least : (a b : ℤ) → le_z a b ≡ false → le_z b a ≡ true
at_least a b p = go (lt_z a b) refl
  where
    go : (t : Bool) → lt_z a b ≡ t → le_z b a ≡ true
    go true q = never_both (not_less a b (lt_z_strict.one_way a b q)) p
    go false q = not_less b a q

smaller_both : (a b : ℤ) → (le_z (smaller a b) a ≡ true) × (le_z (smaller a b) b ≡ true)
unfolding smaller
smaller_both a b = go (le_z a b) refl
  where
    go : (t : Bool) → le_z a b ≡ t → (le_z (cond t a b) a ≡ true) × (le_z (cond t a b) b ≡ true)
    go true p = (at_most_self a, p)
    go false p = (at_least a b p, at_most_self b)

larger_both : (a b : ℤ) → (le_z a (larger a b) ≡ true) × (le_z b (larger a b) ≡ true)
unfolding larger
larger_both a b = go (le_z a b) refl
  where
    go : (t : Bool) → le_z a b ≡ t → (le_z a (cond t b a) ≡ true) × (le_z b (cond t b a) ≡ true)
    go true p = (p, at_most_self b)
    go false p = (at_most_self a, at_least a b p)

-- ---- covers

module _ (a b : Rect) where
  cover_one : HoldsRect (cover a b) a
  unfolding cover
  cover_one = record {
    lowX = (smaller_both a.lowX b.lowX).0;
    lowY = (smaller_both a.lowY b.lowY).0;
    highX = (larger_both a.highX b.highX).0;
    highY = (larger_both a.highY b.highY).0;
  }

  cover_two : HoldsRect (cover a b) b
  unfolding cover
  cover_two = record {
    lowX = (smaller_both a.lowX b.lowX).1;
    lowY = (smaller_both a.lowY b.lowY).1;
    highX = (larger_both a.highX b.highX).1;
    highY = (larger_both a.highY b.highY).1;
  }

fold_first : (r : Rect) (rs : List Rect) → HoldsRect (foldl cover r rs) r
fold_first r [] = holds_self r
fold_first r (x ∷ rs) = holds_on (fold_first (cover r x) rs) (cover_one r x)

fold_holds : {x : Rect} (r : Rect) {rs : List Rect} → Among x rs → HoldsRect (foldl cover r rs) x
fold_holds {x = x} r {rs = []} x3 = elim x3 [ ]
fold_holds {x} r {rs = y ∷ ys} (Memᴰ.head e) = holds_on (fold_first (cover r y) ys) (subst (HoldsRect (cover r y)) (sym e) (cover_two r y))
fold_holds r {rs = y ∷ ys} (Memᴰ.tail m) = fold_holds (cover r y) m

pub cover_all_holds : {x : Rect} {rs : List Rect} → Among x rs → HoldsRect (cover_all rs) x
unfolding cover_all
cover_all_holds {x = x} {rs = []} x'' = elim x'' [ ]
cover_all_holds {x} {rs = y ∷ ys} (Memᴰ.head e) = subst (HoldsRect (foldl cover y ys)) (sym e) (fold_first y ys)
cover_all_holds {rs = y ∷ ys} (Memᴰ.tail m) = fold_holds y m

pub cover_of_holds : {e : Entry} {es : List Entry} → Among e es → HoldsRect (cover_of es) e.rect
unfolding cover_of rects
cover_of_holds m = cover_all_holds (Memᴰ.map (λ (e : Entry). e.rect) m)

pub cover_all_meets : (window : Rect) {x : Rect} {rs : List Rect} → Among x rs → meets x window ≡ true → meets (cover_all rs) window ≡ true
cover_all_meets window m = holds_meets window (cover_all_holds m)

pub cover_of_meets : (window : Rect) {e : Entry} {es : List Entry} → Among e es → meets e.rect window ≡ true → meets (cover_of es) window ≡ true
cover_of_meets window m = holds_meets window (cover_of_holds m)
