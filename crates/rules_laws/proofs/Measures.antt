-- The measures of valid rectangles: they are naturals, they fit 64 bits, and a cover is valid and no smaller than what it covers. Each
-- is proved of boxes of naturals, where `omega` can work, and carried over.
use mathlib.Core.Path.{◌≡◌, refl, sym, ap, ap₂, ◌∙◌}
use mathlib.Core.Bool.{Bool, true, false, cond}
use Prim.Native.Nat.{ℕ, suc, ◌≤◌, ◌<◌, ◌*◌, ◌-◌, ◌+◌, min, max}
use native.Mathlib.Nat.{mul-le-mul, add-le-add}
use native.Mathlib.Omega.{arith}
use lib.Dec.{ltb}
use lib.IntN.{ℤ, pos, sub_ℕ, ◌-ℤ◌}
use lib.Signed.{le_z, lt_z}
use borrow.Author.Tests.{leb-true, leb-false, le-leb}
use Rattle.rules.specs.declared.Rect.{Rect}
use Rattle.rules.specs.Numbers.{in_range}
use Rattle.rules.specs.Geometry.{valid, smaller, larger, cover, area, half_perimeter}
use Rattle.rules_laws.proofs.Bools.{and_both, leb_same}
use Rattle.rules_laws.proofs.Rules.{Alike, chosen}
use Rattle.rules_laws.proofs.Ints.{off, off_le, off_order, le_off, sub_off, sub_lt, sub_pos, sub_same, sub_minus, pos_minus}

-- ---- the parts of `valid`

pub record Valid (r : Rect) : Type 0 where
  pub lowX : in_range r.lowX ≡ true
  pub lowY : in_range r.lowY ≡ true
  pub highX : in_range r.highX ≡ true
  pub highY : in_range r.highY ≡ true
  pub x : le_z r.lowX r.highX ≡ true
  pub y : le_z r.lowY r.highY ≡ true

pub valid_parts : (r : Rect) → valid r ≡ true → Valid r
unfolding valid
valid_parts r e =
    let a = and_both _ _ e in
    let b = and_both _ _ a.0 in
    let c = and_both _ _ b.0 in
    let d = and_both _ _ c.0 in
    let f = and_both _ _ d.0 in
    record { lowX = f.0; lowY = f.1; highX = d.1; highY = c.1; x = b.1; y = a.1 }

pub parts_valid : {r : Rect} → Valid r → valid r ≡ true
unfolding valid
parts_valid v = rw (v.lowX, v.lowY, v.highX, v.highY, v.x, v.y)

-- ---- boxes: rectangles counted from the lowest corner of the site

record Box : Type 0 where
  lx : ℕ
  ly : ℕ
  hx : ℕ
  hy : ℕ

record Good (b : Box) : Type 0 where
  x : b.lx ≤ b.hx
  y : b.ly ≤ b.hy
  right : b.hx ≤ 2000000000
  top : b.hy ≤ 2000000000

box_of : Rect → Box
box_of r = record { lx = off r.lowX; ly = off r.lowY; hx = off r.highX; hy = off r.highY }

both : Box → Box → Box
both a b = record { lx = min a.lx b.lx; ly = min a.ly b.ly; hx = max a.hx b.hx; hy = max a.hy b.hy }

size : Box → ℕ
size b = (b.hx - b.lx) * (b.hy - b.ly)

half : Box → ℕ
half b = (b.hx - b.lx) + (b.hy - b.ly)

box_good : {r : Rect} → Valid r → Good (box_of r)
unfolding box_of
box_good {r} v = record {
  x = off_order r.lowX r.highX v.lowX v.highX v.x;
  y = off_order r.lowY r.highY v.lowY v.highY v.y;
  right = off_le r.highX v.highX;
  top = off_le r.highY v.highY;
}

both_good : {a b : Box} → Good a → Good b → Good (both a b)
unfolding both
both_good g h = record { x = omega arith; y = omega arith; right = omega arith; top = omega arith }

size_bound : {b : Box} → Good b → size b ≤ 4000000000000000000
unfolding size
size_bound g = mul-le-mul {n₂ = 2000000000} {m₂ = 2000000000} (omega arith) (omega arith)

size_grows : {a b : Box} → Good a → Good b → size a ≤ size (both a b)
unfolding size both
size_grows g h = mul-le-mul (omega arith) (omega arith)

half_bound : {b : Box} → Good b → half b ≤ 4000000000
unfolding half
half_bound g = omega arith

half_grows : {a b : Box} → Good a → Good b → half a ≤ half (both a b)
unfolding half both
half_grows g h = add-le-add (omega arith) (omega arith)

-- ---- carried over

-- what is true of two numbers in range by their order
by_order : (C : Bool → Type 0) (a b : ℤ) → in_range a ≡ true → in_range b ≡ true → (off a ≤ off b → C true) → (off b < off a → C false) → C (le_z a b)
by_order C a b h k first second = go (le_z a b) refl
  where
    go : (t : Bool) → le_z a b ≡ t → C t
    go true e = first (leb-true (off a) (off b) (sym (le_off a b h k) ∙ e))
    go false e = second (leb-false (off a) (off b) (sym (le_off a b h k) ∙ e))

smaller_off : (a b : ℤ) → in_range a ≡ true → in_range b ≡ true → off (smaller a b) ≡ min (off a) (off b)
unfolding smaller
smaller_off a b h k = by_order (λ t. off (cond t a b) ≡ min (off a) (off b)) a b h k (λ l. omega arith) (λ l. omega arith)

larger_off : (a b : ℤ) → in_range a ≡ true → in_range b ≡ true → off (larger a b) ≡ max (off a) (off b)
unfolding larger
larger_off a b h k = by_order (λ t. off (cond t b a) ≡ max (off a) (off b)) a b h k (λ l. omega arith) (λ l. omega arith)

module _ {a b : Rect} (v : Valid a) (w : Valid b) where
  cover_box : box_of (cover a b) ≡ both (box_of a) (box_of b)
  unfolding box_of both cover
  cover_box = λ i. record {
    lx = smaller_off a.lowX b.lowX v.lowX w.lowX i;
    ly = smaller_off a.lowY b.lowY v.lowY w.lowY i;
    hx = larger_off a.highX b.highX v.highX w.highX i;
    hy = larger_off a.highY b.highY v.highY w.highY i;
  }

  cover_parts : Valid (cover a b)
  unfolding box_of cover smaller larger
  cover_parts =
      let lx = chosen (λ (z : ℤ). in_range z ≡ true) (le_z a.lowX b.lowX) v.lowX w.lowX in
      let ly = chosen (λ (z : ℤ). in_range z ≡ true) (le_z a.lowY b.lowY) v.lowY w.lowY in
      let hx = chosen (λ (z : ℤ). in_range z ≡ true) (le_z a.highX b.highX) w.highX v.highX in
      let hy = chosen (λ (z : ℤ). in_range z ≡ true) (le_z a.highY b.highY) w.highY v.highY in
      let m = cover a b in
      let g : Good (box_of m) = rw cover_box (both_good (box_good v) (box_good w)) in
      record {
        lowX = lx;
        lowY = ly;
        highX = hx;
        highY = hy;
        x = le_off m.lowX m.highX lx hx ∙ le-leb _ _ g.x;
        y = le_off m.lowY m.highY ly hy ∙ le-leb _ _ g.y;
      }

area_box : {r : Rect} → Valid r → area r ≡ pos (size (box_of r))
unfolding box_of size area
area_box {r} v = rw (sub_off r.highX r.lowX v.highX v.lowX (box_good v).x, sub_off r.highY r.lowY v.highY v.lowY (box_good v).y)

half_box : {r : Rect} → Valid r → half_perimeter r ≡ pos (half (box_of r))
unfolding box_of half half_perimeter
half_box {r} v = rw (sub_off r.highX r.lowX v.highX v.lowX (box_good v).x, sub_off r.highY r.lowY v.highY v.lowY (box_good v).y)

-- ---- what the code and the crates above need

pub cover_valid : (a b : Rect) → valid a ≡ true → valid b ≡ true → valid (cover a b) ≡ true
cover_valid a b v w = parts_valid (cover_parts (valid_parts a v) (valid_parts b w))

-- a measure of valid rectangles: a natural that is one is at most k, and no more than that of a cover
pub record Measure (k : ℕ) (measure : Rect → ℤ) : Type 0 where
  pub small : (r : Rect) (n : ℕ) → valid r ≡ true → pos n ≡ measure r → n ≤ k
  pub grows : (a b : Rect) (n m : ℕ) → valid a ≡ true → valid b ≡ true → pos n ≡ measure a → pos m ≡ measure (cover a b) → n ≤ m

-- .. from that of boxes
module _ {k : ℕ} {measure : Rect → ℤ} {f : Box → ℕ} (is : (r : Rect) → Valid r → measure r ≡ pos (f (box_of r)))
    (bound : (b : Box) → Good b → f b ≤ k) (larger : (a b : Box) → Good a → Good b → f a ≤ f (both a b)) where
  of_boxes : Measure k measure
  of_boxes = record { small = small; grows = grows }
    where
      small : (r : Rect) (n : ℕ) → valid r ≡ true → pos n ≡ measure r → n ≤ k
      small r n v e =
          let q = is r (valid_parts r v) in
          let same : n ≡ f (box_of r) = cc in
          rw same (bound _ (box_good (valid_parts r v)))

      grows : (a b : Rect) (n m : ℕ) → valid a ≡ true → valid b ≡ true → pos n ≡ measure a → pos m ≡ measure (cover a b) → n ≤ m
      grows a b n m v w e h =
          let va = valid_parts a v in
          let vb = valid_parts b w in
          let q = is a va in
          let r = is (cover a b) (cover_parts va vb) ∙ ap (λ c. pos (f c)) (cover_box va vb) in
          let less : n ≡ f (box_of a) = cc in
          let more : m ≡ f (both (box_of a) (box_of b)) = cc in
          rw (less, more) (larger _ _ (box_good va) (box_good vb))

pub areas : Measure 4000000000000000000 area
areas = of_boxes (λ r. area_box) (λ b. size_bound) (λ a b. size_grows)

pub halves : Measure 4000000000 half_perimeter
halves = of_boxes (λ r. half_box) (λ b. half_bound) (λ a b. half_grows)

-- two rectangles by a measure, and their cover: the enlargement; and d, counted from -2k
module _ {k : ℕ} {measure : Rect → ℤ} (s : Measure k measure) (a b : Rect) (v : valid a ≡ true) (w : valid b ≡ true) (n m : ℕ)
    (p : pos n ≡ measure a) (q : pos m ≡ measure (cover a b)) where
  pub enlarged : pos (m - n) ≡ measure (cover a b) -ℤ measure a
  enlarged = sym (sub_pos m n (s.grows a b n m v w p q)) ∙ sym (pos_minus m n) ∙ ap₂ ◌-ℤ◌ q p

  pub wasted : (l : ℕ) → pos l ≡ measure b → sub_ℕ (m + (2 * k - (n + l))) (2 * k) ≡ measure (cover a b) -ℤ measure a -ℤ measure b
  wasted l e =
      sub_same (m + (2 * k - (n + l))) (2 * k) m (n + l) (omega (arith, s.small a n v p, s.small b l w e))
      ∙ sym (sub_minus m n l) ∙ ap₂ ◌-ℤ◌ (sym (pos_minus m n) ∙ ap₂ ◌-ℤ◌ q p) e

-- d counted from -k compares as d does
waste_lt : (k m n : ℕ) (d e : ℤ) → sub_ℕ m k ≡ d → sub_ℕ n k ≡ e → lt_z d e ≡ ltb m n
waste_lt k m n d e p q =
    ap₂ lt_z (sym p) (sym q) ∙ sub_lt m k n k ∙ leb_same (suc (m + k)) (n + k) (suc m) n (omega arith) (omega arith)

pub as_wastes : (k : ℕ) {m n : ℕ} {d e : ℤ} → sub_ℕ m k ≡ d → sub_ℕ n k ≡ e → Alike m n d e
as_wastes k {m} {n} {d} {e} p q = record { less = waste_lt k m n d e p q; more = waste_lt k n m e d q p }
