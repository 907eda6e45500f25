-- Nine entries in an array, their rectangles, and the groups: what is in the first places, a turn at a time.
use mathlib.Core.Path.{◌≡◌, sym, ap, ap₂, ◌∙◌}
use mathlib.Core.List.{List, [], ◌∷◌, ◌++◌, map, map-append}
use Prim.Native.Nat.{ℕ, suc, ◌+◌, ◌≤◌, ◌<◌}
use native.Mathlib.Numerals.{add-one}
use native.Mathlib.Omega.{arith}
use lib.ListN.{length, get_or, set, take, length-set, length-map, get_or-map}
use lib.Seq.{length-take-le, take_all, take-length, take-suc, take-suc-set, get_or-take}
use Rattle.rules.specs.declared.Rect.{Rect}
use Rattle.rules.specs.declared.Edition.{Edition}
use Rattle.rules.specs.declared.Entry.{Entry}
use Rattle.rules.specs.Geometry.{no_rect}
use Rattle.rules.specs.Pool.{no_entry, entry_from, rects}
use Rattle.rules.specs.Choose.{rect_from}
use Rattle.rules_laws.proofs.Places.{get_d_any}
use Rattle.layout_laws.specs.Slots.{SmallAll, KindAll}
use Rattle.layout_laws.proofs.Parts.{length_rects, rect_entry}
use Rattle.split.specs.declared.Grouping.{Grouping}
use Rattle.split.specs.State.{GroupsWhole}
use Rattle.insert.specs.State.{Inside}

-- ---- "the eight in stored order and the new one ninth"

pub nine_are : (es xs : List Entry) (e : Entry) → length es ≡ 9 → length xs ≡ 8 → take (length xs) es ≡ xs → set es 8 e ≡ xs ++ e ∷ []
nine_are es xs e nine eight h =
    sym (take_all 9 (set es 8 e) (omega (arith, length-set es 8 e)))
    ∙ take-suc-set es 8 e (omega arith)
    ∙ ap (λ (ys : List Entry). ys ++ e ∷ []) (ap (λ (k : ℕ). take k es) (sym eight) ∙ h)

-- ---- their rectangles

next_rect : (es : List Entry) (i : ℕ) → i < length (rects es) → take (suc i) (rects es) ≡ take i (rects es) ++ rect_from (rects es) i ∷ []
unfolding rect_from
next_rect es i h = take-suc (rects es) i no_rect h

pub record Rects (es : List Entry) (rs : List Rect) (i : ℕ) : Type 0 where
  pub most : i ≤ 9
  pub nine : length es ≡ 9
  pub long : length rs ≡ 9
  pub is : take i rs ≡ take i (rects es)

pub rects_more : {es : List Entry} {rs : List Rect} {i : ℕ} (d : Entry) → Rects es rs i → i < 9 → Rects es (set rs i (get_or es i d).rect) (i + 1)
rects_more {es} {rs} {i} d t h = record {
  most = omega arith;
  nine = t.nine;
  long = length-set rs i (get_or es i d).rect ∙ t.long;
  is = rw (add-one i) (
      take-suc-set rs i (get_or es i d).rect (omega (arith, t.long))
      ∙ ap₂ (λ (xs : List Rect) (x : Rect). xs ++ x ∷ []) t.is
      (ap (λ (e : Entry). e.rect) (get_d_any es i d no_entry (omega (arith, t.nine))) ∙ sym (rect_entry es i))
      ∙ sym (next_rect es i (omega (arith, length_rects es, t.nine)))
      );
}

pub rects_all : (es : List Entry) (rs : List Rect) (i : ℕ) → Rects es rs i → 9 ≤ i → rs ≡ rects es
rects_all es rs i t h =
    let nine : i ≡ 9 = omega (arith, t.most) in
    sym (take_all i rs (omega (arith, t.long))) ∙ t.is ∙ take_all i (rects es) (omega (arith, length_rects es, t.nine))

-- ---- a group

pub record Taken (es : List Entry) (places : List ℕ) (group : List Entry) (i : ℕ) : Type 0 where
  pub long : length group ≡ 9
  pub is : take i group ≡ map (entry_from es) (take i places)

pub taken_more : (es : List Entry) (places : List ℕ) (group : List Entry) (i : ℕ) (d : Entry)
    → Taken es places group i → i < length places → length places ≤ 9 → get_or places i 0 < length es
    → Taken es places (set group i (get_or es (get_or places i 0) d)) (i + 1)
unfolding entry_from
taken_more es places group i d t h few there = record {
  long = length-set group i (get_or es (get_or places i 0) d) ∙ t.long;
  is = rw (add-one i) (
      take-suc-set group i (get_or es (get_or places i 0) d) (omega (arith, t.long))
      ∙ ap₂ (λ (xs : List Entry) (x : Entry). xs ++ x ∷ []) t.is (get_d_any es (get_or places i 0) d no_entry there)
      ∙ sym (ap (map (entry_from es)) (take-suc places i 0 h) ∙ map-append (entry_from es) (take i places) (get_or places i 0 ∷ []))
      );
}

pub taken_all : (es : List Entry) (places : List ℕ) (group : List Entry) (i : ℕ) → Taken es places group i → i ≡ length places
    → take (length places) group ≡ map (entry_from es) places
taken_all es places group i t e =
    ap (λ (k : ℕ). take k group) (sym e) ∙ t.is
    ∙ ap (map (entry_from es)) (ap (λ (k : ℕ). take k places) e ∙ take-length places)

-- what is at a place of it
module _ (es group : List Entry) (places : List ℕ) (is : group ≡ map (entry_from es) places) where
  pub many : length group ≡ length places
  many = ap length is ∙ length-map places (entry_from es)

  group_at : (i : ℕ) → i < length group → get_or group i no_entry ≡ get_or es (get_or places i 0) no_entry
  unfolding entry_from
  group_at i h =
      ap (λ (xs : List Entry). get_or xs i no_entry) is
      ∙ get_d_any (map (entry_from es) places) i no_entry (entry_from es 0)
      (omega (arith, length-map places (entry_from es), many))
      ∙ get_or-map (entry_from es) places i 0

  module _ (inside : Inside places) where
    pub group_small : SmallAll es 9 → SmallAll group (length group)
    group_small a = record {
      small = λ i h. rw (group_at i h) (a.small (get_or places i 0) (inside i (omega (arith, many))));
    }

    pub group_kind : (ed : Edition) (level : ℕ) → KindAll ed level es 9 → KindAll ed level group (length group)
    group_kind ed level a = record {
      kind = λ i h. rw (group_at i h) (a.kind (get_or places i 0) (inside i (omega (arith, many))));
    }

-- the places that a group has are few, and among the nine
inside_of : (places : List ℕ) (n : ℕ) → n ≤ length places → n ≤ 8 → ((k : ℕ) → k < n → get_or places k 0 < 9)
    → (length (take n places) ≤ 8) × Inside (take n places)
inside_of places n h few f = (
  omega (arith, length-take-le n places h),
  λ k m.
      let less : k < n = omega (arith, length-take-le n places h) in
      rw (get_or-take n places k 0 less) (f k less),
)

module _ {rs : List Rect} {t : Grouping} (w : GroupsWhole rs t) where
  pub one_inside : (length (take t.one.count t.one.places) ≤ 8) × Inside (take t.one.count t.one.places)
  one_inside = inside_of t.one.places t.one.count (omega (arith, w.all, w.twos, w.one9)) (omega (arith, w.all, w.twos)) w.in_one

  pub two_inside : (length (take t.two.count t.two.places) ≤ 8) × Inside (take t.two.count t.two.places)
  two_inside = inside_of t.two.places t.two.count (omega (arith, w.all, w.ones, w.two9)) (omega (arith, w.all, w.ones)) w.in_two
