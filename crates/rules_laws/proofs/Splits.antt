-- Nothing is lost in a split, and no group is too small, whatever the seeds, the next entry and the group that it joins. Each place
-- moves once, from those left to one group; and a group that could get too few gets all that are left.
use mathlib.Core.Path.{◌≡◌, refl, ap}
use mathlib.Core.Logic.{◌≢◌}
use mathlib.Core.Bool.{Bool, true, false, cond}
use mathlib.Core.List.{List, [], ◌∷◌, ◌++◌}
use Prim.Native.Nat.{ℕ, zero, suc, ◌+◌, ◌-◌, ◌≤◌, ◌<◌}
use native.Mathlib.Omega.{arith}
use lib.ListN.{length, length-append, length-map}
use borrow.Author.Tests.{eqb-true, eqb-false, eq-eqb, ne_eqb}
use Rattle.rules.specs.declared.Rect.{Rect}
use Rattle.rules.specs.declared.Entry.{Entry}
use Rattle.rules.specs.Lists.{those, up_from}
use Rattle.rules.specs.Numbers.{most, least}
use Rattle.rules.specs.Pool.{no_entry, entry_from, rects}
use Rattle.rules.specs.Choose.{choose_child}
use Rattle.rules.specs.Split.{seeds, Groups, leaving, opening, join_one, join_two, all_join_one, all_join_two, needs_all, distribute}
use Rattle.rules.specs.Split.{pick_seeds, pick_next, joins_two, cover_group, quadratic_groups, Halves, halves, quadratic_split}
use Rattle.rules.specs.Insert.{ours}
use Rattle.rules.specs.Lawful.{Parted, LawfulSplit, LawfulChild, Lawful}
use Rattle.rules_laws.proofs.Places.{Among, nothing, length_up_from, map_up_from, up_from_among}
use Rattle.rules_laws.proofs.Parts.{counted, is, those_none, those_no, those_all, count_append, parted_length, parted_map, up_from_most, leaving_parted, length_leaving}
use Rattle.rules_laws.proofs.Picks.{choose_child_lem, pick_seeds_lem, next_among}

-- ---- one step of `distribute`

module _ (next : Groups → ℕ) (toTwo : Groups → ℕ → Bool) (g : Groups) where
  pub distribute_none : distribute next toTwo 0 g ≡ g
  unfolding distribute
  distribute_none = refl

  pub distribute_more : (n : ℕ) → distribute next toTwo (suc n) g
      ≡ cond (needs_all g.one g.left) (all_join_one g) (cond (needs_all g.two g.left) (all_join_two g)
      (distribute next toTwo n (cond (toTwo g (next g)) (join_two (next g) g) (join_one (next g) g))))
  unfolding distribute
  distribute_more n = go (needs_all g.one g.left) (needs_all g.two g.left) (toTwo g (next g))
    where
      go : (s t u : Bool) → elim s [
        | true ↦ all_join_one g
        | false ↦ elim t [
          | true ↦ all_join_two g
          | false ↦ elim u [
            | true ↦ distribute next toTwo n (join_two (next g) g)
            | false ↦ distribute next toTwo n (join_one (next g) g)
          ]
        ]
      ]
          ≡ cond s (all_join_one g) (cond t (all_join_two g) (distribute next toTwo n (cond u (join_two (next g) g) (join_one (next g) g))))
      go true t u = refl
      go false true u = refl
      go false false true = refl
      go false false false = refl

-- ---- what stays true

-- the groups and the n places left are a rearrangement of the whole, no group is empty, and each can still get as many as it needs
pub record Parting (whole : List ℕ) (n : ℕ) (g : Groups) : Type 0 where
  pub each : (p : ℕ → Bool) → length (those p g.one) + length (those p g.two) + length (those p g.left) ≡ length (those p whole)
  pub many : length g.left ≡ n
  pub some_one : 0 < length g.one
  pub some_two : 0 < length g.two
  pub one : least ≤ length g.one + length g.left
  pub two : least ≤ length g.two + length g.left

pub parting_length : {whole : List ℕ} {n : ℕ} {g : Groups} → Parting whole n g → length g.one + length g.two + n ≡ length whole
parting_length {whole} {n} {g} s = omega (arith, simp those_all at (s.each (λ i. true)), s.many)

-- the groups change their names
flip : Groups → Groups
flip g = record { one = g.two; two = g.one; left = g.left }

parting_flipped : {whole : List ℕ} {n : ℕ} {g : Groups} → Parting whole n g → Parting whole n (flip g)
unfolding flip
parting_flipped s = record {
  each = λ p. omega (arith, s.each p);
  many = s.many;
  some_one = s.some_two;
  some_two = s.some_one;
  one = s.two;
  two = s.one;
}

-- it does not need all: it can do with one fewer
pub can_spare : (group left : List ℕ) → least ≤ length group + length left → needs_all group left ≡ false → least < length group + length left
unfolding needs_all
can_spare group left l h = let n = eqb-false (length group + length left) least h in omega arith

-- no place occurs twice in the whole, and there are enough for both groups
module _ (whole : List ℕ) (once : (i : ℕ) → length (those (is i) whole) ≤ 1) (enough : least + least ≤ length whole) where
  pub join_one_lem : {n : ℕ} {g : Groups} → Parting whole (suc n) g → (i : ℕ) → Among i g.left → least < length g.two + length g.left
      → Parting whole n (join_one i g)
  unfolding join_one
  join_one_lem {n} {g} s i m more = record {
    each = λ p. omega (arith, s.each p, count_append p g.one (i ∷ []), (leaving_parted i g.left single).each p);
    many = omega (arith, fewer);
    some_one = omega (arith, longer);
    some_two = s.some_two;
    one = omega (arith, fewer, longer);
    two = omega (arith, fewer);
  }
    where
      single : length (those (is i) g.left) ≡ 1
      single = omega (arith, once i, s.each (is i), counted (is i) m (eq-eqb i i refl))

      fewer : suc (length (leaving i g.left)) ≡ length g.left
      fewer = length_leaving i g.left single

      longer : length (g.one ++ i ∷ []) ≡ length g.one + 1
      longer = length-append g.one (i ∷ [])

  pub join_two_lem : {n : ℕ} {g : Groups} → Parting whole (suc n) g → (i : ℕ) → Among i g.left → least < length g.one + length g.left
      → Parting whole n (join_two i g)
  unfolding join_one join_two flip
  join_two_lem s i m more = parting_flipped (join_one_lem (parting_flipped s) i m more)

  pub all_join_one_lem : {n : ℕ} {g : Groups} → Parting whole (suc n) g → needs_all g.one g.left ≡ true → Parting whole 0 (all_join_one g)
  unfolding all_join_one needs_all
  all_join_one_lem {n} {g} s h =
      let three = eqb-true (length g.one + length g.left) least h in
      let longer = length-append g.one g.left in
      record {
        each = λ p. omega (arith, s.each p, count_append p g.one g.left, ap length (those_none p));
        many = refl;
        some_one = omega arith;
        some_two = s.some_two;
        one = omega arith;
        two = omega (arith, parting_length s);
      }

  pub all_join_two_lem : {n : ℕ} {g : Groups} → Parting whole (suc n) g → needs_all g.two g.left ≡ true → Parting whole 0 (all_join_two g)
  unfolding all_join_one all_join_two flip
  all_join_two_lem s h = parting_flipped (all_join_one_lem (parting_flipped s) h)

  module _ (next : Groups → ℕ) (member : (g : Groups) → 0 < length g.left → Among (next g) g.left) (toTwo : Groups → ℕ → Bool) where
    pub distribute_parting : (n : ℕ) (g : Groups) → Parting whole n g → Parting whole 0 (distribute next toTwo n g)
    distribute_parting zero g s = rw (distribute_none next toTwo g) s
    distribute_parting (suc n) g s =
        rw (distribute_more next toTwo g n)
        (go (needs_all g.one g.left) (needs_all g.two g.left) (toTwo g (next g)) refl refl (distribute_parting n))
      where
        m : Among (next g) g.left
        m = member g (omega (arith, s.many))

        go : (t u v : Bool) → needs_all g.one g.left ≡ t → needs_all g.two g.left ≡ u
            → ((g : Groups) → Parting whole n g → Parting whole 0 (distribute next toTwo n g))
            → Parting whole 0 (cond t (all_join_one g) (cond u (all_join_two g) (distribute next toTwo n (cond v (join_two (next g) g) (join_one (next g) g)))))
        go true u v h k f = all_join_one_lem s h
        go false true v h k f = all_join_two_lem s k
        go false false true h k f = f _ (join_two_lem s (next g) m (can_spare g.one g.left s.one h))
        go false false false h k f = f _ (join_one_lem s (next g) m (can_spare g.two g.left s.two k))

-- ---- from two seeds on

module _ (n i j : ℕ) (i-there : i < n) (j-there : j < n) (apart : i ≢ j) where
  first_single : length (those (is i) (up_from 0 n)) ≡ 1
  first_single = omega (arith, up_from_most 0 n i, counted (is i) (up_from_among 0 n i (omega arith) (omega arith)) (eq-eqb i i refl))

  second_single : length (those (is j) (leaving i (up_from 0 n))) ≡ 1
  second_single =
      omega (
        arith,
        up_from_most 0 n j,
        counted (is j) (up_from_among 0 n j (omega arith) (omega arith)) (eq-eqb j j refl),
        (leaving_parted i (up_from 0 n) first_single).each (is j),
        ap length (those_no (is j) i [] (ne_eqb i j apart)),
        ap length (those_none (is j)),
      )

  pub opened : least + least ≤ n → Parting (up_from 0 n) (n - 2) (opening n (seeds i j))
  unfolding opening
  opened enough = record {
    each = λ p. omega (arith, (leaving_parted i (up_from 0 n) first_single).each p, (leaving_parted j (leaving i (up_from 0 n)) second_single).each p);
    many = omega (arith, lengths.0, lengths.1, length_up_from 0 n);
    some_one = omega arith;
    some_two = omega arith;
    one = omega (arith, lengths.0, lengths.1, length_up_from 0 n);
    two = omega (arith, lengths.0, lengths.1, length_up_from 0 n);
  }
    where
      lengths : (suc (length (leaving i (up_from 0 n))) ≡ length (up_from 0 n))
          × (suc (length (leaving j (leaving i (up_from 0 n)))) ≡ length (leaving i (up_from 0 n)))
      lengths = (length_leaving i (up_from 0 n) first_single, length_leaving j (leaving i (up_from 0 n)) second_single)

-- nothing is left, lost or added, and each group has enough
pub record Divided (whole : List ℕ) (g : Groups) : Type 0 where
  pub none : g.left ≡ []
  pub parted : Parted whole g.one g.two
  pub one : least ≤ length g.one
  pub two : least ≤ length g.two

divided : {whole : List ℕ} {g : Groups} → Parting whole 0 g → Divided whole g
divided {whole} {g} s = record {
  none = none;
  parted = record { each = λ p. omega (arith, s.each p, ap (λ (l : List ℕ). length (those p l)) none, ap length (those_none p)) };
  one = omega (arith, s.one, s.many);
  two = omega (arith, s.two, s.many);
}
  where
    none : g.left ≡ []
    none = nothing g.left s.many

-- of six places or more: any two seeds, any next that is left, any choice of group
pub any_split : (next : Groups → ℕ) → ((g : Groups) → 0 < length g.left → Among (next g) g.left) → (toTwo : Groups → ℕ → Bool)
    → (n i j : ℕ) → least + least ≤ n → i < n → j < n → i ≢ j → Divided (up_from 0 n) (distribute next toTwo (n - 2) (opening n (seeds i j)))
any_split next member toTwo n i j enough a b apart =
    divided
    (distribute_parting (up_from 0 n) (up_from_most 0 n) (rw length_up_from enough) next member toTwo (n - 2) (opening n (seeds i j))
    (opened n i j a b apart enough))

-- ---- the entries at the places

pub halves_parted : (es : List Entry) (g : Groups) → Parted (up_from 0 (length es)) g.one g.two → Parted es (halves es g).one (halves es g).two
unfolding halves entry_from
halves_parted es g h = rw (map_up_from no_entry es) at (parted_map (entry_from es) h)

-- ---- document 01's split and choice of a child

next_left : (rs : List Rect) (g : Groups) → 0 < length g.left → Among (pick_next rs g) g.left
unfolding pick_next
next_left rs g some = next_among rs (cover_group rs g.one) (cover_group rs g.two) g.left some

pub quadratic_divided : (rs : List Rect) → least + least ≤ length rs → Divided (up_from 0 (length rs)) (quadratic_groups rs)
unfolding quadratic_groups
quadratic_divided rs enough =
    let s = pick_seeds_lem rs (omega arith) in
    any_split (pick_next rs) (next_left rs) (joins_two rs) (length rs) (pick_seeds rs).first (pick_seeds rs).second enough
    (omega arith) (omega arith) (omega arith)

pub quadratic_lawful : LawfulSplit quadratic_split
unfolding quadratic_split halves
quadratic_lawful = record {
  parted = λ es nine. halves_parted es (quadratic_groups (rects es)) (d es nine).parted;
  one = λ es nine. rw length-map (d es nine).one;
  two = λ es nine. rw length-map (d es nine).two;
}
  where
    d : (es : List Entry) → length es ≡ suc most → Divided (up_from 0 (length es)) (quadratic_groups (rects es))
    d es nine =
        let e : length (rects es) ≡ length es = unfold rects in length-map es _ in
        rw e at (quadratic_divided (rects es) (omega arith))

-- with 3 in the other, 6 are left
pub at_most_six : {split : List Entry → Halves} → LawfulSplit split → (es : List Entry) → length es ≡ suc most
    → (length (split es).one ≤ 6) × (length (split es).two ≤ 6)
at_most_six l es nine = let n = parted_length (l.parted es nine) in (omega (arith, l.two es nine), omega (arith, l.one es nine))

pub child_lawful : LawfulChild choose_child
child_lawful = record { there = λ rs new some. (choose_child_lem rs new some).there }

pub ours_lawful : Lawful ours
ours_lawful = record { child = child_lawful; split = quadratic_lawful }
