-- An entry goes in below a node, and the node's cover is the one before widened by the entry's rectangle: so a parent whose child did not
-- split need not look at the child's entries again. Two covers are the same where the same rectangles hold them, and a rectangle holds a
-- cover where it misses none of what is covered; what is missed is counted, and a split or a tight cover changes none of it but the number.
use mathlib.Core.Path.{◌≡◌, refl, sym, ap, subst, ◌∙◌}
use mathlib.Core.Bool.{Bool, true, false, cond, not, ◌&&◌}
use mathlib.Core.List.{List, [], ◌∷◌, ◌++◌, foldl, map}
use Prim.Native.Nat.{ℕ, zero, suc, ◌+◌, ◌≤◌, ◌<◌, min}
use native.Mathlib.Omega.{arith}
use lib.Dec.{ltb}
use lib.ListN.{length, set, length-set, length-append}
use lib.Seq.{get_or-set_same}
use lib.IntN.{ℤ}
use lib.Signed.{le_z}
use borrow.Author.Tests.{ltb-true, ltb-false}
use Rattle.rules.specs.declared.Rect.{Rect}
use Rattle.rules.specs.declared.SlotNumber.{SlotNumber}
use Rattle.rules.specs.declared.Entry.{Entry}
use Rattle.std.specs.Prelude.{Option, Some, None}
use Rattle.rules.specs.Lists.{those, without}
use Rattle.rules.specs.Numbers.{most}
use Rattle.rules.specs.Geometry.{smaller, larger, cover, cover_all}
use Rattle.rules.specs.Pool.{Pool, no_entry, entries_at, entry_from, entry_at, child_of, rects, cover_of, entry_for, lowest_free, tighten}
use Rattle.rules.specs.Insert.{Choice, Grown, Kept, Split, Full, install, adjust, insert_below}
use Rattle.rules.specs.Lawful.{Parted, Lawful, LawfulSplit}
use Rattle.rules_laws.proofs.Bools.{and_both}
use Rattle.rules_laws.proofs.Orders.{at_most_on, at_most_self, both_at_most, never_both}
use Rattle.rules_laws.proofs.Parts.{those_yes, those_no, those_none, count_append, count_cons, without_parted, without_set}
use Rattle.search_laws.proofs.Covers.{at_least}
use Rattle.sound_laws.specs.Tree.{slots_in, Once, NodeIn, Tree}
use Rattle.sound_laws.proofs.Apart.{once_child}
use Rattle.sound_laws.proofs.Walk.{no_tree, tree_node}
use Rattle.insert_laws.specs.Grown.{Fits, Grows}
use Rattle.insert_laws.proofs.Under.{no_fit, entries_are}
use Rattle.insert_laws.proofs.Halves.{install_last, install_none, install_halves}
use Rattle.insert_laws.proofs.Tighten.{grew_beside, tighten_grew}
use Rattle.insert_laws.proofs.Beside.{child_at, among_here, child_entry, tight_entries}
use Rattle.insert_laws.proofs.Below.{below_here, way, below_down, adjust_kept, adjust_split, adjust_full, way_there, below_grows}

-- ---- what holds a cover

low_both : (a b c : ℤ) → le_z a (smaller b c) ≡ (le_z a b && le_z a c)
unfolding smaller
low_both a b c = go (le_z b c) refl (le_z a b) refl (le_z a c) refl
  where
    go : (t : Bool) → le_z b c ≡ t → (u : Bool) → le_z a b ≡ u → (v : Bool) → le_z a c ≡ v → le_z a (cond t b c) ≡ (u && v)
    go true h true p true q = p
    go true h true p false q = never_both (at_most_on a b c p h) q
    go true h false p v q = p
    go false h true p v q = q
    go false h false p true q = never_both (at_most_on a c b q (at_least b c h)) p
    go false h false p false q = q

high_both : (a b c : ℤ) → le_z (larger b c) a ≡ (le_z b a && le_z c a)
unfolding larger
high_both a b c = go (le_z b c) refl (le_z b a) refl (le_z c a) refl
  where
    go : (t : Bool) → le_z b c ≡ t → (u : Bool) → le_z b a ≡ u → (v : Bool) → le_z c a ≡ v → le_z (cond t c b) a ≡ (u && v)
    go true h true p v q = q
    go true h false p true q = never_both (at_most_on b c a h q) p
    go true h false p false q = q
    go false h true p true q = p
    go false h true p false q = never_both (at_most_on c b a (at_least b c h) p) q
    go false h false p v q = p

-- y holds r
abbrev holds : Rect → Rect → Bool
holds y r = (le_z y.lowX r.lowX && le_z y.lowY r.lowY) && (le_z r.highX y.highX && le_z r.highY y.highY)

cross : (a b c d : Bool) → ((a && b) && (c && d)) ≡ ((a && c) && (b && d))
cross true true c d = refl
cross true false true d = refl
cross true false false d = refl
cross false b c d = refl

holds_cover : (y a b : Rect) → holds y (cover a b) ≡ (holds y a && holds y b)
unfolding cover
holds_cover y a b =
    rw (
      low_both y.lowX a.lowX b.lowX,
      low_both y.lowY a.lowY b.lowY,
      high_both y.highX a.highX b.highX,
      high_both y.highY a.highY b.highY,
      cross (le_z y.lowX a.lowX) (le_z y.lowX b.lowX) (le_z y.lowY a.lowY) (le_z y.lowY b.lowY),
      cross (le_z a.highX y.highX) (le_z b.highX y.highX) (le_z a.highY y.highY) (le_z b.highY y.highY),
    )
    (cross (le_z y.lowX a.lowX && le_z y.lowY a.lowY) (le_z y.lowX b.lowX && le_z y.lowY b.lowY)
    (le_z a.highX y.highX && le_z a.highY y.highY) (le_z b.highX y.highX && le_z b.highY y.highY))

holds_self : (a : Rect) → holds a a ≡ true
holds_self a = rw (at_most_self a.lowX, at_most_self a.lowY, at_most_self a.highX, at_most_self a.highY)

hold_each_other : (a b : Rect) → holds a b ≡ true → holds b a ≡ true → a ≡ b
hold_each_other a b h k =
    let hl = and_both (le_z a.lowX b.lowX && le_z a.lowY b.lowY) (le_z b.highX a.highX && le_z b.highY a.highY) h in
    let kl = and_both (le_z b.lowX a.lowX && le_z b.lowY a.lowY) (le_z a.highX b.highX && le_z a.highY b.highY) k in
    let ha = and_both (le_z a.lowX b.lowX) (le_z a.lowY b.lowY) hl.0 in
    let hb = and_both (le_z b.highX a.highX) (le_z b.highY a.highY) hl.1 in
    let ka = and_both (le_z b.lowX a.lowX) (le_z b.lowY a.lowY) kl.0 in
    let kb = and_both (le_z a.highX b.highX) (le_z a.highY b.highY) kl.1 in
    let lx = both_at_most a.lowX b.lowX ha.0 ka.0 in
    let ly = both_at_most a.lowY b.lowY ha.1 ka.1 in
    let hx = both_at_most a.highX b.highX kb.0 hb.0 in
    let hy = both_at_most a.highY b.highY kb.1 hb.1 in
    λ i. record { lowX = lx i; lowY = ly i; highX = hx i; highY = hy i }

-- ---- what a rectangle misses

-- 1 where y does not hold r
abbrev missed : Rect → Rect → ℕ
missed y r = cond (holds y r) 0 1

-- how many of the entries y does not hold
misses : Rect → List Entry → ℕ
misses y es = length (those (λ e. not (holds y e.rect)) es)

module _ (y : Rect) where
  misses_one : (e : Entry) → misses y (e ∷ []) ≡ missed y e.rect
  unfolding misses
  misses_one e = go (holds y e.rect) refl
    where
      go : (t : Bool) → holds y e.rect ≡ t → length (those (λ x. not (holds y x.rect)) (e ∷ [])) ≡ cond t 0 1
      go true h = rw (those_no (λ x. not (holds y x.rect)) e [] (rw h), those_none (λ (x : Entry). not (holds y x.rect)))
      go false h = rw (those_yes (λ x. not (holds y x.rect)) e [] (rw h), those_none (λ (x : Entry). not (holds y x.rect)))

  misses_more : (e : Entry) (es : List Entry) → misses y (e ∷ es) ≡ missed y e.rect + misses y es
  unfolding misses
  misses_more e es = omega (arith, count_cons (λ x. not (holds y x.rect)) e es, misses_one e)

  misses_none : misses y [] ≡ 0
  unfolding misses
  misses_none = rw (those_none (λ (x : Entry). not (holds y x.rect)))

  misses_append : (es fs : List Entry) → misses y (es ++ fs) ≡ misses y es + misses y fs
  unfolding misses
  misses_append es fs = count_append (λ x. not (holds y x.rect)) es fs

  misses_parted : {whole one two : List Entry} → Parted whole one two → misses y one + misses y two ≡ misses y whole
  unfolding misses
  misses_parted h = h.each (λ x. not (holds y x.rect))

  missed_cover : (a b : Rect) → missed y (cover a b) ≡ min 1 (missed y a + missed y b)
  missed_cover a b = rw (holds_cover y a b) (go (holds y a) (holds y b))
    where
      go : (s t : Bool) → cond (s && t) 0 1 ≡ min 1 (cond s 0 1 + cond t 0 1)
      go true true = refl
      go true false = refl
      go false true = refl
      go false false = refl

  missed_few : (r : Rect) → missed y r ≤ 1
  missed_few r = go (holds y r)
    where
      go : (t : Bool) → cond t 0 1 ≤ 1
      go true = omega arith
      go false = omega arith

  missed_fold : (a : Rect) (es : List Entry) → missed y (foldl cover a (map (λ (e : Entry). e.rect) es)) ≡ min 1 (missed y a + misses y es)
  missed_fold a [] = omega (arith, missed_few a, misses_none)
  missed_fold a (e ∷ es) =
      missed_fold (cover a e.rect) es ∙ omega (arith, missed_cover a e.rect, misses_more e es)

  -- a cover is missed where one of what it covers is
  missed_all : (es : List Entry) → 0 < length es → missed y (cover_of es) ≡ min 1 (misses y es)
  unfolding cover_of rects cover_all
  missed_all [] h = absurd (omega arith)
  missed_all (e ∷ es) h = missed_fold e.rect es ∙ omega (arith, misses_more e es)

not_missed : (y r : Rect) → missed y r ≡ 0 → holds y r ≡ true
not_missed y r h = go (holds y r) h
  where
    go : (t : Bool) → ◌≡◌ {A = ℕ} (cond t 0 1) 0 → t ≡ true
    go true k = refl
    go false k = absurd (omega arith)

self_held : (y : Rect) → missed y y ≡ 0
self_held y = rw (holds_self y)

-- two rectangles that the same ones miss
missed_alike : (a b : Rect) → ((y : Rect) → missed y a ≡ missed y b) → a ≡ b
missed_alike a b h =
    hold_each_other a b (not_missed a b (sym (h a) ∙ self_held a)) (not_missed b a (h b ∙ self_held b))

-- ---- the node that took the entry

-- what is missed of the node at s, and of the entry that is left over, is what was missed of the node before and of the entry that came
abbrev Widened : Pool → SlotNumber → Entry → Grown → Type 0
Widened p s e (Kept q) = (y : Rect) → min 1 (misses y (entries_at q s)) ≡ min 1 (misses y (entries_at p s) + missed y e.rect)
Widened p s e (Split q x) =
    (y : Rect) → min 1 (misses y (entries_at q s) + missed y x.rect) ≡ min 1 (misses y (entries_at p s) + missed y e.rect)
Widened p s e Full = Unit {0}

module _ (c : Choice) where
  install_widened : LawfulSplit c.split → (p : Pool) (l : ℕ) (s : SlotNumber) → NodeIn p (suc l) s → (e : Entry) → Widened p s e (install c p s e)
  install_widened lawful p l s here e = go (ltb (length (entries_at p s)) most) refl (lowest_free p) refl
    where
      es : List Entry
      es = entries_at p s ++ e ∷ []

      all : (y : Rect) → misses y es ≡ misses y (entries_at p s) + missed y e.rect
      all y = omega (arith, misses_append y (entries_at p s) (e ∷ []), misses_one y e)

      go : (b : Bool) → ltb (length (entries_at p s)) most ≡ b → (o : Option SlotNumber) → lowest_free p ≡ o → Widened p s e (install c p s e)
      go true h o q =
          let r = install_last c p l s here e (ltb-true (length (entries_at p s)) most h) in
          rw r.1 (λ y. omega (arith, all y, ap (misses y) (entries_are r.0 (suc l) s es r.2)))
      go false h None q = rw (install_none c p l s here e (ltb-false (length (entries_at p s)) most h) q) tt
      go false h (Some t) q =
          let full = ltb-false (length (entries_at p s)) most h in
          let a = install_halves c p l s here e full lawful t q in
          let nine : length es ≡ suc most = omega (arith, here.few, length-append (entries_at p s) (e ∷ [])) in
          rw a.split (λ y. omega (
            arith,
            all y,
            misses_parted y (lawful.parted es nine),
            missed_all y (c.split es).two (omega (arith, a.least_two)),
            ap (misses y) (entries_are _ (suc l) s (c.split es).one a.one),
          ))

  module _ (lawful : Lawful c) (p : Pool) (k : ℕ) (e : Entry) (f : Fits p k e) where
    module _ (l : ℕ) (s : SlotNumber) (d : Tree p (suc (suc l)) s) (once : Once (slots_in p (suc (suc l)) s)) (i : ℕ) (there : i < length (entries_at p s)) where
      -- one entry is made tight, and the others are as they were
      tight_misses : (q : Pool) → entries_at (tighten q s i) s ≡ set (entries_at p s) i (entry_for q (child_at p s i)) → 0 < length (entries_at q (child_at p s i))
          → (y : Rect) (w : ℕ) → min 1 (misses y (entries_at q (child_at p s i)) + w) ≡ min 1 (misses y (entries_at p (child_at p s i)) + missed y e.rect)
          → min 1 (misses y (entries_at (tighten q s i) s) + w) ≡ min 1 (misses y (entries_at p s) + missed y e.rect)
      unfolding entry_at entry_from entry_for
      tight_misses q is some y w h =
          let es = entries_at p s in
          let new = entry_for q (child_at p s i) in
          let old = child_entry p l s d i there in
          let rest = without i es in
          omega (
            arith,
            h,
            ap (misses y) is,
            misses_parted y (without_parted es i no_entry there),
            misses_parted y (without_parted (set es i new) i no_entry (rw length-set there)),
            ap (λ (x : Entry). misses y (x ∷ [])) (get_or-set_same es i new no_entry there),
            ap (misses y) (without_set es i new),
            misses_one y (entry_at p s i),
            misses_one y new,
            ap (missed y) old.tight,
            missed_all y (entries_at p (child_at p s i)) (omega (arith, old.enough)),
            missed_all y (entries_at q (child_at p s i)) some,
          )

      then_widened : (q : Pool) (x : Entry)
          → ((y : Rect) → min 1 (misses y (entries_at q s) + missed y x.rect) ≡ min 1 (misses y (entries_at p s) + missed y e.rect))
          → (o : Grown) → Widened q s x o → Widened p s e o
      then_widened q x h (Kept r) w = λ y. w y ∙ h y
      then_widened q x h (Split r z) w = λ y. w y ∙ h y
      then_widened q x h Full w = tt

      adjust_widened : (o : Grown) → Grows p (suc l) (child_at p s i) k e (slots_in p (suc l) (child_at p s i)) o → Widened p (child_at p s i) e o
          → Widened p s e (adjust c s i o)
      adjust_widened (Kept q) g w =
          let old = child_entry p l s d i there in
          let is = tight_entries (grew_beside p l s d i there once q g.1) in
          rw (adjust_kept c s i q)
          (λ y. omega (arith, tight_misses q is (omega (arith, old.enough, g.3)) y 0 (omega (arith, w y))))
      adjust_widened (Split q x) g w =
          let is = tight_entries (grew_beside p l s d i there once q g.1) in
          let low : suc (suc l) ≤ suc (suc l) = omega arith in
          let t = tighten_grew p l s d i there once q g.1 low g.3 in
          rw (adjust_split c s i q x)
          (then_widened (tighten q s i) x (λ y. tight_misses q is (omega (arith, g.3)) y (missed y x.rect) (w y)) (install c (tighten q s i) s x)
          (install_widened lawful.split (tighten q s i) (suc l) s (tree_node (tighten q s i) (suc (suc l)) s t.tree) x))
      adjust_widened Full g w = rw (adjust_full c s i) tt

    below_widened : (n l : ℕ) (s : SlotNumber) → l ≡ n + k → Tree p l s → Once (slots_in p l s) → (0 < n → 0 < length (entries_at p s))
        → Widened p s e (insert_below c n p s e)
    below_widened zero zero s h d once some = absurd (no_tree p s d)
    below_widened zero (suc l) s h d once some =
        rw (below_here c p s e) (install_widened lawful.split p l s (tree_node p (suc l) s d) e)
    below_widened (suc n) zero s h d once some = absurd (no_tree p s d)
    below_widened (suc n) (suc zero) s h d once some = absurd (no_fit p e (subst (λ (j : ℕ). Fits p j e) (omega arith) f))
    below_widened (suc n) (suc (suc l)) s h d once some =
        let there = way_there c lawful p s e.rect (some (omega arith)) in
        let x = child_entry p l s d (way c p s e.rect) there in
        let alone = once_child p l s once (entry_at p s (way c p s e.rect)) (among_here p l s d (way c p s e.rect) there (way c p s e.rect) there) in
        let child = child_of (entry_at p s (way c p s e.rect)) in
        rw (below_down c n p s e)
        (adjust_widened l s d once (way c p s e.rect) there (insert_below c n p child e)
        (below_grows c lawful p k e f n (suc l) child (omega arith) x.child alone (λ z. omega (arith, x.enough)))
        (below_widened n (suc l) child (omega arith) x.child alone (λ z. omega (arith, x.enough))))

    -- coverOf (es ++ [e]) is cover (coverOf es) e.rect, however deep the entry went
    pub below_cover : (n l : ℕ) (s : SlotNumber) → l ≡ n + k → Tree p l s → Once (slots_in p l s) → 0 < length (entries_at p s)
        → (q : Pool) → insert_below c n p s e ≡ Kept q → 0 < length (entries_at q s)
        → cover_of (entries_at q s) ≡ cover (cover_of (entries_at p s)) e.rect
    below_cover n l s h d once some q is many =
        missed_alike (cover_of (entries_at q s)) (cover (cover_of (entries_at p s)) e.rect) (λ y. omega (
          arith,
          subst (Widened p s e) is (below_widened n l s h d once (λ z. some)) y,
          missed_all y (entries_at q s) many,
          missed_all y (entries_at p s) some,
          missed_cover y (cover_of (entries_at p s)) e.rect,
        ))
