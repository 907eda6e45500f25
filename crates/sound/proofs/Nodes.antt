-- The node check and the entry check, a step at a time, as the code has them. A tree is its top, met first, and the trees that its entries
-- lead to, met one after the other.
use mathlib.Core.Path.{◌≡◌, refl, sym, subst, ◌∙◌}
use mathlib.Core.Logic.{◌⊎◌, inl, inr}
use mathlib.Core.Bool.{Bool, true, false, ◌&&◌}
use mathlib.Core.List.Memᴰ
use mathlib.Core.List.{List, [], ◌∷◌, ◌++◌}
use Prim.Native.Nat.{ℕ, zero, suc, ◌+◌, ◌-◌, ◌≤◌, ◌<◌}
use native.Mathlib.Omega.{arith}
use native.Mathlib.Numerals.{add-one}
use lib.Dec.{eqb}
use lib.ListN.{length, set, drop, drop_of_length-le}
use lib.Seq.{drop-cons}
use lib.IntN.{ℤ}
use borrow.Author.Tests.{eq-eqb, ne_eqb, eqb-true}
use Rattle.rules.specs.declared.Rect.{Rect}
use Rattle.rules.specs.declared.SlotNumber.{SlotNumber}
use Rattle.rules.specs.declared.Entry.{Entry}
use Rattle.rules.specs.Lists.{every}
use Rattle.rules.specs.Pool.{Node, Pool, no_entry, node_at, entries_at, entry_at, entry_from, child_of, rects, cover_of, is_leaf}
use Rattle.rules.specs.Numbers.{least, most_slots}
use Rattle.rules.specs.Geometry.{same_rect}
use Rattle.rules.specs.Layout.{read}
use Rattle.rules.specs.Choose.{rect_from}
use Rattle.rules_laws.proofs.Bools.{and_both, both_and}
use Rattle.rules_laws.proofs.Orders.{never_both}
use Rattle.rules_laws.proofs.Everies.{every_is}
use Rattle.rules_laws.proofs.Joins.{joined_none, joined_more}
use Rattle.rules_laws.proofs.Places.{Among}
use Rattle.layout_laws.specs.Slots.{InPool}
use Rattle.pool.specs.Standing.{tidy_around}
use Rattle.layout_laws.proofs.Parts.{few, slot_few, rect_entry}
use Rattle.layout_laws.proofs.Written.{read_slots}
use Rattle.sound_laws.specs.Tree.{slots_in, Slot, NodeIn}
use Rattle.sound_laws.proofs.Same.{same_rect_lem}
use Rattle.sound_laws.proofs.Walk.{slots_leaf, slots_inner, leaf_of_lem, inner_of, leaf_tree, inner_tree, tree_node, top_among, below_among, among_cases}
use Rattle.sound.specs.Walked.{plain_entry, slots_below, mark_of, Unmet, Answers, Fitting, TidyTree, SoundNode, SoundEntries, NodeAnswer, EntriesAnswer, RootAnswer}
use Rattle.sound.proofs.Looks.{leaf_plain, tree_plain, plain_leaf}
use Rattle.sound.proofs.Marks.{one_unmet, unmet_one, one_marked, unmet_none, marked_none, unmet_front, unmet_back, unmet_both, marked_both}

-- ---- answers

module _ {A : Type 0} {ss : List SlotNumber} {a b : List ℕ} where
  -- what is asked does not hold
  pub refused : (A → Unmet ss a → ⊥) → Answers A ss a b false
  refused n = record {
    yes = λ e. never_both e refl;
    unmet = λ e. never_both e refl;
    marked = λ e. never_both e refl;
    all = λ h u. absurd (n h u);
  }

  -- .. since a part of it does not
  pub refused_part : {B : Type 0} {r : Bool} → r ≡ false → (B → A) → Answers A ss a b r → Answers B ss a b false
  refused_part e f h = record {
    yes = λ e. never_both e refl;
    unmet = λ e. never_both e refl;
    marked = λ e. never_both e refl;
    all = λ g u. never_both (h.all (f g) u) e;
  }

  -- the same question in other words
  pub asked_as : {B : Type 0} {r : Bool} → (A → B) → (B → A) → Answers A ss a b r → Answers B ss a b r
  asked_as f g h = record { yes = λ e. f (h.yes e); unmet = h.unmet; marked = h.marked; all = λ k u. h.all (g k) u }

-- ---- entries, from the first of them

module _ (w : List ℤ) (below : ℕ) where
  abbrev below_of : Entry → List SlotNumber
  below_of e = slots_in (read w) below (child_of e)

  abbrev rest_of : List Entry → List SlotNumber
  rest_of es = slots_below (read w) below es

  none_answers : (a : List ℕ) → EntriesAnswer w below [] a a true
  none_answers a = rw (joined_none below_of) (record {
    yes = λ e f m. absurd (Memᴰ.not-nil m);
    unmet = λ e. unmet_none a;
    marked = λ e. marked_none a;
    all = λ h u. refl;
  })

  module _ (e : Entry) (es : List Entry) where
    front : {c : List ℕ} → Unmet (rest_of (e ∷ es)) c → Unmet (below_of e ++ rest_of es) c
    front u = rw (joined_more below_of e es) at u

    first_refused : {r : Bool} {a b : List ℕ} → r ≡ false → NodeAnswer w below (child_of e) e.rect a b r
        → EntriesAnswer w below (e ∷ es) a b false
    first_refused q n = refused (λ h u. never_both (n.all (h e (Memᴰ.head refl)) (unmet_front (below_of e) (rest_of es) (front u))) q)

    first_goes : {r q : Bool} {a b c : List ℕ} → q ≡ true → NodeAnswer w below (child_of e) e.rect a b q
        → EntriesAnswer w below es b c r
        → EntriesAnswer w below (e ∷ es) a c r
    first_goes {r} t n m = record {
      yes = λ k f i. each k f (Memᴰ.cases_cons i);
      unmet = λ k. rw (joined_more below_of e es) (unmet_both (below_of e) (rest_of es) (n.marked t) (n.unmet t) (m.unmet k));
      marked = λ k. rw (joined_more below_of e es) (marked_both (below_of e) (rest_of es) (n.marked t) (m.marked k));
      all = λ h u. m.all (λ f i. h f (Memᴰ.tail i)) (unmet_back (below_of e) (rest_of es) (n.marked t) (front u));
    }
      where
        each : r ≡ true → (f : Entry) → (f ≡ e) ⊎ Among f es → SoundNode w below (child_of f) f.rect
        each k f (inl i) = subst (λ (g : Entry). SoundNode w below (child_of g) g.rect) (sym i) (n.yes t)
        each k f (inr i) = m.yes k f i

-- ---- .. of the node at s, from place i on

-- the rectangle of an entry, as it is read
pub entry_rect : (p : Pool) (s : SlotNumber) (i : ℕ) → rect_from (rects (entries_at p s)) i ≡ (entry_at p s i).rect
unfolding entry_at entry_from
entry_rect p s i = rect_entry (entries_at p s) i

module _ (w : List ℤ) (below : ℕ) (s : SlotNumber) (i : ℕ) where
  -- what is asked of the entries from place j on, answered by r
  abbrev pub EntriesFrom : ℕ → List ℕ → List ℕ → Bool → Type 0
  EntriesFrom j a b r = EntriesAnswer w below (drop j (entries_at (read w) s)) a b r

  pub entries_end : (a : List ℕ) → length (entries_at (read w) s) ≤ i → EntriesFrom i a a true
  entries_end a h = rw (drop_of_length-le (entries_at (read w) s) {i = i} h) (none_answers w below a)

  module _ (h : i < length (entries_at (read w) s)) where
    here : drop i (entries_at (read w) s) ≡ entry_at (read w) s i ∷ drop (i + 1) (entries_at (read w) s)
    unfolding entry_at entry_from
    here = rw (add-one i) (drop-cons (entries_at (read w) s) i no_entry h)

    -- e leads to the slot c, by the rectangle r
    module _ (c : SlotNumber) (is : c ≡ child_of (entry_at (read w) s i)) where
      pub entry_no_slot : (Slot (read w) c → ⊥) → (a : List ℕ) → EntriesFrom i a a false
      entry_no_slot n a = rw here (refused (λ h u.
          let d = (h (entry_at (read w) s i) (Memᴰ.head refl)).below.tree in
          n (rw is (tree_node (read w) below (child_of (entry_at (read w) s i)) d).slot)))

      module _ (r : Rect) (rect : r ≡ (entry_at (read w) s i).rect) {a b : List ℕ} {q : Bool} (n : NodeAnswer w below c r a b q) where
        node_here : NodeAnswer w below (child_of (entry_at (read w) s i)) (entry_at (read w) s i).rect a b q
        node_here = rw (is, rect) at n

        pub entry_refused : q ≡ false → EntriesFrom i a b false
        entry_refused e = rw here (first_refused w below (entry_at (read w) s i) (drop (i + 1) (entries_at (read w) s)) e node_here)

        pub entry_goes : q ≡ true → {t : List ℕ} {k : Bool} → EntriesFrom (i + 1) b t k → EntriesFrom i a t k
        entry_goes e m = rw here (first_goes w below (entry_at (read w) s i) (drop (i + 1) (entries_at (read w) s)) e node_here m)

-- ---- a node

module _ {w : List ℤ} {s : SlotNumber} (k : InPool w s) where
  node_in_lem : {l : ℕ} → Fitting w l s → NodeIn (read w) l s
  node_in_lem f = record {
    slot = record { low = k.low; high = omega (arith, k.high, read_slots w) };
    level = f.level;
    few = slot_few k;
  }

  -- the node is met: not for the first time, or as asked
  pub met_before : (l : ℕ) (a : List ℕ) → (mark_of a s ≡ 0 → ⊥) → Answers (Fitting w l s) (s ∷ []) a a false
  met_before l a n = refused (λ f u. n (unmet_one s k.low a u))

  pub met_now : (l : ℕ) (a : List ℕ) (r : Bool) → length a ≡ most_slots → mark_of a s ≡ 0
      → r ≡ (eqb (node_at (read w) s).level l && tidy_around w s) → Answers (Fitting w l s) (s ∷ []) a (set a (s.0 - 1) 1) r
  met_now l a r long none fits = record {
    yes = λ e. let q = and_both (eqb (node_at (read w) s).level l) (tidy_around w s) (sym fits ∙ e) in
        record { level = eqb-true (node_at (read w) s).level l q.0; around = q.1 };
    unmet = λ e. one_unmet s k.low a none;
    marked = λ e. one_marked s k.low a (omega (arith, long, few k)) none;
    all = λ f u. fits ∙ both_and _ _ (eq-eqb (node_at (read w) s).level l f.level) f.around;
  }

  -- the top of a tidy tree
  top_fits : (l : ℕ) → 1 ≤ l → TidyTree w l s → Fitting w l s
  top_fits zero h t = absurd (omega arith)
  top_fits (suc l) h t = record { level = (tree_node (read w) (suc l) s t.tree).level; around = t.around s (top_among (read w) l s) }

  top_unmet : (l : ℕ) → 1 ≤ l → {a : List ℕ} → Unmet (slots_in (read w) l s) a → Unmet (s ∷ []) a
  top_unmet zero h u = absurd (omega arith)
  top_unmet (suc zero) h u = rw (slots_leaf (read w) s) at u
  top_unmet (suc (suc l)) h u =
      unmet_front (s ∷ []) (slots_below (read w) (suc l) (entries_at (read w) s)) (rw (slots_inner (read w) s l) at u)

  pub not_met : (l : ℕ) → 1 ≤ l → {a b c : List ℕ} {r : Bool} → r ≡ false → Answers (Fitting w l s) (s ∷ []) a b r
      → Answers (TidyTree w l s) (slots_in (read w) l s) a c false
  not_met l h e m = refused (λ t u. never_both (m.all (top_fits l h t) (top_unmet l h u)) e)

  -- a leaf
  module _ {a b : List ℕ} {q : Bool} (t : q ≡ true) (m : Answers (Fitting w 1 s) (s ∷ []) a b q) where
    pub leaf_answers : (r : Bool) → r ≡ every plain_entry (entries_at (read w) s) → Answers (TidyTree w 1 s) (slots_in (read w) 1 s) a b r
    leaf_answers r e = record {
      yes = λ h. record {
        tree = leaf_tree (read w) s (record {
          node = node_in_lem (m.yes t);
          each = λ f i. plain_leaf k (m.yes t).level f i ((every_is plain_entry (entries_at (read w) s)).0 (sym e ∙ h) f i);
        });
        around = λ u i. rw (Memᴰ.eq_of_singleton (rw (slots_leaf (read w) s) at i)) (m.yes t).around;
      };
      unmet = λ h. rw (slots_leaf (read w) s) (m.unmet t);
      marked = λ h. rw (slots_leaf (read w) s) (m.marked t);
      all = λ h u. e ∙ (every_is plain_entry (entries_at (read w) s)).1 (λ f i. leaf_plain f ((leaf_of_lem (read w) s h.tree).each f i));
    }

  -- an inner node
  module _ (l : ℕ) {a b c : List ℕ} {q r : Bool} (t : q ≡ true) (m : Answers (Fitting w (suc (suc l)) s) (s ∷ []) a b q)
      (n : EntriesAnswer w (suc l) (entries_at (read w) s) b c r) where
    around_below : r ≡ true → (u : SlotNumber)
        → (u ≡ s) ⊎ ((e : Entry) × Among e (entries_at (read w) s) × Among u (slots_in (read w) (suc l) (child_of e))) → tidy_around w u ≡ true
    around_below h u (inl e) = rw e (m.yes t).around
    around_below h u (inr i) = (n.yes h i.0 i.1).below.around u i.2

    abbrev rest : List SlotNumber
    rest = slots_below (read w) (suc l) (entries_at (read w) s)

    entries_back : TidyTree w (suc (suc l)) s → SoundEntries w (suc l) (entries_at (read w) s)
    entries_back h e i =
        let d = (inner_of (read w) l s h.tree).each e i in
        record {
          below = record { tree = d.child; around = λ u j. h.around u (below_among (read w) l s u e i j) };
          enough = d.enough;
          tight = d.tight;
        }

    inner_at : Answers (TidyTree w (suc (suc l)) s) (slots_in (read w) (suc (suc l)) s) a c r
    inner_at = record {
      yes = λ h. record {
        tree = inner_tree (read w) l s (record {
          node = node_in_lem (m.yes t);
          each = λ e i. let d = n.yes h e i in record { child = d.below.tree; enough = d.enough; tight = d.tight };
        });
        around = λ u i. around_below h u (among_cases (read w) l s u i);
      };
      unmet = λ h. rw (slots_inner (read w) s l) (unmet_both (s ∷ []) rest (m.marked t) (m.unmet t) (n.unmet h));
      marked = λ h. rw (slots_inner (read w) s l) (marked_both (s ∷ []) rest (m.marked t) (n.marked h));
      all = λ h u. n.all (entries_back h) (unmet_back (s ∷ []) rest (m.marked t) (rw (slots_inner (read w) s l) at u));
    }

  pub inner_answers : (l : ℕ) → 2 ≤ l → {a b c : List ℕ} {q r : Bool} → q ≡ true → Answers (Fitting w l s) (s ∷ []) a b q
      → EntriesFrom w (l - 1) s 0 0 b c r
      → Answers (TidyTree w l s) (slots_in (read w) l s) a c r
  inner_answers zero h t m n = absurd (omega arith)
  inner_answers (suc zero) h t m n = absurd (omega arith)
  inner_answers (suc (suc l)) h {b = b} {c = c} {r = r} t m n =
      let e : suc (suc l) - 1 ≡ suc l = omega arith in
      inner_at l t m (subst (λ (x : ℕ). EntriesAnswer w x (entries_at (read w) s) b c r) e n)

-- ---- .. below an entry: as many entries as it needs, and the cover that is wanted

module _ {w : List ℤ} {l : ℕ} {s : SlotNumber} {want : Rect} {a b : List ℕ} where
  pub not_plain : every plain_entry (entries_at (read w) s) ≡ false → NodeAnswer w l s want a b false
  not_plain e = refused (λ n u. never_both ((every_is plain_entry (entries_at (read w) s)).1 (tree_plain (read w) l s n.below.tree)) e)

  module _ (cover : Rect) (is : cover ≡ cover_of (entries_at (read w) s)) where
    pub not_tight : same_rect want cover ≡ false → NodeAnswer w l s want a b false
    not_tight e = refused (λ n u. never_both ((same_rect_lem want cover).1 (n.tight ∙ sym is)) e)

    pub as_node : least ≤ length (entries_at (read w) s) → same_rect want cover ≡ true
        → {r : Bool} → Answers (TidyTree w l s) (slots_in (read w) l s) a b r → NodeAnswer w l s want a b r
    as_node h e t = asked_as (λ y. record { below = y; enough = h; tight = (same_rect_lem want cover).0 e ∙ is }) (λ n. n.below) t

-- a node above the leaves
pub no_leaf : (n : Node) (l : ℕ) → n.level ≡ l → 2 ≤ l → is_leaf n ≡ false
unfolding is_leaf
no_leaf n l e h = ne_eqb n.level 1 (λ k. omega arith)

-- ---- .. and at the root

module _ {w : List ℤ} {l : ℕ} {s : SlotNumber} {a b : List ℕ} where
  pub too_few_root : 2 ≤ l → length (entries_at (read w) s) < 2 → RootAnswer w l s a b false
  too_few_root h few = refused (λ n u. omega (arith, n.two h))

  pub as_root : (2 ≤ l → 2 ≤ length (entries_at (read w) s)) → {r : Bool} → Answers (TidyTree w l s) (slots_in (read w) l s) a b r
      → RootAnswer w l s a b r
  as_root h t = asked_as (λ y. record { below = y; two = h }) (λ n. n.below) t
