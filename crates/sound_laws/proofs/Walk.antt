-- The slots and records of a tree. All is by induction on the levels: a slot of the tree is its top, or a slot of the tree at a child.
use mathlib.Core.Path.{◌≡◌, refl, sym, ap, subst, ◌∙◌}
use mathlib.Core.Logic.{◌≢◌, ◌⊎◌, inl, inr, ⊎_elim}
use mathlib.Core.Bool.{Bool}
use mathlib.Core.List.Memᴰ
use mathlib.Core.List.{List, [], ◌∷◌, map, append-nil}
use Prim.Native.Nat.{ℕ, zero, suc, ◌+◌, ◌≤◌}
use native.Mathlib.Decide.{dec_le}
use native.Mathlib.Omega.{arith}
use lib.ListN.{length}
use borrow.Author.Tests.{le-leb, lt-leb, eq-eqb, ne_eqb}
use Rattle.rules.specs.declared.SlotNumber.{SlotNumber}
use Rattle.rules.specs.declared.Entry.{Entry}
use Rattle.rules.specs.Lists.{those, joined, total}
use Rattle.rules.specs.Numbers.{least}
use Rattle.rules.specs.Pool.{Pool, node_at, entries_at, child_of, record_of, is_leaf}
use Rattle.rules_laws.proofs.Places.{Among, map_same}
use Rattle.rules_laws.proofs.Parts.{count_append, count_cons, those_none}
use Rattle.rules_laws.proofs.Joins.{joined_none, joined_more, joined_joined, among_joined, joined_among}
use Rattle.rules_laws.proofs.Sums.{total_none, total_more, total_append}
use Rattle.sound_laws.specs.Tree.{slots_in, records_in, children_at, records_at, Used, NodeIn, LeafEntry, InnerEntry, NodeOf, Tree}
use Rattle.sound_laws.proofs.Times.{slot_discrete}

-- ---- the clauses

module _ (p : Pool) (s : SlotNumber) where
  pub slots_leaf : slots_in p 1 s ≡ s ∷ []
  unfolding slots_in
  slots_leaf = refl

  pub slots_inner : (l : ℕ) → slots_in p (suc (suc l)) s ≡ s ∷ joined (map (λ (e : Entry). slots_in p (suc l) (child_of e)) (entries_at p s))
  unfolding slots_in
  slots_inner l = refl

  pub records_leaf : records_in p 1 s ≡ map record_of (entries_at p s)
  unfolding records_in
  records_leaf = refl

  pub records_inner : (l : ℕ) → records_in p (suc (suc l)) s ≡ joined (map (λ (e : Entry). records_in p (suc l) (child_of e)) (entries_at p s))
  unfolding records_in
  records_inner l = refl

  pub children_inner : 2 ≤ (node_at p s).level → children_at p s ≡ map child_of (entries_at p s)
  unfolding children_at
  children_inner h = rw (le-leb 2 (node_at p s).level h)

  pub children_none : (node_at p s).level ≤ 1 → children_at p s ≡ []
  unfolding children_at
  children_none h = rw (lt-leb 2 (node_at p s).level (omega arith))

  pub records_at_lem : (node_at p s).level ≡ 1 → records_at p s ≡ map record_of (entries_at p s)
  unfolding records_at is_leaf
  records_at_lem h = rw (eq-eqb (node_at p s).level 1 h)

  pub records_none : (node_at p s).level ≢ 1 → records_at p s ≡ []
  unfolding records_at is_leaf
  records_none h = rw (ne_eqb (node_at p s).level 1 h)

-- a child that counts is the child of an entry of an inner node
pub child_of_lem : (p : Pool) (s t : SlotNumber) → Among t (children_at p s)
    → (2 ≤ (node_at p s).level) × ((e : Entry) × Among e (entries_at p s) × (child_of e ≡ t))
child_of_lem p s t m = go (dec_le 2 (node_at p s).level)
  where
    go : Dec (2 ≤ (node_at p s).level) → (2 ≤ (node_at p s).level) × ((e : Entry) × Among e (entries_at p s) × (child_of e ≡ t))
    go (yes h) = (h, Memᴰ.of_map child_of (entries_at p s) (rw (children_inner p s h) at m))
    go (no h) = absurd (Memᴰ.not-nil (rw (children_none p s (omega arith)) at m))

pub child_among : (p : Pool) (s : SlotNumber) (e : Entry) → 2 ≤ (node_at p s).level → Among e (entries_at p s) → Among (child_of e) (children_at p s)
child_among p s e h m = rw (children_inner p s h) (Memᴰ.map child_of m)

-- ---- a tree taken apart and put together

module _ (p : Pool) where
  pub no_tree : (s : SlotNumber) → Tree p 0 s → ⊥
  unfolding Tree
  no_tree s d = d

  pub leaf_of_lem : (s : SlotNumber) → Tree p 1 s → NodeOf p 1 LeafEntry s
  unfolding Tree
  leaf_of_lem s d = d

  pub inner_of : (l : ℕ) (s : SlotNumber) → Tree p (suc (suc l)) s → NodeOf p (suc (suc l)) (InnerEntry p (Tree p (suc l))) s
  unfolding Tree
  inner_of l s d = d

  pub leaf_tree : (s : SlotNumber) → NodeOf p 1 LeafEntry s → Tree p 1 s
  unfolding Tree
  leaf_tree s d = d

  pub inner_tree : (l : ℕ) (s : SlotNumber) → NodeOf p (suc (suc l)) (InnerEntry p (Tree p (suc l))) s → Tree p (suc (suc l)) s
  unfolding Tree
  inner_tree l s d = d

  pub tree_node : (l : ℕ) (s : SlotNumber) → Tree p l s → NodeIn p l s
  tree_node zero s d = absurd (no_tree s d)
  tree_node (suc zero) s d = (leaf_of_lem s d).node
  tree_node (suc (suc l)) s d = (inner_of l s d).node

  pub tree_positive : (l : ℕ) (s : SlotNumber) → Tree p l s → 1 ≤ l
  tree_positive zero s d = absurd (no_tree s d)
  tree_positive (suc l) s d = omega arith

  -- ---- the slots of a tree

  pub top_among : (l : ℕ) (s : SlotNumber) → Among s (slots_in p (suc l) s)
  unfolding slots_in
  top_among zero s = Memᴰ.head refl
  top_among (suc l) s = Memᴰ.head refl

  pub below_among : (l : ℕ) (s t : SlotNumber) (e : Entry) → Among e (entries_at p s) → Among t (slots_in p (suc l) (child_of e))
      → Among t (slots_in p (suc (suc l)) s)
  unfolding slots_in
  below_among l s t e m n = Memᴰ.tail (joined_among (λ (f : Entry). slots_in p (suc l) (child_of f)) t m n)

  pub among_cases : (l : ℕ) (s t : SlotNumber) → Among t (slots_in p (suc (suc l)) s)
      → (t ≡ s) ⊎ ((e : Entry) × Among e (entries_at p s) × Among t (slots_in p (suc l) (child_of e)))
  unfolding slots_in
  among_cases l s t m =
      ⊎_elim inl (λ n. inr (among_joined (λ (f : Entry). slots_in p (suc l) (child_of f)) t (entries_at p s) n)) (Memᴰ.cases_cons m)

  -- t is a slot of the tree of l levels at s: a tree is at t
  pub record Within (l : ℕ) (s t : SlotNumber) : Type 0 where
    pub tree : Tree p (node_at p t).level t
    pub high : (node_at p t).level ≤ l
    pub enough : t ≢ s → least ≤ length (entries_at p t)
    pub slots : (u : SlotNumber) → Among u (slots_in p (node_at p t).level t) → Among u (slots_in p l s)

  top_within : (l : ℕ) (s t : SlotNumber) → t ≡ s → Tree p l s → Within l s t
  top_within l s t e d =
      let n = ap (λ (u : SlotNumber). (node_at p u).level) e ∙ (tree_node l s d).level in
      record { tree = rw (n, e) d; high = omega arith; enough = λ h. absurd (h e); slots = λ u m. rw (n, e) at m }

  pub within : (l : ℕ) (s t : SlotNumber) → Tree p l s → Among t (slots_in p l s) → Within l s t
  within zero s t d m = absurd (no_tree s d)
  within (suc zero) s t d m = top_within 1 s t (Memᴰ.eq_of_singleton (rw (slots_leaf p s) at m)) d
  within (suc (suc l)) s t d m = go (among_cases l s t m) (within (suc l))
    where
      go : (t ≡ s) ⊎ ((e : Entry) × Among e (entries_at p s) × Among t (slots_in p (suc l) (child_of e)))
          → ((u v : SlotNumber) → Tree p (suc l) u → Among v (slots_in p (suc l) u) → Within (suc l) u v) → Within (suc (suc l)) s t
      go (inl e) ih = top_within (suc (suc l)) s t e d
      go (inr h) ih =
          let e = h.0 in
          let i = (inner_of l s d).each e h.1 in
          let w = ih (child_of e) t i.child h.2 in
          record {
            tree = w.tree;
            high = omega (arith, w.high);
            enough = λ n. enough e i.enough w.enough (slot_discrete t (child_of e));
            slots = λ u k. below_among l s u e h.1 (w.slots u k);
          }
        where
          enough : (e : Entry) → least ≤ length (entries_at p (child_of e)) → (t ≢ child_of e → least ≤ length (entries_at p t))
              → Dec (t ≡ child_of e) → least ≤ length (entries_at p t)
          enough e here there (yes q) = rw q here
          enough e here there (no q) = there q

  -- a slot of a tree is in use
  pub within_used : (l : ℕ) (s t : SlotNumber) → Tree p l s → Among t (slots_in p l s) → Used p t
  within_used l s t d m =
      let w = within l s t d m in
      record { slot = (tree_node (node_at p t).level t w.tree).slot; used = tree_positive (node_at p t).level t w.tree }

  -- a child's tree is one level lower
  pub record ChildTree (l : ℕ) (t : SlotNumber) : Type 0 where
    pub level : l ≡ suc (node_at p t).level
    pub tree : Tree p (node_at p t).level t
    pub used : Used p t
    pub enough : least ≤ length (entries_at p t)

  pub child_tree : (l : ℕ) (s t : SlotNumber) → Tree p l s → Among t (children_at p s) → ChildTree l t
  child_tree zero s t d m = absurd (no_tree s d)
  child_tree (suc zero) s t d m = let n = tree_node 1 s d in absurd (omega (arith, (child_of_lem p s t m).0, n.level))
  child_tree (suc (suc l)) s t d m =
      let c = (child_of_lem p s t m).1 in
      let i = (inner_of l s d).each c.0 c.1 in
      let n = tree_node (suc l) (child_of c.0) i.child in
      subst (ChildTree (suc (suc l))) c.2 (record {
        level = ap suc (sym n.level);
        tree = rw n.level i.child;
        used = record { slot = n.slot; used = omega (arith, n.level) };
        enough = i.enough;
      })

  -- ---- records and children, slot by slot

  -- the records of a tree are those of its slots
  pub records_are : (l : ℕ) (s : SlotNumber) → Tree p l s → records_in p l s ≡ joined (map (records_at p) (slots_in p l s))
  records_are zero s d = absurd (no_tree s d)
  records_are (suc zero) s d =
      rw (records_leaf p s, slots_leaf p s, joined_more (records_at p) s [], records_at_lem p s (tree_node 1 s d).level, joined_none (records_at p))
      (sym (append-nil _))
  records_are (suc (suc l)) s d =
      rw (records_inner p s l, slots_inner p s l, joined_more (records_at p) s (joined (map below es)), no_records)
      (ap joined (map_same (λ e. records_in p (suc l) (child_of e)) (λ e. joined (map (records_at p) (below e))) es
      (λ e m. records_are (suc l) (child_of e) ((inner_of l s d).each e m).child)) ∙ sym (joined_joined (records_at p) below es))
    where
      es : List Entry
      es = entries_at p s

      below : Entry → List SlotNumber
      below e = slots_in p (suc l) (child_of e)

      no_records : records_at p s ≡ []
      no_records = let n = tree_node (suc (suc l)) s d in records_none p s (omega (arith, n.level))

  -- the slots of a tree are its top and the children of its slots
  module _ (q : SlotNumber → Bool) where
    abbrev children : SlotNumber → ℕ
    children t = length (those q (children_at p t))

    slots_below_lem : (g : Entry → List SlotNumber) (es : List Entry)
        → ((e : Entry) → Among e es → length (those q (g e)) ≡ length (those q (child_of e ∷ [])) + total (map children (g e)))
        → length (those q (joined (map g es))) ≡ length (those q (map child_of es)) + total (map children (joined (map g es)))
    slots_below_lem g [] h = rw (joined_none g, those_none q) (omega (arith, total_none children))
    slots_below_lem g (e ∷ es) h =
        rw (joined_more g e es)
        (omega (
          arith,
          count_append q (g e) (joined (map g es)),
          count_cons q (child_of e) (map child_of es),
          total_append children (g e) (joined (map g es)),
          h e (Memᴰ.head refl),
          slots_below_lem g es (λ f m. h f (Memᴰ.tail m)),
        ))

    pub slots_parts : (l : ℕ) (s : SlotNumber) → Tree p l s
        → length (those q (slots_in p l s)) ≡ length (those q (s ∷ [])) + total (map (λ t. length (those q (children_at p t))) (slots_in p l s))
    slots_parts zero s d = absurd (no_tree s d)
    slots_parts (suc zero) s d =
        let n = tree_node 1 s d in
        rw (slots_leaf p s) (omega (
          arith,
          total_more children s [],
          total_none children,
          ap (λ (ts : List SlotNumber). length (those q ts)) (children_none p s (omega (arith, n.level))),
          ap length (those_none q),
        ))
    slots_parts (suc (suc l)) s d =
        let n = tree_node (suc (suc l)) s d in
        let below : Entry → List SlotNumber = λ e. slots_in p (suc l) (child_of e) in
        rw (slots_inner p s l) (omega (
          arith,
          count_cons q s (joined (map below (entries_at p s))),
          total_more children s (joined (map below (entries_at p s))),
          ap (λ (ts : List SlotNumber). length (those q ts)) (children_inner p s (omega (arith, n.level))),
          slots_below_lem below (entries_at p s) (λ e m. slots_parts (suc l) (child_of e) ((inner_of l s d).each e m).child),
        ))
