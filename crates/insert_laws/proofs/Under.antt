-- An entry of a node, and what is under it: for a leaf's entry its record, above that the tree at its child. A tree is a node whose entries
-- fit, and weighs what its top and its entries weigh. Under an entry there are only lower nodes, so a pool that has the same lower nodes
-- has the same under it.
use mathlib.Core.Path.{◌≡◌, refl, ap}
use mathlib.Core.List.Memᴰ
use mathlib.Core.List.{List, [], ◌∷◌, map, map-map}
use Prim.Native.Nat.{ℕ, zero, suc, ◌+◌, ◌≤◌, ◌<◌}
use native.Mathlib.Omega.{arith}
use lib.ListN.{length}
use Rattle.rules.specs.declared.SlotNumber.{SlotNumber}
use Rattle.rules.specs.declared.Record.{Record}
use Rattle.rules.specs.declared.Entry.{Entry}
use Rattle.rules.specs.Lists.{joined, total}
use Rattle.rules.specs.Numbers.{most}
use Rattle.rules.specs.Pool.{Node, Pool, node, node_at, entries_at, child_of, record_of}
use Rattle.rules_laws.proofs.Places.{Among}
use Rattle.rules_laws.proofs.Sums.{total_none, total_more, total_sum, total_alike}
use Rattle.rules_laws.proofs.Joins.{total_joined}
use Rattle.sound_laws.specs.Tree.{slots_in, records_in, Slot, Used, LeafEntry, InnerEntry, Tree}
use Rattle.sound_laws.proofs.Walk.{slots_leaf, slots_inner, records_leaf, records_inner, no_tree, leaf_of_lem, inner_of, leaf_tree, inner_tree, within, within_used}
use Rattle.sound_laws.proofs.Frame.{slots_frame, records_frame, inner_frame}
use Rattle.insert_laws.specs.Grown.{slots_under, records_under, Fits, Weights, weigh, weight_under, weight_of, spot, weight_at}

-- ---- the clauses

module _ (p : Pool) (e : Entry) where
  pub under_leaf : slots_under p 1 e ≡ []
  unfolding slots_under
  under_leaf = refl

  pub under_inner : (l : ℕ) → slots_under p (suc (suc l)) e ≡ slots_in p (suc l) (child_of e)
  unfolding slots_under
  under_inner l = refl

  pub no_fit : Fits p 0 e → ⊥
  unfolding Fits
  no_fit f = f

  pub leaf_fits : Fits p 1 e → LeafEntry e
  unfolding Fits
  leaf_fits f = f

  pub fits_leaf : LeafEntry e → Fits p 1 e
  unfolding Fits
  fits_leaf f = f

  pub inner_fits : (l : ℕ) → Fits p (suc (suc l)) e → InnerEntry p (Tree p (suc l)) e
  unfolding Fits
  inner_fits l f = f

  pub fits_inner : (l : ℕ) → InnerEntry p (Tree p (suc l)) e → Fits p (suc (suc l)) e
  unfolding Fits
  fits_inner l f = f

pub fits_level : (p : Pool) (l : ℕ) (e : Entry) → Fits p l e → 1 ≤ l
fits_level p zero e f = absurd (no_fit p e f)
fits_level p (suc l) e f = omega arith

-- ---- a tree is a node whose entries fit

module _ (p : Pool) where
  pub tree_fits : (l : ℕ) (s : SlotNumber) → Tree p l s → (e : Entry) → Among e (entries_at p s) → Fits p l e
  tree_fits zero s d e m = absurd (no_tree p s d)
  tree_fits (suc zero) s d e m = fits_leaf p e ((leaf_of_lem p s d).each e m)
  tree_fits (suc (suc l)) s d e m = fits_inner p e l ((inner_of p l s d).each e m)

  pub entries_are : (l : ℕ) (s : SlotNumber) (es : List Entry) → node_at p s ≡ node l es → entries_at p s ≡ es
  unfolding entries_at
  entries_are l s es h = ap (λ (n : Node). n.entries) h

  module _ (s : SlotNumber) (es : List Entry) (k : Slot p s) (few : length es ≤ most) where
    pub tree_made : (l : ℕ) → node_at p s ≡ node (suc l) es → ((e : Entry) → Among e es → Fits p (suc l) e) → Tree p (suc l) s
    tree_made zero h f = leaf_tree p s (record {
      node = record { slot = k; level = ap (λ (n : Node). n.level) h; few = rw (entries_are 1 s es h) few };
      each = λ e m. leaf_fits p e (f e (rw (entries_are 1 s es h) at m));
    })
    tree_made (suc l) h f = inner_tree p l s (record {
      node = record { slot = k; level = ap (λ (n : Node). n.level) h; few = rw (entries_are (suc (suc l)) s es h) few };
      each = λ e m. inner_fits p e l (f e (rw (entries_are (suc (suc l)) s es h) at m));
    })

  -- under an entry there are only lower nodes
  pub under_used : (l : ℕ) (e : Entry) (t : SlotNumber) → Fits p l e → Among t (slots_under p l e) → Used p t
  under_used zero e t f m = absurd (no_fit p e f)
  under_used (suc zero) e t f m = absurd (Memᴰ.not-nil (rw (under_leaf p e) at m))
  under_used (suc (suc l)) e t f m = within_used p (suc l) (child_of e) t (inner_fits p e l f).child (rw (under_inner p e l) at m)

  pub under_lower : (l : ℕ) (e : Entry) (t : SlotNumber) → Fits p l e → Among t (slots_under p l e) → (node_at p t).level < l
  under_lower zero e t f m = absurd (no_fit p e f)
  under_lower (suc zero) e t f m = absurd (Memᴰ.not-nil (rw (under_leaf p e) at m))
  under_lower (suc (suc l)) e t f m =
      omega (arith, (within p (suc l) (child_of e) t (inner_fits p e l f).child (rw (under_inner p e l) at m)).high)

-- ---- weights

module _ (w : Weights) where
  module _ (p : Pool) where
    -- a leaf's entry weighs what its record does, in every pool
    pub weight_leaf : (e : Entry) → weight_under w p 1 e ≡ w.of_record (record_of e)
    unfolding weight_under slots_under records_under
    weight_leaf e = omega (arith, total_none w.of_slot, total_none w.of_record, total_more w.of_record (record_of e) [])

    -- an inner entry weighs what the tree at its child does
    pub weight_inner : (l : ℕ) (e : Entry) → weight_under w p (suc (suc l)) e ≡ weight_at w (spot p (suc l) (child_of e))
    unfolding weight_under slots_under records_under weight_at
    weight_inner l e = refl

    -- a tree weighs what its top and its entries do
    pub weight_parts : (l : ℕ) (s : SlotNumber)
        → weight_at w (spot p (suc l) s) ≡ w.of_slot s + total (map (weight_under w p (suc l)) (entries_at p s))
    unfolding weight_at
    weight_parts zero s =
        rw (slots_leaf p s, records_leaf p s, map-map w.of_record record_of (entries_at p s))
        (omega (
          arith,
          total_more w.of_slot s [],
          total_none w.of_slot,
          total_alike (weight_under w p 1) (λ e. w.of_record (record_of e)) (entries_at p s) (λ e m. weight_leaf e),
        ))
    weight_parts (suc l) s =
        rw (slots_inner p s l, records_inner p s l)
        (omega (
          arith,
          total_more w.of_slot s (joined (map slots es)),
          total_joined w.of_slot slots es,
          total_joined w.of_record records es,
          total_sum (λ e. total (map w.of_slot (slots e))) (λ e. total (map w.of_record (records e))) es,
          total_alike (weight_under w p (suc (suc l))) (λ e. weigh w (slots e) (records e)) es (λ e m. weight_inner l e),
        ))
      where
        es : List Entry
        es = entries_at p s

        slots : Entry → List SlotNumber
        slots e = slots_in p (suc l) (child_of e)

        records : Entry → List Record
        records e = records_in p (suc l) (child_of e)

    pub weight_made : (l : ℕ) (s : SlotNumber) (es : List Entry) → node_at p s ≡ node (suc l) es
        → weight_at w (spot p (suc l) s) ≡ w.of_slot s + total (map (weight_under w p (suc l)) es)
    weight_made l s es h = rw (entries_are p (suc l) s es h) at (weight_parts l s)

    pub weight_none : (l : ℕ) → weight_of w p (node l []) ≡ 0
    unfolding weight_of
    weight_none l = total_none (weight_under w p l)

    pub weight_one : (l : ℕ) (e : Entry) → weight_of w p (node l (e ∷ [])) ≡ weight_under w p l e
    unfolding weight_of
    weight_one l e = omega (arith, total_more (weight_under w p l) e [], total_none (weight_under w p l))

-- ---- another pool

module _ (p q : Pool) where
  -- the slots under the entry hold the same nodes
  abbrev pub SameUnder : ℕ → Entry → Type 0
  SameUnder l e = (t : SlotNumber) → Among t (slots_under p l e) → node_at p t ≡ node_at q t

  pub weight_frame : (w : Weights) (l : ℕ) (e : Entry) → SameUnder l e → weight_under w q l e ≡ weight_under w p l e
  unfolding weight_under slots_under records_under
  weight_frame w zero e h = refl
  weight_frame w (suc zero) e h = refl
  weight_frame w (suc (suc l)) e h = rw (slots_frame p q (suc l) (child_of e) h, records_frame p q (suc l) (child_of e) h)

  pub fits_frame : length p.slots ≡ length q.slots → (l : ℕ) (e : Entry) → SameUnder l e → Fits p l e → Fits q l e
  unfolding slots_under
  fits_frame long zero e h f = absurd (no_fit p e f)
  fits_frame long (suc zero) e h f = fits_leaf q e (leaf_fits p e f)
  fits_frame long (suc (suc l)) e h f = fits_inner q e l (inner_frame p q long l e h (inner_fits p e l f))

  -- the nodes below a level are the same
  abbrev pub SameBelow : ℕ → Type 0
  SameBelow l = (t : SlotNumber) → Used p t → (node_at p t).level < l → node_at p t ≡ node_at q t

  module _ (l : ℕ) (same : SameBelow l) (j : ℕ) (e : Entry) (low : j ≤ l) (f : Fits p j e) where
    same_under : SameUnder j e
    same_under t m = same t (under_used p j e t f m) (omega (arith, under_lower p j e t f m))

    pub weight_below : (w : Weights) → weight_under w q j e ≡ weight_under w p j e
    weight_below w = weight_frame w j e same_under

    pub fits_below : length p.slots ≡ length q.slots → Fits q j e
    fits_below long = fits_frame long j e same_under f

  pub total_below : (w : Weights) (l : ℕ) → SameBelow l → (j : ℕ) (es : List Entry) → j ≤ l → ((e : Entry) → Among e es → Fits p j e)
      → total (map (weight_under w q j) es) ≡ total (map (weight_under w p j) es)
  total_below w l same j es low f = total_alike (weight_under w q j) (weight_under w p j) es (λ e m. weight_below l same j e low (f e m) w)

  pub weight_of_below : (w : Weights) (l : ℕ) → SameBelow l → (n : Node) → n.level ≤ l → ((e : Entry) → Among e n.entries → Fits p n.level e)
      → weight_of w q n ≡ weight_of w p n
  unfolding weight_of
  weight_of_below w l same n low f = total_below w l same n.level n.entries low f
