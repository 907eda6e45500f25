-- One child of a node has changed, and its entry is made tight. No node of the other children's trees has changed, since no slot is in two
-- of them; and the parent, which is above all of them, is as it was. So the node is the one before, with that one entry replaced.
use mathlib.Core.Path.{◌≡◌, refl, sym, ap, subst, ◌∙◌}
use mathlib.Core.Logic.{◌≢◌, ⊎_elim}
use mathlib.Core.List.Memᴰ
use mathlib.Core.List.{List, map}
use Prim.Native.Nat.{ℕ, suc, ◌+◌, ◌≤◌, ◌<◌}
use native.Mathlib.Omega.{arith}
use lib.ListN.{length, set, length-set}
use Rattle.rules.specs.declared.SlotNumber.{SlotNumber}
use Rattle.rules.specs.declared.Entry.{Entry}
use Rattle.rules.specs.Lists.{total, without}
use Rattle.rules.specs.Numbers.{least}
use Rattle.rules.specs.Pool.{Node, Pool, node, no_entry, node_at, entries_at, entry_from, entry_at, child_of, entry_for, free_count, put_node, tighten}
use Rattle.rules_laws.proofs.Places.{Among, at_place}
use Rattle.rules_laws.proofs.Parts.{among_set, among_without}
use Rattle.rules_laws.proofs.Sums.{total_without, total_alike, total_set}
use Rattle.sound_laws.specs.Tree.{slots_in, Once, Slot, Used, NodeIn, InnerEntry, Tree}
use Rattle.sound_laws.proofs.Walk.{inner_of, tree_node, within, below_among}
use Rattle.sound_laws.proofs.Frame.{entries_same, put_length, put_same, put_other, put_slot}
use Rattle.sound_laws.proofs.Apart.{children_apart}
use Rattle.sound_laws.proofs.Free.{put_used}
use Rattle.insert_laws.specs.Grown.{Fits, Weights, weight_under, spot, weight_at, SameHead}
use Rattle.insert_laws.proofs.Under.{under_inner, under_used, entries_are, tree_fits, tree_made, fits_inner, weight_inner, weight_parts}
use Rattle.insert_laws.proofs.Under.{weight_made, SameUnder, weight_frame, fits_frame, SameBelow, fits_below, total_below}
use Rattle.insert_laws.proofs.Install.{other_level, put_head, put_entries_lem}

-- the child on the way
abbrev pub child_at : Pool → SlotNumber → ℕ → SlotNumber
child_at p s i = child_of (entry_at p s i)

module _ (p : Pool) (l : ℕ) (s : SlotNumber) (d : Tree p (suc (suc l)) s) (i : ℕ) (there : i < length (entries_at p s)) where
  pub parent_node : NodeIn p (suc (suc l)) s
  parent_node = tree_node p (suc (suc l)) s d

  pub among_here : (j : ℕ) → j < length (entries_at p s) → Among (entry_at p s j) (entries_at p s)
  unfolding entry_at entry_from
  among_here j h = at_place (entries_at p s) j no_entry h

  pub child_entry : InnerEntry p (Tree p (suc l)) (entry_at p s i)
  child_entry = (inner_of p l s d).each (entry_at p s i) (among_here i there)

  pub child_inside : (t : SlotNumber) → Among t (slots_in p (suc l) (child_at p s i)) → Among t (slots_in p (suc (suc l)) s)
  child_inside t m = below_among p l s t (entry_at p s i) (among_here i there) m

  -- the parent is above
  pub child_above : Among s (slots_in p (suc l) (child_at p s i)) → ⊥
  child_above m = omega (arith, (within p (suc l) (child_at p s i) s child_entry.child m).high, parent_node.level)

  -- the child's part of the weight, and that of the entries beside it
  pub weight_child : (w : Weights) → weight_at w (spot p (suc (suc l)) s)
      ≡ w.of_slot s + weight_at w (spot p (suc l) (child_at p s i)) + total (map (weight_under w p (suc (suc l))) (without i (entries_at p s)))
  unfolding entry_at entry_from
  weight_child w =
      omega (
        arith,
        weight_parts w p (suc l) s,
        total_without (weight_under w p (suc (suc l))) (entries_at p s) i no_entry there,
        weight_inner w p l (entry_at p s i),
      )

  -- ---- an entry beside it

  module _ (y : Entry) (m : Among y (without i (entries_at p s))) where
    beside_place : (j : ℕ) × (j < length (entries_at p s)) × (j ≢ i) × (entry_at p s j ≡ y)
    unfolding entry_at entry_from
    beside_place = let j = among_without (entries_at p s) i y m in (j.0, j.1, j.2, j.3 no_entry)

    pub beside_fits : Fits p (suc (suc l)) y
    beside_fits = let j = beside_place in tree_fits p (suc (suc l)) s d y (Memᴰ.cast (sym j.3) (among_here j.0 j.1))

    -- no slot of its tree is one of the child's
    pub beside_apart : Once (slots_in p (suc (suc l)) s) → (t : SlotNumber) → Among t (slots_in p (suc l) (child_of y))
        → Among t (slots_in p (suc l) (child_at p s i)) → ⊥
    beside_apart once t b a =
        let j = beside_place in
        children_apart p l s once i j.0 there j.1 (λ e. j.2 (sym e)) t a (rw j.3 b)

-- ---- q is p with nothing changed but free slots and the child's tree

pub record Others (p : Pool) (l : ℕ) (s : SlotNumber) (i : ℕ) (q : Pool) : Type 0 where
  pub tree : Tree p (suc (suc l)) s
  pub there : i < length (entries_at p s)
  pub once : Once (slots_in p (suc (suc l)) s)
  pub long : length p.slots ≡ length q.slots
  pub kept : (t : SlotNumber) → Used p t → (Among t (slots_in p (suc l) (child_at p s i)) → ⊥) → node_at p t ≡ node_at q t

module _ {p : Pool} {l : ℕ} {s : SlotNumber} {i : ℕ} {q : Pool} (b : Others p l s i q) where
  here : NodeIn p (suc (suc l)) s
  here = parent_node p l s b.tree i b.there

  pub top_same : node_at p s ≡ node_at q s
  top_same = b.kept s (record { slot = here.slot; used = omega (arith, here.level) }) (child_above p l s b.tree i b.there)

  pub top_level : (node_at q s).level ≡ suc (suc l)
  top_level = ap (λ (n : Node). n.level) (sym top_same) ∙ here.level

  pub now_slot : Slot q s
  now_slot = record { low = here.slot.low; high = omega (arith, here.slot.high, b.long) }

  -- the tree of an entry beside it is as it was
  pub beside_same : (y : Entry) → Among y (without i (entries_at p s)) → SameUnder p q (suc (suc l)) y
  beside_same y m t n =
      let c : Among t (slots_in p (suc l) (child_of y)) = rw (under_inner p y l) at n in
      b.kept t (under_used p (suc (suc l)) y t (beside_fits p l s b.tree i b.there y m) n)
      (beside_apart p l s b.tree i b.there y m b.once t c)

  -- ---- the parent with the child's entry made tight

  abbrev tight_entry : Entry
  tight_entry = entry_for q (child_at p s i)

  abbrev entries : List Entry
  entries = set (entries_at p s) i tight_entry

  abbrev made : Pool
  made = put_node q s (node (suc (suc l)) entries)

  tighten_is : tighten q s i ≡ made
  unfolding tighten entry_at
  tighten_is = rw (← entries_same p q s top_same) (put_entries_lem q (suc (suc l)) s entries top_level)

  as_many : length entries ≡ length (entries_at p s)
  as_many = length-set (entries_at p s) i tight_entry

  made_at : node_at made s ≡ node (suc (suc l)) entries
  made_at = put_same q s (node (suc (suc l)) entries) now_slot

  made_long : length q.slots ≡ length made.slots
  made_long = sym (put_length q s (node (suc (suc l)) entries))

  made_other : (t : SlotNumber) → 1 ≤ t.0 → t ≢ s → node_at q t ≡ node_at made t
  made_other t k n = sym (put_other q s (node (suc (suc l)) entries) t here.slot.low k n)

  made_below : SameBelow q made (suc (suc l))
  made_below t u k = made_other t u.slot.low (other_level q t s (λ e. omega (arith, top_level)))

  pub tight_entries : entries_at (tighten q s i) s ≡ set (entries_at p s) i (entry_for q (child_at p s i))
  tight_entries = rw tighten_is (entries_are made (suc (suc l)) s entries made_at)

  pub tight_many : length (entries_at (tighten q s i) s) ≡ length (entries_at p s)
  tight_many = rw (tighten_is, entries_are made (suc (suc l)) s entries made_at) as_many

  pub tight_long : length q.slots ≡ length (tighten q s i).slots
  tight_long = rw tighten_is made_long

  pub tight_other : (t : SlotNumber) → 1 ≤ t.0 → t ≢ s → node_at q t ≡ node_at (tighten q s i) t
  tight_other = rw tighten_is made_other

  pub tight_below : SameBelow q (tighten q s i) (suc (suc l))
  tight_below = rw tighten_is made_below

  pub tight_free : free_count (tighten q s i) ≡ free_count q
  tight_free = rw tighten_is (put_used q s (node (suc (suc l)) entries) now_slot (omega arith) (omega (arith, top_level)))

  pub tight_head : SameHead q (tighten q s i)
  tight_head = rw tighten_is (put_head q s (node (suc (suc l)) entries))

  -- the child has a tree of its level in q, with entries enough
  module _ (tree : Tree q (suc l) (child_at p s i)) (enough : least ≤ length (entries_at q (child_at p s i))) where
    -- the child's entry is the one that its parent is to have
    tight_fits : Fits q (suc (suc l)) tight_entry
    unfolding entry_for child_of
    tight_fits = fits_inner q tight_entry l (record { child = tree; enough = enough; tight = refl })

    beside_fits_now : (y : Entry) → Among y (without i (entries_at p s)) → Fits q (suc (suc l)) y
    beside_fits_now y m = fits_frame p q b.long (suc (suc l)) y (beside_same y m) (beside_fits p l s b.tree i b.there y m)

    fit_now : (y : Entry) → Among y entries → Fits q (suc (suc l)) y
    fit_now y m =
        ⊎_elim (λ e. subst (Fits q (suc (suc l))) (sym e) tight_fits) (beside_fits_now y) (among_set (entries_at p s) i y tight_entry m)

    made_tree : Tree made (suc (suc l)) s
    made_tree =
        tree_made made s entries ((put_slot q s (node (suc (suc l)) entries) s).1 now_slot) (omega (arith, as_many, here.few)) (suc l) made_at
        (λ y m. fits_below q made (suc (suc l)) made_below (suc (suc l)) y (omega arith) (fit_now y m) made_long)

    pub tight_tree : Tree (tighten q s i) (suc (suc l)) s
    tight_tree = rw tighten_is made_tree

    tight_weight : (w : Weights) → weight_under w q (suc (suc l)) tight_entry ≡ weight_at w (spot q (suc l) (child_at p s i))
    unfolding entry_for child_of
    tight_weight w = weight_inner w q l tight_entry

    made_weighs : (w : Weights) → weight_at w (spot made (suc (suc l)) s)
        ≡ w.of_slot s + weight_at w (spot q (suc l) (child_at p s i)) + total (map (weight_under w p (suc (suc l))) (without i (entries_at p s)))
    made_weighs w =
        omega (
          arith,
          weight_made w made (suc l) s entries made_at,
          total_below q made w (suc (suc l)) made_below (suc (suc l)) entries (omega arith) fit_now,
          total_set (weight_under w q (suc (suc l))) (entries_at p s) i tight_entry b.there,
          tight_weight w,
          total_alike (weight_under w q (suc (suc l))) (weight_under w p (suc (suc l))) (without i (entries_at p s))
              (λ y m. weight_frame p q w (suc (suc l)) y (beside_same y m)),
        )

    -- its weight differs by what the child's tree weighs more or less
    pub tight_weighs : (w : Weights) → weight_at w (spot (tighten q s i) (suc (suc l)) s) + weight_at w (spot p (suc l) (child_at p s i))
        ≡ weight_at w (spot p (suc (suc l)) s) + weight_at w (spot q (suc l) (child_at p s i))
    tight_weighs w = rw tighten_is (omega (arith, made_weighs w, weight_child p l s b.tree i b.there w))
