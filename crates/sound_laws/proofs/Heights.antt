-- How high a tree can be: a tree whose nodes have at least three entries has three times as many leaves for each further level.
use mathlib.Core.Path.{◌≡◌, refl, sym}
use mathlib.Core.Logic.{◌⊎◌, inl, inr, ⊎_elim}
use mathlib.Core.List.{List, map}
use Prim.Native.Nat.{ℕ, zero, suc, ◌+◌, ◌*◌, ◌-◌, ◌^◌, ◌≤◌}
use native.Mathlib.Nat.{pow-zero, pow-suc, pow-le-pow_right, mul-le-mul_left}
use native.Mathlib.Decide.{dec_le}
use native.Mathlib.Omega.{arith}
use lib.ListN.{length, length-map}
use Rattle.rules.specs.declared.SlotNumber.{SlotNumber}
use Rattle.rules.specs.declared.Entry.{Entry}
use Rattle.rules.specs.Lists.{joined}
use Rattle.rules.specs.Numbers.{least, most_slots}
use Rattle.rules.specs.Pool.{Pool, entries_at, child_of, record_of}
use Rattle.rules_laws.proofs.Places.{Among}
use Rattle.rules_laws.proofs.Sums.{total_least}
use Rattle.rules_laws.proofs.Joins.{joined_length}
use Rattle.sound_laws.specs.Tree.{slots_in, records_in, tree_slots, Tree, Whole}
use Rattle.sound_laws.proofs.Walk.{slots_leaf, slots_inner, records_leaf, records_inner, no_tree, inner_of}
use Rattle.sound_laws.proofs.Whole.{stored_length, tree_in_slots}

-- k parts, or more, of c members each, or more
many_parts : {A B : Type 0} (g : A → List B) (c k : ℕ) (xs : List A) → k ≤ length xs → ((x : A) → Among x xs → c ≤ length (g x))
    → c * k ≤ length (joined (map g xs))
many_parts g c k xs h each =
    omega (arith, joined_length g xs, total_least (λ x. length (g x)) c xs each, mul-le-mul_left c h)

-- the fewest slots of a tree of l levels, each node with three entries: 1 + 3 + 9 ..
fewest_slots : ℕ → ℕ
fewest_slots zero = 0
fewest_slots (suc l) = suc (fewest_slots l * 3)

fewest_is : (l : ℕ) → 2 * fewest_slots l + 1 ≡ 3 ^ l
unfolding fewest_slots
fewest_is zero = sym (pow-zero 3)
fewest_is (suc l) = omega (arith, pow-suc 3 l, fewest_is l)

module _ (p : Pool) where
  slots_least : (l : ℕ) (s : SlotNumber) → Tree p (suc l) s → least ≤ length (entries_at p s) → fewest_slots (suc l) ≤ length (slots_in p (suc l) s)
  unfolding fewest_slots
  slots_least zero s d h = rw (slots_leaf p s) (omega arith)
  slots_least (suc l) s d h =
      rw (slots_inner p s l)
      (omega (
        arith,
        many_parts (λ (e : Entry). slots_in p (suc l) (child_of e)) (fewest_slots (suc l)) 3 (entries_at p s) h
            (λ e m. let i = (inner_of p l s d).each e m in slots_least l (child_of e) i.child i.enough),
      ))

  -- at least 1 + 3 + .. + 3^l slots, which is (3^(l + 1) - 1) / 2
  pub tree_slots_lem : (l : ℕ) (s : SlotNumber) → Tree p (suc l) s → least ≤ length (entries_at p s) → 3 ^ suc l ≤ 2 * length (slots_in p (suc l) s) + 1
  tree_slots_lem l s d h = omega (arith, fewest_is (suc l), slots_least l s d h)

  pub tree_leaves : (l : ℕ) (s : SlotNumber) → Tree p (suc l) s → least ≤ length (entries_at p s) → 3 ^ l ≤ length (slots_in p (suc l) s)
  tree_leaves l s d h = omega (arith, pow-suc 3 l, tree_slots_lem l s d h)

  pub tree_records_lem : (l : ℕ) (s : SlotNumber) → Tree p (suc l) s → least ≤ length (entries_at p s) → 3 ^ suc l ≤ length (records_in p (suc l) s)
  tree_records_lem zero s d h = rw (records_leaf p s, length-map (entries_at p s) record_of) h
  tree_records_lem (suc l) s d h =
      rw (records_inner p s l, pow-suc 3 (suc l))
      (many_parts (λ (e : Entry). records_in p (suc l) (child_of e)) (3 ^ suc l) 3 (entries_at p s) h
      (λ e m. let i = (inner_of p l s d).each e m in tree_records_lem l (child_of e) i.child i.enough))

  -- the root, with at least two entries where it is no leaf
  module _ (s : SlotNumber) (two : 2 ≤ length (entries_at p s)) where
    root_slots : (l : ℕ) → Tree p (suc (suc l)) s → 3 ^ suc l ≤ length (slots_in p (suc (suc l)) s)
    root_slots l d =
        rw (slots_inner p s l)
        (omega (
          arith,
          fewest_is (suc l),
          many_parts (λ (e : Entry). slots_in p (suc l) (child_of e)) (fewest_slots (suc l)) 2 (entries_at p s) two
              (λ e m. let i = (inner_of p l s d).each e m in slots_least l (child_of e) i.child i.enough),
        ))

    root_records : (l : ℕ) → Tree p (suc (suc l)) s → 2 * 3 ^ suc l ≤ length (records_in p (suc (suc l)) s)
    root_records l d =
        rw (records_inner p s l)
        (omega (
          arith,
          many_parts (λ (e : Entry). records_in p (suc l) (child_of e)) (3 ^ suc l) 2 (entries_at p s) two
              (λ e m. let i = (inner_of p l s d).each e m in tree_records_lem l (child_of e) i.child i.enough),
        ))

  top_slots : (h : ℕ) (s : SlotNumber) → Tree p h s → (2 ≤ h → 2 ≤ length (entries_at p s)) → 3 ^ (h - 1) ≤ length (slots_in p h s)
  top_slots zero s d two = absurd (no_tree p s d)
  top_slots (suc zero) s d two = rw (slots_leaf p s) (omega arith)
  top_slots (suc (suc l)) s d two = let e : suc (suc l) - 1 ≡ suc l = omega arith in rw e (root_slots s (two (omega arith)) l d)

  top_records : (h : ℕ) (s : SlotNumber) → Tree p h s → (2 ≤ h → 2 ≤ length (entries_at p s)) → (h ≡ 1) ⊎ (2 * 3 ^ (h - 1) ≤ length (records_in p h s))
  top_records zero s d two = absurd (no_tree p s d)
  top_records (suc zero) s d two = inl refl
  top_records (suc (suc l)) s d two = let e : suc (suc l) - 1 ≡ suc l = omega arith in inr (rw e (root_records s (two (omega arith)) l d))

  module _ (w : Whole p) where
    -- "a tree of height h has at least 3^(h-1) nodes"
    pub height_nodes : 3 ^ (p.height - 1) ≤ length (tree_slots p)
    height_nodes = top_slots p.height p.root w.tree w.two

    pub height_slots : 3 ^ (p.height - 1) ≤ length p.slots
    height_slots = omega (arith, height_nodes, tree_in_slots p w)

    -- "Height is 8 at most"
    pub height_eight : length p.slots ≤ most_slots → p.height ≤ 8
    height_eight few = go (dec_le 9 p.height)
      where
        go : Dec (9 ≤ p.height) → p.height ≤ 8
        go (yes h) =
            let more : 3 ^ 8 ≤ 3 ^ (p.height - 1) = pow-le-pow_right {n = 3} (omega arith) {i = 8} {j = p.height - 1} (omega arith) in
            omega (arith, height_slots)
        go (no h) = omega arith

    -- "h = 1, or 2·3^(h-1) ≤ n"
    pub height_records : (p.height ≡ 1) ⊎ (2 * 3 ^ (p.height - 1) ≤ p.records)
    height_records = ⊎_elim inl (λ h. inr (omega (arith, h, stored_length p w, w.counted))) (top_records p.height p.root w.tree w.two)
