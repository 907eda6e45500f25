-- An inner node, a hit at a time, as the code goes: the way of the first child that has the pair, with the hit's place in front, or none.
use mathlib.Core.Path.{◌≡◌, refl, sym, ap, subst, ◌∙◌}
use mathlib.Core.Logic.{◌≢◌}
use mathlib.Core.Bool.{true, false}
use mathlib.Core.List.{List, ◌∷◌}
use Rattle.std.specs.Prelude.{Option, None, Some}
use Prim.Native.Nat.{ℕ, zero, suc, ◌+◌, ◌-◌, ◌*◌, ◌^◌, ◌≤◌, ◌<◌}
use native.Mathlib.Nat.{lt_of_lt_of_le}
use native.Mathlib.Numerals.{add-one, sub-one}
use native.Mathlib.Omega.{arith}
use lib.IntN.{ℤ}
use lib.ListN.{length, drop, get_or, drop_of_length-le}
use lib.Pow.{pow_mono}
use lib.Seq.{drop-cons}
use borrow.Author.Tests.{ne_eqb}
use Rattle.rules.specs.declared.SlotNumber.{SlotNumber}
use Rattle.rules.specs.declared.Record.{Record}
use Rattle.rules.specs.Lists.{up_from}
use Rattle.rules.specs.Compare.{lies_in}
use Rattle.rules.specs.Pool.{Pool, no_entry, node_at, entries_at, entry_from, entry_at, child_of, is_leaf}
use Rattle.rules.specs.Delete.{Path, place, or_later, find_leaf}
use Rattle.rules.specs.Layout.{valid_length, read}
use Rattle.rules_laws.proofs.Places.{Among, at_place, place_of_lem, length_up_from, get_d_up_from}
use Rattle.rules_laws.proofs.Parts.{among_those}
use Rattle.layout_laws.specs.Slots.{InPool}
use Rattle.nodes.proofs.Slots.{within}
use Rattle.sound_laws.specs.Tree.{Tree}
use Rattle.sound_laws.proofs.Walk.{inner_of, tree_node, tree_positive}
use Rattle.delete_laws.specs.Way.{Leads, EachWay}
use Rattle.delete_laws.proofs.Clauses.{or_some, or_none}
use Rattle.delete_laws.proofs.Finds.{find_leads}
use Rattle.find_leaf.specs.State.{holding}
use Rattle.find_leaf.specs.Packed.{bits_below, packed_way}
use Rattle.find_leaf.proofs.Digits.{packed_none, packed_some, packed_cons, some_not_zero, leads_long, leads_small}
use Rattle.find_leaf.proofs.Skips.{first_of, first_none, first_cons, found_at, inner_first}

-- ---- a node of a tree

pub tree_in : (w : List ℤ) (l : ℕ) (s : SlotNumber) → valid_length w ≡ true → Tree (read w) l s → InPool w s
tree_in w l s v d = let n = (tree_node (read w) l s d).slot in within w s v n.low n.high

pub above_leaf : (p : Pool) (level : ℕ) (s : SlotNumber) → Tree p level s → level ≢ 1 → 2 ≤ level
above_leaf p level s d h = omega (arith, tree_positive p level s d, h)

module _ (p : Pool) (level : ℕ) (s : SlotNumber) (two : 2 ≤ level) (d : Tree p level s) where
  pub no_leaf : is_leaf (node_at p s) ≡ false
  unfolding is_leaf
  no_leaf = ne_eqb (node_at p s).level 1 (omega (arith, (tree_node p level s d).level))

pub child_tree : (p : Pool) (level : ℕ) (s : SlotNumber) → 2 ≤ level → Tree p level s → (i : ℕ) → i < length (entries_at p s)
    → Tree p (level - 1) (child_of (entry_at p s i))
unfolding entry_at entry_from
child_tree p zero s two d i h = absurd (omega arith)
child_tree p (suc zero) s two d i h = absurd (omega arith)
child_tree p (suc (suc l)) s two d i h =
    rw (sub-one (suc (suc l))) ((inner_of p l s d).each (get_or (entries_at p s) i no_entry) (at_place (entries_at p s) i no_entry h)).child

-- ---- the way that is found in a tree

module _ (p : Pool) (r : Record) (l : ℕ) (s : SlotNumber) where
  pub found_leads : (path : Path) → find_leaf p r l s ≡ Some path → Leads p r l s path
  found_leads path e = subst (EachWay (Leads p r l s)) e (find_leads p r l s)

  pub found_long : (path : Path) → find_leaf p r l s ≡ Some path → length path ≡ l
  found_long path e = leads_long p r l s path (found_leads path e)

  -- .. fits 32 bits
  pub way_fits : Tree p l s → l ≤ 8 → packed_way (find_leaf p r l s) < 4294967296
  way_fits d few = go (find_leaf p r l s) refl
    where
      go : (o : Option Path) → find_leaf p r l s ≡ o → packed_way o < 4294967296
      go None e = rw packed_none (omega arith)
      go (Some path) e =
          rw (packed_some path)
          (omega (
            arith,
            lt_of_lt_of_le (leads_small p r l s path d (found_leads path e)) (pow_mono {i = 3 * l} {j = 24} (omega (arith, few))),
          ))

-- ---- the hits left

module _ (p : Pool) (r : Record) (level : ℕ) (s : SlotNumber) (hits : List ℕ) where
  abbrev found : ℕ → Option Path
  found = found_at p r (level - 1) s

  -- FindLeaf gives what is found at the hits from the k-th on
  abbrev pub Left : ℕ → Type 0
  Left k = find_leaf p r level s ≡ first_of found s (drop k hits)

  pub left_first : hits ≡ holding p s r.rect → 2 ≤ level → Tree p level s → Left 0
  left_first are two d = inner_first p r level s two d ∙ ap (first_of found s) (sym are)

  module _ (k : ℕ) where
    module _ (h : k < length hits) where
      abbrev i : ℕ
      i = get_or hits k 0

      -- a hit is the place of an entry
      pub hit_there : hits ≡ holding p s r.rect → i < length (entries_at p s)
      unfolding holding
      hit_there are =
          let n = length (entries_at p s) in
          let a : Among i (holding p s r.rect) = subst (Among i) are (at_place hits k 0 h) in
          let m = place_of_lem ((among_those (λ j. lies_in r.rect (entry_at p s j).rect) i (up_from 0 n)).0 a).0 in
          let q : m.0 < n = omega (arith, m.1, length_up_from 0 n) in
          omega (arith, m.2 0, get_d_up_from 0 n m.0 0 q, q)

      module _ (t : Left k) where
        abbrev later : Option Path
        later = first_of found s (drop (suc k) hits)

        here : find_leaf p r level s ≡ or_later s i (found i) later
        here = t ∙ ap (first_of found s) (drop-cons hits k 0 h) ∙ first_cons found s i (drop (suc k) hits)

        module _ (w : ℕ) (e : w ≡ packed_way (found i)) where
          pub left_found : w ≢ 0 → w + i * 2 ^ bits_below level ≡ packed_way (find_leaf p r level s)
          left_found f = go (found i) refl
            where
              go : (o : Option Path) → found i ≡ o → w + i * 2 ^ bits_below level ≡ packed_way (find_leaf p r level s)
              go None q = absurd (f (e ∙ ap packed_way q ∙ packed_none))
              go (Some path) q =
                  let n = found_long p r (level - 1) (child_of (entry_at p s i)) path q in
                  let v = e ∙ ap packed_way q ∙ packed_some path in
                  let z = here ∙ ap (λ (x : Option Path). or_later s i x later) q ∙ or_some s i path later in
                  rw (z, packed_some (place s i ∷ path), packed_cons s i path, n) (omega (arith, v))

          pub left_next : w ≡ 0 → Left (k + 1)
          left_next f = go (found i) refl
            where
              go : (o : Option Path) → found i ≡ o → Left (k + 1)
              go None q = rw (add-one k) (here ∙ ap (λ (x : Option Path). or_later s i x later) q ∙ or_none s i later)
              go (Some path) q = absurd (some_not_zero path (sym (ap packed_way q) ∙ sym e ∙ f))

    pub left_end : length hits ≤ k → Left k → 0 ≡ packed_way (find_leaf p r level s)
    left_end h t =
        let e = drop_of_length-le hits {i = k} (omega arith) in
        sym (ap packed_way (t ∙ ap (first_of found s) e ∙ first_none found s) ∙ packed_none)
