-- A node of a tree, as the walk comes to it: it is a slot of the pool, of the level that the walk takes it for, and a tree is at each child.
use mathlib.Core.Path.{◌≡◌, ◌∙◌}
use mathlib.Core.Logic.{◌≢◌}
use mathlib.Core.Bool.{true, false}
use mathlib.Core.List.{List}
use Prim.Native.Nat.{ℕ, zero, suc, ◌-◌, ◌≤◌, ◌<◌}
use native.Mathlib.Numerals.{sub-one}
use native.Mathlib.Omega.{arith}
use lib.ListN.{length, get_or}
use lib.IntN.{ℤ}
use borrow.Author.Tests.{ne_eqb}
use Rattle.rules.specs.declared.SlotNumber.{SlotNumber}
use Rattle.rules.specs.Pool.{Pool, no_entry, node_at, entries_at, entry_from, entry_at, child_of, is_leaf}
use Rattle.rules.specs.Layout.{valid_length, read}
use Rattle.rules_laws.proofs.Places.{at_place}
use Rattle.layout_laws.specs.Slots.{InPool}
use Rattle.layout_laws.proofs.Parts.{few_slots}
use Rattle.layout_laws.proofs.Written.{read_slots}
use Rattle.nodes.proofs.Slots.{within}
use Rattle.sound_laws.specs.Tree.{Tree, Whole}
use Rattle.sound_laws.proofs.Walk.{inner_of, tree_node, tree_positive}
use Rattle.sound_laws.proofs.Heights.{height_eight}

pub tree_in : (w : List ℤ) (l : ℕ) (s : SlotNumber) → valid_length w ≡ true → Tree (read w) l s → InPool w s
tree_in w l s v d = let n = (tree_node (read w) l s d).slot in within w s v n.low n.high

-- "Height is 8 at most"
pub low_enough : (w : List ℤ) → valid_length w ≡ true → Whole (read w) → (read w).height ≤ 8
low_enough w r whole = height_eight (read w) whole (omega (arith, read_slots w, few_slots w r))

module _ (p : Pool) (level : ℕ) (s : SlotNumber) (d : Tree p level s) where
  pub leaf_level : level ≡ 1 → (node_at p s).level ≡ 1
  leaf_level e = (tree_node p level s d).level ∙ e

  pub above_leaf : level ≢ 1 → 2 ≤ level
  above_leaf h = omega (arith, tree_positive p level s d, h)

  pub no_leaf : level ≢ 1 → is_leaf (node_at p s) ≡ false
  unfolding is_leaf
  no_leaf h = ne_eqb (node_at p s).level 1 (omega (arith, (tree_node p level s d).level, h))

pub child_tree : (p : Pool) (level : ℕ) (s : SlotNumber) → 2 ≤ level → Tree p level s → (i : ℕ) → i < length (entries_at p s)
    → Tree p (level - 1) (child_of (entry_at p s i))
unfolding entry_at entry_from
child_tree p zero s two d i h = absurd (omega arith)
child_tree p (suc zero) s two d i h = absurd (omega arith)
child_tree p (suc (suc l)) s two d i h =
    rw (sub-one (suc (suc l))) ((inner_of p l s d).each (get_or (entries_at p s) i no_entry) (at_place (entries_at p s) i no_entry h)).child
