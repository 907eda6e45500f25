-- In a whole pool a rectangle comes from the root down to a leaf, and both numbers are small.
use mathlib.Core.Path.{◌≡◌, subst}
use mathlib.Core.Bool.{true}
use mathlib.Core.List.{List}
use Prim.Native.Nat.{ℕ, ◌-◌, ◌≤◌, ◌<◌}
use native.Mathlib.Omega.{arith}
use lib.ListN.{length}
use lib.IntN.{ℤ}
use Rattle.rules.specs.declared.Rect.{Rect}
use Rattle.rules.specs.Numbers.{most_slots}
use Rattle.rules.specs.Geometry.{valid}
use Rattle.rules.specs.Pool.{Pool, entries_at, free_count}
use Rattle.rules.specs.Layout.{valid_length, read}
use Rattle.rules.specs.Insert.{ours}
use Rattle.rules.specs.Room.{slots_needed}
use Rattle.rules_laws.proofs.Parts.{those_fewer}
use Rattle.rules_laws.proofs.Splits.{ours_lawful}
use Rattle.nodes.proofs.Slots.{most_slots_lem}
use Rattle.sound_laws.specs.Tree.{Tree, Whole}
use Rattle.sound_laws.proofs.Free.{is_free}
use Rattle.sound_laws.proofs.Heights.{height_eight}
use Rattle.sound_laws.proofs.Walk.{tree_positive}
use Rattle.insert_laws.proofs.Slots.{needs_few}
use Rattle.insert.specs.State.{WayDown}

module _ (w : List ℤ) (new : Rect) where
  abbrev p : Pool
  p = read w

  module _ (right : valid_length w ≡ true) (h : Whole p) where
    few : length p.slots ≤ most_slots
    few = most_slots_lem w right

    pub high : 1 ≤ p.height
    high = tree_positive p p.height p.root h.tree

    some : 2 ≤ p.height → 0 < length (entries_at p p.root)
    some z = omega (arith, h.two z)

    pub leaf_way : valid new ≡ true → WayDown p (p.height - 1) p.root new
    leaf_way v =
        record {
          level = 1;
          low = omega arith;
          tree = subst (λ (k : ℕ). Tree p k p.root) (omega (arith, high)) h.tree;
          some = λ z. some (omega arith);
          few = omega (arith, height_eight p h few);
          good = v;
        }

    pub needed_few : slots_needed ours 1 p new ≤ 9
    needed_few = omega (arith, needs_few ours ours_lawful p 1 (omega arith) high h.tree some new, height_eight p h few)

    pub free_few : free_count p ≤ 4096
    unfolding free_count
    free_few = omega (arith, few, those_fewer is_free p.slots)
