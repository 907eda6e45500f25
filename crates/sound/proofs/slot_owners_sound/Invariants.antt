use mathlib.Core.Path.{◌≡◌}
use mathlib.Core.Bool.{Bool, ◌&&◌}
use mathlib.Core.List.{List}
use Prim.Native.Nat.{ℕ}
use lib.Dec.{eqb}
use lib.ListN.{length, drop}
use lib.IntN.{ℤ}
use Rattle.rules.specs.declared.SlotNumber.{SlotNumber}
use Rattle.rules.specs.Lists.{every}
use Rattle.rules.specs.Pool.{node_at, entries_at}
use Rattle.rules.specs.Layout.{read}
use Rattle.sound.specs.Walked.{places_of}
use Rattle.sound.proofs.Owners.{fits_at}
use Rattle.sound.proofs.slot_owners_sound.Given as goal

-- what was asked so far, with the places from i on
pub record Turn (w : List ℤ) (s : SlotNumber) (leaf : Bool) (n : ℕ) (all : Bool) (i : ℕ) : Type 0 where
  pub leaf_is : leaf ≡ eqb (node_at (read w) s).level 1
  pub size : n ≡ length (entries_at (read w) s)
  pub asked : (all && every (fits_at w s) (drop i (places_of w s))) ≡ every (fits_at w s) (places_of w s)

abbrev pub invariant-loop-i : goal.invariant-loop-i
invariant-loop-i l = Turn l.node.words.now l.node.slot l.leaf l.n l.all l.i
