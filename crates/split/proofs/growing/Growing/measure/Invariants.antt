use mathlib.Core.Path.{◌≡◌}
use lib.ListN.{take}
use Rattle.split.specs.State.{rects_of, standing, Grows}
use Rattle.split.proofs.growing.Growing.measure.Given as goal

abbrev pub invariant-loop-i : goal.invariant-loop-i
invariant-loop-i l =
    Grows (rects_of l.nine) l.self.cover.rect (take l.i (standing l.left)) l.self.grows × (l.self.group ≡ l.fn.self.group) × (l.self.cover ≡ l.fn.self.cover)
