use mathlib.Core.Path.{◌≡◌}
use Rattle.rules.specs.Split.{pick_seeds}
use Rattle.split.specs.State.{rects_of, seeds_of, Wasting}
use Rattle.split.proofs.Rows.{outer}
use Rattle.split.proofs.seeds.pick_seeds.Given as goal

-- the pair has its d, and the first members from i on give what all give
abbrev pub invariant-loop-first : goal.invariant-loop-first
invariant-loop-first l =
    let rs = rects_of l.nine in Wasting rs l.b.item l.b.key × (outer rs (seeds_of l.b.item) l.first ≡ pick_seeds rs)
