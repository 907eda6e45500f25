use mathlib.Core.Path.{◌≡◌}
use mathlib.Core.List.{map, ◌++◌}
use Prim.Native.Nat.{◌+◌}
use lib.ListN.{take}
use Rattle.pool.specs.Reading.{entries_of}
use Rattle.delete.specs.Aside.{aside, asides_of}
use Rattle.delete.proofs.set_aside.Given as goal

abbrev pub invariant-loop-k : goal.invariant-loop-k
invariant-loop-k l =
    (asides_of l.asides ≡ asides_of l.initial.asides ++ map (aside l.level) (take l.k (entries_of l.node)))
    × (l.asides.count ≡ l.initial.asides.count + l.k)
    × (l.asides.free ≡ l.initial.asides.free)
