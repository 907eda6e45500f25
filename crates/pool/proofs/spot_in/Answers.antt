-- An entry begins before word 204,858, so no sum on the way to it is too large.
use mathlib.Core.Path.{ap}
use Prim.Native.Nat.{ℕ, ◌*◌, ◌-◌}
use native.Mathlib.Omega.{arith}
use Rattle.pool.proofs.Lengths.{size_few, entries_few}
use Rattle.pool.proofs.spot_in.Goals as goal

pub overflow_add-result-2 : goal.overflow_add-result-2
overflow_add-result-2 c =
    let e = c.args.edition in
    let s = c.args.s in
    let is = ap (λ (k : ℕ). k * c.args.i) c.entry_size.ensures in
    let begins = size_few e (s.0 - 1) (omega (arith, c.requires.le_s.1)) in
    record { fits = omega (arith, is, entries_few e c.args.i (omega (arith, c.requires.i_lt_most)), c.start_in.ensures, begins) }
