-- A slot begins before word 204,808, so no sum on the way to it is too large.
use mathlib.Core.Path.{ap}
use Prim.Native.Nat.{ℕ, ◌*◌, ◌-◌}
use native.Mathlib.Omega.{arith}
use Rattle.pool.proofs.Lengths.{size_few}
use Rattle.pool.proofs.start_in.Goals as goal

pub overflow_mul-result : goal.overflow_mul-result
overflow_mul-result c =
    let n = c.args.s.0 - 1 in
    let is = ap (λ (k : ℕ). k * n) c.slot_size.ensures in
    record { fits = omega (arith, is, size_few c.args.edition n (omega (arith, c.requires.1))) }

pub overflow_add-result : goal.overflow_add-result
overflow_add-result c =
    let n = c.args.s.0 - 1 in
    let is = ap (λ (k : ℕ). k * n) c.slot_size.ensures in
    record { fits = omega (arith, is, size_few c.args.edition n (omega (arith, c.requires.1))) }
