use native.Mathlib.Omega.{arith}
use mir.Syntax.{w32}
use mir.ValLaws.{to_z_pos}
use Rattle.layout_laws.proofs.Parts.{right_size}
use lib.ListN.{length-set}
use Rattle.layout_laws.proofs.Written.{root_read, root_fit}
use Rattle.pool.proofs.put_root.Goals as goal

pub bounds-pool-1 : goal.bounds-pool-1
bounds-pool-1 c = omega (arith, right_size c.args.pool.now c.requires.fit_2.right)

pub bounds-pool-2 : goal.bounds-pool-2
bounds-pool-2 c = rw (length-set c.args.pool.now _ _) (omega (arith, right_size c.args.pool.now c.requires.fit_2.right))

pub returns : goal.returns
returns c =
    let s = c.args.s in
    let h = c.args.height in
    let e = to_z_pos w32 s.0 (omega (arith, c.requires.s_le_most_slots)) in
    let f = to_z_pos w32 h (omega (arith, c.requires.s_le_most_slots)) in
    rw (e, f) record {
      is = root_read c.requires.fit_2 s h;
      fit = root_fit c.requires.fit_2 s h;
    }
