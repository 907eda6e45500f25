use native.Mathlib.Omega.{arith}
use mir.Syntax.{w32}
use mir.ValLaws.{to_z_pos}
use Rattle.layout_laws.proofs.Parts.{right_size}
use Rattle.layout_laws.proofs.Written.{records_read, records_fit}
use Rattle.pool.proofs.put_records.Goals as goal

pub bounds-pool-3 : goal.bounds-pool-3
bounds-pool-3 c = omega (arith, right_size c.args.pool.now c.requires.fit_2.right)

pub returns : goal.returns
returns c = rw (to_z_pos w32 c.args.n (omega (arith, c.requires.n_bound))) record {
  is = records_read c.requires.fit_2 c.args.n;
  fit = records_fit c.requires.fit_2 c.args.n;
}
