use native.Mathlib.Omega.{arith}
use Rattle.pool.proofs.Lengths.{start_most}
use Rattle.pool.proofs.node.Node.count_place.Goals as goal

pub overflow_add-result : goal.overflow_add-result
overflow_add-result c = record { fits = omega (arith, c.start.ensures, start_most c.args.self.now.in_pool) }

pub returns : goal.returns
returns c = omega (arith, c.start.ensures)
