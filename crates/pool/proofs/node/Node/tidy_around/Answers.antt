use native.Mathlib.Omega.{arith}
use Rattle.layout_laws.proofs.Parts.{room}
use Rattle.pool.proofs.node.Node.tidy_around.Goals as goal

pub tidy_count-count-requires : goal.tidy_count-count-requires
tidy_count-count-requires c = omega (arith, room c.args.self.now.in_pool, c.count_place.ensures)
