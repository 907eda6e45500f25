use mathlib.Core.Path.{sym}
use native.Mathlib.Omega.{arith}
use Rattle.layout_laws.proofs.Parts.{room, slot_level}
use Rattle.pool.proofs.node.Node.level.Goals as goal

pub number_at-requires : goal.number_at-requires
number_at-requires c = omega (arith, room c.args.self.now.in_pool, c.start.ensures)

pub returns : goal.returns
returns c = rw (c.number_at.ensures, c.start.ensures) (sym (slot_level c.args.self.now.in_pool))
