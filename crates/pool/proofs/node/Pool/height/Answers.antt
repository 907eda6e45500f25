use native.Mathlib.Omega.{arith}
use Rattle.layout_laws.proofs.Parts.{right_size}
use Rattle.rules.specs.Layout.{read}
use Rattle.pool.proofs.node.Pool.height.Goals as goal

pub number_at-requires : goal.number_at-requires
number_at-requires c = omega (arith, right_size c.args.self.now.words.now c.args.self.now.right)

pub returns : goal.returns
unfolding read
returns c = c.number_at.ensures
