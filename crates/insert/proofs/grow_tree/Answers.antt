-- `insert::grow_tree` meets its contract: a root that is one node is the root still. (A root that was split gets a new one above it.)
use Rattle.insert.proofs.Roots.{grown_one}
use Rattle.insert.proofs.grow_tree.Goals as goal

pub returns-in-None : goal.returns-in-None
returns-in-None c = grown_one c.args.pool.now c.args.grown c.in-None.is c.requires.fitted
