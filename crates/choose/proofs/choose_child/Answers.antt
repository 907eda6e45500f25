use Rattle.choose.proofs.Turns.{in_node}
use Rattle.choose.proofs.choose_child.Goals as goal

pub returns-clause-there : goal.returns-clause-there
returns-clause-there c = in_node c.args.node.now c.choose.ensures.there
