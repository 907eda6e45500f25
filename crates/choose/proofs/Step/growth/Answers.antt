use Rattle.choose.proofs.Turns.{in_node}
use Rattle.choose.proofs.Step.growth.Goals as goal

pub rect-requires : goal.rect-requires
rect-requires c = in_node c.args.self.now.node c.requires
