use Rattle.choose.proofs.Turns.{in_node}
use Rattle.choose.proofs.Step.measured.Goals as goal

pub rect-r-requires : goal.rect-r-requires
rect-r-requires c = in_node c.args.self.now.node c.requires
