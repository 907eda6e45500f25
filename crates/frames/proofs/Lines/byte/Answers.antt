use Rattle.frames.proofs.Texts.{adds_byte}
use Rattle.frames.proofs.Lines.byte.Goals as goal

pub returns : goal.returns
returns c = adds_byte c.args.self.now c.args.byte
