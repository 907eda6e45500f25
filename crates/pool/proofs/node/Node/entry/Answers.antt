use Rattle.rules.specs.Layout.{read}
use Rattle.layout_laws.proofs.Parts.{entry_parts}
use Rattle.pool.proofs.node.Node.entry.Goals as goal

pub returns : goal.returns
returns c =
    let n = c.args.self.now in
    rw (c.rect.ensures, c.pointer.ensures) (entry_parts (read n.words.now) n.slot c.args.i)
