use Rattle.pool.proofs.Lengths.{some_word}
use Rattle.pool.proofs.node.Node.at.Goals as goal

pub edition_of-edition-requires : goal.edition_of-edition-requires
edition_of-edition-requires c = some_word c.args.words.now c.requires.right
