use lib.ListN.{get_or}
use lib.IntN.{pos}
use mir.Syntax.{w32}
use mir.Facts.{to_z-of_z}
use borrow.Author.Rules.{sfits_of}
use Rattle.rules.specs.Layout.{word_at}
use Rattle.pool.proofs.word.Goals as goal

pub returns : goal.returns
unfolding word_at
returns c = to_z-of_z {w = w32} {z = get_or c.args.pool.now c.args.at (pos 0)} (sfits_of c.result-1.given)
