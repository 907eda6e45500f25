use mathlib.Core.Path.{ap, ◌∙◌}
use Rattle.pool.proofs.Naturals.{word_read}
use borrow.Author.Rules.{sfits_of}
use Rattle.rules.specs.Layout.{natural}
use Rattle.pool.proofs.number_at.Goals as goal

pub returns : goal.returns
returns c =
    c.natural.ensures ∙ ap natural (word_read (sfits_of c.word.type_inv) c.word.ensures)
