-- `rect_at`: four words, each where the definition finds it.
use mathlib.Core.Path.{◌∙◌}
use Rattle.frames.proofs.Requests.{rect_made}
use Rattle.frames.proofs.Words.{word_kept}
use Rattle.frames.proofs.rect_at.Goals as goal

pub returns : goal.returns
returns c =
    rect_made c.args.bytes.now c.args.at (word_kept c.word_at-lowX.type_inv ∙ c.word_at-lowX.ensures)
    (word_kept c.word_at-lowY.type_inv ∙ c.word_at-lowY.ensures) (word_kept c.word_at-highX.type_inv ∙ c.word_at-highX.ensures)
    (word_kept c.word_at-highY.type_inv ∙ c.word_at-highY.ensures)
