-- `update_in`: number, old and new rectangle from the words after the kind.
use mathlib.Core.Path.{◌∙◌}
use Rattle.frames.proofs.Requests.{update_made}
use Rattle.frames.proofs.Words.{word_kept}
use Rattle.frames.proofs.update_in.Goals as goal

pub returns : goal.returns
returns c =
    update_made c.args.bytes.now (word_kept c.number.type_inv ∙ c.number.ensures)
    (word_kept c.word_at.type_inv ∙ c.word_at.ensures) c.rect_at.ensures c.rect_at-2.ensures
