-- `change_in`: number and rectangle from the words after the kind; the second rectangle is not used.
use mathlib.Core.Path.{◌∙◌}
use lib.IntN.{pos}
use Rattle.frames.specs.Reading.{kind_number}
use Rattle.frames.proofs.Requests.{change_made, default_none}
use Rattle.frames.proofs.Words.{word_kept}
use Rattle.frames.proofs.change_in.Goals as goal

pub returns : goal.returns
returns c =
    change_made c.args.bytes.now (pos (kind_number c.args.kind)) (word_kept c.number.type_inv ∙ c.number.ensures)
    (word_kept c.word_at.type_inv ∙ c.word_at.ensures) c.rect_at.ensures (default_none {r = c.default.result} c.default.ensures)
