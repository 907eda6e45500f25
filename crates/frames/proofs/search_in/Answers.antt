-- `search_in`: the window from the words after the kind.
use mathlib.Core.Path.{◌∙◌}
use lib.IntN.{pos}
use Rattle.frames.specs.Reading.{kind_number}
use Rattle.frames.proofs.Requests.{search_made, default_none}
use Rattle.frames.proofs.Words.{word_kept}
use Rattle.frames.proofs.search_in.Goals as goal

pub returns : goal.returns
returns c =
    search_made c.args.bytes.now (pos (kind_number c.args.kind)) (word_kept c.number.type_inv ∙ c.number.ensures)
    c.rect_at.ensures (default_none {r = c.default.result} c.default.ensures)
