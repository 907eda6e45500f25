-- The entry's rectangle meets the window where the comparison says so.
use mathlib.Core.Path.{sym, ap, ◌∙◌}
use mathlib.Core.Bool.{Bool, cond}
use Rattle.rules.specs.Layout.{read}
use Rattle.search.proofs.Meeting.{met_is}
use Rattle.search.proofs.met.Goals as goal

pub returns-clause-is : goal.returns-clause-is
returns-clause-is c =
    c.one_if.ensures.is
    ∙ sym (ap (λ (t : Bool). cond t 1 0)
    (met_is (read c.args.node.now.words.now) c.args.window c.args.node.now.slot c.args.i c.rect.result
    c.is_meeting.result c.rect.ensures (rw c.compare.ensures at c.is_meeting.ensures)))
