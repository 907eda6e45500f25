-- The two tests are those of `box_window`, and what is rounded is then in range.
use Rattle.std.proofs.Common.{◌&&◌, sym, ap, ◌∙◌, ap₂}
use Rattle.std.specs.Prelude.{Ok}
use Rattle.survey_laws.proofs.Boxes.{box_within, box_yes, box_no}
use Rattle.survey.proofs.box_window.Goals as goal

pub outward-requires : goal.outward-requires
outward-requires c =
    let b = c.args.b in
    box_within b (sym (ap₂ ◌&&◌ c.spans.ensures c.spans-2.ensures) ∙ c.if-spans.true)

pub returns-then-spans : goal.returns-then-spans
returns-then-spans c =
    let b = c.args.b in
    ap Ok c.outward.ensures
    ∙ box_yes b _ (ap₂ ◌&&◌ c.spans.ensures c.spans-2.ensures) c.if-spans.true

pub returns-else-spans : goal.returns-else-spans
returns-else-spans c =
    box_no c.args.b _ (ap₂ ◌&&◌ c.spans.ensures c.spans-2.ensures) c.if-spans.false
