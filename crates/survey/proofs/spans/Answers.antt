-- The three tests, in the order in which `spans_is` has them.
use mathlib.Core.Bool.{true, false}
use lib.Ieee.{of_bits, neg, le}
use mathlib.Core.Path.{◌∙◌}
use Rattle.std.proofs.Math.Bool.{and_assoc}
use Rattle.survey_laws.proofs.Values.{is_double}
use Rattle.survey_laws.proofs.Ranges.{end, spans_is}
use Rattle.survey.proofs.spans.Goals as goal

pub returns : goal.returns
unfolding of_bits neg
returns c =
    let l = c.args.low in
    let h = c.args.high in
    let e = spans_is l h (is_double l c.well_formed.0.1) (is_double h c.well_formed.1.0.1) in
    and_assoc (le (end true) l) (le l h) (le h (end false)) ∙ e
