use lib.Ieee.{of_bits, neg}
use Rattle.survey_laws.proofs.Values.{is_double}
use Rattle.survey_laws.proofs.Ranges.{moderate_is}
use Rattle.survey.proofs.moderate.Goals as goal

pub returns : goal.returns
unfolding of_bits neg
returns c = moderate_is c.args.x (is_double c.args.x c.well_formed.0.1)
