use lib.Ieee.{of_bits}
use Rattle.survey_laws.proofs.Values.{is_double}
use Rattle.survey_laws.proofs.Discs.{disc_test}
use Rattle.survey.proofs.good_disc.Goals as goal

pub returns : goal.returns
unfolding of_bits
returns c =
    rw (c.moderate-3.ensures, c.moderate-2.ensures, c.moderate.ensures)
    (disc_test c.args.x c.args.y c.args.radius (is_double c.args.radius c.well_formed.1.1.0.1))
