use Rattle.std.proofs.Common.{sym, ap, ◌∙◌}
use lib.Ieee.{Float}
use Rattle.rules.specs.Survey.{outward, further}
use Rattle.rules.specs.Doubles.{Double}
use Rattle.rules.specs.declared.Query.TheVariants.{Disc}
use Rattle.survey_laws.specs.Queries.{OfDoubles}
use Rattle.survey_laws.proofs.Values.{is_double}
use Rattle.survey_laws.proofs.Discs.{spread_within, spread_small, disc_yes, disc_no}
use Rattle.survey.proofs.disc_window.Goals as goal

of_doubles : (x y radius : Float) → Double x → Double y → Double radius → OfDoubles (Disc x y radius)
of_doubles x y radius a b r = (a, b, r)

pub outward-r-requires : goal.outward-r-requires
outward-r-requires c =
    let g = sym c.good_disc.ensures ∙ c.if-good_disc.true in
    rw c.spread.ensures
    (spread_within c.args.x c.args.y c.args.radius
    (of_doubles _ _ _ (is_double c.args.x c.well_formed.0.1) (is_double c.args.y c.well_formed.1.0.1)
    (is_double c.args.radius c.well_formed.1.1.0.1)) g)

pub further-s-requires : goal.further-s-requires
further-s-requires c =
    let g = sym c.good_disc.ensures ∙ c.if-good_disc.true in
    rw (c.outward-r.ensures, c.spread.ensures)
    (spread_small c.args.x c.args.y c.args.radius
    (of_doubles _ _ _ (is_double c.args.x c.well_formed.0.1) (is_double c.args.y c.well_formed.1.0.1)
    (is_double c.args.radius c.well_formed.1.1.0.1)) g)

pub returns-then-good_disc : goal.returns-then-good_disc
returns-then-good_disc c =
    let g = sym c.good_disc.ensures ∙ c.if-good_disc.true in
    c.finish.ensures
    ∙ disc_yes c.args.x c.args.y c.args.radius c.further-s.result g
    (c.further-s.ensures ∙ ap further (c.outward-r.ensures ∙ ap outward c.spread.ensures))

pub returns-else-good_disc : goal.returns-else-good_disc
returns-else-good_disc c =
    disc_no c.args.x c.args.y c.args.radius (sym c.good_disc.ensures ∙ c.if-good_disc.false)
