-- An edition is told, or none.
use mathlib.Core.Path.{sym, ◌∙◌}
use mir.Facts.{to_z-of_z}
use mir.Syntax.{w32}
use borrow.Author.Rules.{sfits_of}
use Rattle.map.proofs.Numbers.{blanked}
use Rattle.map.proofs.Editions.{blanks_told, blanks_not}
use Rattle.map.proofs.dustmap_blank_as.Goals as goal

pub returns-in-Some : goal.returns-in-Some
returns-in-Some c =
    let told = rw (to_z-of_z c.ranges.edition, to_z-of_z c.ranges.rule) at c.edition_told.ensures in
    rw (to_z-of_z {w = w32} {z = c.number.result} (sfits_of c.number.type_inv))
    (blanks_told c.args.edition c.args.rule c.args.pool.now c.in-Some.e (sym told ∙ c.in-Some.is) _ _
    (record {
      number = blanked c.blank.result c.number.result c.number.ensures ∙ c.blank.ensures.number;
      pool = c.blank.ensures.words;
    }))

pub returns-in-None : goal.returns-in-None
returns-in-None c =
    let told = rw (to_z-of_z c.ranges.edition, to_z-of_z c.ranges.rule) at c.edition_told.ensures in
    blanks_not c.args.edition c.args.rule c.args.pool.now (sym told ∙ c.in-None.is)
