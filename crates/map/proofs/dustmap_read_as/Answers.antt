-- An edition is told, or none.
use mathlib.Core.Path.{sym, ◌∙◌}
use mir.Facts.{to_z-of_z}
use mir.Syntax.{w32}
use borrow.Author.Rules.{sfits_of}
use Rattle.map.proofs.Editions.{reads_told, reads_not}
use Rattle.map.proofs.Numbers.{read_told}
use Rattle.map.proofs.dustmap_read_as.Goals as goal

pub returns-in-Some : goal.returns-in-Some
returns-in-Some c =
    let told = rw (to_z-of_z c.ranges.edition, to_z-of_z c.ranges.rule) at c.edition_told.ensures in
    rw (to_z-of_z {w = w32} {z = c.number.result} (sfits_of c.number.type_inv), read_told c.read.result c.number.result c.number.ensures)
    (reads_told c.args.edition c.args.rule c.args.pool.now c.args.work.now c.args.file.now c.in-Some.e
    (sym told ∙ c.in-Some.is) _ _ _ c.read.ensures)

pub returns-in-None : goal.returns-in-None
returns-in-None c =
    let told = rw (to_z-of_z c.ranges.edition, to_z-of_z c.ranges.rule) at c.edition_told.ensures in
    reads_not c.args.edition c.args.rule c.args.pool.now c.args.work.now c.args.file.now
    (sym told ∙ c.in-None.is)
