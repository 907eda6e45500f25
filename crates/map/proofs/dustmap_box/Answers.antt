use mathlib.Core.Path.{sym}
use mir.Facts.{to_z-of_z}
use mir.Syntax.{w32}
use borrow.Author.Rules.{sfits_of}
use Rattle.map.proofs.dustmap_box.Goals as goal

pub returns : goal.returns
returns c =
    rw (to_z-of_z {w = w32} {z = c.told.result} (sfits_of c.told.type_inv), sym c.query_window.ensures) c.told.ensures
