-- The call's number is that of what it answers.
use mir.Facts.{to_z-of_z}
use mir.Syntax.{w32}
use borrow.Author.Rules.{sfits_of}
use Rattle.map.proofs.Numbers.{called}
use Rattle.map.proofs.dustmap_call.Goals as goal

pub returns : goal.returns
returns c =
    rw (to_z-of_z {w = w32} {z = c.number.result} (sfits_of c.number.type_inv), called c.one_call.result c.number.result c.number.ensures)
    c.one_call.ensures
