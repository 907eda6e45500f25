use mathlib.Core.Path.{◌∙◌}
use mir.Facts.{to_z-of_z}
use mir.Syntax.{w32}
use borrow.Author.Rules.{sfits_of}
use Rattle.map.proofs.Numbers.{blanked}
use Rattle.map.proofs.dustmap_blank.Goals as goal

pub returns : goal.returns
returns c =
    record {
      number = to_z-of_z {w = w32} {z = c.number.result} (sfits_of c.number.type_inv)
          ∙ blanked c.blank.result c.number.result c.number.ensures
          ∙ c.blank.ensures.number;
      pool = c.blank.ensures.words;
    }
