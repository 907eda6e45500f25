use mathlib.Core.Path.{ap, ◌∙◌}
use native.Mathlib.Omega.{arith}
use lib.ListN.{length}
use Rattle.rules.specs.File.{word_bytes}
use Rattle.frames.proofs.Texts.{nothing_wrote, wrote_as}
use Rattle.frames.proofs.Words.{word_kept}
use Rattle.file.proofs.Sizes.{word_long, owner_one, owner_two}
use Rattle.file.proofs.put_owner.Goals as goal

pub put_word-requires : goal.put_word-requires
put_word-requires c =
    omega (
      arith,
      c.requires,
      ap length (owner_two c.args.edition c.args.o c.in-Two.is),
      word_long c.args.o.0,
    )

pub returns-in-One : goal.returns-in-One
returns-in-One c =
    wrote_as (owner_one c.args.edition c.args.o c.in-One.is)
    (nothing_wrote c.args.file.now c.args.at)

pub returns-in-Two : goal.returns-in-Two
returns-in-Two c =
    wrote_as (ap word_bytes (word_kept {z = c.args.o.0} c.struct_told-1.given.0.1)
    ∙ owner_two c.args.edition c.args.o c.in-Two.is) c.put_word.ensures
