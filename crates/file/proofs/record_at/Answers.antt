use mathlib.Core.Path.{◌∙◌}
use native.Mathlib.Omega.{arith}
use Rattle.frames.proofs.Words.{word_kept}
use Rattle.file.specs.Loading.{place_of}
use Rattle.file.proofs.Dues.{record_one, record_two, room_one, room_two}
use Rattle.file.proofs.record_at.Goals as goal

pub pair_from-requires : goal.pair_from-requires
pair_from-requires c =
    omega (
      arith,
      c.place_of-at.ensures.is,
      room_one c.args.edition (place_of c.args.edition c.args.k) _ c.in-One.is c.requires.edition_in_bounds,
    )

pub word_at-requires : goal.word_at-requires
word_at-requires c =
    omega (
      arith,
      c.place_of-at.ensures.is,
      room_two c.args.edition (place_of c.args.edition c.args.k) _ c.in-Two.is c.requires.edition_in_bounds,
    )

pub pair_from-requires-in-Two : goal.pair_from-requires-in-Two
pair_from-requires-in-Two c =
    omega (
      arith,
      c.place_of-at.ensures.is,
      room_two c.args.edition (place_of c.args.edition c.args.k) _ c.in-Two.is c.requires.edition_in_bounds,
    )

pub returns-in-One : goal.returns-in-One
returns-in-One c =
    record_one c.args.file.now c.args.k c.args.edition c.place_of-at.ensures.is c.in-One.is
    c.pair_from.ensures

pub returns-in-Two : goal.returns-in-Two
returns-in-Two c =
    record_two c.args.file.now c.args.k c.args.edition c.place_of-at.ensures.is c.in-Two.is
    (word_kept c.word_at.type_inv ∙ c.word_at.ensures) c.pair_from-in-Two.ensures
