use mathlib.Core.Path.{sym, ◌∙◌}
use Rattle.sound.proofs.Owners.{owners_one, owners_two}
use Rattle.sound.proofs.owners_sound.Goals as goal

pub returns-in-One : goal.returns-in-One
returns-in-One c = owners_one c.args.pool.words.now (sym c.requires ∙ c.in-One.is)

pub returns-in-Two : goal.returns-in-Two
returns-in-Two c =
    c.slots_owners_sound.ensures ∙ owners_two c.args.pool.words.now (sym c.requires ∙ c.in-Two.is)
