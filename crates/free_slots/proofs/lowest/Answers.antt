-- `free_slots::lowest` meets its contract: a search that starts above slots in use finds what a search of all finds.
use mathlib.Core.Path.{◌∙◌}
use Rattle.pool.specs.Reading.{read}
use Rattle.free_slots.proofs.LowestSlot.{lowest_from_lem}
use Rattle.free_slots.proofs.lowest.Goals as goal

pub returns : goal.returns
returns c =
    c.lowest_free_from.ensures
    ∙ lowest_from_lem (read c.args.pool) c.args.free.low.0 c.requires.first c.requires.below
