use mathlib.Core.Path.{sym}
use lib.ListN.{length-replicate}
use lib.IntN.{pos}
use Rattle.file.specs.Items.{item_words}
use Rattle.file.proofs.write_sound.Goals as goal

pub slice_bounds-fill-end : goal.slice_bounds-fill-end
slice_bounds-fill-end c = sym (length-replicate item_words (pos 0))

pub fill-requires : goal.fill-requires
fill-requires c =
    record {
      whole = c.requires;
      len = length-replicate item_words (pos 0);
    }

pub returns : goal.returns
returns c = c.fill.ensures
