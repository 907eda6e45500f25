use mathlib.Core.Path.{ap₂, ◌∙◌}
use lib.Dec.{eqb}
use Rattle.rules.specs.Layout.{read}
use Rattle.sound.proofs.Records.{record_counts_are}
use Rattle.sound.proofs.records_sound.Goals as goal

pub returns : goal.returns
returns c = ap₂ eqb c.leaf_records.ensures c.records.ensures ∙ record_counts_are (read c.args.pool.words.now)
