use mathlib.Core.Path.{sym, ◌∙◌}
use Rattle.rules_laws.proofs.Bools.{not_true, not_false}
use Rattle.in_force_laws.proofs.Sounds.{sound_tree}
use Rattle.file.proofs.Writes.{writes_1, writes_2, writes_filled}
use Rattle.file.proofs.write.Goals as goal

pub returns-then-not-valid_length : goal.returns-then-not-valid_length
returns-then-not-valid_length c =
    writes_1 c.args.pool.now c.args.file.now (sym c.valid_length.ensures ∙ not_true _ c.if-not-valid_length.true-raw)

pub over-right-requires : goal.over-right-requires
over-right-requires c = sym c.valid_length.ensures ∙ not_false _ c.if-not-valid_length.false-raw

pub returns-then-not-sound : goal.returns-then-not-sound
returns-then-not-sound c =
    writes_2 c.args.pool.now c.args.file.now (sym c.valid_length.ensures ∙ not_false _ c.if-not-valid_length.false-raw)
    (sym (rw c.over-right.ensures at c.sound.ensures) ∙ not_true _ c.if-not-sound.true-raw)

pub write_sound-requires : goal.write_sound-requires
write_sound-requires c =
    rw c.over-right.ensures
    (sound_tree c.args.pool.now (sym (rw c.over-right.ensures at c.sound.ensures) ∙ not_false _ c.if-not-sound.false-raw))

pub returns : goal.returns
returns c =
    writes_filled c.args.pool.now c.args.file.now (sym c.valid_length.ensures ∙ not_false _ c.if-not-valid_length.false-raw)
    (sym (rw c.over-right.ensures at c.sound.ensures) ∙ not_false _ c.if-not-sound.false-raw) (rw c.over-right.ensures at c.write_sound.ensures)
