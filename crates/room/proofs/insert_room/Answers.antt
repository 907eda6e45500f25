use mathlib.Core.Path.{sym, ap, ◌∙◌}
use Rattle.std.specs.Prelude.{Ok}
use Rattle.rules_laws.proofs.Bools.{not_true, not_false}
use Rattle.in_force_laws.proofs.Sounds.{sound_tree}
use Rattle.insert_laws.proofs.Rooms.{room_length, room_sound, room_rectangle, room_told}
use Rattle.room.proofs.insert_room.Goals as goal

pub returns-then-not-valid_length : goal.returns-then-not-valid_length
returns-then-not-valid_length c =
    sym (room_length c.args.pool.now c.args.new (sym c.valid_length.ensures ∙ not_true _ c.if-not-valid_length.true-raw))

pub over-pool-requires : goal.over-pool-requires
over-pool-requires c = sym c.valid_length.ensures ∙ not_false _ c.if-not-valid_length.false-raw

pub returns-then-not-sound : goal.returns-then-not-sound
returns-then-not-sound c =
    sym (room_sound c.args.pool.now c.args.new (sym c.valid_length.ensures ∙ not_false _ c.if-not-valid_length.false-raw)
    (sym (rw c.over-pool.ensures at c.sound.ensures) ∙ not_true _ c.if-not-sound.true-raw))

pub returns-then-not-valid : goal.returns-then-not-valid
returns-then-not-valid c =
    sym (room_rectangle c.args.pool.now c.args.new (sym c.valid_length.ensures ∙ not_false _ c.if-not-valid_length.false-raw)
    (sym (rw c.over-pool.ensures at c.sound.ensures) ∙ not_false _ c.if-not-sound.false-raw) (sym c.valid.ensures ∙ not_true _ c.if-not-valid.true-raw))

pub slots-requires : goal.slots-requires
slots-requires c =
    record {
      whole = rw c.over-pool.ensures (sound_tree c.args.pool.now (sym (rw c.over-pool.ensures at c.sound.ensures) ∙ not_false _ c.if-not-sound.false-raw));
      value = sym c.valid.ensures ∙ not_false _ c.if-not-valid.false-raw;
    }

pub returns : goal.returns
returns c =
    ap Ok (rw c.over-pool.ensures at c.slots.ensures)
    ∙ sym (room_told c.args.pool.now c.args.new (sym c.valid_length.ensures ∙ not_false _ c.if-not-valid_length.false-raw)
    (sym (rw c.over-pool.ensures at c.sound.ensures) ∙ not_false _ c.if-not-sound.false-raw) (sym c.valid.ensures ∙ not_false _ c.if-not-valid.false-raw))
