use mathlib.Core.Path.{◌≡◌, ap, ◌∙◌}
use mir.Facts.{to_z-of_z}
use mir.Syntax.{w32}
use borrow.Author.Rules.{sfits_of}
use Rattle.rules.specs.Pool.{rectangle}
use Rattle.rules.specs.Layout.{word_at, rect_of}
use Rattle.rules.specs.Room.{RoomTold, insert_room, room_number, room_words}
use Rattle.geometry.proofs.Rects.{back}
use Rattle.map.proofs.dustmap_room.Goals as goal

pub returns : goal.returns
unfolding word_at rect_of
returns c =
    let w = c.args.pool.now in
    let words = c.args.rect.now in
    let lowX : back (word_at words 0) ≡ word_at words 0 = to_z-of_z {w = w32} (sfits_of c.new-1.given) in
    let lowY : back (word_at words 1) ≡ word_at words 1 = to_z-of_z {w = w32} (sfits_of c.new-2-1.given) in
    let highX : back (word_at words 2) ≡ word_at words 2 = to_z-of_z {w = w32} (sfits_of c.new-3-1.given) in
    let highY : back (word_at words 3) ≡ word_at words 3 = to_z-of_z {w = w32} (sfits_of c.new-4-1.given) in
    let told = c.insert_room.ensures ∙ (λ i. insert_room w (rectangle (lowX i) (lowY i) (highX i) (highY i))) in
    record {
      number = to_z-of_z {w = w32} {z = c.told_room.result} (sfits_of c.told_room.type_inv) ∙ c.told_room.ensures.number ∙ ap room_number told;
      written = c.told_room.ensures.written ∙ ap (λ (x : RoomTold). room_words x c.args.slots.now) told;
    }
