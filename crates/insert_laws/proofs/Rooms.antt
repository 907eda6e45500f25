-- What is told of a rectangle, row by row of its table.
use mathlib.Core.Path.{◌≡◌}
use mathlib.Core.Bool.{true, false}
use mathlib.Core.List.{List}
use lib.IntN.{ℤ}
use Rattle.rules.specs.declared.Rect.{Rect}
use Rattle.std.specs.Prelude.{Ok, Err}
use Rattle.rules.specs.declared.RoomFault.TheVariants.{BadLength, NotSound, BadRectangle}
use Rattle.rules.specs.Geometry.{valid}
use Rattle.rules.specs.Pool.{free_count}
use Rattle.rules.specs.Layout.{valid_length, read}
use Rattle.rules.specs.Sound.{sound}
use Rattle.rules.specs.Insert.{ours}
use Rattle.rules.specs.Answers.{first_row}
use Rattle.rules.specs.Room.{slots_needed, slots, room_fault, insert_room}

module _ (w : List ℤ) (new : Rect) where
  pub room_length : valid_length w ≡ false → insert_room w new ≡ Err BadLength
  unfolding insert_room room_fault first_row
  room_length h = rw (insert_room, h)

  pub room_sound : valid_length w ≡ true → sound w ≡ false → insert_room w new ≡ Err NotSound
  unfolding insert_room room_fault first_row
  room_sound h s = rw (insert_room, h, s)

  pub room_rectangle : valid_length w ≡ true → sound w ≡ true → valid new ≡ false → insert_room w new ≡ Err BadRectangle
  unfolding insert_room room_fault first_row
  room_rectangle h s v = rw (insert_room, h, s, v)

  pub room_told : valid_length w ≡ true → sound w ≡ true → valid new ≡ true → insert_room w new ≡ Ok (slots (slots_needed ours 1 (read w) new) (free_count (read w)))
  unfolding insert_room room_fault first_row
  room_told h s v = rw (insert_room, h, s, v)
