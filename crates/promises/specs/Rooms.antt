-- What `dustmap_room` promises, for any words.
use Rattle.std.specs.Prelude.{◌≡◌, List, ℕ, ℤ}
use Rattle.rules.specs.Layout.{rect_of}
use Rattle.rules.specs.Room.{insert_room, room_number, room_words}

-- of a pool and the four words of a rectangle, with two words lent: the number returned, and the two words left
pub record Tells (pool rect : List ℤ) (lent : List ℕ) (n : ℤ) (slots : List ℕ) : Type 0 where
  pub number : n ≡ room_number (insert_room pool (rect_of rect))
  pub written : slots ≡ room_words (insert_room pool (rect_of rect)) lent
