-- A way as one number: 0 for none; else 2^31, and three bits of the place at each level, the leaf's lowest.
use Rattle.std.specs.Prelude.{[], ◌∷◌, ℕ, ◌+◌, ◌-◌, ◌*◌, ◌^◌, length, Option, None, Some}
use Rattle.rules.specs.Delete.{Path}

-- the bits below those of a level's place
abbrev pub bits_below : ℕ → ℕ
bits_below level = 3 * (level - 1)

-- what says that there is a way
abbrev pub found_flag : ℕ
found_flag = 2147483648

-- the places of a way
unfoldable pub packed : Path → ℕ
packed [] = 0
packed (a ∷ path) = a.at * 2 ^ (3 * length path) + packed path

unfoldable pub packed_way : Option Path → ℕ
packed_way None = 0
packed_way (Some path) = found_flag + packed path
