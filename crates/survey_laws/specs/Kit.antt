-- What the kit's logic takes a double to be: not a number, an infinity, or m times 2 ^ e with a sign; 2 ^ e is the fraction `up e / down e`.
use Rattle.std.specs.Prelude.{◌≡◌, ◌*◌, ℤ, pos, ◌*ℤ◌, Float, None, Some}
use Rattle.std.specs.Float.{nan, inf, fin}
use Rattle.std.specs.Float.Ieee.{up, down}
use Rattle.rules.specs.Doubles.{unit, with_sign, value_of}

-- .. and that the bits say the same: no value, or so many units that `units / unit` is `m * up e / down e`, with its sign
abbrev pub SameValue : Float → Type 0
SameValue nan = value_of nan ≡ None
SameValue (inf minus) = value_of (inf minus) ≡ None
SameValue (fin minus m e) =
    (units : ℤ) × (value_of (fin minus m e) ≡ Some units) × (units *ℤ pos (down e) ≡ with_sign minus (m * up e) *ℤ pos unit)
