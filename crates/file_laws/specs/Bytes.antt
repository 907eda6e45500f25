-- What may stand in a file: bytes, and numbers of 32 bits with a sign.
use Rattle.std.specs.Prelude.{List, ℕ, ◌<◌, ℤ}
use Rattle.std.specs.Int.Signed.{mag}
use Rattle.rules_laws.proofs.Places.{Among}

-- each is a byte
pub record AllBytes (bs : List ℕ) : Type 0 where
  pub each : (b : ℕ) → Among b bs → b < 256

-- "signed 32-bit words": from -2147483648 to 2147483647. `mag` is n for n, and for -(n + 1)
pub record Word (z : ℤ) : Type 0 where
  pub small : mag z < 2147483648
