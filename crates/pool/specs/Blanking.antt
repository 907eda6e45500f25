-- What a blanking returns as a number.
use Rattle.std.specs.Prelude.{ℤ, pos, Result, Ok, Err}
use Rattle.pool.specs.declared.blank.BadLength.{BadLength}

abbrev pub number_of : Result (Unit {0}) BadLength → ℤ
number_of (Ok done) = pos 0
number_of (Err fault) = pos 1
