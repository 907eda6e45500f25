-- A call returns 0, or the number of what refuses it.
use mathlib.Core.Path.{◌≡◌}
use Rattle.std.specs.Prelude.{Result, Ok, Err, MatchResult}
use lib.IntN.{ℤ, pos}
use Rattle.rules.specs.declared.CallFault.{CallFault}
use Rattle.rules.specs.declared.FileFault.{FileFault}
use Rattle.rules.specs.Answers.{call_fault_number, call_number}
use Rattle.rules.specs.File.{file_number}
use Rattle.pool.specs.declared.blank.BadLength.{BadLength}
use Rattle.pool.specs.Blanking as B
use Rattle.file.specs.Loading.{number_of}

pub blanked : (o : Result (Unit {0}) BadLength) (n : ℤ)
    → MatchResult o (λ _. n ≡ pos 0) (λ _. n ≡ pos 1) → n ≡ B.number_of o
blanked (Ok u) n h = h
blanked (Err fault) n h = h

pub called : (o : Result (Unit {0}) CallFault) (n : ℤ)
    → MatchResult o (λ _. n ≡ pos 0) (λ fault. n ≡ call_fault_number fault) → n ≡ call_number o
unfolding call_number
called (Ok u) n h = h
called (Err fault) n h = h

pub read_told : (o : Result (Unit {0}) FileFault) (n : ℤ)
    → MatchResult o (λ _. n ≡ pos 0) (λ fault. n ≡ file_number fault) → n ≡ number_of o
read_told (Ok u) n h = h
read_told (Err fault) n h = h
