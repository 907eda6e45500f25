-- What lies past the requests, and what is said of each of them.
use mathlib.Core.Path.{◌≡◌, sym, ◌∙◌, ap}
use mathlib.Core.Bool.{Bool, ◌&&◌}
use mathlib.Core.List.{List, [], ◌∷◌}
use lib.IntN.{pos}
use Rattle.std.specs.List.{list_all}
use Rattle.rules.specs.declared.Request.{Request}
use Rattle.rules.specs.Pool.{number, rectangle}
use Rattle.rules.specs.Lists.{every}
use Rattle.rules_laws.proofs.Everies.{every_nil, every_cons}

-- what lies past the requests
abbrev pub none : Request
none = record { kind = pos 0; number = number (pos 0); first = rectangle (pos 0) (pos 0) (pos 0) (pos 0); second = rectangle (pos 0) (pos 0) (pos 0) (pos 0) }

-- the standard library's word for `every`
pub every_all : {A : Type 0} (test : A → Bool) (xs : List A) → list_all test xs ≡ every test xs
every_all test [] = sym (every_nil test)
every_all test (x ∷ xs) = ap (λ (b : Bool). test x && b) (every_all test xs) ∙ sym (every_cons test x xs)
