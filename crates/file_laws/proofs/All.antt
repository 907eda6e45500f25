-- Lists of bytes: a list that is taken apart or put together has the members of its parts.
use mathlib.Core.Path.{refl}
use mathlib.Core.Logic.{⊎_elim}
use mathlib.Core.List.Memᴰ
use mathlib.Core.List.{List, [], ◌∷◌, ◌++◌}
use Prim.Native.Nat.{ℕ, zero, suc, ◌<◌}
use native.Mathlib.Omega.{arith}
use lib.ListN.{get_or, drop}
use Rattle.rules_laws.proofs.Places.{place_of_lem}
use Rattle.file_laws.specs.Bytes.{AllBytes}

-- a byte at a time
pub all_none : AllBytes []
all_none = record { each = λ b m. absurd (Memᴰ.not-nil m) }

module _ {b : ℕ} {bs : List ℕ} where
  pub all_more : b < 256 → AllBytes bs → AllBytes (b ∷ bs)
  all_more h a = record { each = λ x m. ⊎_elim (λ e. omega arith) (a.each x) (Memᴰ.cases_cons m) }

  pub all_first : AllBytes (b ∷ bs) → b < 256
  all_first a = a.each b (Memᴰ.head refl)

  pub all_rest : AllBytes (b ∷ bs) → AllBytes bs
  all_rest a = record { each = λ x m. a.each x (Memᴰ.tail m) }

-- two lists, and what is left of one
pub all_append : {bs cs : List ℕ} → AllBytes bs → AllBytes cs → AllBytes (bs ++ cs)
all_append {bs} a c = record { each = λ x m. ⊎_elim (a.each x) (c.each x) (Memᴰ.append_cases bs m) }

pub all_drop : (n : ℕ) (bs : List ℕ) → AllBytes bs → AllBytes (drop n bs)
all_drop zero bs a = a
all_drop (suc n) [] a = a
all_drop (suc n) (b ∷ bs) a = all_drop n bs (all_rest a)

-- a list with a byte at each place, as a slice of bytes is
pub all_places : (bs : List ℕ) → ((i : ℕ) → get_or bs i 0 < 256) → AllBytes bs
all_places bs h = record { each = λ b m. let p = place_of_lem m in omega (arith, h p.0, p.2 0) }
