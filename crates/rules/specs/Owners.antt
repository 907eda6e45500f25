-- Req 07, "The neighbour's carts": the editions of a pool, and whom a record belongs to.
use Rattle.std.specs.Prelude.{Bool, true, false, List, [], ◌∷◌, ℕ, ℤ, pos, Option, None}
use Rattle.rules.specs.declared.Edition.{Edition}
use Rattle.rules.specs.declared.Edition.TheVariants.{One, Two}
use Rattle.rules.specs.declared.Owner.{Owner}
use Rattle.rules.specs.declared.Record.{Record}
use Rattle.rules.specs.declared.FoundRecord.{FoundRecord}
use Rattle.rules.specs.Lists.{same}
use Rattle.rules.specs.Numbers.{good_owner}
use Rattle.rules.specs.Answers.{row, first_row}

-- ---- editions

-- "word 0 edition, 1"; "pool edition 2"
unfoldable pub edition_number : Edition → ℕ
edition_number One = 1
edition_number Two = 2

-- "Blanking and reading are told the edition, by an enum that has no other": the edition that a number tells, with a rule, of which there is
-- 0 alone. Another number tells none
unfoldable pub edition_told : ℤ → ℤ → Option Edition
edition_told edition rule =
    elim (same rule (pos 0)) [
      | true ↦ first_row (row (same edition (pos 1)) One ∷ row (same edition (pos 2)) Two ∷ [])
      | false ↦ None
    ]

-- ---- owners

abbrev pub owner : ℤ → Owner
owner z = record { 0 = z }

-- a record in an edition 1 pool has no owner
abbrev pub nobody : Owner
nobody = owner (pos 0)

-- "Edition 1 pools are served on, for owners 1 and 2 alike": whose records a batch of an owner sees and changes
unfoldable pub owner_in : Edition → Owner → Owner
owner_in One o = nobody
owner_in Two o = o

-- "an owner, 1 or 2, .. anything else and the pool isn't sound"
unfoldable pub owner_sound : Edition → Owner → Bool
owner_sound One o = same o.0 (pos 0)
owner_sound Two o = good_owner o

-- the owners that records of an edition can have
unfoldable pub owners_of : Edition → List Owner
owners_of One = nobody ∷ []
owners_of Two = owner (pos 1) ∷ owner (pos 2) ∷ []

-- ---- their records

unfoldable pub owned_by : Owner → Record → Bool
owned_by o r = same r.owner.0 o.0

-- what the found list shows of a record, and back
abbrev pub as_found : Record → FoundRecord
as_found r = record { number = r.number; rect = r.rect }

abbrev pub of_owner : Owner → FoundRecord → Record
of_owner o f = record { owner = o; number = f.number; rect = f.rect }
