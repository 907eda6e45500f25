-- "Numbers": the ranges and limits of document 01.
use Rattle.std.specs.Prelude.{Bool, ◌&&◌, ℕ, ℤ, pos, negsuc}
use Rattle.std.specs.Int.Signed.{le_z}
use Rattle.rules.specs.declared.RecordNumber.{RecordNumber}
use Rattle.rules.specs.declared.Owner.{Owner}

-- "Coordinates: -1,000,000,000 to 1,000,000,000." (`negsuc n` is -1 - n)
unfoldable pub in_range : ℤ → Bool
in_range z = le_z (negsuc 999999999) z && le_z z (pos 1000000000)

-- "Record numbers: 1 to 2,147,483,647." A word of 32 bits holds no greater number
unfoldable pub good_number : RecordNumber → Bool
good_number n = le_z (pos 1) n.0

-- Req 07: "an owner, 1 or 2"
unfoldable pub good_owner : Owner → Bool
good_owner o = le_z (pos 1) o.0 && le_z o.0 (pos 2)

-- "M = 8 entries in a node at most, m = 3 at least (root excepted)."
abbrev pub most : ℕ
most = 8

abbrev pub least : ℕ
least = 3

-- "Slots N: 1 to 4,096. A batch has 0 to 1,024 requests."
abbrev pub most_slots : ℕ
most_slots = 4096

abbrev pub most_requests : ℕ
most_requests = 1024
