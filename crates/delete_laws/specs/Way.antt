-- The way that FindLeaf comes down.
use Rattle.std.specs.Prelude.{◌≡◌, cond, ◌&&◌, [], ◌∷◌, ℕ, zero, suc, ◌*◌, ◌≤◌, ◌<◌, leb, length, Option, None, Some}
use Rattle.rules.specs.declared.SlotNumber.{SlotNumber}
use Rattle.rules.specs.declared.Record.{Record}
use Rattle.rules.specs.Pool.{Pool, slot, entries_at, entry_at, child_of, record_of}
use Rattle.rules.specs.Numbers.{least}
use Rattle.rules.specs.Delete.{Path, place}

-- from the node at s, of the level given, the way passes an entry that is there in each node, and the leaf's is the pair
unfoldable pub Leads : Pool → Record → ℕ → SlotNumber → Path → Type 0
Leads p r zero s way = ⊥
Leads p r (suc zero) s way = (i : ℕ) × (way ≡ place s i ∷ []) × (i < length (entries_at p s)) × (record_of (entry_at p s i) ≡ r)
Leads p r (suc (suc l)) s way =
    (i : ℕ) × (rest : Path) × (way ≡ place s i ∷ rest) × (i < length (entries_at p s)) × Leads p r (suc l) (child_of (entry_at p s i)) rest

-- a way, where one is given, is as it should be
abbrev pub EachWay : (Path → Type 0) → Option Path → Type 0
EachWay Good None = Unit {0}
EachWay Good (Some way) = Good way

-- one is given
abbrev pub Found : Option Path → Type 0
Found None = ⊥
Found (Some way) = Unit {0}

-- the leaf at the end of a way
unfoldable pub leaf_of : Path → SlotNumber
leaf_of [] = slot 0
leaf_of (a ∷ []) = a.node
leaf_of (a ∷ b ∷ way) = leaf_of (b ∷ way)

-- a leaf at the end of l levels that is the root, or keeps enough entries when one goes out: then no node leaves its parent
abbrev pub KeepsEnough : Pool → ℕ → SlotNumber → Type 0
KeepsEnough p l s = 2 ≤ l → least < length (entries_at p s)

-- of the m nodes of the way below one of so many entries, the n lowest leave their parents; that one leaves too where all of them do, since
-- only then it loses an entry, and where it has none to spare
unfoldable pub next_leaves : ℕ → ℕ → ℕ → ℕ
next_leaves m n entries = cond (leb m n && leb entries least) (suc n) n

-- so many nodes leave their parents when the pair at the end of the way goes out: from the leaf up, as far as one keeps enough; the first
-- of the way stays
unfoldable pub thin_levels : Pool → Path → ℕ
thin_levels p [] = 0
thin_levels p (a ∷ []) = 0
thin_levels p (a ∷ b ∷ way) = next_leaves (length way) (thin_levels p (b ∷ way)) (length (entries_at p b.node))

-- at most so many entries are set aside then, and put back: two of each (`condense_few`)
abbrev pub most_back : Pool → Path → ℕ
most_back p way = 2 * thin_levels p way
