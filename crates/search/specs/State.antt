-- What search does at the entries of one node, by their places: which of them meet the window, and what an entry of a leaf adds.
use Rattle.std.specs.Prelude.{Bool, cond, List, [], ◌∷◌, ℕ, ◌-◌, length}
use Rattle.rules.specs.declared.Rect.{Rect}
use Rattle.rules.specs.declared.SlotNumber.{SlotNumber}
use Rattle.rules.specs.declared.Record.{Record}
use Rattle.rules.specs.Lists.{those, up_from}
use Rattle.rules.specs.Geometry.{meets}
use Rattle.rules.specs.Pool.{Pool, entries_at, entry_at, record_of}

-- whether the entry at place i of the node at s is one "whose entry rectangle meets the window"
unfoldable pub meets_at : Pool → Rect → SlotNumber → ℕ → Bool
meets_at p window s i = meets (entry_at p s i).rect window

-- the places of those entries, from place i on
unfoldable pub meeting_from : Pool → Rect → SlotNumber → ℕ → List ℕ
meeting_from p window s i = those (meets_at p window s) (up_from i (length (entries_at p s) - i))

-- .. and of all of them
abbrev pub meeting_places : Pool → Rect → SlotNumber → List ℕ
meeting_places p window s = meeting_from p window s 0

-- what the entry at place i of a leaf adds to what is found
unfoldable pub found_at : Pool → Rect → SlotNumber → ℕ → List Record
found_at p window s i = cond (meets_at p window s i) (record_of (entry_at p s i) ∷ []) []
