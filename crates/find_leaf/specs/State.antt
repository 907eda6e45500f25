-- What FindLeaf looks for in a node: the number in a leaf, and in an inner node the entries that hold the pair's rectangle.
use Rattle.std.specs.Prelude.{Bool, List, ℕ, length}
use Rattle.rules.specs.declared.Rect.{Rect}
use Rattle.rules.specs.declared.RecordNumber.{RecordNumber}
use Rattle.rules.specs.declared.SlotNumber.{SlotNumber}
use Rattle.rules.specs.declared.Entry.{Entry}
use Rattle.rules.specs.Lists.{those, up_from, same}
use Rattle.rules.specs.Compare.{lies_in}
use Rattle.rules.specs.Pool.{Pool, entries_at, entry_at, number_of}

abbrev pub has_number : RecordNumber → Entry → Bool
has_number k e = same k.0 (number_of e).0

-- the places of the entries of the node at s that hold the rectangle, in stored order
unfoldable pub holding : Pool → SlotNumber → Rect → List ℕ
holding p s r = those (λ i. lies_in r (entry_at p s i).rect) (up_from 0 (length (entries_at p s)))
