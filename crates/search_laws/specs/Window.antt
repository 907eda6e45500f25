-- Whether a search is to list a record, and whether the node of a slot meets its window, wherever they are in the tree.
use Rattle.std.specs.Prelude.{Bool, not, ◌&&◌, pos, negsuc}
use Rattle.rules.specs.declared.Rect.{Rect}
use Rattle.rules.specs.declared.SlotNumber.{SlotNumber}
use Rattle.rules.specs.declared.Owner.{Owner}
use Rattle.rules.specs.declared.Record.{Record}
use Rattle.rules.specs.declared.Mode.{Mode}
use Rattle.rules.specs.Owners.{owned_by}
use Rattle.rules.specs.Geometry.{meets}
use Rattle.rules.specs.Compare.{compared, wanted}
use Rattle.rules.specs.Pool.{Pool, rectangle, node_at, entries_at, cover_of}
use Rattle.rules.specs.Sound.{in_use, is_root}

-- a record, by what its rectangle is to the window
abbrev pub record_wanted : Mode → Rect → Record → Bool
record_wanted mode window r = wanted mode (compared r.rect window)

-- .. and one of an owner. Req 07: a batch "sees .. that owner's records only"
abbrev pub own_wanted : Owner → Mode → Rect → Record → Bool
own_wanted o mode window r = owned_by o r && record_wanted mode window r

-- the whole site: "Coordinates: -1,000,000,000 to 1,000,000,000."
abbrev pub whole_site : Rect
whole_site = rectangle (negsuc 999999999) (negsuc 999999999) (pos 1000000000) (pos 1000000000)

-- a node, by the smallest rectangle that holds its entries
abbrev pub node_meets : Pool → Rect → SlotNumber → Bool
node_meets p window s = meets (cover_of (entries_at p s)) window

-- a slot in use other than the root
abbrev pub other_node : Pool → SlotNumber → Bool
other_node p s = in_use (node_at p s) && not (is_root p s)
