-- "The pool" as an object: a head, and a node in each slot. Layout.antt ties it to the words.
use Rattle.std.specs.Prelude.{Bool, true, false, List, [], ◌∷◌, map, ℕ, suc, ◌-◌, length, get_or, set, replicate, eqb, ℤ, pos, Option, Some, None}
use Rattle.rules.specs.declared.Edition.{Edition}
use Rattle.rules.specs.declared.Rect.{Rect}
use Rattle.rules.specs.declared.RecordNumber.{RecordNumber}
use Rattle.rules.specs.declared.SlotNumber.{SlotNumber}
use Rattle.rules.specs.declared.Owner.{Owner}
use Rattle.rules.specs.declared.Record.{Record}
use Rattle.rules.specs.declared.FoundRecord.{FoundRecord}
use Rattle.rules.specs.declared.Pointer.{Pointer}
use Rattle.rules.specs.declared.Pointer.TheVariants.{Number, Child}
use Rattle.rules.specs.declared.Entry.{Entry}
use Rattle.rules.specs.Lists.{those, one_of, joined, up_from}
use Rattle.rules.specs.Owners.{nobody}
use Rattle.rules.specs.Geometry.{no_rect, cover_all}
use Rattle.rules.specs.Compare.{exact_pair}

-- "Level 0 is free, 1 a leaf." The entries are those in use; the count is their number
pub record Node : Type 0 where
  pub level : ℕ
  pub entries : List Entry

-- "word 0 edition ..; word 1 root slot; word 2 height; word 3 number of records"; the slots are counted from 1
pub record Pool : Type 0 where
  pub edition : Edition
  pub root : SlotNumber
  pub height : ℕ
  pub records : ℕ
  pub slots : List Node

-- ---- numbers and entries made

abbrev pub slot : ℕ → SlotNumber
slot s = record { 0 = s }

abbrev pub number : ℤ → RecordNumber
number n = record { 0 = n }

abbrev pub rectangle : ℤ → ℤ → ℤ → ℤ → Rect
rectangle a b c d = record { lowX = a; lowY = b; highX = c; highY = d }

abbrev pub entry : Rect → Pointer → Entry
entry r p = record { rect = r; pointer = p }

abbrev pub no_entry : Entry
no_entry = entry no_rect (Child (slot 0))

-- a place of the found list before anything is found
abbrev pub no_record : FoundRecord
no_record = record { number = number (pos 0); rect = no_rect }

abbrev pub node : ℕ → List Entry → Node
node l es = record { level = l; entries = es }

-- "free slots are all zero"
abbrev pub free_node : Node
free_node = node 0 []

-- ---- looked at

unfoldable pub same_slot : SlotNumber → SlotNumber → Bool
same_slot s t = eqb s.0 t.0

unfoldable pub slot_numbers : Pool → List SlotNumber
slot_numbers p = map slot (up_from 1 (length p.slots))

unfoldable pub node_at : Pool → SlotNumber → Node
node_at p s = get_or p.slots (s.0 - 1) free_node

unfoldable pub entries_at : Pool → SlotNumber → List Entry
entries_at p s = (node_at p s).entries

-- the entry at place i of a list, from 0, and of a node
unfoldable pub entry_from : List Entry → ℕ → Entry
entry_from es i = get_or es i no_entry

unfoldable pub entry_at : Pool → SlotNumber → ℕ → Entry
entry_at p s i = entry_from (entries_at p s) i

-- an inner entry's child, a leaf entry's record number, and its owner (an entry of the other kind has none: slot 0, number 0, nobody)
unfoldable pub child_of : Entry → SlotNumber
child_of e = elim e.pointer [ Number n o ↦ slot 0 | Child s ↦ s ]

unfoldable pub number_of : Entry → RecordNumber
number_of e = elim e.pointer [ Number n o ↦ n | Child s ↦ number (pos 0) ]

unfoldable pub owner_of : Entry → Owner
owner_of e = elim e.pointer [ Number n o ↦ o | Child s ↦ nobody ]

-- a leaf entry as the record that it holds, and back
unfoldable pub record_of : Entry → Record
record_of e = record { owner = owner_of e; number = number_of e; rect = e.rect }

unfoldable pub leaf_entry : Record → Entry
leaf_entry r = entry r.rect (Number r.number r.owner)

-- "the new rectangle under the same number", and of the same owner
abbrev pub moved : Record → Rect → Record
moved r new = record { owner = r.owner; number = r.number; rect = new }

-- the entries' rectangles, and "the smallest holding that node's entries"
unfoldable pub rects : List Entry → List Rect
rects es = map (λ (e : Entry). e.rect) es

unfoldable pub cover_of : List Entry → Rect
cover_of es = cover_all (rects es)

-- the entry that a parent has for the node at s
unfoldable pub entry_for : Pool → SlotNumber → Entry
entry_for p s = entry (cover_of (entries_at p s)) (Child s)

unfoldable pub is_leaf : Node → Bool
is_leaf n = eqb n.level 1

-- the stored records: the entries of every leaf, in slot order
unfoldable pub stored : Pool → List Record
stored p = map record_of (joined (map (λ (n : Node). n.entries) (those is_leaf p.slots)))

-- a pair is held where some leaf has it
unfoldable pub held : Pool → Record → Bool
held p r = one_of (exact_pair r) (stored p)

-- "the lowest free slot", of the nodes from slot s on
unfoldable pub free_from : ℕ → List Node → Option SlotNumber
free_from s [] = None
free_from s (n ∷ ns) = elim (eqb n.level 0) [ true ↦ Some (slot s) | false ↦ free_from (suc s) ns ]

unfoldable pub lowest_free : Pool → Option SlotNumber
lowest_free p = free_from 1 p.slots

-- how many slots are free
unfoldable pub free_count : Pool → ℕ
free_count p = length (those (λ (n : Node). eqb n.level 0) p.slots)

-- ---- changed

unfoldable pub put_node : Pool → SlotNumber → Node → Pool
put_node p s n = record { edition = p.edition; root = p.root; height = p.height; records = p.records; slots = set p.slots (s.0 - 1) n }

-- other entries in a node, at the level that it has
unfoldable pub put_entries : Pool → SlotNumber → List Entry → Pool
put_entries p s es = put_node p s (node (node_at p s).level es)

-- "its slot is zeroed and free at once"
unfoldable pub zero_slot : Pool → SlotNumber → Pool
zero_slot p s = put_node p s free_node

unfoldable pub put_root : Pool → SlotNumber → ℕ → Pool
put_root p s h = record { edition = p.edition; root = s; height = h; records = p.records; slots = p.slots }

unfoldable pub put_records : Pool → ℕ → Pool
put_records p n = record { edition = p.edition; root = p.root; height = p.height; records = n; slots = p.slots }

-- AT3 and CT4: entry i of node s gets the smallest rectangle that holds its child's entries
unfoldable pub tighten : Pool → SlotNumber → ℕ → Pool
tighten p s i = put_entries p s (set (entries_at p s) i (entry_for p (child_of (entry_at p s i))))

-- ---- blanking

-- "Blanking writes edition 1, root 1, height 1, records 0, slot 1 as an empty leaf, all else zero." Req 07: it is "told the edition". n is one
-- less than the slots
unfoldable pub blank_pool : Edition → ℕ → Pool
blank_pool e n = record { edition = e; root = slot 1; height = 1; records = 0; slots = node 1 [] ∷ replicate n free_node }
