-- "A pool is sound when ..": each part of the sentence is a question of its own.
use Rattle.std.specs.Prelude.{Bool, true, false, not, ◌&&◌, ◌||◌, List, map, ℕ, zero, suc, length, leb, eqb, ℤ}
use Rattle.rules.specs.declared.SlotNumber.{SlotNumber}
use Rattle.rules.specs.declared.Record.{Record}
use Rattle.rules.specs.declared.Entry.{Entry}
use Rattle.rules.specs.Lists.{those, every, joined}
use Rattle.rules.specs.Numbers.{most, least, good_number}
use Rattle.rules.specs.Owners.{owner_sound}
use Rattle.rules.specs.Geometry.{valid, same_rect}
use Rattle.rules.specs.Pool.{Node, Pool, same_slot, slot_numbers, node_at, entries_at, child_of, number_of, cover_of, is_leaf, stored}
use Rattle.rules.specs.Layout.{words, read, same_words}

-- "a slot from 1 to N"
unfoldable pub is_slot : Pool → SlotNumber → Bool
is_slot p s = leb 1 s.0 && leb s.0 (length p.slots)

unfoldable pub in_use : Node → Bool
in_use n = not (eqb n.level 0)

unfoldable pub is_root : Pool → SlotNumber → Bool
is_root p s = same_slot s p.root

-- "height is 1 or more"
unfoldable pub height_sound : Pool → Bool
height_sound p = leb 1 p.height

-- "root is a slot of level equal to the height"
unfoldable pub root_sound : Pool → Bool
root_sound p = is_slot p p.root && eqb (node_at p p.root).level p.height

-- "levels are 0 to the height"
unfoldable pub levels_sound : Pool → Bool
levels_sound p = every (λ (n : Node). leb n.level p.height) p.slots

-- "with a count of 3 to 8, but for the root 0 to 8 if a leaf and 2 to 8 otherwise"
unfoldable pub fewest : Bool → Bool → ℕ
fewest true true = 0
fewest true false = 2
fewest false leaf = least

unfoldable pub count_sound : Pool → SlotNumber → Bool
count_sound p s =
    not (in_use (node_at p s))
    || (leb (fewest (is_root p s) (is_leaf (node_at p s))) (length (entries_at p s)) && leb (length (entries_at p s)) most)

-- "each non-root node in use is the child of exactly one entry"
unfoldable pub inner_entries : Pool → List Entry
inner_entries p = joined (map (λ (n : Node). n.entries) (those (λ (n : Node). leb 2 n.level) p.slots))

unfoldable pub parents : Pool → SlotNumber → ℕ
parents p s = length (those (λ (e : Entry). same_slot (child_of e) s) (inner_entries p))

unfoldable pub one_parent : Pool → SlotNumber → Bool
one_parent p s = not (in_use (node_at p s)) || is_root p s || eqb (parents p s) 1

-- "free slots are all zero" (for unused entries and the rest of the head, that is `nothing_else` below)
unfoldable pub free_empty : Node → Bool
free_empty n = in_use n || eqb (length n.entries) 0

-- "records counted in leaves equal word 3"
unfoldable pub records_sound : Pool → Bool
records_sound p = eqb (length (stored p)) p.records

-- "A leaf entry needs a valid rectangle and number."
unfoldable pub leaf_entry_sound : Entry → Bool
leaf_entry_sound e = valid e.rect && good_number (number_of e)

-- "an inner entry is sound when its pointer is a slot from 1 to N whose node is sound and one level lower, and its rectangle is the
-- smallest holding that node's entries": `below` is the lower level, and `nodeSoundBelow` the question asked of the child
unfoldable pub inner_entry_sound : Pool → ℕ → (SlotNumber → Bool) → Entry → Bool
inner_entry_sound p below nodeSoundBelow e =
    elim (is_slot p (child_of e) && eqb (node_at p (child_of e)).level below && same_rect e.rect (cover_of (entries_at p (child_of e)))) [
      | true ↦ nodeSoundBelow (child_of e)
      | false ↦ false
    ]

-- "A node is sound when its entries are": the node at s, of the level given. Level 0 is no node
unfoldable pub node_sound : Pool → ℕ → SlotNumber → Bool
node_sound p zero s = false
node_sound p (suc zero) s = every leaf_entry_sound (entries_at p s)
node_sound p (suc (suc l)) s = every (inner_entry_sound p (suc l) (λ t. node_sound p (suc l) t)) (entries_at p s)

-- "every node in use is sound"
unfoldable pub used_sound : Pool → SlotNumber → Bool
used_sound p s = not (in_use (node_at p s)) || node_sound p (node_at p s).level s

-- the questions that need no walk
unfoldable pub shape_sound : Pool → Bool
shape_sound p =
    height_sound p && root_sound p && levels_sound p && every (count_sound p) (slot_numbers p) && every (one_parent p) (slot_numbers p)
    && every free_empty p.slots && records_sound p

-- .. and the walk down from each node in use. It is asked last: with one parent each, the walk from one node meets no node twice, so that
-- all the walks together meet a node once from itself and once from each node above it
unfoldable pub sound_pool : Pool → Bool
sound_pool p = elim (shape_sound p) [ true ↦ every (used_sound p) (slot_numbers p) | false ↦ false ]

-- "the head is as above", "unused entries .. are all zero": the words are those of the pool that is read from them, and nothing else
unfoldable pub nothing_else : List ℤ → Bool
nothing_else w = same_words (words (read w)) w

-- Req 07: "Each leaf entry gains an owner, 1 or 2, .. anything else and the pool isn't sound". (That it is zero in inner entries is
-- `nothing_else`)
unfoldable pub owners_sound : Pool → Bool
owners_sound p = every (λ (r : Record). owner_sound p.edition r.owner) (stored p)

unfoldable pub sound : List ℤ → Bool
sound w = nothing_else w && sound_pool (read w) && owners_sound (read w)
