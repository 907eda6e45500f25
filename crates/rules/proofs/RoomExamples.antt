-- Req 06 on examples of our own, since the request gives none: what an insert needs, by the entries that each node of its way has; and what the call
-- tells of whole pools, and refuses.
use Rattle.std.specs.Prelude.{◌≡◌, refl, List, [], ◌∷◌, ◌++◌, map, ℕ, suc, ◌+◌, ◌-◌, length, replicate, set, ℤ, pos, Ok, Err}
use Rattle.rules.specs.declared.Edition.TheVariants.{One}
use Rattle.rules.specs.declared.Rect.{Rect}
use Rattle.rules.specs.declared.Pointer.TheVariants.{Child}
use Rattle.rules.specs.declared.Entry.{Entry}
use Rattle.rules.specs.declared.RoomFault.TheVariants.{BadLength, NotSound, BadRectangle}
use Rattle.rules.specs.Lists.{total, up_from}
use Rattle.rules.specs.Pool.{Node, slot, entry, node, free_node, leaf_entry, blank_pool}
use Rattle.rules.specs.Layout.{words}
use Rattle.rules.specs.Insert.{ours}
use Rattle.rules.specs.Room.{slots_needed, RoomTold, slots, insert_room, room_number, room_words}
use Rattle.rules.specs.Computed.{document01, document02}
use Rattle.rules.specs.Histories.{box, zone}

-- ---- the run

-- nodes one below the other from slot s on, each with so many entries, all of them for the next node; of the last, records
unfoldable pub one_below_other : ℕ → List ℕ → List Node
one_below_other s [] = []
one_below_other s (n ∷ []) = node 1 (replicate n (leaf_entry (zone 7 (box 0 0 9 9)))) ∷ []
one_below_other s (n ∷ m ∷ ns) = node (2 + length ns) (replicate n (entry (box 0 0 9 9) (Child (slot (suc s))))) ∷ one_below_other (suc s) (m ∷ ns)

-- what an insert needs that comes from the root, which is in slot 1, down to a leaf through nodes with so many entries each
abbrev pub needs : List ℕ → ℕ
needs counts = slots_needed ours 1 (record { edition = One; root = slot 1; height = length counts; records = 8; slots = one_below_other 1 counts }) (box 3 3 4 4)

-- how many they have, from the root down, and what is needed
pub record NeedExample : Type 0 where
  pub entries : List ℕ
  pub needed : ℕ

abbrev way : List ℕ → ℕ → NeedExample
way ns n = record { entries = ns; needed = n }

abbrev pub need_examples : List NeedExample
need_examples =
    -- the leaf has room, and nothing is needed, whatever is above it; with seven entries it is not full
    way (0 ∷ []) 0
    ∷ way (7 ∷ []) 0
    ∷ way (8 ∷ 7 ∷ []) 0
    ∷ way (8 ∷ 8 ∷ 3 ∷ []) 0
    -- a full leaf that is the root: its partner, and a new root
    ∷ way (8 ∷ []) 2
    -- the run ends below the root
    ∷ way (7 ∷ 8 ∷ []) 1
    ∷ way (2 ∷ 8 ∷ 8 ∷ []) 2
    -- .. and what is full above a node with room is not of the run
    ∷ way (8 ∷ 7 ∷ 8 ∷ []) 1
    -- it includes the root: one for each level, and one more
    ∷ way (8 ∷ 8 ∷ []) 3
    ∷ way (8 ∷ 8 ∷ 8 ∷ []) 4
    ∷ []

pub needs_say : map (λ (e : NeedExample). needs e.entries) need_examples ≡ map (λ (e : NeedExample). e.needed) need_examples
unfolding document01 document02 one_below_other
needs_say = refl

-- ---- whole pools

-- leaves side by side, each with so many sensors in a row from x on, ten millimetres from leaf to leaf; and the entries for them, in slots from s on
unfoldable pub leaves_from : ℕ → List ℕ → List Node
leaves_from x [] = []
leaves_from x (n ∷ ns) = node 1 (map (λ (i : ℕ). leaf_entry (zone (suc i) (box i 0 i 0))) (up_from x n)) ∷ leaves_from (x + 10) ns

unfoldable pub entries_from : ℕ → ℕ → List ℕ → List Entry
entries_from s x [] = []
entries_from s x (n ∷ ns) = entry (box x 0 (x + n - 1) 0) (Child (slot s)) ∷ entries_from (suc s) (x + 10) ns

-- a leaf that is the root, and a root with leaves, in front of so many free slots
abbrev one_leaf : ℕ → ℕ → List ℤ
one_leaf n free = words (record { edition = One; root = slot 1; height = 1; records = n; slots = leaves_from 0 (n ∷ []) ++ replicate free free_node })

abbrev over_leaves : List ℕ → ℕ → List ℤ
over_leaves ns free =
    words (record { edition = One; root = slot 1; height = 2; records = total ns; slots = node 2 (entries_from 2 0 ns) ∷ leaves_from 0 ns ++ replicate free free_node })

-- a pool, a rectangle, and what is told of them
pub record RoomExample : Type 0 where
  pub pool : List ℤ
  pub rect : Rect
  pub room : RoomTold

abbrev asks : List ℤ → Rect → RoomTold → RoomExample
asks w r t = record { pool = w; rect = r; room = t }

-- a root with eight leaves: the first is full, the others have room
abbrev eight_leaves : List ℕ
eight_leaves = 8 ∷ replicate 7 3

abbrev pub room_examples : List RoomExample
room_examples =
    asks (words (blank_pool One 2)) (box 0 0 0 0) (Ok (slots 0 2))
    ∷ asks (one_leaf 7 2) (box 3 0 3 0) (Ok (slots 0 2))
    -- with one slot free a full root is one too few, with two it fits
    ∷ asks (one_leaf 8 1) (box 3 0 3 0) (Ok (slots 2 1))
    ∷ asks (one_leaf 8 2) (box 3 0 3 0) (Ok (slots 2 2))
    -- a full leaf below a root with room; the leaf beside it has room
    ∷ asks (over_leaves (8 ∷ 3 ∷ []) 0) (box 3 0 3 0) (Ok (slots 1 0))
    ∷ asks (over_leaves (8 ∷ 3 ∷ []) 0) (box 11 0 11 0) (Ok (slots 0 0))
    -- below a full root likewise: "from the chosen leaf upward"
    ∷ asks (over_leaves eight_leaves 2) (box 3 0 3 0) (Ok (slots 3 2))
    ∷ asks (over_leaves eight_leaves 2) (box 41 0 41 0) (Ok (slots 0 2))
    -- 1 before 2 and 3: a word too few; 2 before 3: a head that counts one record too many; then 3, low above high
    ∷ asks (replicate 49 (pos 0)) (box 3 0 2 0) (Err BadLength)
    ∷ asks (set (one_leaf 7 2) 3 (pos 8)) (box 3 0 2 0) (Err NotSound)
    ∷ asks (one_leaf 7 2) (box 3 0 2 0) (Err BadRectangle)
    ∷ []

pub rooms_say : map (λ (e : RoomExample). insert_room e.pool e.rect) room_examples ≡ map (λ (e : RoomExample). e.room) room_examples
unfolding document01 document02 leaves_from entries_from
rooms_say = refl

-- ---- what comes back

-- "slots: needed by an insert of that rectangle, and free; written only beside 0"
pub room_numbers_say : map room_number (Ok (slots 2 1) ∷ Err BadLength ∷ Err NotSound ∷ Err BadRectangle ∷ []) ≡ pos 0 ∷ pos 1 ∷ pos 2 ∷ pos 3 ∷ []
unfolding document02
room_numbers_say = refl

pub room_words_say : map (λ (r : RoomTold). room_words r (5 ∷ 6 ∷ [])) (Ok (slots 2 1) ∷ Err BadLength ∷ Err NotSound ∷ Err BadRectangle ∷ [])
    ≡ (2 ∷ 1 ∷ []) ∷ (5 ∷ 6 ∷ []) ∷ (5 ∷ 6 ∷ []) ∷ (5 ∷ 6 ∷ []) ∷ []
unfolding document02
room_words_say = refl
