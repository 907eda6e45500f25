-- "Delete and update": FindLeaf, CondenseTree, the entries set aside put back, the tree shortened.
use Rattle.std.specs.Prelude.{true, false, List, [], ◌∷◌, ◌++◌, map, ℕ, zero, suc, ◌-◌, length, ltb, eqb, Option, None, Some}
use Rattle.rules.specs.declared.Rect.{Rect}
use Rattle.rules.specs.declared.SlotNumber.{SlotNumber}
use Rattle.rules.specs.declared.Record.{Record}
use Rattle.rules.specs.declared.Entry.{Entry}
use Rattle.rules.specs.Lists.{without}
use Rattle.rules.specs.Numbers.{least}
use Rattle.rules.specs.Compare.{compared, is_meeting, exact_pair}
use Rattle.rules.specs.Pool.{Pool, node_at, entries_at, entry_at, child_of, record_of, moved, put_entries, zero_slot, put_root, put_records, tighten, is_leaf}
use Rattle.rules.specs.Insert.{Choice, Change, Done, NoneFree, insert_at, insert_record}

-- ---- FindLeaf

-- a place of a node: its slot, and an entry's position in it
pub record Place : Type 0 where
  pub node : SlotNumber
  pub at : ℕ

abbrev pub place : SlotNumber → ℕ → Place
place s i = record { node = s; at = i }

-- a way from a node down to a record: the place in each node that is passed, the leaf's last
abbrev pub Path : Type 0
Path = List Place

-- FL2: the first of the leaf's entries, from place i on, that is the pair
unfoldable pub find_entry : Record → SlotNumber → ℕ → List Entry → Option Path
find_entry r s i [] = None
find_entry r s i (e ∷ es) = elim (exact_pair r (record_of e)) [ true ↦ Some (place s i ∷ []) | false ↦ find_entry r s (suc i) es ]

-- the way on from place i, or else what the later entries give
unfoldable pub or_later : SlotNumber → ℕ → Option Path → Option Path → Option Path
or_later s i (Some path) later = Some (place s i ∷ path)
or_later s i None later = later

-- FL1: "FindLeaf visits children in stored order", those whose rectangle meets the pair's; `find` is FindLeaf in a child
unfoldable pub find_child : (SlotNumber → Option Path) → Rect → SlotNumber → ℕ → List Entry → Option Path
find_child find r s i [] = None
find_child find r s i (e ∷ es) =
    elim (is_meeting (compared e.rect r)) [
      | true ↦ or_later s i (find (child_of e)) (find_child find r s (suc i) es)
      | false ↦ find_child find r s (suc i) es
    ]

-- "the first exact pair found", from the node at s down, which has the level given
unfoldable pub find_leaf : Pool → Record → ℕ → SlotNumber → Option Path
find_leaf p r zero s = None
find_leaf p r (suc zero) s = find_entry r s 0 (entries_at p s)
find_leaf p r (suc (suc l)) s = find_child (λ t. find_leaf p r (suc l) t) r.rect s 0 (entries_at p s)

-- .. from the root down
abbrev pub path_to : Pool → Record → Option Path
path_to p r = find_leaf p r p.height p.root

-- ---- CondenseTree

-- an entry set aside, with the level of the node that it was in
pub record Aside : Type 0 where
  pub level : ℕ
  pub entry : Entry

pub record Condensed : Type 0 where
  pub pool : Pool
  pub set_aside : List Aside

-- "Later entries close up; the freed place is zeroed."
unfoldable pub take_out : Pool → Place → Pool
take_out p a = put_entries p a.node (without a.at (entries_at p a.node))

unfoldable pub asides : Pool → SlotNumber → List Aside
asides p s = map (λ (e : Entry). record { level = (node_at p s).level; entry = e }) (entries_at p s)

-- CT3 and CT4 at a place whose child is t: "a non-root node with fewer than 3 entries leaves its parent, its entries are set aside, and
-- its slot is zeroed and free at once"; else its cover is "made tight"
unfoldable pub relieve : Place → SlotNumber → Condensed → Condensed
relieve a t c =
    elim (ltb (length (entries_at c.pool t)) least) [
      | true ↦ record { pool = zero_slot (take_out c.pool a) t; set_aside = c.set_aside ++ asides c.pool t }
      | false ↦ record { pool = tighten c.pool a.node a.at; set_aside = c.set_aside }
    ]

-- D2, then CT1 to CT5 up the way that FindLeaf came down
unfoldable pub condense : Pool → Path → Condensed
condense p [] = record { pool = p; set_aside = [] }
condense p (a ∷ []) = record { pool = take_out p a; set_aside = [] }
condense p (a ∷ b ∷ path) = relieve a b.node (condense p (b ∷ path))

-- D4: "Last, an inner root with one child is freed and that child is root."
unfoldable pub shorten : Pool → Pool
shorten p =
    elim (is_leaf (node_at p p.root)) [
      | true ↦ p
      | false ↦ elim (eqb (length (entries_at p p.root)) 1) [
        | true ↦ put_root (zero_slot p p.root) (child_of (entry_at p p.root 0)) (p.height - 1)
        | false ↦ p
      ]
    ]

unfoldable pub shortened : Change → Change
shortened (Done p) = Done (shorten p)
shortened NoneFree = NoneFree

module _ (c : Choice) where
  -- CT6: "entries set aside are inserted again, lowest level first, in stored order, each at its own level, by the insert rules"
  unfoldable pub reinsert : Pool → List Aside → Change
  reinsert p [] = Done p
  reinsert p (a ∷ rest) = elim (insert_at c a.level p a.entry) [ Done q ↦ reinsert q rest | NoneFree ↦ NoneFree ]

  unfoldable pub put_back : Condensed → Change
  put_back d = shortened (reinsert d.pool d.set_aside)

  -- D1 to D4: a record is taken out, and the count goes down by one. (A pair that is not held changes nothing: Request.antt refuses it
  -- before)
  unfoldable pub delete_record : Pool → Record → Change
  delete_record p r =
      elim (path_to p r) [
        | None ↦ Done p
        | Some path ↦ put_back (condense (put_records p (p.records - 1)) path)
      ]

  -- "Update deletes the old pair, then inserts the new rectangle under the same number; also where old equals new."
  unfoldable pub update_record : Pool → Record → Rect → Change
  update_record p old new =
      elim (delete_record p old) [
        | Done q ↦ insert_record c q (moved old new)
        | NoneFree ↦ NoneFree
      ]
