-- "Insert": ChooseLeaf down, SplitNode and AdjustTree up. Deletes put entries back by the same rules, each at its own level.
use Rattle.std.specs.Prelude.{true, false, List, [], ◌∷◌, ◌++◌, ℕ, zero, suc, ◌+◌, ◌-◌, length, ltb, Option, Some, None}
use Rattle.rules.specs.declared.Rect.{Rect}
use Rattle.rules.specs.declared.SlotNumber.{SlotNumber}
use Rattle.rules.specs.declared.Record.{Record}
use Rattle.rules.specs.declared.Pointer.TheVariants.{Child}
use Rattle.rules.specs.declared.Entry.{Entry}
use Rattle.rules.specs.Numbers.{most}
use Rattle.rules.specs.Pool.{Pool, node, entry, node_at, entries_at, entry_at, child_of, leaf_entry, rects, cover_of, entry_for, lowest_free, put_node, put_entries, put_root, put_records, tighten}
use Rattle.rules.specs.Choose.{choose_child}
use Rattle.rules.specs.Split.{Halves, quadratic_split}

-- the two choices that a tree leaves open: which entry of an inner node a rectangle goes below, and how nine entries make two groups
pub record Choice : Type 0 where
  pub child : List Rect → Rect → ℕ
  pub split : List Entry → Halves

-- document 01's
abbrev pub ours : Choice
ours = record { child = choose_child; split = quadratic_split }

-- what became of a node that was to take an entry: it has taken it; it was split, and the parent is to have an entry for its partner; or
-- "the rules call for a slot at a moment when none is free"
pub data Grown : Type 0 where
  Kept : Pool → Grown
  Split : Pool → Entry → Grown
  Full : Grown

-- .. and of a pool
pub data Change : Type 0 where
  Done : Pool → Change
  NoneFree : Change

-- "Group 1 stays in the old slot. Group 2 takes the lowest free slot."
unfoldable pub split_into : Pool → SlotNumber → Halves → Option SlotNumber → Grown
split_into p s h None = Full
split_into p s h (Some t) =
    Split (put_node (put_entries p s h.one) t (node (node_at p s).level h.two)) (entry (cover_of h.two) (Child t))

-- I4: "If the root splits, a new root takes the lowest free slot then left, with entries for old root and partner in that order."
unfoldable pub new_root : Pool → Entry → Option SlotNumber → Change
new_root p partner None = NoneFree
new_root p partner (Some t) =
    Done (put_root (put_node p t (node (suc p.height) (entry_for p p.root ∷ partner ∷ []))) t (suc p.height))

unfoldable pub grow_tree : Grown → Change
grow_tree (Kept p) = Done p
grow_tree (Split p partner) = new_root p partner (lowest_free p)
grow_tree Full = NoneFree

module _ (c : Choice) where
  -- I2 and AT4: "A new entry goes last. A full node splits over nine entries, the eight in stored order and the new one ninth."
  unfoldable pub install : Pool → SlotNumber → Entry → Grown
  install p s e =
      elim (ltb (length (entries_at p s)) most) [
        | true ↦ Kept (put_entries p s (entries_at p s ++ e ∷ []))
        | false ↦ split_into p s (c.split (entries_at p s ++ e ∷ [])) (lowest_free p)
      ]

  -- "AdjustTree sets each path cover tight and adds the partner last in the parent.": at the parent s, whose entry i leads to the child
  unfoldable pub adjust : SlotNumber → ℕ → Grown → Grown
  adjust s i (Kept p) = Kept (tighten p s i)
  adjust s i (Split p partner) = install (tighten p s i) s partner
  adjust s i Full = Full

  -- CL2 to CL4, then AT1 to AT5 on the way back: e goes into a node n levels below the node at s
  unfoldable pub insert_below : ℕ → Pool → SlotNumber → Entry → Grown
  insert_below zero p s e = install p s e
  insert_below (suc n) p s e =
      adjust s (c.child (rects (entries_at p s)) e.rect)
      (insert_below n p (child_of (entry_at p s (c.child (rects (entries_at p s)) e.rect))) e)

  -- an entry goes in at a level
  unfoldable pub insert_at : ℕ → Pool → Entry → Change
  insert_at level p e = grow_tree (insert_below (p.height - level) p p.root e)

  -- a record goes in, and is counted
  unfoldable pub insert_record : Pool → Record → Change
  insert_record p r = insert_at 1 (put_records p (p.records + 1)) (leaf_entry r)
