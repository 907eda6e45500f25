-- What a pool keeps, whatever is put into it.
use Rattle.std.specs.Prelude.{ℕ}
use Rattle.rules.specs.declared.SlotNumber.{SlotNumber}
use Rattle.rules.specs.Pool.{Node, Pool, put_node, put_root, put_records}
use Rattle.rules.specs.Insert.{Grown, Kept, Split, Full, Change, Done, NoneFree}

-- it lasts where a node is put into a slot, where the root and the height are put, and where the count of records is
pub record Lasting (P : Pool → Type 0) : Type 0 where
  pub node : (p : Pool) (s : SlotNumber) (n : Node) → P p → P (put_node p s n)
  pub root : (p : Pool) (s : SlotNumber) (h : ℕ) → P p → P (put_root p s h)
  pub records : (p : Pool) (n : ℕ) → P p → P (put_records p n)

-- what became of a node, and of a pool, where it is given, is as it should be
abbrev pub EachGrown : (Pool → Type 0) → Grown → Type 0
EachGrown Good (Kept q) = Good q
EachGrown Good (Split q x) = Good q
EachGrown Good Full = Unit {0}

abbrev pub EachPool : (Pool → Type 0) → Change → Type 0
EachPool Good (Done q) = Good q
EachPool Good NoneFree = Unit {0}
