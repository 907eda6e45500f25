-- What a `Pool` and a `Node` stand for: the pool that its words are read as, and the node in its slot.
use Rattle.std.specs.Prelude.{List, ℕ, ℤ, drop}
use Rattle.rules.specs.declared.Entry.{Entry}
use Rattle.rules.specs.declared.Rect.{Rect}
use Rattle.rules.specs.Layout as L
use Rattle.rules.specs.Pool as P
use Rattle.pool.specs.declared.node.Pool.{Pool}
use Rattle.pool.specs.declared.node.Node.{Node}

abbrev pub read : Pool → P.Pool
read p = L.read p.words.now

abbrev pub node_of : Node → P.Node
node_of n = P.node_at (L.read n.words.now) n.slot

abbrev pub entries_of : Node → List Entry
entries_of n = P.entries_at (L.read n.words.now) n.slot

abbrev pub entry_of : Node → ℕ → Entry
entry_of n i = P.entry_at (L.read n.words.now) n.slot i

abbrev pub rects_of : Node → List Rect
rects_of n = P.rects (entries_of n)

-- the owner's word of entry i, 0 where the edition has none
abbrev pub owner_word_of : Node → ℕ → ℤ
owner_word_of n i =
    let w = n.words.now in
    L.owner_at (L.edition_of w) (drop (L.entry_place (L.edition_of w) n.slot i) w)
