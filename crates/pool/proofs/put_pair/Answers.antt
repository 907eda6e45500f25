-- `pool::put_pair` meets its contract: the pointer's word stands after those of the rectangle.
use mathlib.Core.Path.{ap₂, ◌∙◌}
use mathlib.Core.List.{List, [], ◌∷◌}
use Prim.Native.Nat.{◌+◌}
use lib.ListN.{set}
use lib.IntN.{ℤ}
use borrow.Author.Rules.{sfits_of}
use Rattle.rules.specs.Layout.{rect_size, pointer_word, entry_words, owner_words}
use Rattle.layout_laws.proofs.Runs.{sets_more}
use Rattle.pool.proofs.Naturals.{word_read}
use Rattle.pool.proofs.Stores.{rect_words}
use Rattle.pool.proofs.put_pair.Goals as goal

pub returns : goal.returns
unfolding entry_words owner_words
returns c =
    let at = c.args.at in
    let e = c.args.e in
    ap₂ (λ (x : List ℤ) (z : ℤ). set x (at + rect_size) z) c.put_rect.ensures
    (word_read (sfits_of c.pointer_word.type_inv) c.pointer_word.ensures)
    ∙ sets_more (rect_words e.rect) (pointer_word e.pointer ∷ []) c.args.pool.now at
