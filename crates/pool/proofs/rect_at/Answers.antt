-- The four words at a place are those of its rectangle.
use Rattle.std.proofs.Common.{rules, ◌+◌, pos, w32, get_or}
use mir.Facts.{to_z-of_z}
use mir.Val.{SFits}
use Rattle.rules.specs.Layout.{word_at}
use Rattle.pool.proofs.Stores.{rect_words_lem}
use Rattle.pool.proofs.rect_at.Goals as goal

pub returns : goal.returns
unfolding word_at
returns c =
    let w = c.args.pool.now in
    let at = c.args.at in
    let a : SFits w32 (get_or w at (pos 0)) = search rules in
    let b : SFits w32 (get_or w (at + 1) (pos 0)) = search rules in
    let d : SFits w32 (get_or w (at + 2) (pos 0)) = search rules in
    let e : SFits w32 (get_or w (at + 3) (pos 0)) = search rules in
    rw (to_z-of_z a, to_z-of_z b, to_z-of_z d, to_z-of_z e) (rect_words_lem w at)
