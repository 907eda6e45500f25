use mathlib.Core.Path.{sym, ap, ◌∙◌}
use mir.Facts.{to_z-of_z}
use Rattle.rules.specs.declared.Edition.{Edition}
use Rattle.rules.specs.Owners.{owner, owner_in}
use Rattle.pool.proofs.Lengths.{some_word}
use Rattle.request.proofs.batch_owner.Goals as goal

pub edition_of-requires : goal.edition_of-requires
edition_of-requires c = some_word c.args.pool.words.now c.args.pool.right

pub returns-in-One : goal.returns-in-One
unfolding owner_in
returns-in-One c =
    ap (λ (e : Edition). owner_in e (owner c.args.owner)) (sym c.in-One.is ∙ c.edition_of.ensures)

pub returns-in-Two : goal.returns-in-Two
unfolding owner_in
returns-in-Two c =
    ap owner (to_z-of_z c.ranges.owner)
    ∙ ap (λ (e : Edition). owner_in e (owner c.args.owner)) (sym c.in-Two.is ∙ c.edition_of.ensures)
