use mathlib.Core.Path.{ap, subst⁻¹, ◌∙◌}
use Prim.Native.Nat.{◌+◌, ◌≤◌}
use lib.ListN.{length, drop}
use Rattle.rules.specs.declared.Edition.{Edition}
use Rattle.rules.specs.Layout.{entry_size, owner_at}
use borrow.Author.Rules.{sfits_of}
use Rattle.pool.proofs.Naturals.{word_read}
use Rattle.pool.proofs.owner_at.Goals as goal

pub owner_in-requires : goal.owner_in-requires
owner_in-requires c =
    subst⁻¹ (λ (e : Edition). c.args.at + entry_size e ≤ length c.args.pool.now) c.edition_of.ensures c.requires.pool_in_bounds

pub returns : goal.returns
returns c =
    word_read (sfits_of c.owner_in.type_inv) c.owner_in.ensures
    ∙ ap (λ (e : Edition). owner_at e (drop c.args.at c.args.pool.now)) c.edition_of.ensures
