-- `split::nexts::pick_next` meets its contract: the position found is where the place stands that
-- prefers a group most.
use mathlib.Core.Path.{ap, ◌∙◌}
use Prim.Native.Nat.{ℕ}
use lib.ListN.{get_or}
use Rattle.split.specs.State.{rects_of, standing, prefers}
use Rattle.split.proofs.Choices.{best_from}
use Rattle.split.proofs.Preferences.{place_found}
use Rattle.split.proofs.nexts.pick_next.Goals as goal

pub returns-clause-is : goal.returns-clause-is
returns-clause-is c =
    let rs = rects_of c.args.nine.now in
    let a = c.args.one.now.cover.rect in
    let b = c.args.two.now.cover.rect in
    let left = c.args.left.now in
    ap (λ (k : ℕ). get_or (standing left) k 0)
    ((rw c.count.ensures at c.best_of.ensures.is)
    ∙ ap (λ (k : ℕ). best_from (prefers rs a b (standing left)) (λ i. i) k 1 left.count) c.at.ensures.is)
    ∙ place_found rs a b left c.requires.some
