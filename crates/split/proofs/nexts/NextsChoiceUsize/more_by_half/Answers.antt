-- `more_by_half` of `split::nexts::Nexts` meets its contract: the preferences tie, and those in
-- half perimeter decide.
use mathlib.Core.Path.{refl}
use Rattle.rules.specs.Split.{prefers_more}
use Rattle.rules_laws.proofs.Rules.{as_pos, ties, last_rule}
use Rattle.split.proofs.nexts.NextsChoiceUsize.more_by_half.Goals as goal

pub returns : goal.returns
unfolding prefers_more
returns c =
    ties (as_pos c.requires.tie.2.key c.requires.tie.1.key) _ refl
    (last_rule {m = c.half_preference-less.result} {n = c.half_preference-more.result}
    (as_pos c.half_preference-less.ensures c.half_preference-more.ensures))
