use Rattle.std.proofs.Common.{rules}
use Rattle.rules.specs.Geometry.{cover}
use Rattle.rules.proofs.Derived.{min_smaller, max_larger}
use Rattle.geometry.proofs.cover.Goals as goal

pub returns : goal.returns
unfolding cover
returns c = search (rules, min_smaller, max_larger)
