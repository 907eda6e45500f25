-- `more_by_half` of `split::Pairs` meets its contract: d ties, and d in half perimeter decides.
use mathlib.Core.Path.{refl}
use native.Mathlib.Omega.{arith}
use Rattle.rules.specs.Split.{half_waste_of, wastes_more}
use Rattle.rules_laws.proofs.Rules.{ties, last_rule}
use Rattle.rules_laws.proofs.Measures.{as_wastes}
use Rattle.split.proofs.Nine.{rect_is}
use Rattle.split.proofs.seeds.PairsChoiceSeeds.more_by_half.Goals as goal

pub returns : goal.returns
unfolding wastes_more half_waste_of
returns c =
    let ms = c.args.self.now.nine.now in
    let a = c.requires.tie.1 in
    let b = c.requires.tie.2 in
    ties (as_wastes 8000000000000000000 b.key a.key) _ refl
    (last_rule {m = c.half_waste-other.result} {n = c.half_waste-own.result}
    (as_wastes 8000000000
    (rw (rect_is ms c.args.b.first _ (omega (arith, c.args.self.now.long, b.order, b.inside)), rect_is ms c.args.b.second _ (omega (arith, c.args.self.now.long, b.inside)))
    at c.half_waste-other.ensures)
    (rw (rect_is ms c.args.a.first _ (omega (arith, c.args.self.now.long, a.order, a.inside)), rect_is ms c.args.a.second _ (omega (arith, c.args.self.now.long, a.inside)))
    at c.half_waste-own.ensures)))
