-- `at` of `split::Pairs` meets its contract: the two rectangles are those at the places.
use native.Mathlib.Omega.{arith}
use Rattle.rules.specs.Split.{waste_of}
use Rattle.split.proofs.Nine.{rect_is}
use Rattle.split.proofs.seeds.PairsChoiceSeeds.at.Goals as goal

pub returns-clause-right : goal.returns-clause-right
unfolding waste_of
returns-clause-right c =
    let ms = c.args.self.now.nine.now in
    record {
      order = c.requires.0;
      inside = c.requires.1;
      key =
          rw (rect_is ms c.args.self.now.first _ (omega (arith, c.args.self.now.long, c.requires.0, c.requires.1)), rect_is ms c.args.second _ (omega (arith, c.args.self.now.long, c.requires.1)))
          at c.waste-key.ensures;
    }
