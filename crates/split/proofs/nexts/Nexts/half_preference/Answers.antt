-- `split::nexts::Nexts::half_preference` meets its contract: the difference of two enlargements in
-- half perimeter, without its sign.
use mathlib.Core.Path.{ap, ◌∙◌}
use native.Mathlib.Omega.{arith}
use lib.IntN.{pos}
use Rattle.rules.specs.Choose.{rect_from}
use Rattle.rules.specs.Split.{half_preference}
use Rattle.split.specs.State.{rects_of}
use Rattle.split.proofs.Nine.{rect_is}
use Rattle.split.proofs.Preferences.{apart_is}
use Rattle.split.proofs.nexts.Nexts.half_preference.Goals as goal

pub returns : goal.returns
unfolding half_preference
returns c =
    let ms = c.args.self.now.nine.now in
    let e = rect_is ms c.at.result c.index-self-at.result (omega (arith, c.args.self.now.long, c.at.ensures.inside))
    ∙ ap (rect_from (rects_of ms)) c.at.ensures.is in
    ap pos c.abs_diff.ensures ∙ apart_is (rw e at c.half_enlargement-one.ensures) (rw e at c.half_enlargement-two.ensures)
