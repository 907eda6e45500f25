-- `insert::rects_of` meets its contract: a turn puts one rectangle more after those in place, and nine are all.
use borrow.Author.Rules.{rules}
use mathlib.Core.Path.{refl}
use native.Mathlib.Omega.{arith}
use Rattle.insert.proofs.Nines.{rects_more, rects_all}
use Rattle.insert.proofs.rects_of.Goals as goal

pub loop-i-init : goal.loop-i-init
loop-i-init c = record { most = omega arith; nine = search rules; long = refl; is = refl }

pub loop-i-preserved : goal.loop-i-preserved
loop-i-preserved c = rects_more _ c.loop-i.invariant (omega arith)

pub returns : goal.returns
returns c = rects_all c.args.es c.loop-i.rects c.loop-i.i c.loop-i.invariant (omega arith)
