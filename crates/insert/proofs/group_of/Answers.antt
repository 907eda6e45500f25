-- A turn puts the entry at one place more after those in place.
use native.Mathlib.Omega.{arith}
use Rattle.insert.proofs.Nines.{taken_more, taken_all}
use Rattle.insert.proofs.group_of.Goals as goal

pub loop-i-preserved : goal.loop-i-preserved
loop-i-preserved c =
    taken_more c.args.es c.args.places.now c.loop-i.group c.loop-i.i _ c.loop-i.invariant c.loop-i-test.true
    c.requires.few (omega (arith, c.requires.inside c.loop-i.i c.loop-i-test.true))

pub returns : goal.returns
returns c =
    taken_all c.args.es c.args.places.now c.loop-i.group c.loop-i.i c.loop-i.invariant
    (omega (arith, c.loop-i-test.false, c.loop-i.auto.i-end))
