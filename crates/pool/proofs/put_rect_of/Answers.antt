-- `pool::put_rect_of` meets its contract: the words of the rectangle are those of an entry that has its pointer already.
use native.Mathlib.Omega.{arith}
use Rattle.layout_laws.proofs.Parts.{slot_few}
use Rattle.pool.proofs.Stores.{rect_inside, rect_stored}
use Rattle.pool.proofs.put_rect_of.Goals as goal

pub at-requires : goal.at-requires
at-requires c = c.requires.in_pool

pub spot-at-requires : goal.spot-at-requires
spot-at-requires c = omega (arith, slot_few c.requires.in_pool, c.requires.i_in_bounds)

pub put_rect-requires : goal.put_rect-requires
put_rect-requires c =
    let at = rw (c.at.ensures.words, c.at.ensures.slot) at c.spot-at.ensures in
    rw at (rect_inside c.requires.in_pool _ (omega (arith, slot_few c.requires.in_pool, c.requires.i_in_bounds)))

pub returns : goal.returns
returns c =
    let at = rw (c.at.ensures.words, c.at.ensures.slot) at c.spot-at.ensures in
    let both = rect_stored c.requires.fit_2 c.requires.in_pool c.args.i c.args.r c.requires.i_in_bounds c.put_rect.new.pool
    (rw (← at) c.put_rect.ensures) in
    record { is = both.0; fit = both.1 }
