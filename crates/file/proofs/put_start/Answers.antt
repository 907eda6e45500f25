use native.Mathlib.Omega.{arith}
use Rattle.frames.proofs.Texts.{wrote_then}
use Rattle.file.proofs.Sizes.{pair_next}
use Rattle.file.proofs.put_start.Goals as goal

pub put_pair-requires : goal.put_pair-requires
put_pair-requires c =
    omega (arith, c.requires.at_in_bounds, pair_next _ c.put_pair-next.ensures, c.put_pair-next.auto.out)

pub returns : goal.returns
returns c =
    wrote_then (rw c.from.ensures at c.put_pair-next.ensures) (rw c.from-2.ensures at c.put_pair.ensures)
