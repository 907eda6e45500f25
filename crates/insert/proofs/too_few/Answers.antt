-- `insert::too_few` meets its contract: with one free slot more than levels there are enough.
use mathlib.Core.Path.{ap}
use lib.Dec.{ltb}
use Rattle.pool.specs.Reading.{read}
use Rattle.insert.proofs.Roots.{enough_free, root_way}
use Rattle.insert.proofs.too_few.Goals as goal

pub returns-then-height-count : goal.returns-then-height-count
returns-then-height-count c =
    let p = read c.args.pool in
    enough_free p c.args.level c.args.e c.requires.upright c.requires.level_bound.0 c.requires.level_bound.1 c.requires.fits
    c.args.free.count c.height.result c.height.ensures c.if-height-count.true

pub needed-requires : goal.needed-requires
needed-requires c =
    let p = read c.args.pool in
    record {
      level_bound = c.requires.level_bound.0;
      way_down = root_way p c.args.level c.args.e c.requires.upright c.requires.level_bound.0 c.requires.level_bound.1 c.requires.fits;
    }

pub returns : goal.returns
returns c = ap (ltb c.args.free.count) c.needed.ensures
