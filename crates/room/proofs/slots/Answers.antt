use native.Mathlib.Omega.{arith}
use Rattle.room.proofs.Rooms.{high, leaf_way, needed_few, free_few}
use Rattle.room.proofs.slots.Goals as goal

pub needed-needed-requires : goal.needed-needed-requires
needed-needed-requires c =
    let w = c.args.pool.words.now in
    record {
      level_bound = high w c.args.new c.args.pool.right c.requires.whole;
      way_down = leaf_way w c.args.new c.args.pool.right c.requires.whole c.requires.value;
    }

pub overflow_cast-result : goal.overflow_cast-result
overflow_cast-result c =
    record { fits = omega (arith, c.needed-needed.ensures, needed_few c.args.pool.words.now c.args.new c.args.pool.right c.requires.whole) }

pub overflow_cast-result-2 : goal.overflow_cast-result-2
overflow_cast-result-2 c =
    record { fits = omega (arith, c.free_count-free.ensures, free_few c.args.pool.words.now c.args.new c.args.pool.right c.requires.whole) }

pub returns : goal.returns
returns c = rw (c.needed-needed.ensures, c.free_count-free.ensures)
