-- A node of level 0 with no entries is written.
use native.Mathlib.Omega.{arith}
use Rattle.rules.specs.Pool.{zero_slot}
use Rattle.delete.proofs.zero_slot.Goals as goal

pub put_node-requires : goal.put_node-requires
put_node-requires c =
    record {
      fit_2 = c.requires.fit_2;
      in_pool = c.requires.in_pool;
      level_le_most_slots = omega arith;
      few = omega arith;
      small_all = record { small = λ i h. absurd (omega arith) };
      kind_all = record { kind = λ i h. absurd (omega arith) };
    }

pub returns : goal.returns
unfolding zero_slot
returns c = record {
  is = c.put_node.ensures.is;
  fit = c.put_node.ensures.fit;
}
