-- A node is full with eight entries.
use mathlib.Core.Path.{sym}
use native.Mathlib.Omega.{arith}
use Rattle.rules.specs.Layout.{read}
use Rattle.insert_laws.proofs.Runs.{full_one, room_none}
use Rattle.insert.proofs.one_if_full.Goals as goal

pub returns-then-count-lt-MOST : goal.returns-then-count-lt-MOST
returns-then-count-lt-MOST c =
    let n = c.args.node.now in
    record {
      is = sym (room_none (read n.words.now) n.slot
          (omega (arith, c.if-count-lt-MOST.true, c.count.ensures.is)));
      most = omega arith;
    }

pub returns-else-count-lt-MOST : goal.returns-else-count-lt-MOST
returns-else-count-lt-MOST c =
    let n = c.args.node.now in
    record {
      is = sym (full_one (read n.words.now) n.slot
          (omega (arith, c.if-count-lt-MOST.false, c.count.ensures.is)));
      most = omega arith;
    }
