use mathlib.Core.Path.{sym, ◌∙◌}
use native.Mathlib.Omega.{arith}
use Rattle.rules.specs.Pool.{node_at, entries_at}
use Rattle.rules.specs.Layout.{read}
use Rattle.sound.proofs.Records.{leaf_records_lem, no_records}
use Rattle.sound.proofs.records_in.Goals as goal

pub returns-then-level-eq1 : goal.returns-then-level-eq1
unfolding entries_at
returns-then-level-eq1 c =
    record {
      is = c.count.ensures.is
          ∙ leaf_records_lem (node_at (read c.args.node.now.words.now) c.args.node.now.slot) (sym c.level.ensures ∙ c.if-level-eq1.true);
      most = c.count.ensures.most;
    }

pub returns : goal.returns
returns c =
    record {
      is = no_records (node_at (read c.args.node.now.words.now) c.args.node.now.slot) (λ e. c.if-level-eq1.false (c.level.ensures ∙ e));
      most = omega arith;
    }
