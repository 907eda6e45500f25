-- `delete::set_aside` meets its contract: each turn sets the next entry aside, after those before.
use mathlib.Core.Path.{ap, ◌∙◌}
use mathlib.Core.List.{List, ◌++◌}
use native.Mathlib.Omega.{arith}
use Rattle.rules.specs.Pool.{entry_at, entry_from}
use Rattle.pool.specs.Reading.{entries_of}
use Rattle.rules.specs.Layout.{read}
use Rattle.rules.specs.Delete.{Aside}
use Rattle.delete.specs.Aside.{asides_of}
use Rattle.delete.proofs.Listed.{node_more, node_all}
use Rattle.delete.proofs.set_aside.Goals as goal

pub loop-k-preserved : goal.loop-k-preserved
unfolding entry_at entry_from
loop-k-preserved c = (
  c.push.ensures.is
      ∙ node_more (asides_of c.args.asides.now) c.level-level.result (entries_of c.args.node.now) c.loop-k.k
      (asides_of c.loop-k.asides) c.entry.result (omega (arith, c.count-k-end.ensures.is, c.loop-k-test.true))
      c.loop-k.invariant.0 c.entry.ensures,
  omega (arith, c.push.ensures.count, c.loop-k.invariant.1),
  c.push.ensures.free ∙ c.loop-k.invariant.2,
)

pub returns : goal.returns
returns c =
    record {
      is = c.loop-k.invariant.0
          ∙ ap (λ (xs : List Aside). asides_of c.args.asides.now ++ xs)
          (node_all (read c.args.node.now.words.now) c.args.node.now.slot c.level-level.result c.loop-k.k c.level-level.ensures
          (omega (arith, c.count-k-end.ensures.is, c.loop-k-test.false)));
      free = c.loop-k.invariant.2;
    }
