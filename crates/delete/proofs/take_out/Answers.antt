-- `delete::take_out` meets its contract: what is left of the node's words is the node without the entry.
use mathlib.Core.Path.{◌∙◌}
use Rattle.delete.proofs.Nodes.{in_pool_lem, taken_out}
use Rattle.rules.specs.Layout.{read}
use Rattle.delete.proofs.take_out.Goals as goal

pub take_entry-requires : goal.take_entry-requires
take_entry-requires c =
    record {
      fit_2 = c.requires.fit_2;
      in_pool = in_pool_lem c.requires.fit_2 c.requires.rewritable.slot;
      i_in_bounds = c.requires.i_in_bounds;
    }

pub returns : goal.returns
returns c =
    record {
      is = c.take_entry.ensures.is ∙ taken_out (read c.args.pool.now) c.args.s c.args.i;
      fit = c.take_entry.ensures.fit;
    }
