-- What words hold of the nine, they hold of a group of them.
use mathlib.Core.Path.{ap, ◌∙◌}
use mathlib.Core.List.{List}
use native.Mathlib.Omega.{arith}
use Rattle.rules.specs.Layout.{read}
use Rattle.rules.specs.declared.Entry.{Entry}
use Rattle.rules.specs.Pool.{node, put_node}
use Rattle.insert.proofs.Nines.{many, group_small, group_kind}
use Rattle.insert.proofs.put_group.Goals as goal

pub put_node-requires : goal.put_node-requires
put_node-requires c =
    record {
      fit_2 = c.requires.fit_2;
      in_pool = c.requires.in_pool;
      level_le_most_slots = c.requires.level_bound;
      few = omega (arith, many c.args.es _ c.args.places.now c.group_of-group.ensures, c.requires.few);
      small_all = group_small c.args.es _ c.args.places.now c.group_of-group.ensures c.requires.inside
          c.requires.small_all;
      kind_all = group_kind c.args.es _ c.args.places.now c.group_of-group.ensures c.requires.inside
          _ c.args.level c.requires.kind_all;
    }

pub returns : goal.returns
returns c =
    record {
      is = c.put_node.ensures.is
          ∙ ap (λ (xs : List Entry). put_node (read c.args.pool.now) c.args.s (node c.args.level xs)) c.group_of-group.ensures;
      fit = c.put_node.ensures.fit;
    }
