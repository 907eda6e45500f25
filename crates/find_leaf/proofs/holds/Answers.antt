-- FindLeaf gives a way exactly where the pair is held.
use Rattle.rules.specs.Layout.{read}
use Rattle.find_leaf.proofs.Held.{whole_tree, way_held}
use Rattle.find_leaf.proofs.holds.Goals as goal

pub find_in-requires : goal.find_in-requires
find_in-requires c =
    let a = whole_tree c.args.pool.words.now c.height.result c.root.result c.args.pool.right c.requires
    c.height.ensures c.root.ensures in
    record {
      tree = a.0;
      level_bound = a.1;
    }

pub returns : goal.returns
returns c =
    way_held (read c.args.pool.words.now) c.args.r c.height.result c.root.result c.find_in.result c.requires
    c.height.ensures c.root.ensures c.find_in.ensures
