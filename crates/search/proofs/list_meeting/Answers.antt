-- From the root on, with nothing found or opened before.
use Rattle.search.proofs.Trees.{low_enough}
use Rattle.search.proofs.Steps.{top_room, top_went}
use Rattle.search.proofs.list_meeting.Goals as goal

pub list_node-requires-clause-item_room : goal.list_node-requires-clause-item_room
list_node-requires-clause-item_room c =
    let pool = c.args.pool.words.now in
    top_room pool c.args.window c.args.pool.right c.height.result c.root.result
    (low_enough pool c.args.pool.right c.requires.whole) c.height.ensures c.root.ensures
    c.args.items.now c.requires.window_in_bounds

pub returns : goal.returns
returns c =
    let pool = c.args.pool.words.now in
    top_went pool c.args.window c.args.pool.right c.height.result c.root.result
    (low_enough pool c.args.pool.right c.requires.whole) c.height.ensures c.root.ensures c.list_node.ensures
