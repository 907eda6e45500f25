use lib.ListN.{length}
use mir.Facts.{to_z-of_z}
use Rattle.rules.specs.Owners.{owner}
use Rattle.rules.specs.Layout.{read}
use Rattle.rules.specs.Insert.{ours}
use Rattle.rules.specs.Request.{request}
use Rattle.request.specs.Serving.{Serves}
use Rattle.request.proofs.Cases.{asks_one}
use Rattle.request.proofs.Listing.{asks_sound}
use Rattle.request.proofs.one_request.Goals as goal

pub serve_asked-requires : goal.serve_asked-requires
serve_asked-requires c =
    record {
      ready = c.requires.ready;
      work_len = c.requires.work_len;
      a_value = asks_sound c.args.pool.now (owner c.args.owner) c.batch_owner-who.result c.args.q _ c.requires.owner_value
          (rw (c.over.ensures, to_z-of_z c.ranges.owner) at c.batch_owner-who.ensures) c.asked-a.ensures;
      filled_bound = c.requires.filled_bound;
    }

pub returns : goal.returns
returns c =
    asks_one (λ a. Serves (length c.args.pool.now)
    (request ours (read c.args.pool.now) c.args.filled c.args.room a) _ _ _) c.batch_owner-who.result _
    (rw (c.over.ensures, to_z-of_z c.ranges.owner) at c.batch_owner-who.ensures) c.args.q _ c.asked-a.ensures c.serve_asked.ensures
