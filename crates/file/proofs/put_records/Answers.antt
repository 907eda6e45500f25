use Rattle.rules.specs.Layout.{edition_of}
use Rattle.file.proofs.News.{put_first, put_room, put_next, put_all}
use Rattle.file.proofs.put_records.Goals as goal

pub loop-k-init : goal.loop-k-init
loop-k-init c =
    put_first (edition_of c.args.pool.now) c.args.owner c.args.pool.now c.args.items.now c.args.n
    c.args.file.now c.args.at

pub put_new-next-requires : goal.put_new-next-requires
put_new-next-requires c =
    record {
      listed = c.requires.listed;
      k_lt_n = c.loop-k-test.true;
      k_in_bounds = put_room c.loop-k.invariant c.loop-k-test.true c.requires.n_in_bounds;
    }

pub loop-k-preserved : goal.loop-k-preserved
loop-k-preserved c =
    put_next c.loop-k.invariant c.loop-k-test.true c.put_new-next.ensures

pub returns : goal.returns
returns c = put_all c.loop-k.invariant c.loop-k-test.false
