use native.Mathlib.Omega.{arith}
use Rattle.pool.proofs.Lengths.{some_word}
use Rattle.file.proofs.Writes.{all_long, fills_short, fills_all}
use Rattle.file.proofs.fill.Goals as goal

pub edition_of-requires : goal.edition_of-requires
edition_of-requires c =
    some_word c.args.pool.words.now c.args.pool.right

pub place_of-bytes-requires : goal.place_of-bytes-requires
place_of-bytes-requires c = omega (arith, c.count_file-c.ensures.few)

pub overflow_add-bytes : goal.overflow_add-bytes
overflow_add-bytes c = omega (arith, c.place_of-bytes.ensures.most, c.count_file-c.ensures.few)

pub returns-then-file-bytes : goal.returns-then-file-bytes
returns-then-file-bytes c =
    fills_short c.args.pool.words.now c.args.file.now c.edition_of.ensures c.count_file-c.ensures.is
    c.place_of-bytes.ensures.is (omega (arith, c.if-file-bytes.true))

pub put_file-requires : goal.put_file-requires
put_file-requires c =
    record {
      whole = c.requires.whole;
      counts_file = c.count_file-c.ensures;
      pool_in_bounds = omega (
        arith,
        all_long c.args.pool.words.now c.args.file.now c.edition_of.ensures c.count_file-c.ensures.is
            c.place_of-bytes.ensures.is,
        c.if-file-bytes.false,
      );
    }

pub returns : goal.returns
returns c =
    fills_all c.args.pool.words.now c.args.file.now c.edition_of.ensures c.count_file-c.ensures.is c.place_of-bytes.ensures.is
    (omega (arith, c.if-file-bytes.false)) c.put_file.ensures
