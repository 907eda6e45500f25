-- `insert::insert_record` meets its contract: the number of records is no part of the tree; where the entry is refused, the number is put
-- back, and with it the words.
use native.Mathlib.Omega.{arith}
use Rattle.rules.specs.Pool.{leaf_entry}
use Rattle.insert.proofs.Records.{records_few, refused_fit, head_upright, head_levels, head_known, head_goes, record_made, record_refused}
use Rattle.insert.proofs.insert_record.Goals as goal

pub overflow_add-counted : goal.overflow_add-counted
overflow_add-counted c =
    let n = rw c.over.ensures at c.records-n.ensures in
    let w = c.args.pool.now in
    omega (arith, records_few w c.requires.fit.right c.requires.whole, n)

pub put_records-requires : goal.put_records-requires
put_records-requires c =
    let n = rw c.over.ensures at c.records-n.ensures in
    let w = c.args.pool.now in
    record {
      fit_2 = c.requires.fit;
      n_bound = omega (arith, records_few w c.requires.fit.right c.requires.whole, n);
    }

pub insert_at-left-requires : goal.insert_at-left-requires
unfolding leaf_entry
insert_at-left-requires c =
    let w = c.args.pool.now in
    record {
      fit = c.put_records.ensures.fit;
      upright = head_upright w c.requires.fit.right c.requires.whole _ c.put_records.new.pool c.put_records.ensures.is;
      level_bound = head_levels w c.requires.fit.right c.requires.whole _ c.put_records.new.pool c.put_records.ensures.is;
      may_go = head_goes w c.requires.fit.right c.requires.whole _ c.put_records.new.pool c.put_records.ensures.is c.args.r
          c.requires.rect_value.0 c.requires.rect_value.1 c.requires.rect_value.2;
      known = head_known w c.requires.fit.right c.requires.whole _ c.put_records.new.pool c.put_records.ensures.is _ c.requires.known;
    }

pub returns-else-is_none : goal.returns-else-is_none
unfolding leaf_entry
returns-else-is_none c =
    let n = rw c.over.ensures at c.records-n.ensures in
    record_made c.args.pool.now c.args.r c.records-n.result n c.put_records.new.pool c.put_records.ensures.is
    c.insert_at-left.result c.insert_at-left.new.pool c.insert_at-left.ensures c.if-is_none.ensures

pub put_records-requires-then-is_none : goal.put_records-requires-then-is_none
unfolding leaf_entry
put_records-requires-then-is_none c =
    let n = rw c.over.ensures at c.records-n.ensures in
    let w = c.args.pool.now in
    record {
      fit_2 = refused_fit c.args.r c.put_records.new.pool c.insert_at-left.new.pool c.insert_at-left.result
          c.insert_at-left.ensures c.if-is_none.ensures c.put_records.ensures.fit;
      n_bound = omega (arith, records_few w c.requires.fit.right c.requires.whole, n);
    }

pub returns-then-is_none : goal.returns-then-is_none
unfolding leaf_entry
returns-then-is_none c =
    let n = rw c.over.ensures at c.records-n.ensures in
    record_refused c.args.pool.now c.args.r c.records-n.result n c.put_records.new.pool c.put_records.ensures.is
    c.insert_at-left.result c.insert_at-left.new.pool c.insert_at-left.ensures c.if-is_none.ensures c.requires.fit
    c.put_records-then-is_none.new.pool c.put_records-then-is_none.ensures.fit c.put_records-then-is_none.ensures.is
