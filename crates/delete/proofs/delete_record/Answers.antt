-- Each step leaves what the next one asks; where the leaf is not thin, all is done at once.
use mathlib.Core.Path.{sym, ◌∙◌}
use Rattle.rules_laws.proofs.Bools.{not_true}
use Rattle.delete.proofs.Deleted.{asked, counted_off, some_record, records_small, down_way, down_known}
use Rattle.delete.proofs.Deleted.{back_waits, back_owned, back_high, back_known, deleted}
use Rattle.delete.proofs.Deleted.{leaf_in, way_keeps, kept_made}
use Rattle.delete.proofs.delete_record.Goals as goal

pub count_off-requires : goal.count_off-requires
count_off-requires c =
    let g = asked c.requires.fit c.requires.whole c.requires.gives in
    record { fit_2 = c.requires.fit; bound = (some_record g, records_small g) }

pub over-requires-2 : goal.over-requires-2
over-requires-2 c = c.count_off.ensures.fit.right

pub thin-requires : goal.thin-requires
thin-requires c =
    let g = asked c.requires.fit c.requires.whole c.requires.gives in
    let u = counted_off (rw c.over.ensures at c.height-height.ensures) c.count_off.ensures.is in
    rw c.over-2.ensures (leaf_in g u c.count_off.ensures.fit)

pub tighten_up-requires : goal.tighten_up-requires
tighten_up-requires c =
    let g = asked c.requires.fit c.requires.whole c.requires.gives in
    let u = counted_off (rw c.over.ensures at c.height-height.ensures) c.count_off.ensures.is in
    let thick = sym (rw c.over-2.ensures at c.thin.ensures) ∙ not_true _ c.if-not-thin.true-raw in
    record {
      fit_2 = c.count_off.ensures.fit;
      comes_down = down_way g u;
      keeps_enough = way_keeps g u thick;
    }

pub returns-then-not-thin : goal.returns-then-not-thin
returns-then-not-thin c =
    let g = asked c.requires.fit c.requires.whole c.requires.gives in
    let u = counted_off (rw c.over.ensures at c.height-height.ensures) c.count_off.ensures.is in
    let thick = sym (rw c.over-2.ensures at c.thin.ensures) ∙ not_true _ c.if-not-thin.true-raw in
    kept_made g u thick c.args.free c.requires.known c.tighten_up.new.pool
    c.tighten_up.ensures.is c.tighten_up.ensures.fit c.tighten_up.ensures.free

pub condense-requires : goal.condense-requires
condense-requires c =
    let g = asked c.requires.fit c.requires.whole c.requires.gives in
    let u = counted_off (rw c.over.ensures at c.height-height.ensures) c.count_off.ensures.is in
    record {
      fit = c.count_off.ensures.fit;
      comes_down = down_way g u;
      known = rw c.none-asides.ensures.free (down_known g u c.args.free c.requires.known);
      none = c.none-asides.ensures.is;
    }

pub put_back-requires : goal.put_back-requires
put_back-requires c =
    let g = asked c.requires.fit c.requires.whole c.requires.gives in
    let u = counted_off (rw c.over.ensures at c.height-height.ensures) c.count_off.ensures.is in
    record {
      fit = c.condense.ensures.pool.fit;
      waiting = (back_waits g u c.condense.ensures, back_owned g u c.condense.ensures);
      known = back_known g u c.condense.ensures;
      height_bound = back_high g u c.condense.ensures;
    }

pub returns : goal.returns
returns c =
    let g = asked c.requires.fit c.requires.whole c.requires.gives in
    let u = counted_off (rw c.over.ensures at c.height-height.ensures) c.count_off.ensures.is in
    deleted g u c.condense.ensures (c.condense.auto.pool ∙ c.count_off.auto.pool)
    c.put_back.result c.put_back.new.pool c.put_back.ensures
