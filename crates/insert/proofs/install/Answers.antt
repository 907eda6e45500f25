-- `insert::install` meets its contract: a node with room has the entry last, and a full one is split into the lowest free slot, if there is
-- one.
use mathlib.Core.Path.{sym}
use native.Mathlib.Omega.{arith}
use Rattle.rules.specs.Layout.{read}
use Rattle.sound_laws.proofs.Free.{at_some, lowest_slot}
use Rattle.nodes.proofs.Slots.{most_slots_lem}
use Rattle.layout_laws.proofs.Written.{edition_is}
use Rattle.insert.proofs.Fitted.{slot_in}
use Rattle.insert.proofs.Divided.{here_node, here_small, here_kind, room_grows, split_grows, none_grows}
use Rattle.insert.proofs.install.Goals as goal

pub at-requires : goal.at-requires
at-requires c =
    let w = c.args.pool.now in
    slot_in w c.args.s c.requires.fitted.fit.right (here_node c.requires.here).slot

pub add_entry-requires : goal.add_entry-requires
add_entry-requires c =
    let count = rw (c.at.ensures.words, c.at.ensures.slot) at c.count.ensures.is in
    let w = c.args.pool.now in
    let few = most_slots_lem w c.requires.fitted.fit.right in record {
      fit_2 = c.requires.fitted.fit;
      in_pool = slot_in w c.args.s c.requires.fitted.fit.right (here_node c.requires.here).slot;
      s_len_bound = omega (arith, c.if-count-lt-MOST.true, count);
      small = here_small c.requires.here few;
      kind_of = here_kind c.requires.here few _ (edition_is w);
    }

pub returns-then-count-lt-MOST : goal.returns-then-count-lt-MOST
returns-then-count-lt-MOST c =
    let count = rw (c.at.ensures.words, c.at.ensures.slot) at c.count.ensures.is in
    room_grows c.requires.fitted c.requires.here (omega (arith, c.if-count-lt-MOST.true, count)) c.add_entry.new.pool
    c.add_entry.ensures.fit c.add_entry.ensures.is

pub split_node-partner-requires : goal.split_node-partner-requires
split_node-partner-requires c =
    let count = rw (c.at.ensures.words, c.at.ensures.slot) at c.count.ensures.is in
    let low = sym (rw c.over.ensures at c.in_ok-t.ensures) in
    record {
      fit_2 = c.requires.fitted.fit;
      here = c.requires.here;
      in_bounds = omega (arith, c.if-count-lt-MOST.false, count);
      pool_value = low;
    }

pub less_slot-requires : goal.less_slot-requires
less_slot-requires c =
    let low = sym (rw c.over.ensures at c.in_ok-t.ensures) in
    let w = c.args.pool.now in
    record {
      count_nonzero = omega (arith, at_some (read w) _ low, c.requires.fitted.known.many);
      t_le_most_slots = omega (arith, (lowest_slot (read w) _ low).high, most_slots_lem w c.requires.fitted.fit.right);
    }

pub returns : goal.returns
returns c =
    let count = rw (c.at.ensures.words, c.at.ensures.slot) at c.count.ensures.is in
    let low = sym (rw c.over.ensures at c.in_ok-t.ensures) in
    split_grows c.requires.fitted c.requires.here (omega (arith, c.if-count-lt-MOST.false, count)) _
    (low) c.split_node-partner.new.pool c.split_node-partner.ensures.fit c.split_node-partner.result
    c.split_node-partner.ensures.is c.less_slot.result c.less_slot.ensures

pub returns-in_err-t : goal.returns-in_err-t
returns-in_err-t c =
    let count = rw (c.at.ensures.words, c.at.ensures.slot) at c.count.ensures.is in
    let low = sym (rw c.over.ensures at c.in_err-t.ensures) in
    rw c.from_residual.ensures
    (none_grows c.requires.fitted c.requires.here (omega (arith, c.if-count-lt-MOST.false, count))
    (low) _)
