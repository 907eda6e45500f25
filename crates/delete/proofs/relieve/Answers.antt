-- `delete::relieve` meets its contract: fewer than three entries: out, set aside and zeroed; else tight.
use mathlib.Core.Path.{sym, ap, subst}
use native.Mathlib.Omega.{arith}
use Rattle.rules.specs.Pool.{Pool}
use Rattle.rules.specs.Layout.{read}
use Rattle.free_slots.specs.declared.FreeSlots.{FreeSlots}
use Rattle.sound_laws.specs.Tree.{Slot}
use Rattle.delete.proofs.Nodes.{few_read, in_pool_lem, free_few}
use Rattle.delete.proofs.Relieved.{child_leads, out_slot, has_gone, has_tight}
use Rattle.delete.proofs.relieve.Goals as goal

pub at-child-requires : goal.at-child-requires
at-child-requires c = in_pool_lem c.requires.fit c.requires.child_at.slot

pub set_aside-requires : goal.set_aside-requires
set_aside-requires c =
    omega (arith, c.count.ensures.is, c.if-count-lt-LEAST.true, c.requires.count_bound)

pub take_out-requires : goal.take_out-requires
take_out-requires c =
    record {
      fit_2 = c.requires.fit;
      rewritable = c.requires.child_at.parent;
      i_in_bounds = c.requires.child_at.there;
    }

pub zero_slot-requires : goal.zero_slot-requires
zero_slot-requires c =
    let p = read c.args.pool.now in record {
      fit_2 = c.take_out.ensures.fit;
      in_pool = in_pool_lem c.take_out.ensures.fit
          (subst (λ (q : Pool). Slot q c.args.t) (sym c.take_out.ensures.is)
          (out_slot p c.args.asides.now.free c.requires.known c.args.s c.args.i c.args.t c.requires.child_at));
    }

pub more_slot-asides-requires : goal.more_slot-asides-requires
more_slot-asides-requires c =
    let same = ap (λ (f : FreeSlots). f.count) c.set_aside.ensures.free in
    omega (
      arith,
      same,
      free_few (read c.args.pool.now) c.args.asides.now.free c.requires.known (few_read c.requires.fit),
    )

pub returns-then-count-lt-LEAST : goal.returns-then-count-lt-LEAST
returns-then-count-lt-LEAST c =
    let count = rw (c.at-child.ensures.words, c.at-child.ensures.slot) at c.count.ensures.is in
    let aside = rw (c.at-child.ensures.words, c.at-child.ensures.slot) at c.set_aside.ensures.is in
    has_gone c.args.pool.now c.args.s c.args.i c.args.t c.args.asides.now c.requires.child_at
    c.requires.known (omega (arith, count, c.if-count-lt-LEAST.true)) _ aside
    c.set_aside.new.asides.free c.set_aside.ensures.free c.more_slot-asides.ensures (read c.take_out.new.pool) c.take_out.ensures.is
    c.zero_slot.new.pool c.zero_slot.ensures.is c.zero_slot.ensures.fit

pub tighten-requires : goal.tighten-requires
tighten-requires c = record {
  fit_2 = c.requires.fit;
  leads_on = child_leads c.requires.child_at;
}

pub returns-else-count-lt-LEAST : goal.returns-else-count-lt-LEAST
returns-else-count-lt-LEAST c =
    let count = rw (c.at-child.ensures.words, c.at-child.ensures.slot) at c.count.ensures.is in
    has_tight c.args.pool.now c.args.s c.args.i c.args.t c.args.asides.now c.requires.child_at
    c.requires.known (omega (arith, count, c.if-count-lt-LEAST.false)) c.tighten.new.pool c.tighten.ensures.is
    c.tighten.ensures.fit
