-- The entry's new rectangle is the cover of the old one and the new, and it leads to its child as
-- before.
use mathlib.Core.Path.{◌∙◌}
use Rattle.rules.specs.Layout.{read}
use Rattle.nodes.proofs.Slots.{within}
use Rattle.insert.proofs.Steps.{widened_made}
use Rattle.insert.proofs.widen.Goals as goal

pub at-requires : goal.at-requires
at-requires c =
    within c.args.pool.now c.args.s c.requires.fit_2.right c.requires.leads_on.low
    c.requires.leads_on.high

pub rect-old-requires : goal.rect-old-requires
rect-old-requires c = rw (c.at.ensures.words, c.at.ensures.slot) c.requires.leads_on.there

pub put_rect_of-requires : goal.put_rect_of-requires
put_rect_of-requires c =
    record {
      fit_2 = c.requires.fit_2;
      in_pool = within c.args.pool.now c.args.s c.requires.fit_2.right c.requires.leads_on.low
          c.requires.leads_on.high;
      i_in_bounds = c.requires.leads_on.there;
    }

pub returns : goal.returns
returns c =
    let old = rw (c.at.ensures.words, c.at.ensures.slot) at c.rect-old.ensures in
    record {
      is = c.put_rect_of.ensures.is
          ∙ widened_made (read c.args.pool.now) c.args.s c.args.i c.args.new c.requires.leads_on
          c.rect-old.result old c.cover.result c.cover.ensures;
      fit = c.put_rect_of.ensures.fit;
    }
