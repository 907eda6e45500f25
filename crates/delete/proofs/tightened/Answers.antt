-- `delete::tightened` meets its contract: a cover that is the same is tight already, and another is written.
use mathlib.Core.Path.{sym, ◌∙◌}
use mathlib.Core.Bool.{true, false}
use Rattle.rules.specs.Layout.{read}
use Rattle.rules.proofs.Derived.{rects_same}
use Rattle.nodes.proofs.Tight.{tighten_made}
use Rattle.delete.proofs.Nodes.{in_pool_lem}
use Rattle.delete.proofs.Relieved.{child_leads}
use Rattle.delete.proofs.Stops.{wide_told, not_wide}
use Rattle.delete.proofs.tightened.Goals as goal

pub at-requires : goal.at-requires
at-requires c = in_pool_lem c.requires.fit_2 c.requires.child_at.slot

pub at-requires-2 : goal.at-requires-2
at-requires-2 c = in_pool_lem c.requires.fit_2 c.requires.child_at.parent.slot

pub rect-old-requires : goal.rect-old-requires
rect-old-requires c = rw (c.at-2.ensures.words, c.at-2.ensures.slot) c.requires.child_at.there

pub returns-then-eq : goal.returns-then-eq
returns-then-eq c =
    let cover = rw (c.at.ensures.words, c.at.ensures.slot) at c.cover_of-rect.ensures in
    let old = rw (c.at-2.ensures.words, c.at-2.ensures.slot) at c.rect-old.ensures in
    let wide = wide_told (read c.args.pool.now) c.args.s c.args.i c.args.t c.requires.child_at.is c.cover_of-rect.result
    c.rect-old.result cover old c.eq.result true (c.eq.ensures ∙ rects_same c.cover_of-rect.result c.rect-old.result) c.if-eq.true in
    record {
      is = sym (not_wide c.requires.fit_2 c.requires.child_at (sym wide));
      fit = c.requires.fit_2;
      changed = wide;
    }

pub put_rect_of-requires : goal.put_rect_of-requires
put_rect_of-requires c =
    record {
      fit_2 = c.requires.fit_2;
      in_pool = in_pool_lem c.requires.fit_2 c.requires.child_at.parent.slot;
      i_in_bounds = c.requires.child_at.there;
    }

pub returns : goal.returns
returns c =
    let cover = rw (c.at.ensures.words, c.at.ensures.slot) at c.cover_of-rect.ensures in
    let old = rw (c.at-2.ensures.words, c.at-2.ensures.slot) at c.rect-old.ensures in
    let p = read c.args.pool.now in record {
      is = c.put_rect_of.ensures.is
          ∙ tighten_made p c.args.s c.args.i (child_leads c.requires.child_at).child_low c.cover_of-rect.result c.args.t (sym c.requires.child_at.is)
          cover;
      fit = c.put_rect_of.ensures.fit;
      changed = wide_told p c.args.s c.args.i c.args.t c.requires.child_at.is c.cover_of-rect.result c.rect-old.result cover
          old c.eq.result false (c.eq.ensures ∙ rects_same c.cover_of-rect.result c.rect-old.result) c.if-eq.false;
    }
