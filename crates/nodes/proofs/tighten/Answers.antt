-- The entry's child is read off it, and the child's cover is the entry's new rectangle.
use mathlib.Core.Path.{◌≡◌, subst⁻¹, ◌∙◌}
use Prim.Native.Nat.{◌≤◌}
use lib.ListN.{length}
use Rattle.rules.specs.declared.SlotNumber.{SlotNumber}
use Rattle.rules.specs.Pool.{node_at, entries_at, entry_at, child_of, cover_of}
use Rattle.rules.specs.Layout.{read}
use Rattle.nodes.proofs.Slots.{within}
use Rattle.nodes.proofs.Tight.{inner_no_leaf, tighten_made}
use Rattle.nodes.proofs.tighten.Goals as goal

pub at-node-requires : goal.at-node-requires
at-node-requires c =
    within c.args.pool.now c.args.s c.requires.fit_2.right c.requires.leads_on.low c.requires.leads_on.high

pub child-c-requires : goal.child-c-requires
child-c-requires c =
    rw (c.at-node.ensures.words, c.at-node.ensures.slot)
    record {
      i_in_bounds = c.requires.leads_on.there;
      inner = inner_no_leaf (node_at (read c.args.pool.now) c.args.s) c.requires.leads_on.inner;
    }

pub at-child-requires : goal.at-child-requires
at-child-requires c =
    let w = c.args.pool.now in
    let leads : c.child-c.result ≡ child_of (entry_at (read w) c.args.s c.args.i) =
    rw (c.at-node.ensures.words, c.at-node.ensures.slot) at c.child-c.ensures in
    let low = subst⁻¹ (λ (d : SlotNumber). 1 ≤ d.0) leads c.requires.leads_on.child_low in
    let high = subst⁻¹ (λ (d : SlotNumber). d.0 ≤ length (read w).slots) leads c.requires.leads_on.child_high in
    within w c.child-c.result c.requires.fit_2.right low high

pub put_rect_of-requires : goal.put_rect_of-requires
put_rect_of-requires c =
    record {
      fit_2 = c.requires.fit_2;
      in_pool = within c.args.pool.now c.args.s c.requires.fit_2.right c.requires.leads_on.low c.requires.leads_on.high;
      i_in_bounds = c.requires.leads_on.there;
    }

pub returns : goal.returns
returns c =
    let p = read c.args.pool.now in
    let leads : c.child-c.result ≡ child_of (entry_at p c.args.s c.args.i) =
    rw (c.at-node.ensures.words, c.at-node.ensures.slot) at c.child-c.ensures in
    let tight : c.cover_of-rect.result ≡ cover_of (entries_at p c.child-c.result) =
    rw (c.at-child.ensures.words, c.at-child.ensures.slot) at c.cover_of-rect.ensures in
    record {
      is = c.put_rect_of.ensures.is
          ∙ tighten_made p c.args.s c.args.i c.requires.leads_on.child_low c.cover_of-rect.result c.child-c.result leads tight;
      fit = c.put_rect_of.ensures.fit;
    }
