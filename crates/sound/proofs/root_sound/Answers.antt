-- As the node check, with fewer entries allowed, no rectangle to compare, and no mark before.
use mathlib.Core.Path.{refl, ◌∙◌}
use Prim.Native.Nat.{◌≤◌}
use native.Mathlib.Omega.{arith}
use Rattle.rules_laws.proofs.Bools.{not_true, not_false}
use Rattle.layout_laws.proofs.Parts.{few}
use Rattle.sound.proofs.Nodes.{refused_part, met_now, not_met, leaf_answers, inner_answers, too_few_root, as_root, no_leaf}
use Rattle.sound.proofs.root_sound.Goals as goal

pub bounds-seen-m : goal.bounds-seen-m
bounds-seen-m c = omega (arith, few c.requires.in_pool, c.requires.in_pool.low, c.requires.seen_len)

pub returns-then-not-node_fits : goal.returns-then-not-node_fits
returns-then-not-node_fits c =
    let met = met_now c.requires.in_pool c.args.height c.args.seen.now c.node_fits.result c.requires.seen_len
    c.requires.s_value c.node_fits.ensures in
    refused_part refl (λ n. n.below)
    (not_met c.requires.in_pool c.args.height c.requires.le_height (not_true _ c.if-not-node_fits.true-raw) met)

pub returns-then-height-eq1 : goal.returns-then-height-eq1
returns-then-height-eq1 c =
    let met = met_now c.requires.in_pool c.args.height c.args.seen.now c.node_fits.result c.requires.seen_len
    c.requires.s_value c.node_fits.ensures in
    as_root (λ h. absurd (omega (arith, c.if-height-eq1.true)))
    (rw c.if-height-eq1.true
    (leaf_answers c.requires.in_pool (not_false _ c.if-not-node_fits.false-raw) (rw c.if-height-eq1.true at met) c.root_leaf_sound.result
    c.root_leaf_sound.ensures))

pub returns-then-n-lt2 : goal.returns-then-n-lt2
returns-then-n-lt2 c =
    too_few_root (omega (arith, c.if-height-eq1.false, c.requires.le_height)) (omega (arith, c.count-n.ensures.is, c.if-n-lt2.true))

pub entries_sound-requires : goal.entries_sound-requires
entries_sound-requires c =
    let met = met_now c.requires.in_pool c.args.height c.args.seen.now c.node_fits.result c.requires.seen_len
    c.requires.s_value c.node_fits.ensures in
    let two : 2 ≤ c.args.height = omega (arith, c.if-height-eq1.false, c.requires.le_height) in record {
      in_pool = c.requires.in_pool;
      edition_value = c.requires.edition_value;
      slots_value = c.slots.ensures;
      seen_len = (met.marked (not_false _ c.if-not-node_fits.false-raw)).size ∙ c.requires.seen_len;
      le_below = omega arith;
      s_value = no_leaf _ c.args.height (met.yes (not_false _ c.if-not-node_fits.false-raw)).level two;
      n_value = c.count-n.ensures.is;
    }

pub returns : goal.returns
returns c =
    let met = met_now c.requires.in_pool c.args.height c.args.seen.now c.node_fits.result c.requires.seen_len
    c.requires.s_value c.node_fits.ensures in
    let two : 2 ≤ c.args.height = omega (arith, c.if-height-eq1.false, c.requires.le_height) in
    as_root (λ h. omega (arith, c.count-n.ensures.is, c.if-n-lt2.false))
    (inner_answers c.requires.in_pool c.args.height two (not_false _ c.if-not-node_fits.false-raw) met c.entries_sound.ensures)
