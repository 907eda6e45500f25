-- `insert::split_node` meets its contract: the nine fit, so their rectangles are valid; the groups are those of the quadratic split, and
-- each is put into its slot.
use native.Mathlib.Omega.{arith}
use lib.ListN.{length}
use Rattle.rules.specs.Pool.{entries_at}
use Rattle.rules.specs.Layout.{read}
use Rattle.sound_laws.proofs.Free.{lowest_slot}
use Rattle.nodes.proofs.Slots.{most_slots_lem}
use mathlib.Core.Path.{◌≡◌, subst⁻¹}
use Rattle.rules.specs.declared.Edition.{Edition}
use Rattle.layout_laws.specs.Slots.{KindAll}
use Rattle.layout_laws.proofs.Written.{edition_is, fine_at, edition_put}
use Rattle.insert.proofs.Fitted.{slot_in}
use Rattle.insert.proofs.Divided.{here_node, here_level, nine_small, nine_kind, nine_valid, slot_kept, Parts, split_made}
use Rattle.insert.proofs.Nines.{one_inside, two_inside}
use Rattle.insert.proofs.split_node.Goals as goal

pub at-node-requires : goal.at-node-requires
at-node-requires c = slot_in c.args.pool.now c.args.s c.requires.fit_2.right (here_node c.requires.here).slot

pub nine_entries-nine-requires : goal.nine_entries-nine-requires
nine_entries-nine-requires c =
    let few : length (entries_at (read c.args.pool.now) c.args.s) ≡ 8 =
    omega (arith, c.requires.in_bounds, (here_node c.requires.here).few) in
    rw (c.at-node.ensures.words, c.at-node.ensures.slot) few

pub split_nine-g-requires : goal.split_nine-g-requires
split_nine-g-requires c =
    let nine = rw (c.at-node.ensures.words, c.at-node.ensures.slot) at c.nine_entries-nine.ensures in
    let w = c.args.pool.now in
    let few = most_slots_lem w c.requires.fit_2.right in
    nine_valid c.requires.here few c.requires.in_bounds c.nine_entries-nine.result nine c.rects_of.result c.rects_of.ensures

pub put_group-requires : goal.put_group-requires
put_group-requires c =
    let level = rw (c.at-node.ensures.words, c.at-node.ensures.slot) at c.level-level.ensures in
    let nine = rw (c.at-node.ensures.words, c.at-node.ensures.slot) at c.nine_entries-nine.ensures in
    let w = c.args.pool.now in
    let few = most_slots_lem w c.requires.fit_2.right in
    let kinds = nine_kind c.requires.here few c.requires.in_bounds c.nine_entries-nine.result nine _
    (edition_is w) (fine_at (slot_in w c.args.s c.requires.fit_2.right (here_node c.requires.here).slot)) c.level-level.result
    level in
    record {
      fit_2 = c.requires.fit_2;
      in_pool = slot_in w c.args.s c.requires.fit_2.right (here_node c.requires.here).slot;
      level_bound = omega (arith, here_level c.requires.here, level);
      few = (one_inside c.split_nine-g.ensures.whole).0;
      inside = (one_inside c.split_nine-g.ensures.whole).1;
      small_all = nine_small c.requires.here few c.requires.in_bounds c.nine_entries-nine.result nine;
      kind_all = kinds;
    }

pub put_group-requires-2 : goal.put_group-requires-2
put_group-requires-2 c =
    let level = rw (c.at-node.ensures.words, c.at-node.ensures.slot) at c.level-level.ensures in
    let nine = rw (c.at-node.ensures.words, c.at-node.ensures.slot) at c.nine_entries-nine.ensures in
    let w = c.args.pool.now in
    let few = most_slots_lem w c.requires.fit_2.right in
    let kinds = nine_kind c.requires.here few c.requires.in_bounds c.nine_entries-nine.result nine _
    (edition_is w) (fine_at (slot_in w c.args.s c.requires.fit_2.right (here_node c.requires.here).slot)) c.level-level.result
    level in
    let same-edition = edition_put w c.put_group.new.pool c.args.s _ c.put_group.ensures.is in
    record {
      fit_2 = c.put_group.ensures.fit;
      in_pool = slot_in c.put_group.new.pool c.args.t c.put_group.ensures.fit.right
          (slot_kept c.args.s c.args.t _ (lowest_slot (read w) c.args.t c.requires.pool_value) c.put_group.ensures.is);
      level_bound = omega (arith, here_level c.requires.here, level);
      few = (two_inside c.split_nine-g.ensures.whole).0;
      inside = (two_inside c.split_nine-g.ensures.whole).1;
      small_all = nine_small c.requires.here few c.requires.in_bounds c.nine_entries-nine.result nine;
      kind_all = subst⁻¹ (λ (e : Edition). KindAll e c.level-level.result c.nine_entries-nine.result 9) same-edition kinds;
    }

pub returns : goal.returns
returns c =
    let level = rw (c.at-node.ensures.words, c.at-node.ensures.slot) at c.level-level.ensures in
    let nine = rw (c.at-node.ensures.words, c.at-node.ensures.slot) at c.nine_entries-nine.ensures in
    let a : Parts c.requires.here c.requires.in_bounds c.requires.pool_value c.nine_entries-nine.result c.rects_of.result
    c.split_nine-g.result =
    record {
      entries = nine;
      rects_are = c.rects_of.ensures;
      one = c.split_nine-g.ensures.one;
      two = c.split_nine-g.ensures.two;
      whole = c.split_nine-g.ensures.whole;
    } in
    record {
      is = split_made c.requires.here c.requires.in_bounds c.requires.pool_value a c.level-level.result level
          (read c.put_group.new.pool) (read c.put_group-2.new.pool) c.put_group.ensures.is c.put_group-2.ensures.is;
      fit = c.put_group-2.ensures.fit;
    }
