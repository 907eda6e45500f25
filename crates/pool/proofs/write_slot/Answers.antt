-- The level and the count, then an entry at a turn, then zeros: each is a run of words after the one before it.
use mathlib.Core.Path.{◌≡◌, refl, ap, ap₂, ◌∙◌}
use mathlib.Core.List.{List}
use Prim.Native.Nat.{ℕ, ◌+◌, ◌*◌, ◌-◌}
use native.Mathlib.Omega.{arith}
use lib.ListN.{length, get_or, set, length-set}
use Rattle.std.proofs.lemmas.List.{get_or_default}
use lib.Seq.{sets}
use lib.IntN.{ℤ}
use mir.Syntax.{w32}
use mir.Val.{to_z}
use mir.ValLaws.{to_z_pos}
use Rattle.rules.specs.declared.Edition.{Edition}
use Rattle.rules.specs.declared.Entry.{Entry}
use Rattle.rules.specs.Numbers.{most}
use Rattle.rules.specs.Pool.{node, no_entry}
use Rattle.rules.specs.Layout.{edition_of, entry_size, slot_head, slot_start, entry_words, node_words}
use Rattle.layout_laws.proofs.Parts.{room, places_end}
use Rattle.layout_laws.proofs.Runs.{zeros}
use Rattle.pool.proofs.Lengths.{entries_few, start_most}
use Rattle.pool.proofs.Stores.{spot_inside}
use Rattle.pool.proofs.Fronts.{place_next, places_left, front_none, front_more, whole}
use Rattle.pool.proofs.write_slot.Goals as goal

pub at-node-requires : goal.at-node-requires
at-node-requires c = c.requires.in_pool

pub offset_bounds-pool-at : goal.offset_bounds-pool-at
offset_bounds-pool-at c =
    omega (arith, room c.requires.in_pool, rw (c.at-node.ensures.words, c.at-node.ensures.slot) at c.start-at.ensures)

pub bounds-pool-at : goal.bounds-pool-at
bounds-pool-at c =
    omega (arith, room c.requires.in_pool, rw (c.at-node.ensures.words, c.at-node.ensures.slot) at c.start-at.ensures)

pub offset_bounds-pool-at-2 : goal.offset_bounds-pool-at-2
offset_bounds-pool-at-2 c =
    omega (arith, room c.requires.in_pool, rw (c.at-node.ensures.words, c.at-node.ensures.slot) at c.start-at.ensures)

pub bounds-pool-at-2 : goal.bounds-pool-at-2
bounds-pool-at-2 c =
    let z = length-set c.args.pool.now c.start-at.result (to_z w32 c.args.level) in
    omega (arith, z, room c.requires.in_pool, rw (c.at-node.ensures.words, c.at-node.ensures.slot) at c.start-at.ensures)

pub loop-e-init : goal.loop-e-init
loop-e-init c =
    record {
      many = omega arith;
      size = refl;
      here = omega arith;
      is = front_none c.at-node.result.edition c.args.es.now _ (c.start-at.result + slot_head);
    }

pub put_entry-requires : goal.put_entry-requires
put_entry-requires c =
    let w = c.args.pool.now in
    let at = c.start-at.result in
    let z = length-set w at (to_z w32 c.args.level) in
    let y = length-set (set w at (to_z w32 c.args.level)) (at + 1) (to_z w32 (length c.args.es.now)) in
    let inside = spot_inside c.requires.in_pool c.loop-e.e-index (omega (arith, c.loop-e-test.true, c.requires.few)) in
    let told = rw c.at-node.ensures.words at c.at-node.result.told in
    let here = rw told at c.loop-e.invariant.here in
    let size = ap entry_size told in
    record {
      edition_in_bounds = omega (arith, z, y, size, here, inside, rw (c.at-node.ensures.words, c.at-node.ensures.slot) at c.start-at.ensures, c.loop-e.invariant.size);
      small = rw (get_or_default c.args.es.now c.loop-e.e-index _ no_entry c.loop-e-test.true)
          (c.requires.small_all.small c.loop-e.e-index c.loop-e-test.true);
    }

pub overflow_add-next-in-loop-e : goal.overflow_add-next-in-loop-e
overflow_add-next-in-loop-e c =
    let e = c.at-node.result.edition in
    let at = rw (c.at-node.ensures.words, c.at-node.ensures.slot) at c.start-at.ensures in
    let few = entries_few e (c.loop-e.e-index + 1) (omega (arith, c.loop-e-test.true, c.requires.few)) in
    record {
      fits = omega (
        arith,
        c.loop-e.invariant.here,
        c.entry_size-next.ensures,
        place_next e c.loop-e.e-index,
        few,
        at,
        start_most c.requires.in_pool,
      );
    }

pub loop-e-preserved : goal.loop-e-preserved
loop-e-preserved c =
    let e = c.at-node.result.edition in
    let es = c.args.es.now in
    let i = c.loop-e.e-index in
    let at = c.start-at.result + slot_head in
    let t = c.loop-e.invariant in
    let put : Entry → List ℤ = λ x. sets c.loop-e.pool c.loop-e.next (entry_words e x) in
    record {
      many = omega (arith, c.loop-e-test.true);
      size = c.put_entry.auto.pool ∙ t.size;
      here = omega (arith, t.here, c.entry_size-next.ensures, place_next e i);
      is = c.put_entry.ensures ∙ ap put (get_or_default es i _ no_entry c.loop-e-test.true)
          ∙ ap₂ (λ (x : List ℤ) (n : ℕ). sets x n (entry_words e (get_or es i no_entry))) t.is t.here
          ∙ front_more e es _ at i c.loop-e-test.true;
    }

pub overflow_add-at-2 : goal.overflow_add-at-2
overflow_add-at-2 c =
    let e = c.at-node.result.edition in
    let at = rw (c.at-node.ensures.words, c.at-node.ensures.slot) at c.start-at.ensures in
    record { fits = omega (arith, c.slot_size.ensures, entries_few e most (omega arith), at, start_most c.requires.in_pool) }

pub zero_words-requires : goal.zero_words-requires
zero_words-requires c =
    let e = c.at-node.result.edition in
    let told = rw c.at-node.ensures.words at c.at-node.result.told in
    let all : c.loop-e.e-index ≡ length c.args.es.now = omega (arith, c.loop-e.invariant.many, c.loop-e-test.false) in
    let here = rw all at c.loop-e.invariant.here in
    let end = places_end e (length c.args.es.now) c.requires.few in
    let size = rw told at c.slot_size.ensures in
    let at = c.start-at.result in
    let z = length-set c.args.pool.now at (to_z w32 c.args.level) in
    let y = length-set (set c.args.pool.now at (to_z w32 c.args.level)) (at + 1) (to_z w32 (length c.args.es.now)) in
    record {
      from_le_to = omega (arith, c.slot_size.ensures, here, end);
      to_in_bounds = omega (arith, c.loop-e.invariant.size, z, y, size, rw (c.at-node.ensures.words, c.at-node.ensures.slot) at c.start-at.ensures, room c.requires.in_pool);
    }

pub returns : goal.returns
returns c =
    let w = c.args.pool.now in
    let e = c.at-node.result.edition in
    let es = c.args.es.now in
    let n = length es in
    let level = c.args.level in
    let at = c.start-at.result in
    let few = c.requires.few in
    let all : c.loop-e.e-index ≡ n = omega (arith, c.loop-e.invariant.many, c.loop-e-test.false) in
    let is = rw all at c.loop-e.invariant.is in
    let here : c.loop-e.next ≡ at + slot_head + entry_size e * n = rw all at c.loop-e.invariant.here in
    let left : at + c.slot_size.result - c.loop-e.next ≡ entry_size e * (most - n) =
    omega (arith, here, c.slot_size.ensures, places_left e n few) in
    let p = to_z_pos w32 level (omega (arith, c.requires.level_le_most_slots)) in
    let q = to_z_pos w32 n (omega (arith, few)) in
    let told = rw c.at-node.ensures.words at c.at-node.result.told in
    let start : at ≡ slot_start (edition_of w) c.args.s = rw (c.at-node.ensures.words, c.at-node.ensures.slot) at c.start-at.ensures in
    c.zero_words.ensures
    ∙ (λ j. sets (is j) (here j) (zeros (left j)))
    ∙ rw (p, q) (whole e es few w at level)
    ∙ ap₂ (λ (d : Edition) (a : ℕ). sets w a (node_words d (node level es))) told start
