-- D2: the pair goes out of its leaf. One slot is written, and its tree is that leaf alone: the other entries fit as before.
use mathlib.Core.Path.{◌≡◌, sym, ap, ◌∙◌}
use mathlib.Core.List.Memᴰ
use mathlib.Core.List.{List, [], map}
use Prim.Native.Nat.{ℕ, suc, ◌+◌, ◌<◌}
use native.Mathlib.Omega.{arith}
use lib.ListN.{length}
use Rattle.rules.specs.declared.SlotNumber.{SlotNumber}
use Rattle.rules.specs.declared.Record.{Record}
use Rattle.rules.specs.declared.Entry.{Entry}
use Rattle.rules.specs.Lists.{total, without}
use Rattle.rules.specs.Pool.{Pool, node, no_entry, node_at, entries_at, entry_from, entry_at, record_of, put_node}
use Rattle.rules.specs.Delete.{place, take_out}
use Rattle.rules_laws.proofs.Places.{Among, at_place}
use Rattle.rules_laws.proofs.Parts.{length_without, among_without}
use Rattle.rules_laws.proofs.Sums.{total_none, total_without, total_alike}
use Rattle.sound_laws.specs.Tree.{Tree, NodeIn}
use Rattle.sound_laws.proofs.Walk.{tree_node, top_among}
use Rattle.sound_laws.proofs.Frame.{put_length, put_same, put_other, put_slot}
use Rattle.sound_laws.proofs.Free.{put_used}
use Rattle.insert_laws.specs.Grown.{Weights, weight_under}
use Rattle.insert_laws.proofs.Under.{entries_are, tree_fits, leaf_fits, fits_leaf, tree_made, weight_parts, weight_made, weight_leaf}
use Rattle.insert_laws.proofs.Install.{put_head, put_entries_lem}
use Rattle.delete_laws.specs.Shrunk.{Shrunk, condensed}
use Rattle.delete_laws.proofs.Asides.{weight_aside_none}

module _ (p : Pool) (s : SlotNumber) (d : Tree p 1 s) (i : ℕ) (there : i < length (entries_at p s)) (r : Record)
    (is : record_of (entry_at p s i) ≡ r) where
  here : NodeIn p 1 s
  here = tree_node p 1 s d

  abbrev rest : List Entry
  rest = without i (entries_at p s)

  abbrev made : Pool
  made = put_node p s (node 1 rest)

  out_is : take_out p (place s i) ≡ made
  unfolding take_out
  out_is = put_entries_lem p 1 s rest here.level

  made_at : node_at made s ≡ node 1 rest
  made_at = put_same p s (node 1 rest) here.slot

  rest_among : (y : Entry) → Among y rest → Among y (entries_at p s)
  rest_among y m =
      let j = among_without (entries_at p s) i y m in
      Memᴰ.cast (sym (j.3 no_entry)) (at_place (entries_at p s) j.0 no_entry j.1)

  fewer : suc (length rest) ≡ length (entries_at p s)
  fewer = length_without (entries_at p s) i there

  taken_weighs : (w : Weights) → total (map (weight_under w p 1) (entries_at p s)) ≡ w.of_record r + total (map (weight_under w p 1) rest)
  unfolding entry_at entry_from
  taken_weighs w =
      omega (
        arith,
        total_without (weight_under w p 1) (entries_at p s) i no_entry there,
        weight_leaf w p (entry_at p s i),
        ap w.of_record is,
      )

  made_shrunk : Shrunk p 1 s r (condensed made [])
  made_shrunk = record {
    freed = [];
    tree = tree_made made s rest ((put_slot p s (node 1 rest) s).1 here.slot) (omega (arith, fewer, here.few)) 0 made_at
        (λ y m. fits_leaf made y (leaf_fits p y (tree_fits p 1 s d y (rest_among y m))));
    fit = λ a m. absurd (Memᴰ.not-nil m);
    low = λ a m. absurd (Memᴰ.not-nil m);
    weighs = λ w. omega (
      arith,
      weight_made w made 0 s rest made_at,
      weight_parts w p 0 s,
      taken_weighs w,
      total_alike (weight_under w made 1) (weight_under w p 1) rest (λ y m. weight_leaf w made y ∙ sym (weight_leaf w p y)),
      weight_aside_none made w,
      total_none w.of_slot,
    );
    many = omega (arith, fewer, ap length (entries_are made 1 s rest made_at));
    inside = λ t m. absurd (Memᴰ.not-nil m);
    zeroed = λ t m. absurd (Memᴰ.not-nil m);
    two_each = omega arith;
    fewer = omega arith;
    spare = omega (arith, put_used p s (node 1 rest) here.slot (omega arith) (omega (arith, here.level)));
    long = sym (put_length p s (node 1 rest));
    head = put_head p s (node 1 rest);
    other = λ t low out. sym (put_other p s (node 1 rest) t here.slot.low low (λ e. out (Memᴰ.cast e (top_among p 0 s))));
  }

  pub out_shrunk : Shrunk p 1 s r (condensed (take_out p (place s i)) [])
  out_shrunk = rw out_is made_shrunk
