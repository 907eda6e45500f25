-- A tree that grew, and grew again by what the first time left over, has grown. The slots taken the second time were free after the
-- first, and so free before.
use mathlib.Core.Path.{◌≡◌, ap, ◌∙◌}
use mathlib.Core.Logic.{⊎_elim}
use mathlib.Core.List.Memᴰ
use mathlib.Core.List.{List, ◌++◌}
use Prim.Native.Nat.{◌+◌, ◌≤◌}
use native.Mathlib.Decide.{dec_le}
use native.Mathlib.Omega.{arith}
use Rattle.rules.specs.declared.SlotNumber.{SlotNumber}
use Rattle.rules.specs.Pool.{Node, same_slot, node_at}
use Rattle.rules_laws.proofs.Places.{Among}
use Rattle.rules_laws.proofs.Parts.{count_append}
use Rattle.rules_laws.proofs.Sums.{total_append}
use Rattle.sound_laws.specs.Tree.{times, Slot}
use Rattle.sound_laws.proofs.Times.{times_among, not_among}
use Rattle.insert_laws.specs.Grown.{Spot, Grew}
use Rattle.insert_laws.proofs.Counts.{free_apart, free_before}

module _ {a b d : Spot} {come left last : Node} {taken taken' touched touched' : List SlotNumber} (g : Grew a b come left taken touched)
    (h : Grew b d left last taken' touched') (in-first : (t : SlotNumber) → Among t touched' → Among t touched) where
  -- a slot of the second time, before the first
  then_slot : (t : SlotNumber) → Among t taken' → Slot a.pool t
  then_slot t m = let k = h.slot t m in record { low = k.low; high = omega (arith, k.high, g.long) }

  then_free : (t : SlotNumber) → Among t taken' → (node_at a.pool t).level ≡ 0
  then_free t m = ap (λ (n : Node). n.level) (free_before g t (h.free t m) (h.slot t m).low) ∙ h.free t m

  then_once : (t : SlotNumber) → times t (taken' ++ taken) ≤ 1
  then_once t = go (dec_le 1 (times t taken'))
    where
      both : times t (taken' ++ taken) ≡ times t taken' + times t taken
      both = count_append (λ u. same_slot u t) taken' taken

      go : Dec (1 ≤ times t taken') → times t (taken' ++ taken) ≤ 1
      go (yes k) =
          let m = times_among t taken' k in
          omega (arith, both, h.once t, not_among t taken (free_apart g t (h.free t m)))
      go (no k) = omega (arith, both, g.once t)

  pub grew_twice : Grew a d come last (taken' ++ taken) touched
  grew_twice = record {
    tree = h.tree;
    fit = h.fit;
    weighs = λ w. omega (arith, g.weighs w, h.weighs w, total_append w.of_slot taken' taken);
    long = g.long ∙ h.long;
    slot = λ t m. ⊎_elim (then_slot t) (g.slot t) (Memᴰ.append_cases taken' m);
    free = λ t m. ⊎_elim (then_free t) (g.free t) (Memᴰ.append_cases taken' m);
    once = then_once;
    inside = g.inside;
    other = λ t low out new.
        g.other t low out (λ m. new (Memᴰ.append_right taken' m))
        ∙ h.other t low (λ m. out (in-first t m)) (λ m. new (Memᴰ.append_left taken m));
  }
