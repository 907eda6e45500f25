-- A child grew, and its entry is made tight. What came to the child or was left over is true of its parent, since nothing beside it has
-- changed: the slots that were taken were free, and so none of theirs.
use mathlib.Core.Path.{◌∙◌}
use mathlib.Core.List.Memᴰ
use mathlib.Core.List.{List}
use Prim.Native.Nat.{ℕ, suc, ◌≤◌, ◌<◌}
use native.Mathlib.Omega.{arith}
use lib.ListN.{length}
use Rattle.rules.specs.declared.SlotNumber.{SlotNumber}
use Rattle.rules.specs.Numbers.{least}
use Rattle.rules.specs.Pool.{Node, Pool, entries_at, tighten}
use Rattle.sound_laws.specs.Tree.{slots_in, Once, Tree}
use Rattle.sound_laws.proofs.Walk.{top_among}
use Rattle.insert_laws.specs.Grown.{spot, Grew}
use Rattle.insert_laws.proofs.Under.{fits_below, weight_of_below}
use Rattle.insert_laws.proofs.Beside.{child_at, child_inside, Others, tight_long, tight_other, tight_below, tight_tree, tight_weighs}

module _ (p : Pool) (l : ℕ) (s : SlotNumber) (d : Tree p (suc (suc l)) s) (i : ℕ) (there : i < length (entries_at p s))
    (once : Once (slots_in p (suc (suc l)) s)) (q : Pool) {come left : Node} {taken : List SlotNumber}
    (g : Grew (spot p (suc l) (child_at p s i)) (spot q (suc l) (child_at p s i)) come left taken (slots_in p (suc l) (child_at p s i))) where
  pub grew_beside : Others p l s i q
  grew_beside = record {
    tree = d;
    there = there;
    once = once;
    long = g.long;
    kept = λ t u out. g.other t u.slot.low out (λ m. omega (arith, u.used, g.free t m));
  }

  module _ (low : left.level ≤ suc (suc l)) (enough : least ≤ length (entries_at q (child_at p s i))) where
    pub tighten_grew : Grew (spot p (suc (suc l)) s) (spot (tighten q s i) (suc (suc l)) s) come left taken (slots_in p (suc (suc l)) s)
    tighten_grew = record {
      tree = tight_tree grew_beside g.tree enough;
      fit = λ y m. fits_below q (tighten q s i) (suc (suc l)) (tight_below grew_beside) left.level y low (g.fit y m) (tight_long grew_beside);
      weighs = λ w. omega (
        arith,
        tight_weighs grew_beside g.tree enough w,
        weight_of_below q (tighten q s i) w (suc (suc l)) (tight_below grew_beside) left low g.fit,
        g.weighs w,
      );
      long = g.long ∙ tight_long grew_beside;
      slot = g.slot;
      free = g.free;
      once = g.once;
      inside = λ t m. m;
      other = λ t k out new.
          g.other t k (λ m. out (child_inside p l s d i there t m)) new
          ∙ tight_other grew_beside t k (λ e. out (Memᴰ.cast e (top_among p (suc l) s)));
    }
