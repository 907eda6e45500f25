-- The records in the leaves, a slot at a time.
use mathlib.Core.Path.{◌≡◌, refl, sym, ap, ◌∙◌}
use mathlib.Core.Bool.{Bool, true, false}
use mathlib.Core.List.{List, [], ◌∷◌, map}
use Prim.Native.Nat.{ℕ, zero, suc, ◌+◌, ◌-◌, ◌≤◌}
use native.Mathlib.Omega.{arith}
use lib.Dec.{eqb}
use lib.ListN.{length, get_or, drop, drop_of_length-le, length-append, length-map}
use lib.Seq.{drop-cons}
use borrow.Author.Tests.{eq-eqb, ne_eqb}
use Rattle.std.specs.List.{sum_by, range_with_len}
use Rattle.std.proofs.lemmas.List.Sums.{sum_by-cons}
use Rattle.rules.specs.Lists.{those, joined}
use Rattle.rules.specs.Pool.{Node, Pool, slot, free_node, node_at, record_of, is_leaf, stored}
use Rattle.rules.specs.Sound.{records_sound}
use Rattle.sound.specs.Walked.{record_count, record_counts}

pub leaf_records_lem : (n : Node) → n.level ≡ 1 → length n.entries ≡ record_count n
unfolding record_count is_leaf
leaf_records_lem n e = rw (eq-eqb n.level 1 e)

pub no_records : (n : Node) → (n.level ≡ 1 → ⊥) → 0 ≡ record_count n
unfolding record_count is_leaf
no_records n e = rw (ne_eqb n.level 1 e)

records_cons : (n : Node) (ns : List Node) → record_counts (n ∷ ns) ≡ record_count n + record_counts ns
unfolding record_counts record_count those joined
records_cons n ns = go (is_leaf n) refl
  where
    go : (t : Bool) → is_leaf n ≡ t → record_counts (n ∷ ns) ≡ record_count n + record_counts ns
    go true e = rw e (length-append n.entries (joined (map (λ (m : Node). m.entries) (those is_leaf ns))))
    go false e = rw e (omega arith)

records_none : record_counts [] ≡ 0
unfolding record_counts those joined
records_none = refl

module _ (p : Pool) (s : ℕ) where
  pub records_more : 1 ≤ s → s ≤ length p.slots
      → record_counts (drop (s - 1) p.slots) ≡ record_count (node_at p (slot s)) + record_counts (drop (s + 1 - 1) p.slots)
  unfolding node_at
  records_more low high =
      let e : suc (s - 1) ≡ s + 1 - 1 = omega arith in
      ap record_counts (drop-cons p.slots (s - 1) free_node (omega arith)
      ∙ ap (λ (k : ℕ). get_or p.slots (s - 1) free_node ∷ drop k p.slots) e)
      ∙ records_cons (get_or p.slots (s - 1) free_node) (drop (s + 1 - 1) p.slots)

-- each slot by its place, as `map` goes through them
module _ (p : Pool) where
  abbrev counts : ℕ → ℕ
  counts i = record_count (node_at p (slot (i + 1)))

  sums_from : (a n : ℕ) → a + n ≡ length p.slots → sum_by counts (range_with_len a n) ≡ record_counts (drop a p.slots)
  sums_from a zero e = sym (ap record_counts (drop_of_length-le p.slots {i = a} (omega arith)) ∙ records_none)
  sums_from a (suc n) e =
      let one : a + 1 - 1 ≡ a = omega arith in
      let two : a + 1 + 1 - 1 ≡ a + 1 = omega arith in
      let more = records_more p (a + 1) (omega arith) (omega arith) in
      let here = rw (one, two) at more in
      sum_by-cons counts a (range_with_len (a + 1) n) ∙ ap (λ (k : ℕ). counts a + k) (sums_from (a + 1) n (omega arith)) ∙ sym here

  pub all_sums : (n : ℕ) → n ≡ length p.slots → sum_by counts (range_with_len 0 n) ≡ record_counts p.slots
  all_sums n e = sums_from 0 n (omega arith)

pub records_stored : (p : Pool) → record_counts p.slots ≡ length (stored p)
unfolding record_counts stored
records_stored p = sym (length-map (joined (map (λ (n : Node). n.entries) (those is_leaf p.slots))) record_of)

pub record_counts_are : (p : Pool) → eqb (record_counts p.slots) p.records ≡ records_sound p
unfolding records_sound
record_counts_are p = ap (λ (n : ℕ). eqb n p.records) (records_stored p)
