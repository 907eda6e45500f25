-- The free slots, a slot at a time: the lowest of those from a slot on, and how many of them there are. Each slot is free, and then the lowest
-- or one more, or it is not and the next ones decide.
use mathlib.Core.Path.{◌≡◌, refl, sym, ap, ◌∙◌}
use mathlib.Core.Bool.{Bool, true, false, cond}
use mathlib.Core.List.{List, ◌∷◌}
use Prim.Native.Nat.{ℕ, suc, ◌+◌, ◌-◌, ◌≤◌, ◌<◌}
use native.Mathlib.Numerals.{add-one}
use native.Mathlib.Omega.{arith}
use lib.ListN.{length, drop, drop_of_length-le}
use lib.Seq.{drop-cons}
use Rattle.std.specs.Prelude.{Option, Some, None}
use Rattle.rules.specs.declared.SlotNumber.{SlotNumber}
use Rattle.rules.specs.Lists.{those}
use Rattle.rules.specs.Pool.{Node, Pool, slot, free_node, node_at, free_from, lowest_free, free_count}
use Rattle.rules_laws.proofs.Parts.{those_yes, those_no, those_none}
use Rattle.sound_laws.proofs.Free.{is_free, free_nowhere, free_here, free_later}

-- the lowest free slot of those from s on, and how many of them are free
abbrev pub lowest_from : Pool → ℕ → Option SlotNumber
lowest_from p s = free_from s (drop (s - 1) p.slots)

abbrev pub count_from : Pool → ℕ → ℕ
count_from p s = length (those is_free (drop (s - 1) p.slots))

-- ---- a slot at a time

pub count_one : (n : Node) (ns : List Node) → length (those is_free (n ∷ ns)) ≡ cond (is_free n) 1 0 + length (those is_free ns)
count_one n ns = go (is_free n) refl
  where
    go : (t : Bool) → is_free n ≡ t → length (those is_free (n ∷ ns)) ≡ cond t 1 0 + length (those is_free ns)
    go true e = ap length (those_yes is_free n ns e) ∙ omega arith
    go false e = ap length (those_no is_free n ns e) ∙ omega arith

module _ (p : Pool) (s : ℕ) where
  module _ (low : 1 ≤ s) (high : s ≤ length p.slots) where
    onward : drop (s - 1) p.slots ≡ node_at p (slot s) ∷ drop (s + 1 - 1) p.slots
    unfolding node_at
    onward = let e : suc (s - 1) ≡ s + 1 - 1 = omega arith in rw (drop-cons p.slots (s - 1) free_node (omega arith), e)

    pub lowest_here : is_free (node_at p (slot s)) ≡ true → lowest_from p s ≡ Some (slot s)
    lowest_here e = ap (free_from s) onward ∙ free_here s (node_at p (slot s)) (drop (s + 1 - 1) p.slots) e

    pub lowest_next : is_free (node_at p (slot s)) ≡ false → lowest_from p s ≡ lowest_from p (s + 1)
    lowest_next e =
        ap (free_from s) onward ∙ free_later s (node_at p (slot s)) (drop (s + 1 - 1) p.slots) e
        ∙ ap (λ (k : ℕ). free_from k (drop (s + 1 - 1) p.slots)) (sym (add-one s))

    pub count_next : count_from p s ≡ cond (is_free (node_at p (slot s))) 1 0 + count_from p (s + 1)
    count_next = ap (λ (ns : List Node). length (those is_free ns)) onward ∙ count_one (node_at p (slot s)) (drop (s + 1 - 1) p.slots)

  pub lowest_end : length p.slots < s → lowest_from p s ≡ None
  lowest_end h = ap (free_from s) (drop_of_length-le p.slots {i = s - 1} (omega arith)) ∙ free_nowhere s

  pub count_end : length p.slots < s → count_from p s ≡ 0
  count_end h = ap (λ (ns : List Node). length (those is_free ns)) (drop_of_length-le p.slots {i = s - 1} (omega arith)) ∙ ap length (those_none is_free)

-- ---- all of them

pub lowest_all : (p : Pool) → lowest_from p 1 ≡ lowest_free p
unfolding lowest_free
lowest_all p = refl

pub count_all : (p : Pool) → count_from p 1 ≡ free_count p
unfolding free_count
count_all p = refl
