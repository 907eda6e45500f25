-- A tree in which no slot occurs twice. What occurs once in the whole occurs at most once in a part, and in one part alone.
use mathlib.Core.Path.{◌≡◌}
use mathlib.Core.Logic.{◌≢◌, ◌⊎◌, inl, inr}
use mathlib.Core.List.Memᴰ
use mathlib.Core.List.{List, [], ◌∷◌, map}
use Prim.Native.Nat.{ℕ, zero, suc, ◌+◌, ◌<◌}
use native.Mathlib.Omega.{arith}
use lib.ListN.{length}
use Rattle.rules.specs.declared.SlotNumber.{SlotNumber}
use Rattle.rules.specs.declared.Entry.{Entry}
use Rattle.rules.specs.Lists.{joined, total}
use Rattle.rules.specs.Pool.{Pool, no_entry, entry_from, entry_at, same_slot, node_at, entries_at, child_of}
use Rattle.rules_laws.proofs.Places.{Among}
use Rattle.rules_laws.proofs.Joins.{count_joined}
use Rattle.rules_laws.proofs.Sums.{total_member, total_places}
use Rattle.sound_laws.specs.Tree.{slots_in, times, Once, Tree}
use Rattle.sound_laws.proofs.Times.{among_times, times_more, times_self}
use Rattle.sound_laws.proofs.Walk.{slots_leaf, slots_inner, no_tree, inner_of, tree_node, among_cases}

module _ (p : Pool) (l : ℕ) (s : SlotNumber) (once : Once (slots_in p (suc (suc l)) s)) where
  below : Entry → List SlotNumber
  below e = slots_in p (suc l) (child_of e)

  -- how often a slot occurs in the tree: as the top, and in the tree at each child
  parts : (t : SlotNumber) → times t (slots_in p (suc (suc l)) s) ≡ times t (s ∷ []) + total (map (λ e. times t (below e)) (entries_at p s))
  unfolding below
  parts t =
      rw (slots_inner p s l)
      (omega (arith, times_more t s (joined (map below (entries_at p s))), count_joined below (λ u. same_slot u t) (entries_at p s)))

  pub once_child : (e : Entry) → Among e (entries_at p s) → Once (slots_in p (suc l) (child_of e))
  unfolding below
  once_child e m t = omega (arith, once t, parts t, total_member (λ f. times t (below f)) m)

  -- the top is in no child's tree
  pub top_apart : (e : Entry) → Among e (entries_at p s) → Among s (slots_in p (suc l) (child_of e)) → ⊥
  unfolding below
  top_apart e m n = omega (arith, once s, parts s, times_self s, total_member (λ f. times s (below f)) m, among_times s n)

  -- the trees at the children of two entries share no slot
  pub children_apart : (i j : ℕ) → i < length (entries_at p s) → j < length (entries_at p s) → i ≢ j → (t : SlotNumber)
      → Among t (slots_in p (suc l) (child_of (entry_at p s i))) → Among t (slots_in p (suc l) (child_of (entry_at p s j))) → ⊥
  unfolding below entry_at entry_from
  children_apart i j h k n t a b =
      omega (arith, once t, parts t, total_places (λ f. times t (below f)) (entries_at p s) i j no_entry h k n, among_times t a, among_times t b)

-- the tree at a slot of the tree
pub once_within : (p : Pool) (l : ℕ) (s t : SlotNumber) → Tree p l s → Once (slots_in p l s) → Among t (slots_in p l s)
    → Once (slots_in p (node_at p t).level t)
once_within p zero s t d once m = absurd (no_tree p s d)
once_within p (suc zero) s t d once m =
    let e = Memᴰ.eq_of_singleton (rw (slots_leaf p s) at m) in
    rw (e, (tree_node p 1 s d).level) once
once_within p (suc (suc l)) s t d once m = go (among_cases p l s t m) (once_within p (suc l))
  where
    go : (t ≡ s) ⊎ ((e : Entry) × Among e (entries_at p s) × Among t (slots_in p (suc l) (child_of e)))
        → ((u v : SlotNumber) → Tree p (suc l) u → Once (slots_in p (suc l) u) → Among v (slots_in p (suc l) u)
        → Once (slots_in p (node_at p v).level v))
        → Once (slots_in p (node_at p t).level t)
    go (inl e) ih = rw (e, (tree_node p (suc (suc l)) s d).level) once
    go (inr h) ih = ih (child_of h.0) t ((inner_of p l s d).each h.0 h.1).child (once_child p l s once h.0 h.1) h.2
