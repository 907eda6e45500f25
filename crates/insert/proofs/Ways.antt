-- The way down. Below a node on the way stands the child that the rectangle goes below, on the way too; and the run of full nodes ends there or goes
-- on through the node.
use mathlib.Core.Path.{◌≡◌, sym, ap, subst, subst⁻¹, ◌∙◌}
use mathlib.Core.Bool.{false}
use mathlib.Core.List.{List, [], ◌∷◌}
use Prim.Native.Nat.{ℕ, suc, ◌+◌, ◌-◌, ◌≤◌, ◌<◌}
use native.Mathlib.Omega.{arith}
use lib.ListN.{length}
use Rattle.rules.specs.declared.Rect.{Rect}
use Rattle.rules.specs.declared.SlotNumber.{SlotNumber}
use Rattle.rules.specs.Pool.{Pool, no_entry, node_at, entries_at, entry_at, child_of, is_leaf, rects}
use Rattle.rules.specs.Insert.{ours}
use Rattle.rules.specs.Room.{way_up, full_run}
use Rattle.rules_laws.proofs.Places.{at_place}
use Rattle.rules_laws.proofs.Splits.{ours_lawful}
use Rattle.choose.specs.State.{Choosable}
use Rattle.layout_laws.proofs.Parts.{length_rects, rect_entry}
use Rattle.sound_laws.specs.Tree.{NodeIn, InnerEntry, Tree}
use Rattle.sound_laws.proofs.Entries.{tree_valid}
use Rattle.sound_laws.proofs.Walk.{tree_node}
use Rattle.nodes.proofs.Tight.{inner_no_leaf}
use Rattle.insert_laws.proofs.Below.{way, way_there}
use Rattle.insert_laws.proofs.Beside.{child_entry}
use Rattle.insert_laws.proofs.Runs.{way_here, run, run_ends, run_goes_on}
use Rattle.insert.specs.State.{WayDown}

module _ {p : Pool} {n : ℕ} {s : SlotNumber} {new : Rect} (h : WayDown p n s new) where
  pub way_node : NodeIn p (n + h.level) s
  way_node = tree_node p (n + h.level) s h.tree

  pub run_here : n ≡ 0 → length (full_run p (way_up ours n p s new)) ≡ length (full_run p (s ∷ []))
  run_here z =
      ap (λ (k : ℕ). length (full_run p (way_up ours k p s new))) z ∙ ap (λ (up : List SlotNumber). length (full_run p up)) (way_here ours p s new)

  module _ (more : 1 ≤ n) where
    pub way_choosable : Choosable (rects (entries_at p s))
    way_choosable = record {
      some = omega (arith, length_rects (entries_at p s), h.some more);
      ok = λ i k. rw (rect_entry (entries_at p s) i)
          (tree_valid p (n + h.level) s h.tree _ (at_place (entries_at p s) i no_entry (omega (arith, length_rects (entries_at p s)))));
    }

    -- the levels below the child's
    abbrev pub below : ℕ
    below = n + h.level - 2

    pub levels : n + h.level ≡ suc (suc below)
    levels = omega (arith, h.low)

    pub way_inner : is_leaf (node_at p s) ≡ false
    way_inner = inner_no_leaf (node_at p s) (omega (arith, way_node.level, levels))

    pub tree : Tree p (suc (suc below)) s
    tree = subst (λ (k : ℕ). Tree p k s) levels h.tree

    abbrev pub at : ℕ
    at = way ours p s new

    abbrev pub child : SlotNumber
    child = child_of (entry_at p s at)

    pub there : at < length (entries_at p s)
    there = way_there ours ours_lawful p s new (h.some more)

    pub inner : InnerEntry p (Tree p (suc below)) (entry_at p s at)
    inner = child_entry p below s tree at there

    abbrev pub down : WayDown p (n - 1) child new
    down = record {
      level = h.level;
      low = h.low;
      tree = subst (λ (k : ℕ). Tree p k child) (omega (arith, levels)) inner.child;
      some = λ _. omega (arith, inner.enough);
      few = omega (arith, h.few);
      good = h.good;
    }

    -- as the code has it: a place, and the child of the entry there
    module _ (i : ℕ) (c : SlotNumber) (place : i ≡ at) (leads-to : c ≡ child_of (entry_at p s i)) where
      pub child_is : c ≡ child
      child_is = leads-to ∙ ap (λ (k : ℕ). child_of (entry_at p s k)) place

      pub way_down : WayDown p (n - 1) c new
      way_down = subst⁻¹ (λ (t : SlotNumber). WayDown p (n - 1) t new) child_is down

      -- the run of full nodes
      abbrev run_to : ℕ → SlotNumber → ℕ
      run_to m t = length (full_run p (way_up ours m p t new))

      pub run_shorter : (r : ℕ) → r ≡ run_to (n - 1) c → r < n → r ≡ run_to n s
      unfolding run
      run_shorter r q less =
          let k : suc (n - 1) ≡ n = omega arith in
          let z = q ∙ ap (run_to (n - 1)) child_is in
          z ∙ sym (run_ends ours (n - 1) p s new (omega (arith, z))) ∙ ap (λ (m : ℕ). run_to m s) k

      pub run_longer : (r : ℕ) → r ≡ run_to (n - 1) c → r ≡ n → (one : ℕ) → one ≡ length (full_run p (s ∷ [])) → n + one ≡ run_to n s
      unfolding run
      run_longer r q all one f =
          let k : suc (n - 1) ≡ n = omega arith in
          let z = q ∙ ap (run_to (n - 1)) child_is in
          let g = run_goes_on ours (n - 1) p s new (omega (arith, z)) in
          let m : n + one ≡ suc (n - 1) + length (full_run p (s ∷ [])) = omega arith in
          m ∙ sym g ∙ ap (λ (j : ℕ). run_to j s) k
