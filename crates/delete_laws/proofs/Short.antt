-- D4: "Last, an inner root with one child is freed and that child is root." The child's tree is all that stood below the root, so the pool
-- stands with it; and it has three entries at least, since it was no root before.
use mathlib.Core.Path.{◌≡◌, refl, sym, ap, subst, ◌∙◌}
use mathlib.Core.Logic.{◌≢◌}
use mathlib.Core.Bool.{Bool, true, false}
use mathlib.Core.List.Memᴰ
use mathlib.Core.List.{List, [], ◌∷◌, map}
use Prim.Native.Nat.{ℕ, suc, ◌+◌, ◌-◌, ◌≤◌, ◌<◌}
use native.Mathlib.Omega.{arith}
use borrow.Author.Tests.{eqb-true, eqb-false}
use lib.Dec.{eqb}
use lib.ListN.{length}
use Rattle.rules.specs.declared.SlotNumber.{SlotNumber}
use Rattle.rules.specs.declared.Record.{Record}
use Rattle.rules.specs.declared.Entry.{Entry}
use Rattle.rules.specs.Lists.{those, total, without}
use Rattle.rules.specs.Pool.{Node, Pool, free_node, node_at, entries_at, entry_at, child_of, is_leaf, free_count, put_node, put_root, zero_slot}
use Rattle.rules.specs.Delete.{shorten}
use Rattle.rules_laws.proofs.Orders.{never_both}
use Rattle.rules_laws.proofs.Places.{Among, nothing}
use Rattle.rules_laws.proofs.Parts.{length_without}
use Rattle.rules_laws.proofs.Sums.{total_none, total_more}
use Rattle.sound_laws.specs.Tree.{slots_in, records_in, tree_slots, tree_records, times, Slot, Used, NodeIn, InnerEntry, Tree}
use Rattle.sound_laws.proofs.Tests.{leaf_is}
use Rattle.sound_laws.proofs.Times.{slot_discrete, times_none, times_other}
use Rattle.sound_laws.proofs.Walk.{tree_node, tree_positive, within, within_used}
use Rattle.sound_laws.proofs.Frame.{entries_same, slots_frame, records_frame, tree_frame, put_length, put_same, put_other}
use Rattle.sound_laws.proofs.Free.{zero_freed}
use Rattle.insert_laws.specs.Grown.{Weights, weight_under, spot, weight_at}
use Rattle.insert_laws.specs.Standing.{Standing}
use Rattle.insert_laws.proofs.Counts.{times_of, count_of, times_at, count_at, times_taken, count_taken}
use Rattle.insert_laws.proofs.Root.{root_at}
use Rattle.insert_laws.proofs.Beside.{child_entry, weight_child}
use Rattle.delete_laws.specs.Shrunk.{Shortened}

module _ (p : Pool) where
  pub shorten_leaf : is_leaf (node_at p p.root) ≡ true → shorten p ≡ p
  unfolding shorten
  shorten_leaf h = rw (h, shorten)

  pub shorten_one : is_leaf (node_at p p.root) ≡ false → eqb (length (entries_at p p.root)) 1 ≡ true
      → shorten p ≡ put_root (zero_slot p p.root) (child_of (entry_at p p.root 0)) (p.height - 1)
  unfolding shorten
  shorten_one h k = rw (h, k, shorten)

  pub shorten_more : is_leaf (node_at p p.root) ≡ false → eqb (length (entries_at p p.root)) 1 ≡ false → shorten p ≡ p
  unfolding shorten
  shorten_more h k = rw (h, k, shorten)

  -- a root that is a leaf, or has two entries, stays
  pub shorten_two : Tree p p.height p.root → (2 ≤ p.height → 2 ≤ length (entries_at p p.root)) → shorten p ≡ p
  shorten_two d two = go (is_leaf (node_at p p.root)) refl (eqb (length (entries_at p p.root)) 1) refl
    where
      level : (node_at p p.root).level ≡ p.height
      level = (tree_node p p.height p.root d).level

      go : (b : Bool) → is_leaf (node_at p p.root) ≡ b → (o : Bool) → eqb (length (entries_at p p.root)) 1 ≡ o → shorten p ≡ p
      go true h o k = shorten_leaf h
      go false h false k = shorten_more h k
      go false h true k =
          let not_one : p.height ≢ 1 = λ e. never_both ((leaf_is (node_at p p.root)).1 (level ∙ e)) h in
          let high : 2 ≤ p.height = omega (arith, not_one, tree_positive p p.height p.root d) in
          absurd (omega (arith, two high, eqb-true (length (entries_at p p.root)) 1 k))

  module _ (w : Standing p []) where
    unchanged : (2 ≤ p.height → 2 ≤ length (entries_at p p.root)) → Shortened p p
    unchanged two = record { stands = w; two = two; high = omega arith; spare = omega arith; records = refl; count = λ f. refl }

    -- ---- one child

    module _ (l : ℕ) (high : p.height ≡ suc (suc l)) (one : length (entries_at p p.root) ≡ 1) where
      abbrev root : SlotNumber
      root = p.root

      abbrev child : SlotNumber
      child = child_of (entry_at p root 0)

      abbrev q : Pool
      q = put_root (put_node p root free_node) child (p.height - 1)

      d : Tree p (suc (suc l)) root
      d = subst (λ (k : ℕ). Tree p k root) high w.tree

      there : 0 < length (entries_at p root)
      there = omega (arith, one)

      here : NodeIn p (suc (suc l)) root
      here = tree_node p (suc (suc l)) root d

      only : InnerEntry p (Tree p (suc l)) (entry_at p root 0)
      only = child_entry p l root d 0 there

      lower : q.height ≡ suc l
      unfolding put_root
      lower = omega (arith, high)

      long : length p.slots ≡ length q.slots
      unfolding put_root
      long = sym (put_length p root free_node)

      others : (t : SlotNumber) → 1 ≤ t.0 → t ≢ root → node_at p t ≡ node_at q t
      others t low n =
          sym (root_at (put_node p root free_node) child (p.height - 1) t ∙ put_other p root free_node t here.slot.low low n)

      freed : node_at q root ≡ free_node
      freed = root_at (put_node p root free_node) child (p.height - 1) root ∙ put_same p root free_node here.slot

      same : (t : SlotNumber) → Among t (slots_in p (suc l) child) → node_at p t ≡ node_at q t
      same t m =
          let k = within p (suc l) child t only.child m in
          others t (within_used p (suc l) child t only.child m).slot.low
          (λ e. omega (arith, here.level, k.high, ap (λ (u : SlotNumber). (node_at p u).level) e))

      tree_now : Tree q q.height child
      tree_now = subst (λ (k : ℕ). Tree q k child) (sym lower) (tree_frame p q long (suc l) child same only.child)

      slots_now : slots_in q q.height child ≡ slots_in p (suc l) child
      slots_now = ap (λ (k : ℕ). slots_in q k child) lower ∙ slots_frame p q (suc l) child same

      records_now : records_in q q.height child ≡ records_in p (suc l) child
      records_now = ap (λ (k : ℕ). records_in q k child) lower ∙ records_frame p q (suc l) child same

      none_else : without 0 (entries_at p root) ≡ []
      none_else = nothing (without 0 (entries_at p root)) (omega (arith, length_without (entries_at p root) 0 there, one))

      weighs : (v : Weights) → weight_at v (spot p (suc (suc l)) root) ≡ v.of_slot root + weight_at v (spot p (suc l) child)
      weighs v =
          omega (
            arith,
            weight_child p l root d 0 there v,
            ap (λ (es : List Entry). total (map (weight_under v p (suc (suc l))) es)) none_else,
            total_none (weight_under v p (suc (suc l))),
          )

      times_now : (t : SlotNumber) → times t (tree_slots p) ≡ times t (root ∷ []) + times t (slots_in q q.height child)
      times_now t =
          omega (
            arith,
            weighs (times_of t),
            times_at (spot p (suc (suc l)) root) t,
            times_at (spot p (suc l) child) t,
            times_taken t (root ∷ []),
            total_more (times_of t).of_slot root [],
            total_none (times_of t).of_slot,
            ap (λ (k : ℕ). times t (slots_in p k root)) high,
            ap (times t) slots_now,
          )

      count_now : (f : Record → Bool) → length (those f (records_in q q.height child)) ≡ length (those f (tree_records p))
      count_now f =
          omega (
            arith,
            weighs (count_of f),
            count_at (spot p (suc (suc l)) root) f,
            count_at (spot p (suc l) child) f,
            count_taken f (root ∷ []),
            total_more (count_of f).of_slot root [],
            total_none (count_of f).of_slot,
            ap (λ (k : ℕ). length (those f (records_in p k root))) high,
            ap (λ (rs : List Record). length (those f rs)) records_now,
          )

      many : 3 ≤ length (entries_at q child)
      many =
          let low = (tree_node p (suc l) child only.child).slot.low in
          let apart : child ≢ root = λ e.
          omega (arith, here.level, (tree_node p (suc l) child only.child).level, ap (λ (u : SlotNumber). (node_at p u).level) e) in
          omega (arith, only.enough, ap length (entries_same p q child (others child low apart)))

      once_now : (t : SlotNumber) → Used q t → times t (slots_in q q.height child) + times t [] ≡ 1
      once_now t u =
          let n : t ≢ root = λ e. omega (arith, u.used, ap (λ (v : SlotNumber). (node_at q v).level) e, ap (λ (n : Node). n.level) freed) in
          let v : Used p t = record {
            slot = record { low = u.slot.low; high = omega (arith, u.slot.high, long) };
            used = omega (arith, u.used, ap (λ (n : Node). n.level) (others t u.slot.low n));
          } in
          omega (arith, times_now t, times_other t root (λ e. n (sym e)), w.once t v, times_none t)

      free_now : (t : SlotNumber) → Slot q t → (node_at q t).level ≡ 0 → node_at q t ≡ free_node
      free_now t k z = go (slot_discrete t root)
        where
          go : Dec (t ≡ root) → node_at q t ≡ free_node
          go (yes e) = ap (node_at q) e ∙ freed
          go (no n) =
              let e = others t k.low n in
              sym e
              ∙ w.free t (record { low = k.low; high = omega (arith, k.high, long) }) (omega (arith, z, ap (λ (n : Node). n.level) e))

      spared : free_count q ≡ suc (free_count p)
      unfolding free_count put_root
      spared = zero_freed p root here.slot (omega (arith, here.level))

      lowered : Shortened p q
      unfolding put_root put_node
      lowered = record {
        stands = record {
          tree = tree_now;
          some = λ h. omega (arith, many);
          used = λ t m. absurd (Memᴰ.not-nil m);
          once = once_now;
          free = free_now;
        };
        two = λ h. omega (arith, many);
        high = omega (arith, lower, high);
        spare = omega (arith, spared);
        records = refl;
        count = count_now;
      }

    -- ---- any root

    pub shorten_stands : Shortened p (shorten p)
    unfolding zero_slot
    shorten_stands = go (is_leaf (node_at p p.root)) refl (eqb (length (entries_at p p.root)) 1) refl
      where
        level : (node_at p p.root).level ≡ p.height
        level = (tree_node p p.height p.root w.tree).level

        inner : is_leaf (node_at p p.root) ≡ false → p.height ≡ suc (suc (p.height - 2))
        inner h =
            let not_one : p.height ≢ 1 = λ e. never_both ((leaf_is (node_at p p.root)).1 (level ∙ e)) h in
            omega (arith, not_one, tree_positive p p.height p.root w.tree)

        go : (b : Bool) → is_leaf (node_at p p.root) ≡ b → (o : Bool) → eqb (length (entries_at p p.root)) 1 ≡ o → Shortened p (shorten p)
        go true h o k = rw (shorten_leaf h) (unchanged (λ n. omega (arith, level, (leaf_is (node_at p p.root)).0 h)))
        go false h true k =
            rw (shorten_one h k) (lowered (p.height - 2) (inner h) (eqb-true (length (entries_at p p.root)) 1 k))
        go false h false k =
            rw (shorten_more h k) (unchanged (λ n. omega (arith, w.some n, eqb-false (length (entries_at p p.root)) 1 k)))
