-- A pool whose tree stands, with an entry of those set aside put in, stands again, less the slots under that entry. A slot in use was in
-- use before, and stands where it stood or where the entry went; or it is one of those taken, and occurs in the tree once.
use mathlib.Core.Path.{◌≡◌, sym, ap, ◌∙◌}
use mathlib.Core.Logic.{⊎_elim}
use mathlib.Core.Bool.{Bool}
use mathlib.Core.List.Memᴰ
use mathlib.Core.List.{List, ◌++◌}
use Prim.Native.Nat.{ℕ, ◌+◌, ◌≤◌}
use native.Mathlib.Decide.{dec_le}
use native.Mathlib.Omega.{arith}
use lib.ListN.{length}
use Rattle.rules.specs.declared.SlotNumber.{SlotNumber}
use Rattle.rules.specs.declared.Record.{Record}
use Rattle.rules.specs.declared.Entry.{Entry}
use Rattle.rules.specs.Lists.{those}
use Rattle.rules.specs.Pool.{Node, Pool, same_slot, node_at}
use Rattle.rules.specs.Insert.{Choice, Done, insert_at}
use Rattle.rules.specs.Lawful.{Lawful}
use Rattle.rules_laws.proofs.Places.{Among}
use Rattle.rules_laws.proofs.Parts.{count_append}
use Rattle.sound_laws.specs.Tree.{tree_slots, tree_records, times, Once, Slot, Used}
use Rattle.sound_laws.proofs.Times.{among_times, times_among, not_among}
use Rattle.sound_laws.proofs.Walk.{within_used}
use Rattle.insert_laws.specs.Grown.{slots_under, records_under, Fits, Weights, weight_under}
use Rattle.insert_laws.specs.Standing.{Standing, Put}
use Rattle.insert_laws.proofs.Under.{weight_none, weight_one, weight_frame, fits_frame, under_used}
use Rattle.insert_laws.proofs.Counts.{times_of, count_of, times_under, count_under, grew_times, grew_count, free_before, free_out}
use Rattle.insert_laws.proofs.Root.{insert_put}

-- no slot of the tree occurs there twice
pub standing_once : (p : Pool) (aside : List SlotNumber) → Standing p aside → Once (tree_slots p)
standing_once p aside w s = go (dec_le 1 (times s (tree_slots p)))
  where
    go : Dec (1 ≤ times s (tree_slots p)) → times s (tree_slots p) ≤ 1
    go (yes h) = omega (arith, w.once s (within_used p p.height p.root s w.tree (times_among s (tree_slots p) h)))
    go (no h) = omega arith

module _ (p : Pool) (k : ℕ) (e : Entry) (q : Pool) (g : Put p k e q) where
  -- how often a slot occurs in the tree
  pub put_times : (t : SlotNumber) → times t (tree_slots q) ≡ times t (tree_slots p) + times t (slots_under p k e) + times t g.taken
  put_times t =
      omega (arith, grew_times g.grew t, weight_none (times_of t) q 0, weight_one (times_of t) p k e, times_under p t k e)

  -- how many of its records pass a test
  pub put_count : (f : Record → Bool)
      → length (those f (tree_records q)) ≡ length (those f (tree_records p)) + length (those f (records_under p k e))
  put_count f =
      omega (arith, grew_count g.grew f, weight_none (count_of f) q 0, weight_one (count_of f) p k e, count_under p f k e)

  -- the tree is as high as it was, or one level higher
  pub put_high : p.height ≤ q.height
  put_high = ⊎_elim (λ o. omega (arith, o.1)) (λ o. omega (arith, o.1)) g.head

  -- in use before: neither taken nor outside the tree is it changed
  not_taken : (t : SlotNumber) → Used p t → Among t g.taken → ⊥
  not_taken t u m = omega (arith, u.used, g.grew.free t m)

  module _ (aside : List SlotNumber) (w : Standing p (slots_under p k e ++ aside)) (f : Fits p k e) where
    each_once : (t : SlotNumber) → Used p t → times t (tree_slots p) + times t (slots_under p k e) + times t aside ≡ 1
    each_once t u = omega (arith, w.once t u, count_append (λ v. same_slot v t) (slots_under p k e) aside)

    -- what is set aside is as it was
    pub aside_same : (t : SlotNumber) → Among t aside → node_at p t ≡ node_at q t
    aside_same t m =
        let u = w.used t (Memᴰ.append_right (slots_under p k e) m) in
        g.grew.other t u.slot.low (λ n. omega (arith, each_once t u, among_times t m, among_times t n)) (not_taken t u)

    pub aside_fits : (j : ℕ) (x : Entry) → ((t : SlotNumber) → Among t (slots_under p j x) → Among t aside) → Fits p j x → Fits q j x
    aside_fits j x h = fits_frame p q g.grew.long j x (λ t m. aside_same t (h t m))

    pub aside_weighs : (v : Weights) (j : ℕ) (x : Entry) → ((t : SlotNumber) → Among t (slots_under p j x) → Among t aside)
        → weight_under v q j x ≡ weight_under v p j x
    aside_weighs v j x h = weight_frame p q v j x (λ t m. aside_same t (h t m))

    once_now : (t : SlotNumber) → Used q t → times t (tree_slots q) + times t aside ≡ 1
    once_now t u = go (dec_le 1 (node_at p t).level)
      where
        slot : Slot p t
        slot = record { low = u.slot.low; high = omega (arith, u.slot.high, g.grew.long) }

        go : Dec (1 ≤ (node_at p t).level) → times t (tree_slots q) + times t aside ≡ 1
        go (yes h) =
            let v : Used p t = record { slot = slot; used = h } in
            omega (arith, put_times t, each_once t v, not_among t g.taken (not_taken t v))
        go (no h) =
            let z : (node_at p t).level ≡ 0 = omega arith in
            omega (
              arith,
              put_times t,
              free_out p p.height p.root t w.tree z,
              not_among t (slots_under p k e) (λ m. omega (arith, z, (under_used p k e t f m).used)),
              not_among t aside (λ m. omega (arith, z, (w.used t (Memᴰ.append_right (slots_under p k e) m)).used)),
              g.grew.once t,
              taken_now z (dec_le 1 (times t g.taken)),
            )
          where
            taken_now : (node_at p t).level ≡ 0 → Dec (1 ≤ times t g.taken) → 1 ≤ times t g.taken
            taken_now z (yes n) = n
            taken_now z (no n) =
                let same = g.grew.other t slot.low (λ m. omega (arith, z, (within_used p p.height p.root t w.tree m).used))
                (λ m. omega (arith, among_times t m)) in
                absurd (omega (arith, z, u.used, ap (λ (x : Node). x.level) same))

    pub put_standing : Standing q aside
    put_standing = record {
      tree = g.grew.tree;
      some = λ h. ⊎_elim (λ o. omega (arith, w.some (omega (arith, o.1)), o.2)) (λ o. omega (arith, o.2)) g.head;
      used = λ t m.
          let u = w.used t (Memᴰ.append_right (slots_under p k e) m) in
          let same = aside_same t m in
          record {
            slot = record { low = u.slot.low; high = omega (arith, u.slot.high, g.grew.long) };
            used = omega (arith, u.used, ap (λ (x : Node). x.level) same);
          };
      once = once_now;
      free = λ t h z.
          let same = free_before g.grew t z h.low in
          sym same
          ∙ w.free t (record { low = h.low; high = omega (arith, h.high, g.grew.long) }) (omega (arith, z, ap (λ (x : Node). x.level) same));
    }

-- ---- an entry set aside goes back at its level

module _ (c : Choice) (lawful : Lawful c) (p : Pool) (k : ℕ) (e : Entry) (aside : List SlotNumber)
    (w : Standing p (slots_under p k e ++ aside)) (f : Fits p k e) (low : k ≤ p.height) (q : Pool) (h : insert_at c k p e ≡ Done q) where
  pub standing_put : Put p k e q
  standing_put = insert_put p k e c lawful w.tree (standing_once p (slots_under p k e ++ aside) w) w.some f low q h

  pub insert_standing : Standing q aside
  insert_standing = put_standing p k e q standing_put aside w f
