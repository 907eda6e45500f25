-- What a tree that grew holds: how often each slot occurs in it, and how many of its records pass a test. Both are weights, and a tree that
-- grew weighs more by what came and what was taken.
use mathlib.Core.Path.{◌≡◌, refl, sym, ◌∙◌}
use mathlib.Core.Bool.{Bool}
use mathlib.Core.List.{List, [], ◌∷◌, map}
use Prim.Native.Nat.{ℕ, ◌+◌, ◌≤◌}
use native.Mathlib.Omega.{arith}
use lib.ListN.{length}
use Rattle.rules.specs.declared.SlotNumber.{SlotNumber}
use Rattle.rules.specs.declared.Record.{Record}
use Rattle.rules.specs.declared.Entry.{Entry}
use Rattle.rules.specs.Lists.{those, total}
use Rattle.rules.specs.Pool.{Node, Pool, same_slot, node_at}
use Rattle.rules_laws.proofs.Places.{Among}
use Rattle.rules_laws.proofs.Sums.{total_zero, count_total}
use Rattle.sound_laws.specs.Tree.{slots_in, records_in, times, Tree}
use Rattle.sound_laws.proofs.Times.{among_times, not_among}
use Rattle.sound_laws.proofs.Walk.{within_used}
use Rattle.insert_laws.specs.Grown.{slots_under, records_under, Fits, Weights, weigh, weight_under, weight_of, Spot, slots_at, weight_at, Grew}
use Rattle.insert_laws.proofs.Under.{under_used}

-- each slot counts where it is t; each record counts where the test holds for it
pub times_of : SlotNumber → Weights
times_of t = record { of_slot = λ u. times t (u ∷ []); of_record = λ r. 0 }

pub count_of : (Record → Bool) → Weights
count_of f = record { of_slot = λ u. 0; of_record = λ r. length (those f (r ∷ [])) }

no_total : {A : Type 0} (xs : List A) → total (map (λ x. 0) xs) ≡ 0
no_total xs = total_zero (λ x. 0) xs (λ x m. refl)

module _ (ss : List SlotNumber) (rs : List Record) where
  weigh_times : (t : SlotNumber) → weigh (times_of t) ss rs ≡ times t ss
  unfolding times_of
  weigh_times t = omega (arith, count_total (λ u. same_slot u t) ss, no_total rs)

  weigh_count : (f : Record → Bool) → weigh (count_of f) ss rs ≡ length (those f rs)
  unfolding count_of
  weigh_count f = omega (arith, count_total f rs, no_total ss)

module _ (p : Pool) where
  pub times_under : (t : SlotNumber) (l : ℕ) (e : Entry) → weight_under (times_of t) p l e ≡ times t (slots_under p l e)
  unfolding weight_under
  times_under t l e = weigh_times (slots_under p l e) (records_under p l e) t

  pub count_under : (f : Record → Bool) (l : ℕ) (e : Entry) → weight_under (count_of f) p l e ≡ length (those f (records_under p l e))
  unfolding weight_under
  count_under f l e = weigh_count (slots_under p l e) (records_under p l e) f

pub times_at : (a : Spot) (t : SlotNumber) → weight_at (times_of t) a ≡ times t (slots_at a)
unfolding weight_at
times_at a t = weigh_times (slots_at a) (records_in a.pool a.level a.top) t

pub count_at : (a : Spot) (f : Record → Bool) → weight_at (count_of f) a ≡ length (those f (records_in a.pool a.level a.top))
unfolding weight_at
count_at a f = weigh_count (slots_at a) (records_in a.pool a.level a.top) f

pub times_taken : (t : SlotNumber) (ts : List SlotNumber) → total (map (times_of t).of_slot ts) ≡ times t ts
unfolding times_of
times_taken t ts = sym (count_total (λ u. same_slot u t) ts)

pub count_taken : (f : Record → Bool) (ts : List SlotNumber) → total (map (count_of f).of_slot ts) ≡ 0
unfolding count_of
count_taken f ts = no_total ts

-- a free slot is in no tree and under no entry that fits
pub free_out : (p : Pool) (l : ℕ) (s t : SlotNumber) → Tree p l s → (node_at p t).level ≡ 0 → times t (slots_in p l s) ≡ 0
free_out p l s t d h = not_among t _ (λ m. omega (arith, h, (within_used p l s t d m).used))

pub free_under : (p : Pool) (n : Node) (t : SlotNumber) → ((e : Entry) → Among e n.entries → Fits p n.level e) → (node_at p t).level ≡ 0
    → weight_of (times_of t) p n ≡ 0
unfolding weight_of
free_under p n t f h =
    total_zero (weight_under (times_of t) p n.level) n.entries
    (λ e m. times_under p t n.level e ∙ not_among t _ (λ k. omega (arith, h, (under_used p n.level e t (f e m) k).used)))

module _ {a b : Spot} {come left : Node} {taken touched : List SlotNumber} (g : Grew a b come left taken touched) where
  pub grew_times : (t : SlotNumber) → times t (slots_at b) + weight_of (times_of t) b.pool left
      ≡ times t (slots_at a) + weight_of (times_of t) a.pool come + times t taken
  grew_times t = omega (arith, g.weighs (times_of t), times_at a t, times_at b t, times_taken t taken)

  pub grew_count : (f : Record → Bool)
      → length (those f (records_in b.pool b.level b.top)) + weight_of (count_of f) b.pool left
      ≡ length (those f (records_in a.pool a.level a.top)) + weight_of (count_of f) a.pool come
  grew_count f = omega (arith, g.weighs (count_of f), count_at a f, count_at b f, count_taken f taken)

  -- a slot that is free now was free before, and is as it was
  module _ (t : SlotNumber) (h : (node_at b.pool t).level ≡ 0) where
    free_times : (times t (slots_at a) ≡ 0) × (times t taken ≡ 0)
    free_times =
        let x = grew_times t in
        let y = free_out b.pool b.level b.top t g.tree h in
        let z = free_under b.pool left t g.fit h in
        (omega arith, omega arith)

    pub free_apart : Among t taken → ⊥
    free_apart m = omega (arith, free_times.1, among_times t m)

    pub free_before : 1 ≤ t.0 → node_at a.pool t ≡ node_at b.pool t
    free_before low = g.other t low (λ m. omega (arith, free_times.0, among_times t (g.inside t m))) free_apart
