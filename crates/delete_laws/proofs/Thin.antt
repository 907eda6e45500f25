-- How many entries are set aside: at most two for each node that leaves its parent. A node above the leaf loses an entry only where its
-- child leaves, and leaves in its turn only where it had none to spare.
use mathlib.Core.Path.{◌≡◌, refl, sym, ap, subst, ◌∙◌}
use mathlib.Core.Bool.{Bool, true, false, cond, ◌&&◌}
use mathlib.Core.List.{[], ◌∷◌}
use Prim.Native.Nat.{ℕ, zero, suc, ◌*◌, ◌≤◌, ◌<◌}
use native.Mathlib.Decide.{dec_le}
use native.Mathlib.Omega.{arith}
use borrow.Author.Tests.{le-leb, lt-leb}
use lib.Dec.{leb}
use lib.ListN.{length, length-append}
use Rattle.rules.specs.declared.SlotNumber.{SlotNumber}
use Rattle.rules.specs.declared.Record.{Record}
use Rattle.rules.specs.Numbers.{least}
use Rattle.rules.specs.Pool.{Pool, node_at, entries_at, entry_at, put_records}
use Rattle.rules.specs.Delete.{Place, place, Path, Condensed, take_out, asides, relieve, condense}
use Rattle.sound_laws.specs.Tree.{slots_in, Once, Tree}
use Rattle.sound_laws.proofs.Apart.{once_child}
use Rattle.insert_laws.proofs.Beside.{child_at, among_here, child_entry, Others, tight_many}
use Rattle.delete_laws.specs.Way.{Leads, next_leaves, thin_levels, most_back}
use Rattle.delete_laws.specs.Shrunk.{Shrunk, condensed}
use Rattle.delete_laws.proofs.Condense.{leads_from, condense_one, condense_up, condense_shrunk}
use Rattle.delete_laws.proofs.Narrow.{relieve_few, relieve_enough}
use Rattle.delete_laws.proofs.Asides.{asides_many}

-- ---- the next node up

module _ (m n entries : ℕ) where
  pub next_leaves_lem : m ≤ n → entries ≤ least → next_leaves m n entries ≡ suc n
  unfolding next_leaves
  next_leaves_lem a b = rw (le-leb m n a, le-leb entries least b)

  -- it stays: it has one to spare, or its child stays
  pub next_keeps : least < entries → next_leaves m n entries ≡ n
  unfolding next_leaves
  next_keeps b = rw (lt-leb entries least b) (go (leb m n))
    where
      go : (t : Bool) → cond (t && false) (suc n) n ≡ n
      go true = refl
      go false = refl

  pub next_stays : n < m → next_leaves m n entries ≡ n
  unfolding next_leaves
  next_stays a = rw (lt-leb m n a)

  next_least : n ≤ next_leaves m n entries
  unfolding next_leaves
  next_least = go (leb m n && leb entries least)
    where
      go : (t : Bool) → n ≤ cond t (suc n) n
      go true = omega arith
      go false = omega arith

module _ (p : Pool) where
  thin_one : (a : Place) → thin_levels p (a ∷ []) ≡ 0
  unfolding thin_levels
  thin_one a = refl

  thin_more : (a b : Place) (way : Path)
      → thin_levels p (a ∷ b ∷ way) ≡ next_leaves (length way) (thin_levels p (b ∷ way)) (length (entries_at p b.node))
  unfolding thin_levels
  thin_more a b way = refl

-- ---- the number of records in the head does not matter

pub thin_head : (p : Pool) (n : ℕ) (way : Path) → thin_levels (put_records p n) way ≡ thin_levels p way
unfolding thin_levels put_records entries_at node_at
thin_head p n [] = refl
thin_head p n (a ∷ []) = refl
thin_head p n (a ∷ b ∷ way) = ap (λ (k : ℕ). next_leaves (length way) k (length (entries_at p b.node))) (thin_head p n (b ∷ way))

-- ---- up the way

-- at most two entries are set aside for each node that leaves; where not all of the nodes below leave, the top has as many entries as
-- before
record Thinned (p : Pool) (l : ℕ) (s : SlotNumber) (way : Path) (d : Condensed) : Type 0 where
  few : length d.set_aside ≤ 2 * thin_levels p way
  many : suc (thin_levels p way) < l → length (entries_at d.pool s) ≡ length (entries_at p s)

module _ (p : Pool) (r : Record) where
  -- a way passes a node at each level
  way_long : (l : ℕ) (s : SlotNumber) (way : Path) → Leads p r l s way → length way ≡ l
  unfolding Leads
  way_long zero s way h = absurd h
  way_long (suc zero) s way h = ap length h.1
  way_long (suc (suc l)) s way h = ap length h.2 ∙ ap suc (way_long (suc l) (child_at p s h.0) h.1 h.4)

  -- one level up
  thin_up : (l : ℕ) (s : SlotNumber) (i : ℕ) (way rest : Path) → way ≡ place s i ∷ rest → Leads p r (suc l) (child_at p s i) rest
      → thin_levels p way ≡ next_leaves l (thin_levels p rest) (length (entries_at p (child_at p s i)))
  thin_up l s i way rest e h =
      let t = child_at p s i in
      let n = leads_from p r (suc l) t rest h in
      let long : length n.1 ≡ l = omega (arith, way_long (suc l) t rest h, ap length n.2) in
      ap (thin_levels p) (e ∙ ap (λ (z : Path). place s i ∷ z) n.2) ∙ thin_more p (place s i) (place t n.0) n.1
      ∙ (λ j. next_leaves (long j) (thin_levels p (sym n.2 j)) (length (entries_at p t)))

  -- with what the way below left
  module _ (l : ℕ) (s : SlotNumber) (d : Tree p (suc (suc l)) s) (i : ℕ) (there : i < length (entries_at p s))
      (once : Once (slots_in p (suc (suc l)) s)) (rest : Path) (g : Shrunk p (suc l) (child_at p s i) r (condense p rest))
      (below : Thinned p (suc l) (child_at p s i) rest (condense p rest)) (k : ℕ)
      (is : k ≡ next_leaves l (thin_levels p rest) (length (entries_at p (child_at p s i)))) where
    abbrev t : SlotNumber
    t = child_at p s i

    abbrev q : Pool
    q = (condense p rest).pool

    -- where the child leaves, all below it do, and it had no entry to spare
    all_leave : length (entries_at q t) < least → l ≤ thin_levels p rest
    all_leave small = go (dec_le l (thin_levels p rest))
      where
        go : Dec (l ≤ thin_levels p rest) → l ≤ thin_levels p rest
        go (yes h) = h
        go (no h) = absurd (omega (arith, small, below.many (omega arith), (child_entry p l s d i there).enough))

    leaves : length (entries_at q t) < least → k ≡ suc (thin_levels p rest)
    leaves small = is ∙ next_leaves_lem l (thin_levels p rest) (length (entries_at p t)) (all_leave small) (omega (arith, small, g.many))

    beside : Others p l s i q
    beside = record { tree = d; there = there; once = once; long = g.long; kept = λ u v out. g.other u v.slot.low out }

    next_few : length (relieve (place s i) t (condense p rest)).set_aside ≤ 2 * k
    next_few = go (dec_le least (length (entries_at q t)))
      where
        go : Dec (least ≤ length (entries_at q t)) → length (relieve (place s i) t (condense p rest)).set_aside ≤ 2 * k
        go (yes h) =
            let same = ap (λ (x : Condensed). length x.set_aside) (relieve_enough (place s i) t (condense p rest) h) in
            omega (arith, same, below.few, is, next_least l (thin_levels p rest) (length (entries_at p t)))
        go (no h) =
            let small : length (entries_at q t) < least = omega arith in
            let same = ap (λ (x : Condensed). length x.set_aside) (relieve_few (place s i) t (condense p rest) small) in
            omega (
              arith,
              same,
              length-append (condense p rest).set_aside (asides q t),
              asides_many q t,
              below.few,
              small,
              leaves small,
            )

    next_many : suc k < suc (suc l) → length (entries_at (relieve (place s i) t (condense p rest)).pool s) ≡ length (entries_at p s)
    next_many low = go (dec_le least (length (entries_at q t)))
      where
        go : Dec (least ≤ length (entries_at q t))
            → length (entries_at (relieve (place s i) t (condense p rest)).pool s) ≡ length (entries_at p s)
        go (yes h) =
            ap (λ (x : Condensed). length (entries_at x.pool s)) (relieve_enough (place s i) t (condense p rest) h) ∙ tight_many beside
        go (no h) =
            let small : length (entries_at q t) < least = omega arith in
            absurd (omega (arith, low, leaves small, all_leave small))

  condense_thinned : (l : ℕ) (s : SlotNumber) (way : Path) → Tree p l s → Once (slots_in p l s) → Leads p r l s way
      → Thinned p l s way (condense p way)
  unfolding Leads
  condense_thinned zero s way d once h = absurd h
  condense_thinned (suc zero) s way d once h =
      let is : condense p way ≡ condensed (take_out p (place s h.0)) [] = ap (condense p) h.1 ∙ condense_one p (place s h.0) in
      let none = ap (λ (x : Condensed). length x.set_aside) is in
      record { few = omega (arith, none); many = λ two. absurd (omega (arith, two)) }
  condense_thinned (suc (suc l)) s way d once h =
      let i = h.0 in
      let rest = h.1 in
      let child = (child_entry p l s d i h.3).child in
      let below-once = once_child p l s once (entry_at p s i) (among_here p l s d i h.3 i h.3) in
      let below = condense_thinned (suc l) (child_at p s i) rest child below-once h.4 in
      let g = condense_shrunk p r (suc l) (child_at p s i) rest child below-once h.4 in
      let is = thin_up l s i way rest h.2 h.4 in
      let up = condense_up p r l s i way rest h.2 h.4 in
      record {
        few = subst (λ (x : Condensed). length x.set_aside ≤ 2 * thin_levels p way) (sym up)
            (next_few l s d i h.3 once rest g below (thin_levels p way) is);
        many = λ low.
            ap (λ (x : Condensed). length (entries_at x.pool s)) up
            ∙ next_many l s d i h.3 once rest g below (thin_levels p way) is low;
      }

  pub condense_few : (l : ℕ) (s : SlotNumber) (way : Path) → Tree p l s → Once (slots_in p l s) → Leads p r l s way
      → length (condense p way).set_aside ≤ most_back p way
  condense_few l s way d once h = (condense_thinned l s way d once h).few
