-- How many slots an entry takes on its way up. A node takes one just where what comes to it finds it full: the first is the one that the
-- entry goes into, and to each other comes what the node below left over. So the slots taken are the run of full nodes, and there is one
-- for each, or none is left.
use mathlib.Core.Path.{◌≡◌, refl, ap, subst, ◌∙◌}
use mathlib.Core.Bool.{Bool, true, false}
use mathlib.Core.List.{List, [], ◌∷◌, ◌++◌}
use Prim.Native.Nat.{ℕ, zero, suc, ◌+◌, ◌≤◌, ◌<◌}
use native.Mathlib.Decide.{dec_le}
use native.Mathlib.Omega.{arith}
use lib.Dec.{ltb}
use lib.ListN.{length}
use borrow.Author.Tests.{ltb-true, ltb-false}
use Rattle.rules.specs.declared.Rect.{Rect}
use Rattle.rules.specs.declared.SlotNumber.{SlotNumber}
use Rattle.rules.specs.declared.Entry.{Entry}
use Rattle.std.specs.Prelude.{Option, Some, None}
use Rattle.rules.specs.Numbers.{most, least}
use Rattle.rules.specs.Pool.{Node, Pool, node, node_at, entries_at, entry_at, child_of, lowest_free, free_count, put_node, tighten}
use Rattle.rules.specs.Insert.{Choice, Grown, Kept, Split, Full, install, adjust, insert_below}
use Rattle.rules.specs.Lawful.{Lawful}
use Rattle.rules.specs.Room.{way_up, full_run}
use Rattle.sound_laws.specs.Tree.{slots_in, Once, Slot, Tree}
use Rattle.sound_laws.proofs.Apart.{once_child}
use Rattle.sound_laws.proofs.Walk.{no_tree, tree_node}
use Rattle.sound_laws.proofs.Frame.{put_other, put_slot}
use Rattle.sound_laws.proofs.Free.{lowest_slot, lowest_free_lem, put_used, put_free, nowhere_none}
use Rattle.insert_laws.specs.Grown.{Fits, Grows}
use Rattle.insert_laws.proofs.Under.{no_fit}
use Rattle.insert_laws.proofs.Install.{other_level, put_entries_lem, split_none, split_at, install_room, install_full}
use Rattle.insert_laws.proofs.Tighten.{grew_beside, tighten_grew}
use Rattle.insert_laws.proofs.Below.{below_here, below_down, way, adjust_kept, adjust_split, adjust_full, way_there, below_grows}
use Rattle.insert_laws.proofs.Beside.{among_here, child_entry, tight_many, tight_free}
use Rattle.insert_laws.proofs.Runs.{full_one, room_none, way_here, run, run_ends, run_goes_on, run_most}

-- ---- one node

-- it has room and takes no slot; it is full, and takes one or finds none
abbrev Installs : Pool → SlotNumber → Grown → Type 0
Installs p s (Kept q) = (length (entries_at p s) < most) × (free_count q ≡ free_count p)
Installs p s (Split q x) = (most ≤ length (entries_at p s)) × (suc (free_count q) ≡ free_count p)
Installs p s Full = (most ≤ length (entries_at p s)) × (free_count p ≡ 0)

install_takes : (c : Choice) (p : Pool) (l : ℕ) (s : SlotNumber) → Tree p (suc l) s → (e : Entry) → Installs p s (install c p s e)
install_takes c p l s d e = go (ltb (length (entries_at p s)) most) refl (lowest_free p) refl
  where
    level : (node_at p s).level ≡ suc l
    level = (tree_node p (suc l) s d).level

    slot : Slot p s
    slot = (tree_node p (suc l) s d).slot

    es : List Entry
    es = entries_at p s ++ e ∷ []

    go : (b : Bool) → ltb (length (entries_at p s)) most ≡ b → (o : Option SlotNumber) → lowest_free p ≡ o → Installs p s (install c p s e)
    go true h o q =
        rw (install_room c p s e h, put_entries_lem p (suc l) s es level)
        (ltb-true (length (entries_at p s)) most h, put_used p s (node (suc l) es) slot (omega arith) (omega (arith, level)))
    go false h None q =
        rw (install_full c p s e h, q, split_none p s (c.split es)) (ltb-false (length (entries_at p s)) most h, nowhere_none p q)
    go false h (Some t) q =
        let one = node (suc l) (c.split es).one in
        let k = lowest_slot p t q in
        let z = lowest_free_lem p t q in
        let same = put_other p s one t slot.low k.low (other_level p t s (λ g. omega (arith, level))) in
        let a = put_used p s one slot (omega arith) (omega (arith, level)) in
        let b = put_free (put_node p s one) t (node (suc l) (c.split es).two) ((put_slot p s one t).1 k) (omega arith)
        (ap (λ (n : Node). n.level) same ∙ z) in
        rw (install_full c p s e h, q, split_at p (suc l) s (c.split es) t level) (ltb-false (length (entries_at p s)) most h, b ∙ a)

-- ---- on the way up

-- n levels above the node that the entry went into, with a run of r full nodes until here
abbrev pub Takes : Pool → ℕ → ℕ → Grown → Type 0
Takes p n r (Kept q) = (r ≤ n) × (free_count q + r ≡ free_count p)
Takes p n r (Split q x) = (r ≡ suc n) × (free_count q + r ≡ free_count p)
Takes p n r Full = free_count p < r

-- the run with one node more, which has m entries
record Longer (n m r r' : ℕ) : Type 0 where
  more : r ≤ r'
  ended : r ≤ n → r' ≡ r
  room : r ≡ suc n → m < most → r' ≡ r
  full : r ≡ suc n → most ≤ m → r' ≡ suc r

module _ (c : Choice) where
  module _ (n : ℕ) (p : Pool) (s : SlotNumber) (new : Rect) where
    abbrev below : List SlotNumber
    below = way_up c n p (child_of (entry_at p s (way c p s new))) new

    run_longer : Longer n (length (entries_at p s)) (run c n p (child_of (entry_at p s (way c p s new))) new) (run c (suc n) p s new)
    unfolding run
    run_longer = record {
      more = go (dec_le (length (full_run p below)) n);
      ended = run_ends c n p s new;
      room = λ h m. omega (arith, run_goes_on c n p s new h, room_none p s m);
      full = λ h m. omega (arith, run_goes_on c n p s new h, full_one p s m);
    }
      where
        go : Dec (length (full_run p below) ≤ n) → length (full_run p below) ≤ run c (suc n) p s new
        go (yes h) = omega (arith, run_ends c n p s new h)
        go (no h) =
            let most-of = run_most c n p (child_of (entry_at p s (way c p s new))) new in
            omega (arith, run_goes_on c n p s new (omega arith))

  -- ---- one level up

  module _ (p : Pool) (l : ℕ) (s : SlotNumber) (d : Tree p (suc (suc l)) s) (once : Once (slots_in p (suc (suc l)) s)) (i : ℕ)
      (there : i < length (entries_at p s)) (k : ℕ) (e : Entry) (n r r' : ℕ) (longer : Longer n (length (entries_at p s)) r r') where
    abbrev child : SlotNumber
    child = child_of (entry_at p s i)

    -- what is left over comes to a node that has as many entries as before
    then_takes : (q : Pool) → r ≡ suc n → free_count q + r ≡ free_count p → length (entries_at q s) ≡ length (entries_at p s)
        → (o : Grown) → Installs q s o → Takes p (suc n) r' o
    then_takes q all free many (Kept u) h = let e = longer.room all (omega (arith, h.0)) in (omega arith, omega (arith, h.1))
    then_takes q all free many (Split u y) h = let e = longer.full all (omega (arith, h.0)) in (omega arith, omega (arith, h.1))
    then_takes q all free many Full h = let e = longer.full all (omega (arith, h.0)) in omega (arith, h.1)

    adjust_takes : (o : Grown) → Grows p (suc l) child k e (slots_in p (suc l) child) o → Takes p n r o → Takes p (suc n) r' (adjust c s i o)
    adjust_takes (Kept q) h t =
        let x = child_entry p l s d i there in
        let enough : least ≤ length (entries_at q child) = omega (arith, x.enough, h.3) in
        let same = longer.ended t.0 in
        rw (adjust_kept c s i q) (omega (arith, t.0), omega (arith, t.1, tight_free (grew_beside p l s d i there once q h.1)))
    adjust_takes (Split q x) h t =
        let low : suc (suc l) ≤ suc (suc l) = omega arith in
        let g = tighten_grew p l s d i there once q h.1 low h.3 in
        let free = tight_free (grew_beside p l s d i there once q h.1) in
        rw (adjust_split c s i q x)
        (then_takes (tighten q s i) t.0 (omega (arith, t.1)) (tight_many (grew_beside p l s d i there once q h.1))
        (install c (tighten q s i) s x) (install_takes c (tighten q s i) (suc l) s g.tree x))
    adjust_takes Full h t = rw (adjust_full c s i) (omega (arith, longer.more))

  -- ---- all the way

  here_takes : (p : Pool) (s : SlotNumber) (r : ℕ) → r ≡ length (full_run p (s ∷ [])) → (o : Grown) → Installs p s o → Takes p 0 r o
  here_takes p s r e (Kept q) h = (omega (arith, room_none p s h.0), omega (arith, room_none p s h.0, h.1))
  here_takes p s r e (Split q x) h = (omega (arith, full_one p s h.0), omega (arith, full_one p s h.0, h.1))
  here_takes p s r e Full h = omega (arith, full_one p s h.0, h.1)

  module _ (lawful : Lawful c) (p : Pool) (k : ℕ) (e : Entry) (f : Fits p k e) where
    pub below_takes : (n l : ℕ) (s : SlotNumber) → l ≡ n + k → Tree p l s → Once (slots_in p l s) → (0 < n → 0 < length (entries_at p s))
        → Takes p n (run c n p s e.rect) (insert_below c n p s e)
    unfolding run
    below_takes zero zero s h d once some = absurd (no_tree p s d)
    below_takes zero (suc l) s h d once some =
        rw (below_here c p s e) (here_takes p s _ (ap (λ (up : List SlotNumber). length (full_run p up)) (way_here c p s e.rect)) (install c p s e) (install_takes c p l s d e))
    below_takes (suc n) zero s h d once some = absurd (no_tree p s d)
    below_takes (suc n) (suc zero) s h d once some = absurd (no_fit p e (subst (λ (j : ℕ). Fits p j e) (omega arith) f))
    below_takes (suc n) (suc (suc l)) s h d once some =
        let i = way c p s e.rect in
        let there = way_there c lawful p s e.rect (some (omega arith)) in
        let x = child_entry p l s d i there in
        let t = child_of (entry_at p s i) in
        let once' = once_child p l s once (entry_at p s i) (among_here p l s d i there i there) in
        rw (below_down c n p s e)
        (adjust_takes p l s d once i there k e n (run c n p t e.rect) (run c (suc n) p s e.rect) (run_longer n p s e.rect) (insert_below c n p t e)
        (below_grows c lawful p k e f n (suc l) t (omega arith) x.child once' (λ z. omega (arith, x.enough)))
        (below_takes n (suc l) t (omega arith) x.child once' (λ z. omega (arith, x.enough))))
