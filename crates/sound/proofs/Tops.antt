-- A pool is sound just where the head is, the walk from the root says yes, every slot that it did not mark is all zero, the records are
-- counted, and their owners are sound. A marked slot is one of the tree, once; a slot in use is not all zero, so it is marked; and a slot of
-- the tree is in use. Its words are its node's: those around its entries are asked in the walk; a child is a slot from 1 on, so that no inner
-- entry's pointer is negative; and that no inner entry has an owner is asked with the owners.
use mathlib.Core.Path.{◌≡◌, refl, sym, ap, subst, ◌∙◌}
use mathlib.Core.Bool.{Bool, true, false, not, ◌&&◌, ◌||◌}
use mathlib.Core.List.{List, map}
use Prim.Native.Nat.{ℕ, ◌+◌, ◌-◌, ◌≤◌, ◌<◌}
use native.Mathlib.Decide.{dec_le}
use native.Mathlib.Omega.{arith}
use lib.Dec.{leb, eqb}
use lib.ListN.{length, get_or, replicate}
use lib.IntN.{ℤ, pos}
use lib.Signed.{le_z}
use borrow.Author.Tests.{leb-true, le-leb, eqb-true, eq-eqb}
use Rattle.rules.specs.declared.SlotNumber.{SlotNumber}
use Rattle.rules.specs.Lists.{every, joined}
use Rattle.rules.specs.Pool.{Node, Pool, slot, no_entry, free_node, slot_numbers, node_at, entries_at, entry_at, entry_from, is_leaf, stored}
use Rattle.rules.specs.Layout.{slot_head, slot_start, level_place, pointer_place, edition_of, valid_length, entry_words, node_words, head_words, word_at, read}
use Rattle.rules.specs.Sound.{is_slot, records_sound, sound_pool, nothing_else, owners_sound, sound}
use Rattle.rules_laws.proofs.Bools.{and_both, both_and, same_test}
use Rattle.rules_laws.proofs.Orders.{never_both, at_most_on}
use Rattle.rules_laws.proofs.Everies.{every_is}
use Rattle.rules_laws.proofs.Places.{Among, at_place, get_d_alike}
use Rattle.layout_laws.specs.Slots.{InPool}
use Rattle.pool.specs.Standing.{stand, tidy_around}
use Rattle.layout_laws.proofs.Written.{read_slots}
use Rattle.pool.proofs.Tidied.{pointer_one, leaf_entries_lem, inner_entries_lem, inner_unowned_lem, level_stands, slot_parts, nothing_each, zero_free}
use Rattle.nodes.proofs.Slots.{most_slots_lem, within as slot-within, asked_within}
use Rattle.sound_laws.specs.Tree.{tree_slots, times, Slot, Used, Whole}
use Rattle.sound_laws.proofs.Tests.{or_is, slot_is}
use Rattle.sound_laws.proofs.Times.{times_among}
use Rattle.sound_laws.proofs.Flat.{slots_are}
use Rattle.sound_laws.proofs.Walk.{tree_node, within, within_used}
use Rattle.sound_laws.proofs.Whole.{height_positive, reached_used, all_once}
use Rattle.sound_laws.proofs.Sound.{sound_is_whole}
use Rattle.sound_laws.proofs.Heights.{height_eight}
use Rattle.sound.specs.Walked.{plain_entry, mark_of, Unmet, Marked, SoundRoot, RootAnswer, met_or_zero, head_sound, inner_unowned, rest_sound}
use Rattle.sound.proofs.Looks.{plain_is, tree_plain}
use Rattle.sound.proofs.Owners.{unowned_at, at_unowned}

-- no slot is marked before the walk
abbrev pub unmarked : List ℕ
unmarked = replicate 4096 0

-- what the walk from the root is asked, and answers
abbrev pub TopAnswer : List ℤ → List ℕ → Bool → Type 0
TopAnswer w after r = RootAnswer w (read w).height (read w).root unmarked after r

-- ---- the tests

head_parts : (w : List ℤ) → head_sound w ≡ true
    → (stand (head_words (read w)) w 0 ≡ true) × ((1 ≤ (read w).height) × ((read w).height ≤ 8)) × (is_slot (read w) (read w).root ≡ true)
unfolding head_sound
head_parts w h =
    let p = read w in
    let q = and_both (stand (head_words p) w 0 && (leb 1 p.height && leb p.height 8)) (is_slot p p.root) h in
    let r = and_both (stand (head_words p) w 0) (leb 1 p.height && leb p.height 8) q.0 in
    let t = and_both (leb 1 p.height) (leb p.height 8) r.1 in
    (r.0, (leb-true 1 p.height t.0, leb-true p.height 8 t.1), q.1)

parts_head : (w : List ℤ) → stand (head_words (read w)) w 0 ≡ true → 1 ≤ (read w).height → (read w).height ≤ 8
    → is_slot (read w) (read w).root ≡ true → head_sound w ≡ true
unfolding head_sound
parts_head w h low high root = rw (h, le-leb 1 (read w).height low, le-leb (read w).height 8 high, root)

-- the words of the slot are all zero
abbrev Zero : List ℤ → SlotNumber → Type 0
Zero w s = stand (node_words (edition_of w) free_node) w (slot_start (edition_of w) s) ≡ true

met_is : (w : List ℤ) (seen : List ℕ) (s : SlotNumber) → met_or_zero w seen s ≡ true → mark_of seen s ≡ 0 → Zero w s
unfolding met_or_zero
met_is w seen s h e =
    (or_is (not (eqb (mark_of seen s) 0)) (stand (node_words (edition_of w) free_node) w (slot_start (edition_of w) s))).0 h (ap not (eq-eqb (mark_of seen s) 0 e))

is_met : (w : List ℤ) (seen : List ℕ) (s : SlotNumber) → (mark_of seen s ≡ 0 → Zero w s) → met_or_zero w seen s ≡ true
unfolding met_or_zero
is_met w seen s f = go (eqb (mark_of seen s) 0) refl
  where
    go : (b : Bool) → eqb (mark_of seen s) 0 ≡ b → (not b || stand (node_words (edition_of w) free_node) w (slot_start (edition_of w) s)) ≡ true
    go true e = f (eqb-true (mark_of seen s) 0 e)
    go false e = refl

-- .. of the i-th slot
pub met_at : (w : List ℤ) (seen : List ℕ) (i : ℕ)
    → (not (eqb (get_or seen i 0) 0) || stand (node_words (edition_of w) free_node) w (slot_start (edition_of w) (slot (i + 1)))) ≡ met_or_zero w seen (slot (i + 1))
unfolding met_or_zero
met_at w seen i =
    let k : i ≡ i + 1 - 1 = omega arith in
    ap (λ (j : ℕ). not (eqb (get_or seen j 0) 0) || stand (node_words (edition_of w) free_node) w (slot_start (edition_of w) (slot (i + 1)))) k

records_are : (w : List ℤ) → (records_sound (read w) ≡ true → (read w).records ≡ length (stored (read w)))
    × ((read w).records ≡ length (stored (read w)) → records_sound (read w) ≡ true)
unfolding records_sound
records_are w =
    let p = read w in
    (λ h. sym (eqb-true (length (stored p)) p.records h), λ e. eq-eqb (length (stored p)) p.records (sym e))

pub mark_none : (t : SlotNumber) → mark_of unmarked t ≡ 0
mark_none t = get_d_alike 4096 (t.0 - 1) 0

-- a slot's words are those of the node that is read from them
abbrev TidySlot : List ℤ → SlotNumber → Type 0
TidySlot w s = stand (node_words (edition_of w) (node_at (read w) s)) w (slot_start (edition_of w) s) ≡ true

module _ (w : List ℤ) (right : valid_length w ≡ true) where
  in_pool_lem : {s : SlotNumber} → Slot (read w) s → InPool w s
  in_pool_lem {s} k = slot-within w s right k.low k.high

  pool_slot : {s : SlotNumber} → InPool w s → Slot (read w) s
  pool_slot k = record { low = k.low; high = omega (arith, k.high, read_slots w) }

  -- what the walk asks of the head
  pub head_asks : head_sound w ≡ true → InPool w (read w).root × (1 ≤ (read w).height)
  head_asks h = let q = head_parts w h in (asked_within w (read w).root right q.2, q.1.0)

  -- ---- what is said yes to is sound

  module _ (head : head_sound w ≡ true) {after : List ℕ} (walk : TopAnswer w after true)
      (rest : every (met_or_zero w after) (slot_numbers (read w)) ≡ true) where
    abbrev p : Pool
    p = read w

    asked : SoundRoot w p.height p.root
    asked = walk.yes refl

    -- a slot's mark is how often it is in the tree
    mark_is : {s : SlotNumber} → Slot p s → mark_of after s ≡ times s (tree_slots p)
    mark_is {s} k = omega (arith, (walk.marked refl).each s k.low, mark_none s)

    -- a slot of the tree, or one that is all zero
    zero_or_met : {s : SlotNumber} → Slot p s → times s (tree_slots p) ≡ 0 → Zero w s
    zero_or_met {s} k e = met_is w after s ((every_is (met_or_zero w after) (slot_numbers p)).0 rest s ((slots_are p s).1 k)) (mark_is k ∙ e)

    free_at : {s : SlotNumber} → Slot p s → times s (tree_slots p) ≡ 0 → node_at p s ≡ free_node
    free_at {s} k e = zero_free w s (in_pool_lem k) (zero_or_met k e)

    once_at : {s : SlotNumber} → Used p s → Dec (1 ≤ times s (tree_slots p)) → times s (tree_slots p) ≡ 1
    once_at {s} u (yes h) = omega (arith, (walk.unmet refl).each s u.slot.low h, mark_none s)
    once_at {s} u (no h) = absurd (omega (arith, u.used, ap (λ (n : Node). n.level) (free_at u.slot (omega arith))))

    free_when : {s : SlotNumber} → Slot p s → (node_at p s).level ≡ 0 → Dec (1 ≤ times s (tree_slots p)) → node_at p s ≡ free_node
    free_when {s} k e (yes h) =
        absurd (omega (arith, (within_used p p.height p.root s asked.below.tree (times_among s (tree_slots p) h)).used))
    free_when {s} k e (no h) = free_at k (omega arith)

    -- a slot of the tree: it is in use, its entries are plain, and an inner entry has no owner
    module _ (unowned : every (inner_unowned w) (slot_numbers p) ≡ true) {s : SlotNumber} (m : Among s (tree_slots p)) where
      used : Used p s
      used = within_used p p.height p.root s asked.below.tree m

      plain : (i : ℕ) → i < length (entries_at p s) → plain_entry (entry_at p s i) ≡ true
      unfolding entry_at entry_from
      plain i h =
          tree_plain p (node_at p s).level s (within p p.height p.root s asked.below.tree m).tree (entry_at p s i)
          (at_place (entries_at p s) i no_entry h)

      not_negative_lem : (i : ℕ) → i < length (entries_at p s) → le_z (pos 0) (word_at w (pointer_place (edition_of w) s i)) ≡ true
      not_negative_lem i h =
          at_most_on (pos 0) (pos 1) (word_at w (pointer_place (edition_of w) s i)) refl
          (pointer_one (in_pool_lem used.slot) i h ∙ (plain_is (entry_at p s i) (plain i h)).1)

      entries_stand : (t : Bool) → eqb (node_at p s).level 1 ≡ t
          → stand (joined (map (entry_words (edition_of w)) (entries_at p s))) w (slot_start (edition_of w) s + slot_head) ≡ true
      unfolding is_leaf
      entries_stand true e = leaf_entries_lem (in_pool_lem used.slot) e
      entries_stand false e =
          inner_entries_lem (in_pool_lem used.slot) e (λ i h. (
            not_negative_lem i h,
            unowned_at w s ((every_is (inner_unowned w) (slot_numbers p)).0 unowned s ((slots_are p s).1 used.slot)) e i h,
          ))

      tree_tidy : TidySlot w s
      tree_tidy =
          slot_parts (in_pool_lem used.slot)
          ∙ both_and _ _ (level_stands (in_pool_lem used.slot) used.used)
          (both_and _ _ (entries_stand (eqb (node_at p s).level 1) refl) (asked.below.around s m))

    tidy_at : every (inner_unowned w) (slot_numbers p) ≡ true → {s : SlotNumber} → Slot p s → Dec (1 ≤ times s (tree_slots p)) → TidySlot w s
    tidy_at unowned {s} k (yes h) = tree_tidy unowned (times_among s (tree_slots p) h)
    tidy_at unowned {s} k (no h) = let z : times s (tree_slots p) ≡ 0 = omega arith in rw (free_at k z) (zero_or_met k z)

    whole : records_sound p ≡ true → Whole p
    whole records = record {
      tree = asked.below.tree;
      two = asked.two;
      once = λ s u. once_at u (dec_le 1 (times s (tree_slots p)));
      free = λ s k e. free_when k e (dec_le 1 (times s (tree_slots p)));
      counted = (records_are w).0 records;
    }

    yes_sound : records_sound p ≡ true → (owners_sound p && every (inner_unowned w) (slot_numbers p)) ≡ true → sound w ≡ true
    unfolding sound
    yes_sound records owners =
        let o = and_both (owners_sound p) (every (inner_unowned w) (slot_numbers p)) owners in
        both_and (nothing_else w && sound_pool p) (owners_sound p)
        (both_and (nothing_else w) (sound_pool p)
        ((nothing_each w right).1 ((head_parts w head).0, λ s k. tidy_at o.1 (pool_slot k) (dec_le 1 (times s (tree_slots p)))))
        ((sound_is_whole p).1 (whole records))) o.0

  -- ---- what is sound is said yes to

  module _ (h : sound w ≡ true) where
    parts : (nothing_else w ≡ true) × (sound_pool (read w) ≡ true) × (owners_sound (read w) ≡ true)
    unfolding sound
    parts =
        let a = and_both (nothing_else w && sound_pool (read w)) (owners_sound (read w)) h in
        let b = and_both (nothing_else w) (sound_pool (read w)) a.0 in
        (b.0, b.1, a.1)

    is_whole : Whole (read w)
    is_whole = (sound_is_whole (read w)).0 parts.1

    all_tidy : {s : SlotNumber} → Slot (read w) s → TidySlot w s
    all_tidy {s} k = ((nothing_each w right).0 parts.0).1 s (in_pool_lem k)

    sound_head : head_sound w ≡ true
    sound_head =
        parts_head w ((nothing_each w right).0 parts.0).0 (height_positive (read w) is_whole)
        (height_eight (read w) is_whole (most_slots_lem w right))
        ((slot_is (read w) (read w).root).1 (tree_node (read w) (read w).height (read w).root is_whole.tree).slot)

    -- the words of the entries, and those around them
    tidy_parts : {s : SlotNumber} → Slot (read w) s
        → (stand (joined (map (entry_words (edition_of w)) (entries_at (read w) s))) w (slot_start (edition_of w) s + slot_head) ≡ true)
        × (tidy_around w s ≡ true)
    tidy_parts {s} k =
        let entries = stand (joined (map (entry_words (edition_of w)) (entries_at (read w) s))) w (slot_start (edition_of w) s + slot_head) in
        and_both entries (tidy_around w s) (and_both (le_z (pos 0) (word_at w (level_place (edition_of w) s))) (entries && tidy_around w s) (sym (slot_parts (in_pool_lem k)) ∙ all_tidy k)).1

    sound_unowned : every (inner_unowned w) (slot_numbers (read w)) ≡ true
    unfolding is_leaf
    sound_unowned = (every_is (inner_unowned w) (slot_numbers (read w))).1 (λ s m.
        let k = (slots_are (read w) s).0 m in
        at_unowned w s (λ e. inner_unowned_lem (in_pool_lem k) e (tidy_parts k).0))

    sound_root : SoundRoot w (read w).height (read w).root
    sound_root = record {
      below = record { tree = is_whole.tree; around = λ t m. (tidy_parts (reached_used (read w) is_whole t m).slot).1 };
      two = is_whole.two;
    }

    sound_unmet : Unmet (tree_slots (read w)) unmarked
    sound_unmet = record { each = λ t l m. omega (arith, mark_none t, all_once (read w) is_whole t) }

    sound_rest : {after : List ℕ} → Marked (tree_slots (read w)) unmarked after → every (met_or_zero w after) (slot_numbers (read w)) ≡ true
    sound_rest {after} marked = (every_is (met_or_zero w after) (slot_numbers (read w))).1 (λ s m.
        let k = (slots_are (read w) s).0 m in
        is_met w after s (λ e. go k (omega (arith, marked.each s k.low, mark_none s)) (dec_le 1 (node_at (read w) s).level)))
      where
        go : {s : SlotNumber} → Slot (read w) s → times s (tree_slots (read w)) ≡ 0 → Dec (1 ≤ (node_at (read w) s).level) → Zero w s
        go {s} k e (yes u) = absurd (omega (arith, is_whole.once s (record { slot = k; used = u })))
        go {s} k e (no u) = rw (is_whole.free s k (omega arith)) at (all_tidy k)

    sound_records : records_sound (read w) ≡ true
    sound_records = (records_are w).1 is_whole.counted

  -- ---- the questions, one after the other

  unsound : (sound w ≡ true → ⊥) → false ≡ sound w
  unsound n = same_test false (sound w) (λ e. never_both e refl) (λ h. absurd (n h))

  pub head_refused : head_sound w ≡ false → false ≡ sound w
  head_refused e = unsound (λ h. never_both (sound_head h) e)

  pub root_refused : {after : List ℕ} {r : Bool} → TopAnswer w after r → r ≡ false → false ≡ sound w
  root_refused walk e = unsound (λ h. never_both (walk.all (sound_root h) (sound_unmet h)) e)

  pub rest_last : {after : List ℕ} {r : Bool} → head_sound w ≡ true → TopAnswer w after r → r ≡ true → rest_sound w after ≡ sound w
  unfolding rest_sound
  rest_last {after} head walk t =
      let p = read w in
      let zero = every (met_or_zero w after) (slot_numbers p) in
      let owners = owners_sound p && every (inner_unowned w) (slot_numbers p) in
      same_test (rest_sound w after) (sound w)
      (λ h.
      let a = and_both (zero && records_sound p) owners h in
      let b = and_both zero (records_sound p) a.0 in
      yes_sound head (subst (TopAnswer w after) t walk) b.0 b.1 a.1)
      (λ h.
      both_and (zero && records_sound p) owners
      (both_and zero (records_sound p) (sound_rest h (walk.marked t)) (sound_records h))
      (both_and (owners_sound p) (every (inner_unowned w) (slot_numbers p)) (parts h).2 (sound_unowned h)))
