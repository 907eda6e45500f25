-- The questions that `sound_pool` asks, answered: each question of a list is one of every slot.
use mathlib.Core.Path.{◌≡◌, refl, sym, ap, ◌∙◌}
use mathlib.Core.Logic.{◌↔◌, ◌≢◌}
use mathlib.Core.Bool.{Bool, true, false, not, ◌&&◌, ◌||◌}
use Prim.Native.Nat.{ℕ, suc, ◌≤◌}
use lib.Dec.{leb, eqb}
use lib.ListN.{length}
use borrow.Author.Tests.{leb-true, le-leb, eqb-true, eq-eqb}
use Rattle.rules.specs.declared.SlotNumber.{SlotNumber}
use Rattle.rules.specs.declared.Entry.{Entry}
use Rattle.rules.specs.Lists.{every}
use Rattle.rules.specs.Numbers.{most}
use Rattle.rules.specs.Geometry.{same_rect}
use Rattle.rules.specs.Pool.{Node, Pool, free_node, slot_numbers, node_at, entries_at, child_of, cover_of, is_leaf, stored}
use Rattle.rules.specs.Sound.{is_slot, in_use, is_root, height_sound, root_sound, levels_sound, fewest, count_sound, parents, one_parent}
use Rattle.rules.specs.Sound.{free_empty, records_sound, leaf_entry_sound, inner_entry_sound, node_sound, used_sound, shape_sound, sound_pool}
use Rattle.rules_laws.proofs.Bools.{and_both, both_and}
use Rattle.rules_laws.proofs.Orders.{never_both}
use Rattle.rules_laws.proofs.Places.{Among}
use Rattle.rules_laws.proofs.Everies.{every_is}
use Rattle.sound_laws.specs.Tree.{Slot, Used, LeafEntry}
use Rattle.sound_laws.proofs.Same.{same_rect_lem}
use Rattle.sound_laws.proofs.Tests.{unless_is, or_is, slot_is, root_is, used_is, empty_is, leaf_entry_is}
use Rattle.sound_laws.proofs.Flat.{slots_are, node_among, among_node}

-- ---- an inner entry and a node

pub record InnerSound (p : Pool) (l : ℕ) (e : Entry) : Type 0 where
  pub slot : Slot p (child_of e)
  pub level : (node_at p (child_of e)).level ≡ l
  pub tight : e.rect ≡ cover_of (entries_at p (child_of e))
  pub node : node_sound p l (child_of e) ≡ true

asked_both : (a b : Bool) → (elim a [ true ↦ b | false ↦ false ] ≡ true) ↔ ((a ≡ true) × (b ≡ true))
asked_both true b = (λ h. (refl, h), λ h. h.1)
asked_both false b = (λ h. never_both h refl, λ h. h.0)

inner_entry_is : (p : Pool) (l : ℕ) (e : Entry) → (inner_entry_sound p l (node_sound p l) e ≡ true) ↔ InnerSound p l e
unfolding inner_entry_sound
inner_entry_is p l e = (to, from)
  where
    c : SlotNumber
    c = child_of e

    slots : Bool
    slots = is_slot p c

    levels : Bool
    levels = eqb (node_at p c).level l

    tights : Bool
    tights = same_rect e.rect (cover_of (entries_at p c))

    to : inner_entry_sound p l (node_sound p l) e ≡ true → InnerSound p l e
    to h =
        let q = (asked_both (slots && levels && tights) (node_sound p l c)).0 h in
        let r = and_both (slots && levels) tights q.0 in
        let t = and_both slots levels r.0 in
        record {
          slot = (slot_is p c).0 t.0;
          level = eqb-true (node_at p c).level l t.1;
          tight = (same_rect_lem e.rect (cover_of (entries_at p c))).0 r.1;
          node = q.1;
        }

    from : InnerSound p l e → inner_entry_sound p l (node_sound p l) e ≡ true
    from h =
        (asked_both (slots && levels && tights) (node_sound p l c)).1 (
          both_and (slots && levels) tights
              (both_and slots levels ((slot_is p c).1 h.slot) (eq-eqb (node_at p c).level l h.level))
              ((same_rect_lem e.rect (cover_of (entries_at p c))).1 h.tight),
          h.node,
        )

pub leaf_sound : (p : Pool) (s : SlotNumber) → (node_sound p 1 s ≡ true) ↔ ((e : Entry) → Among e (entries_at p s) → LeafEntry e)
unfolding node_sound
leaf_sound p s = (
  λ h e m. (leaf_entry_is e).0 ((every_is leaf_entry_sound (entries_at p s)).0 h e m),
  λ h. (every_is leaf_entry_sound (entries_at p s)).1 (λ e m. (leaf_entry_is e).1 (h e m)),
)

pub inner_sound : (p : Pool) (l : ℕ) (s : SlotNumber)
    → (node_sound p (suc (suc l)) s ≡ true) ↔ ((e : Entry) → Among e (entries_at p s) → InnerSound p (suc l) e)
unfolding node_sound
inner_sound p l s = (
  λ h e m. (inner_entry_is p (suc l) e).0 ((every_is (inner_entry_sound p (suc l) (node_sound p (suc l))) (entries_at p s)).0 h e m),
  λ h. (every_is (inner_entry_sound p (suc l) (node_sound p (suc l))) (entries_at p s)).1 (λ e m. (inner_entry_is p (suc l) e).1 (h e m)),
)

-- ---- a pool

pub record Sound (p : Pool) : Type 0 where
  pub height : 1 ≤ p.height
  pub root : Slot p p.root
  pub top : (node_at p p.root).level ≡ p.height
  pub levels : (s : SlotNumber) → Slot p s → (node_at p s).level ≤ p.height
  pub enough : (s : SlotNumber) → Used p s → fewest (is_root p s) (is_leaf (node_at p s)) ≤ length (entries_at p s)
  pub few : (s : SlotNumber) → Used p s → length (entries_at p s) ≤ most
  pub parent : (s : SlotNumber) → Used p s → s ≢ p.root → parents p s ≡ 1
  pub free : (s : SlotNumber) → Slot p s → (node_at p s).level ≡ 0 → node_at p s ≡ free_node
  pub records : length (stored p) ≡ p.records
  pub nodes : (s : SlotNumber) → Used p s → node_sound p (node_at p s).level s ≡ true

-- a question asked of every slot
module _ (p : Pool) where
  slots_is : (t : SlotNumber → Bool) → (every t (slot_numbers p) ≡ true) ↔ ((s : SlotNumber) → Slot p s → t s ≡ true)
  slots_is t = (
    λ h s k. (every_is t (slot_numbers p)).0 h s ((slots_are p s).1 k),
    λ h. (every_is t (slot_numbers p)).1 (λ s m. h s ((slots_are p s).0 m)),
  )

  nodes_is : (t : Node → Bool) → (every t p.slots ≡ true) ↔ ((s : SlotNumber) → Slot p s → t (node_at p s) ≡ true)
  nodes_is t = (
    λ h s k. (every_is t p.slots).0 h (node_at p s) (node_among k),
    λ h. (every_is t p.slots).1 (λ n m. let q = among_node p n m in ap t (sym q.2) ∙ h q.0 q.1),
  )

  used_slots_is : (t : SlotNumber → Bool)
      → (every (λ s. not (in_use (node_at p s)) || t s) (slot_numbers p) ≡ true) ↔ ((s : SlotNumber) → Used p s → t s ≡ true)
  used_slots_is t = (
    λ h s u. (unless_is (in_use (node_at p s)) (t s)).0 ((slots_is (λ r. not (in_use (node_at p r)) || t r)).0 h s u.slot)
        ((used_is (node_at p s)).1 u.used),
    λ h. (slots_is (λ r. not (in_use (node_at p r)) || t r)).1
        (λ s k. (unless_is (in_use (node_at p s)) (t s)).1 (λ i. h s (record { slot = k; used = (used_is (node_at p s)).0 i }))),
  )

  -- ---- the questions one by one

  root_sound_is : (root_sound p ≡ true) ↔ (Slot p p.root × ((node_at p p.root).level ≡ p.height))
  unfolding root_sound
  root_sound_is =
      let level = eqb (node_at p p.root).level p.height in (
        λ h. let q = and_both (is_slot p p.root) level h in
            ((slot_is p p.root).0 q.0, eqb-true (node_at p p.root).level p.height q.1),
        λ h. both_and (is_slot p p.root) level ((slot_is p p.root).1 h.0) (eq-eqb (node_at p p.root).level p.height h.1),
      )

  levels_is : (levels_sound p ≡ true) ↔ ((s : SlotNumber) → Slot p s → (node_at p s).level ≤ p.height)
  unfolding levels_sound
  levels_is = (
    λ h s k. leb-true (node_at p s).level p.height ((nodes_is (λ n. leb n.level p.height)).0 h s k),
    λ h. (nodes_is (λ n. leb n.level p.height)).1 (λ s k. le-leb (node_at p s).level p.height (h s k)),
  )

  -- the fewest entries that the node at s may have
  abbrev fewest_at : SlotNumber → ℕ
  fewest_at s = fewest (is_root p s) (is_leaf (node_at p s))

  counts_is : (every (count_sound p) (slot_numbers p) ≡ true)
      ↔ ((s : SlotNumber) → Used p s → (fewest_at s ≤ length (entries_at p s)) × (length (entries_at p s) ≤ most))
  unfolding count_sound
  counts_is = (
    λ h s u. let q = and_both (enough s) (few s) ((used_slots_is (λ t. enough t && few t)).0 h s u) in
        (leb-true (fewest_at s) (length (entries_at p s)) q.0, leb-true (length (entries_at p s)) most q.1),
    λ h. (used_slots_is (λ t. enough t && few t)).1 (λ s u.
        both_and (enough s) (few s) (le-leb (fewest_at s) (length (entries_at p s)) (h s u).0) (le-leb (length (entries_at p s)) most (h s u).1)),
  )
    where
      enough : SlotNumber → Bool
      enough s = leb (fewest_at s) (length (entries_at p s))

      few : SlotNumber → Bool
      few s = leb (length (entries_at p s)) most

  parents_is : (every (one_parent p) (slot_numbers p) ≡ true) ↔ ((s : SlotNumber) → Used p s → s ≢ p.root → parents p s ≡ 1)
  unfolding one_parent
  parents_is = (
    λ h s u n. eqb-true (parents p s) 1 ((third (in_use (node_at p s)) (is_root p s) (eqb (parents p s) 1)).0 ((slots_is (one_parent p)).0 h s u.slot)
        ((used_is (node_at p s)).1 u.used) (other s n)),
    λ h. (slots_is (one_parent p)).1 (λ s k. (third (in_use (node_at p s)) (is_root p s) (eqb (parents p s) 1)).1 (λ i r.
        eq-eqb (parents p s) 1 (h s (record { slot = k; used = (used_is (node_at p s)).0 i }) (λ e. never_both ((root_is p s).1 e) r)))),
  )
    where
      third : (a b c : Bool) → ((not a || b || c) ≡ true) ↔ (a ≡ true → b ≡ false → c ≡ true)
      third true b c = (λ h e. (or_is b c).0 h, λ h. (or_is b c).1 (h refl))
      third false b c = (λ h e. never_both e refl, λ h. refl)

      other : (s : SlotNumber) → s ≢ p.root → is_root p s ≡ false
      other s n = go (is_root p s) refl
        where
          go : (b : Bool) → is_root p s ≡ b → b ≡ false
          go true e = absurd (n ((root_is p s).0 e))
          go false e = refl

  free_is : (every free_empty p.slots ≡ true) ↔ ((s : SlotNumber) → Slot p s → (node_at p s).level ≡ 0 → node_at p s ≡ free_node)
  free_is = (
    λ h s k. (empty_is (node_at p s)).0 ((nodes_is free_empty).0 h s k),
    λ h. (nodes_is free_empty).1 (λ s k. (empty_is (node_at p s)).1 (h s k)),
  )

  used_sound_is : (every (used_sound p) (slot_numbers p) ≡ true) ↔ ((s : SlotNumber) → Used p s → node_sound p (node_at p s).level s ≡ true)
  unfolding used_sound
  used_sound_is = used_slots_is (λ s. node_sound p (node_at p s).level s)

  -- ---- all of them

  sound_to : sound_pool p ≡ true → Sound p
  unfolding sound_pool shape_sound height_sound records_sound
  sound_to h =
      let q = (asked_both _ _).0 h in
      let g = and_both _ (records_sound p) q.0 in
      let f = and_both _ (every free_empty p.slots) g.0 in
      let e = and_both _ (every (one_parent p) (slot_numbers p)) f.0 in
      let d = and_both _ (every (count_sound p) (slot_numbers p)) e.0 in
      let c = and_both _ (levels_sound p) d.0 in
      let b = and_both (height_sound p) (root_sound p) c.0 in
      let r = root_sound_is.0 b.1 in
      record {
        height = leb-true 1 p.height b.0;
        root = r.0;
        top = r.1;
        levels = levels_is.0 c.1;
        enough = λ s u. (counts_is.0 d.1 s u).0;
        few = λ s u. (counts_is.0 d.1 s u).1;
        parent = parents_is.0 e.1;
        free = free_is.0 f.1;
        records = eqb-true (length (stored p)) p.records g.1;
        nodes = used_sound_is.0 q.1;
      }

  shape_from : Sound p → shape_sound p ≡ true
  unfolding shape_sound height_sound records_sound
  shape_from w =
      let a = height_sound p in
      let b = a && root_sound p in
      let c = b && levels_sound p in
      let d = c && every (count_sound p) (slot_numbers p) in
      let e = d && every (one_parent p) (slot_numbers p) in
      let f = e && every free_empty p.slots in
      both_and f (records_sound p)
      (both_and e (every free_empty p.slots)
      (both_and d (every (one_parent p) (slot_numbers p))
      (both_and c (every (count_sound p) (slot_numbers p))
      (both_and b (levels_sound p)
      (both_and a (root_sound p) (le-leb 1 p.height w.height) (root_sound_is.1 (w.root, w.top)))
      (levels_is.1 w.levels))
      (counts_is.1 (λ s u. (w.enough s u, w.few s u))))
      (parents_is.1 w.parent))
      (free_is.1 w.free))
      (eq-eqb (length (stored p)) p.records w.records)

  sound_from : Sound p → sound_pool p ≡ true
  unfolding sound_pool
  sound_from w = (asked_both (shape_sound p) (every (used_sound p) (slot_numbers p))).1 (shape_from w, used_sound_is.1 w.nodes)

  pub sound_is : (sound_pool p ≡ true) ↔ Sound p
  sound_is = (sound_to, sound_from)
