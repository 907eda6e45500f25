-- The root, when an entry came to it. A root that was split gets a new one above it, in the lowest free slot, and nothing else changes.
-- Where the free slots are as many as the entry takes, none is called for that is not there.
use mathlib.Core.Path.{◌≡◌, refl, sym, ap, subst, subst⁻¹, ◌∙◌}
use mathlib.Core.Logic.{◌≢◌, ◌↔◌}
use mathlib.Core.Bool.{Bool, true, false}
use mathlib.Core.List.Memᴰ
use mathlib.Core.List.{List, [], ◌∷◌}
use Prim.Native.Nat.{ℕ, zero, suc, ◌+◌, ◌-◌, ◌≤◌, ◌<◌}
use native.Mathlib.Numerals.{add-one}
use native.Mathlib.Omega.{arith}
use lib.Dec.{ltb}
use lib.ListN.{length, get_or}
use lib.IntN.{ℤ}
use Rattle.std.specs.Prelude.{Option, Some, None, MatchOption}
use borrow.Author.Tests.{ltb-true, ltb-false, le-ltb}
use Rattle.rules.specs.declared.Rect.{Rect}
use Rattle.rules.specs.declared.SlotNumber.{SlotNumber}
use Rattle.rules.specs.declared.Pointer.TheVariants.{Child}
use Rattle.rules.specs.declared.Edition.{Edition}
use Rattle.rules.specs.declared.Entry.{Entry}
use Rattle.rules.specs.Numbers.{most_slots}
use Rattle.rules.specs.Pool.{Pool, node, entry, no_entry, entries_at, cover_of, entry_for, lowest_free, free_count, put_node, put_root}
use Rattle.rules.specs.Insert.{Grown, Kept, Split, Full, Change, Done, NoneFree, ours, new_root, grow_tree, insert_below, insert_at}
use Rattle.rules.specs.Layout.{read}
use Rattle.rules.specs.Room.{way_up, full_run, slots_needed}
use Rattle.rules_laws.proofs.Splits.{ours_lawful}
use Rattle.layout_laws.specs.Slots.{Fit, SmallAll, KindOf, KindAll}
use Rattle.free_slots.specs.declared.FreeSlots.{FreeSlots}
use Rattle.free_slots.specs.Known.{Known, less_slot}
use Rattle.free_slots.proofs.Known.{known_less, known_head}
use Rattle.sound_laws.specs.Tree.{slots_in, tree_slots, Once, Slot, Tree}
use Rattle.sound_laws.proofs.Walk.{tree_node}
use Rattle.insert_laws.specs.Grown as G
use Rattle.insert_laws.proofs.Under.{fits_level}
use Rattle.insert_laws.proofs.Below.{below_grows}
use Rattle.insert_laws.proofs.Root.{raised_to, grow_kept, grow_split, grow_full, new_none, new_at}
use Rattle.insert_laws.proofs.Runs.{run, needed_less, needed_all}
use Rattle.insert_laws.proofs.Slots.{level_slots, level_needs_few}
use Rattle.insert.specs.declared.Growth.{Growth}
use Rattle.insert.specs.Left.{GrewTo, Leaves, Upright}
use Rattle.insert.specs.State.{WayDown, GoesDown, Beside, Fitted, grown_by, grown_of, Risen}
use Rattle.nodes.proofs.Tight.{Stored, child_stored}
use Rattle.insert.proofs.Fitted.{fits_stored, fits_valid}
use Rattle.insert.proofs.Steps.{grown_is, full_is, holds_ready}

-- ---- a new root

-- two entries at the head of an array
module _ (a b : Entry) (more : List Entry) (l : ℕ) (x : Stored l a.pointer) (y : Stored l b.pointer) where
  two_stored : (i : ℕ) → i < 2 → Stored l (get_or (a ∷ b ∷ more) i no_entry).pointer
  two_stored zero h = x
  two_stored (suc zero) h = y
  two_stored (suc (suc i)) h = absurd (omega arith)

  pub two_small : SmallAll (a ∷ b ∷ more) 2
  two_small = record { small = λ i h. (two_stored i h).small }

  pub two_kind : (ed : Edition) → KindAll ed l (a ∷ b ∷ more) 2
  two_kind ed = record { kind = λ i h. (two_stored i h).kind ed }

module _ {p : Pool} {x : Entry} (h : Beside p x) (few : length p.slots ≤ most_slots) (root : SlotNumber) (top : root ≡ p.root)
    (height : ℕ) (high : height ≡ p.height) where
  pub beside_slot : Slot p root
  beside_slot = rw top h.slot

  pub old_stored : Stored (height + 1) (Child root)
  old_stored = child_stored (height + 1) root (omega (arith, h.high)) (omega (arith, beside_slot.high))

  pub partner_stored : Stored (height + 1) x.pointer
  partner_stored = subst⁻¹ (λ (k : ℕ). Stored k x.pointer) (ap (λ (k : ℕ). k + 1) high ∙ add-one p.height) (fits_stored p (suc p.height) x few (omega (arith, h.high)) h.fits)

module _ {w : List ℤ} {f : FreeSlots} (r : Fitted w f) (x : Entry) where
  abbrev p : Pool
  p = read w

  pub new_stuck : lowest_free p ≡ None → Leaves w (grow_tree (Split p x)) None w
  new_stuck low = subst⁻¹ (λ (o : Change). Leaves w o None w) (grow_split p x ∙ ap (new_root p x) low ∙ new_none p x) refl

  -- the new root put, with its two entries, and the head
  module _ (t : SlotNumber) (low : lowest_free p ≡ Some t) (root : SlotNumber) (top : root ≡ p.root) (height : ℕ) (high : height ≡ p.height)
      (cover : Rect) (tight : cover ≡ cover_of (entries_at p root)) (q : Pool)
      (first : q ≡ put_node p t (node (height + 1) (entry cover (Child root) ∷ x ∷ []))) (v : List ℤ) (fit : Fit v)
      (second : read v ≡ put_root q t (height + 1)) (k : FreeSlots) (less : k ≡ less_slot f t) where
    old_is : entry cover (Child root) ≡ entry_for p p.root
    unfolding entry_for
    old_is =
        ap (λ (c : Rect). entry c (Child root)) tight ∙ ap (λ (s : SlotNumber). entry (cover_of (entries_at p s)) (Child s)) top

    next : height + 1 ≡ suc p.height
    next = omega arith

    made_is : read v ≡ raised_to p p.height p.root x t
    made_is =
        second ∙ ap (λ (y : Pool). put_root y t (height + 1)) first
        ∙ (λ i. put_root (put_node p t (node (next i) (old_is i ∷ x ∷ []))) t (next i))

    made_known : Known (raised_to p p.height p.root x t) k
    made_known =
        subst⁻¹ (Known (raised_to p p.height p.root x t)) less
        (known_head _ (less_slot f t) (known_less p f r.known t _ low (λ e. omega arith)) t (suc p.height))

    pub new_made : Leaves w (grow_tree (Split p x)) (Some k) v
    new_made =
        subst⁻¹ (λ (o : Change). Leaves w o (Some k) v)
        (grow_split p x ∙ ap (new_root p x) low ∙ new_at p p x t (record { root = refl; height = refl; records = refl }))
        (record { fit = fit; is = made_is; known = made_known })

-- ---- what became of the root

pub grown_one : (w : List ℤ) (g : Growth) → g.partner ≡ None → Fitted w g.free → Leaves w (grow_tree (grown_of (read w) g)) (Some g.free) w
grown_one w g one r =
    subst⁻¹ (λ (o : Change). Leaves w o (Some g.free) w)
    (ap (λ (y : Option Entry). grow_tree (grown_by (read w) y)) one ∙ grow_kept (read w))
    (record { fit = r.fit; is = refl; known = r.known })

-- the root of a tree that grew
module _ (p : Pool) (k : ℕ) (e : Entry) (low : 1 ≤ p.height) (high : p.height ≤ 64) where
  split_risen : (q : Pool) (x : Entry) → G.Grows p p.height p.root k e (tree_slots p) (Split q x) → Beside q x
  split_risen q x g = record {
    slot = subst⁻¹ (Slot q) g.2.root (tree_node q p.height p.root g.1.tree).slot;
    few = omega (arith, g.2.height);
    high = omega (arith, g.2.height);
    fits = subst⁻¹ (λ (l : ℕ). G.Fits q (suc l) x) g.2.height (g.1.fit x (Memᴰ.head refl));
  }

  pub on_risen : (o : Grown) (g : Growth) (v : List ℤ) → G.Grows p p.height p.root k e (tree_slots p) o → GrewTo o (Some g) v → Risen v g
  on_risen (Kept q) g v a b = record {
    fitted = holds_ready b.1;
    root = subst⁻¹ (λ (y : Option Entry). MatchOption y (Unit {0}) (λ x. Beside (read v) x)) b.0 tt;
  }
  on_risen (Split q x) g v a b = record {
    fitted = holds_ready b.1;
    root = subst⁻¹ (λ (y : Option Entry). MatchOption y (Unit {0}) (λ x. Beside (read v) x)) b.0
        (subst⁻¹ (λ (u : Pool). Beside u x) b.1.is (split_risen q x a));
  }
  on_risen Full g v a b = absurd b

-- ---- how many slots it takes

module _ (level : ℕ) (p : Pool) (new : Rect) (h : WayDown p (p.height - level) p.root new) (n : ℕ) (levels : n ≡ p.height - level)
    (root : SlotNumber) (top : root ≡ p.root) (r : ℕ) (is : r ≡ length (full_run p (way_up ours n p root new))) where
  abbrev depth : ℕ
  depth = p.height - level

  run_is : r ≡ run ours depth p p.root new
  unfolding run
  run_is = is ∙ (λ i. length (full_run p (way_up ours (levels i) p (top i) new)))

  pub needs_run : r ≤ n → r ≡ slots_needed ours level p new
  unfolding slots_needed
  needs_run k =
      run_is ∙ sym (needed_less ours ours_lawful p h.level h.low new depth (depth + h.level) p.root refl h.tree h.some (omega (arith, run_is)))

  pub needs_more : r ≡ suc n → r + 1 ≡ slots_needed ours level p new
  unfolding slots_needed
  needs_more k =
      omega (
        arith,
        run_is,
        needed_all ours ours_lawful p h.level h.low new depth (depth + h.level) p.root refl h.tree h.some (omega (arith, run_is)),
      )

-- ---- from the root

-- what was left before is of no account where the change is made
pub leaves_made : (o : Change) (r : Option FreeSlots) (a b v : List ℤ) → o ≢ NoneFree → Leaves a o r v → Leaves b o r v
leaves_made (Done q) (Some f) a b v n h = h
leaves_made (Done q) None a b v n h = absurd h
leaves_made NoneFree r a b v n h = absurd (n refl)

module _ (p : Pool) (level : ℕ) (e : Entry) (u : Upright p) (low : level ≤ p.height) (high : p.height ≤ 64) (f : G.Fits p level e) where
  same : p.height ≡ p.height - level + level
  same = omega arith

  pub root_way : WayDown p (p.height - level) p.root e.rect
  root_way =
      let l = fits_level p level e f in
      record {
        level = level;
        low = omega arith;
        tree = subst (λ (k : ℕ). Tree p k p.root) same u.tree;
        some = λ h. u.some (omega arith);
        few = omega arith;
        good = fits_valid p level e f;
      }

  pub root_goes : KindOf p.edition level e.pointer → (n : ℕ) → n ≡ p.height - level → (root : SlotNumber) → root ≡ p.root → GoesDown p n root e
  unfolding root_way
  root_goes kind n levels root top =
      subst⁻¹ (λ (k : ℕ). GoesDown p k root e) levels (subst⁻¹ (λ (s : SlotNumber). GoesDown p (p.height - level) s e) top (record {
        way = root_way;
        once = subst (λ (k : ℕ). Once (slots_in p k p.root)) same u.once;
        goes = record { fits = f; kind = kind };
      }))

  pub enough_free : (count height : ℕ) → height ≡ p.height → height < count → false ≡ ltb count (slots_needed ours level p e.rect)
  enough_free count height is h =
      sym (le-ltb count (slots_needed ours level p e.rect) (omega (arith, level_needs_few ours ours_lawful p level e u.tree u.once u.some f low)))

  module _ (w : List ℤ) {k : FreeSlots} (known : Known p k) (b : Bool) (told : b ≡ ltb k.count (slots_needed ours level p e.rect)) where
    slots : (insert_at ours level p e ≡ NoneFree) ↔ (free_count p < slots_needed ours level p e.rect)
    slots = level_slots ours ours_lawful p level e u.tree u.once u.some f low

    pub at_refused : b ≡ true → Leaves w (insert_at ours level p e) None w
    at_refused t =
        let less = ltb-true k.count (slots_needed ours level p e.rect) (sym told ∙ t) in
        subst⁻¹ (λ (o : Change). Leaves w o None w) (slots.1 (omega (arith, known.many))) refl

    suffice : b ≡ false → insert_at ours level p e ≢ NoneFree
    suffice t z =
        let many = ltb-false k.count (slots_needed ours level p e.rect) (sym told ∙ t) in
        omega (arith, slots.0 z, known.many)

    -- the entry went in from the root, and what became of the root has become of the pool
    module _ (n : ℕ) (levels : n ≡ p.height - level) (root : SlotNumber) (top : root ≡ p.root) where
      below_is : insert_below ours n p root e ≡ insert_below ours (p.height - level) p p.root e
      below_is i = insert_below ours (levels i) p (top i) e

      at_is : insert_at ours level p e ≡ grow_tree (insert_below ours n p root e)
      unfolding insert_at
      at_is = ap grow_tree (sym below_is)

      -- it does not call for a slot that is not free
      pub at_full : b ≡ false → (v : List ℤ) → GrewTo (insert_below ours n p root e) None v → Leaves w (insert_at ours level p e) None v
      at_full t v full = absurd (suffice t (at_is ∙ ap grow_tree (full_is (insert_below ours n p root e) v full) ∙ grow_full))

      module _ (g : Growth) (v : List ℤ) (grows : GrewTo (insert_below ours n p root e) (Some g) v) where
        pub at_risen : Risen v g
        at_risen =
            let l = fits_level p level e f in
            on_risen p level e (omega arith) high (insert_below ours (p.height - level) p p.root e) g v
            (below_grows ours ours_lawful p level e f (p.height - level) p.height p.root (omega arith) u.tree u.once (λ h. u.some (omega arith)))
            (subst (λ (o : Grown). GrewTo o (Some g) v) below_is grows)

        pub at_made : b ≡ false → (r : Option FreeSlots) (z : List ℤ) → Leaves v (grow_tree (grown_of (read v) g)) r z
            → Leaves w (insert_at ours level p e) r z
        at_made t r z h =
            let same : insert_at ours level p e ≡ grow_tree (grown_of (read v) g) =
            at_is ∙ ap grow_tree (grown_is (insert_below ours n p root e) g v grows) in
            leaves_made (insert_at ours level p e) r v w z (suffice t) (subst⁻¹ (λ (o : Change). Leaves v o r z) same h)
