-- A node that an entry comes to. Its entries and the new one fit, so words hold them, and their rectangles are valid; a full node's nine
-- make the two groups of the quadratic split, and what is known of the free slots stays true.
use mathlib.Core.Path.{◌≡◌, refl, sym, ap, subst⁻¹, ◌∙◌}
use mathlib.Core.Logic.{◌≢◌}
use mathlib.Core.List.{List, [], ◌∷◌, ◌++◌, map, map-map}
use Prim.Native.Nat.{ℕ, zero, suc, ◌≤◌, ◌<◌}
use native.Mathlib.Omega.{arith}
use lib.ListN.{length, get_or, take, length-append, length-map}
use lib.Seq.{length-take-le}
use lib.IntN.{ℤ}
use Rattle.std.specs.Prelude.{Some, None}
use borrow.Author.Tests.{lt-ltb, le-ltb}
use Rattle.rules.specs.declared.Edition.{Edition}
use Rattle.rules.specs.declared.Rect.{Rect}
use Rattle.rules.specs.declared.SlotNumber.{SlotNumber}
use Rattle.rules.specs.declared.Pointer.TheVariants.{Child}
use Rattle.rules.specs.declared.Entry.{Entry}
use Rattle.rules.specs.Numbers.{most, most_slots}
use Rattle.rules.specs.Pool.{Node, Pool, node, entry, no_entry, node_at, entries_at, entry_from, rects, cover_of, lowest_free, put_node, put_entries}
use Rattle.rules.specs.Geometry.{cover_all}
use Rattle.rules.specs.Choose.{rect_from}
use Rattle.rules.specs.Split.{cover_group, quadratic_groups, halves, quadratic_split}
use Rattle.rules.specs.Insert.{Grown, Split, ours, split_into, install}
use Rattle.rules.specs.Layout.{read}
use Rattle.rules_laws.proofs.Places.{Among, at_place, map_same, each_append, each_of}
use Rattle.split.specs.declared.Grouping.{Grouping}
use Rattle.split.specs.State.{AllValid, GroupsWhole}
use Rattle.layout_laws.specs.Slots.{Fit, Small, SmallAll, KindOf, KindAll}
use Rattle.layout_laws.proofs.Parts.{length_rects, rect_entry}
use Rattle.layout_laws.proofs.Written.{Fine}
use Rattle.free_slots.specs.declared.FreeSlots.{FreeSlots}
use Rattle.free_slots.specs.Known.{Known, less_slot}
use Rattle.free_slots.proofs.LowestSlot.{lowest_at}
use Rattle.free_slots.proofs.Known.{known_at, known_put, lowest_put}
use Rattle.sound_laws.specs.Tree.{Slot, NodeIn, Tree}
use Rattle.sound_laws.proofs.Walk.{no_tree, tree_node, tree_positive}
use Rattle.sound_laws.proofs.Frame.{put_slot}
use Rattle.insert_laws.specs.Grown.{Fits}
use Rattle.insert_laws.proofs.Install.{put_two, all_fit, split_none, split_at, install_room, install_full}
use Rattle.insert.specs.Left.{GrewTo}
use Rattle.insert.specs.State.{Here, Fitted}
use Rattle.insert.proofs.Fitted.{fits_small, fits_valid}

all_fits : (p : Pool) (l : ℕ) (s : SlotNumber) (e : Entry) → Tree p l s → Fits p l e → (x : Entry) → Among x (entries_at p s ++ e ∷ []) → Fits p l x
all_fits p zero s e d f x m = absurd (no_tree p s d)
all_fits p (suc l) s e d f x m = all_fit p l s d e f x m

module _ {p : Pool} {s : SlotNumber} {e : Entry} (h : Here p s e) where
  pub here_node : NodeIn p h.level s
  here_node = tree_node p h.level s h.tree

  pub here_used : (node_at p s).level ≢ 0
  here_used z = omega (arith, here_node.level, tree_positive p h.level s h.tree)

  pub here_level : (node_at p s).level ≤ 64
  here_level = omega (arith, here_node.level, h.few)

  -- the entries with the new one, each of which fits
  nine_fit : (i : ℕ) → i < length (entries_at p s ++ e ∷ []) → Fits p h.level (get_or (entries_at p s ++ e ∷ []) i no_entry)
  nine_fit i k = all_fits p h.level s e h.tree h.goes.fits _ (at_place (entries_at p s ++ e ∷ []) i no_entry k)

  module _ (few : length p.slots ≤ most_slots) where
    -- the new entry as words hold it
    pub here_small : Small e.pointer
    here_small = fits_small p h.level e few h.goes.fits

    pub here_kind : (ed : Edition) → ed ≡ p.edition → KindOf ed (node_at p s).level e.pointer
    here_kind ed q = rw (q, here_node.level) h.goes.kind

    module _ (full : 8 ≤ length (entries_at p s)) (es : List Entry) (is : es ≡ entries_at p s ++ e ∷ []) where
      nine_long : length (entries_at p s ++ e ∷ []) ≡ 9
      nine_long = omega (arith, here_node.few, length-append (entries_at p s) (e ∷ []))

      pub nine_length : length es ≡ 9
      nine_length = ap length is ∙ nine_long

      pub nine_small : SmallAll es 9
      nine_small = record {
        small = λ i k. rw is (fits_small p h.level (get_or (entries_at p s ++ e ∷ []) i no_entry) few (nine_fit i (omega (arith, nine_long))));
      }

      -- those of the node are of its kind, as they were read; the new one is too
      pub nine_kind : (ed : Edition) → ed ≡ p.edition → Fine ed (node_at p s) → (level : ℕ) → level ≡ (node_at p s).level → KindAll ed level es 9
      unfolding entries_at
      nine_kind ed q fine level l =
          let all = each_append (λ (x : Entry). KindOf ed (node_at p s).level x.pointer) (entries_at p s) (e ∷ []) fine.kinds (here_kind ed q, tt) in
          rw (l, is) (record {
            kind = λ i k. each_of (λ (x : Entry). KindOf ed (node_at p s).level x.pointer) all
                (at_place (entries_at p s ++ e ∷ []) i no_entry (omega (arith, nine_long)));
          })

      pub nine_valid : (rs : List Rect) → rs ≡ rects es → AllValid rs
      nine_valid rs q = rw q (record {
        nine = length_rects es ∙ nine_length;
        ok = λ i k. rw (rect_entry es i, is) (fits_valid p h.level _ (nine_fit i (omega (arith, nine_long))));
      })

-- ---- the split made

-- a slot stays a slot
pub slot_kept : {p q : Pool} (s t : SlotNumber) (n : Node) → Slot p t → q ≡ put_node p s n → Slot q t
slot_kept {p} s t n k e = rw e ((put_slot p s n t).1 k)

-- a group's cover by its rectangles, and by its entries
cover_places : (es : List Entry) (places : List ℕ) → cover_group (rects es) places ≡ cover_of (map (entry_from es) places)
unfolding cover_group cover_of rects entry_from
cover_places es places =
    ap cover_all (map_same (rect_from (rects es)) (λ i. (entry_from es i).rect) places (λ i m. rect_entry es i)
    ∙ sym (map-map (λ (e : Entry). e.rect) (entry_from es) places))

group_length : (es : List Entry) (places : List ℕ) (n : ℕ) → n ≤ length places → length (map (entry_from es) (take n places)) ≡ n
group_length es places n h = length-map (take n places) (entry_from es) ∙ length-take-le n places h

module _ {p : Pool} {s : SlotNumber} {e : Entry} (h : Here p s e) (full : 8 ≤ length (entries_at p s)) {t : SlotNumber} (low : lowest_free p ≡ Some t) where
  abbrev nine : List Entry
  nine = entries_at p s ++ e ∷ []

  abbrev level : ℕ
  level = (node_at p s).level

  abbrev both : Pool
  both = put_two p s (node level (quadratic_split nine).one) t (node level (quadratic_split nine).two)

  split_is : install ours p s e ≡ Split both (entry (cover_of (quadratic_split nine).two) (Child t))
  split_is =
      install_full ours p s e (le-ltb (length (entries_at p s)) most full) ∙ ap (split_into p s (quadratic_split nine)) low
      ∙ split_at p level s (quadratic_split nine) t refl

  -- the nine in an array, their rectangles in another, and the groups of these
  pub record Parts (es : List Entry) (rs : List Rect) (g : Grouping) : Type 0 where
    pub entries : es ≡ nine
    pub rects_are : rs ≡ rects es
    pub one : take g.one.count g.one.places ≡ (quadratic_groups rs).one
    pub two : take g.two.count g.two.places ≡ (quadratic_groups rs).two
    pub whole : GroupsWhole rs g

  module _ {es : List Entry} {rs : List Rect} {g : Grouping} (a : Parts es rs g) where
    one_is : map (entry_from es) (take g.one.count g.one.places) ≡ (quadratic_split nine).one
    unfolding quadratic_split halves
    one_is =
        ap (map (entry_from es)) (a.one ∙ ap (λ (xs : List Rect). (quadratic_groups xs).one) a.rects_are)
        ∙ ap (λ (xs : List Entry). map (entry_from xs) (quadratic_groups (rects xs)).one) a.entries

    two_is : map (entry_from es) (take g.two.count g.two.places) ≡ (quadratic_split nine).two
    unfolding quadratic_split halves
    two_is =
        ap (map (entry_from es)) (a.two ∙ ap (λ (xs : List Rect). (quadratic_groups xs).two) a.rects_are)
        ∙ ap (λ (xs : List Entry). map (entry_from xs) (quadratic_groups (rects xs)).two) a.entries

    -- the partner's cover
    cover_is : g.coverTwo ≡ cover_of (quadratic_split nine).two
    cover_is =
        a.whole.coverTwo ∙ ap (λ (xs : List Rect). cover_group xs (take g.two.count g.two.places)) a.rects_are
        ∙ cover_places es (take g.two.count g.two.places) ∙ ap cover_of two_is

    -- the two nodes put
    module _ (l : ℕ) (at : l ≡ (node_at p s).level) (q r : Pool)
        (first : q ≡ put_node p s (node l (map (entry_from es) (take g.one.count g.one.places))))
        (second : r ≡ put_node q t (node l (map (entry_from es) (take g.two.count g.two.places)))) where
      both_are : r ≡ both
      both_are =
          second ∙ (λ i. put_node (first i) t (node l (two_is i)))
          ∙ (λ i. put_node (put_node p s (node l (one_is i))) t (node l (quadratic_split nine).two))
          ∙ ap (λ (k : ℕ). put_two p s (node k (quadratic_split nine).one) t (node k (quadratic_split nine).two)) at

      pub split_made : install ours p s e ≡ Split r (entry g.coverTwo (Child t))
      split_made = split_is ∙ sym (λ i. Split (both_are i) (entry (cover_is i) (Child t)))

-- ---- what is known then

module _ {w : List ℤ} {s : SlotNumber} {e : Entry} {f : FreeSlots} (r : Fitted w f) (h : Here (read w) s e) where
  abbrev p : Pool
  p = read w

  put_known : (es : List Entry) → Known (put_node p s (node (node_at p s).level es)) f
  put_known es = known_put p f r.known s (here_node h).slot.low (here_node h).slot.high (here_used h) (node (node_at p s).level es) (here_used h)

  pub room_grows : length (entries_at p s) < most → (v : List ℤ) → Fit v → read v ≡ put_entries p s (entries_at p s ++ e ∷ [])
      → GrewTo (install ours p s e) (Some (record { partner = None; free = f })) v
  unfolding put_entries
  room_grows room v fit is =
      subst⁻¹ (λ (o : Grown). GrewTo o (Some (record { partner = None; free = f })) v)
      (install_room ours p s e (lt-ltb (length (entries_at p s)) most room))
      (refl, record { fit = fit; is = is; known = put_known (entries_at p s ++ e ∷ []) })

  module _ (full : 8 ≤ length (entries_at p s)) where
    pub none_grows : lowest_free p ≡ None → (v : List ℤ) → GrewTo (install ours p s e) None v
    none_grows low v =
        subst⁻¹ (λ (o : Grown). GrewTo o None v)
        (install_full ours p s e (le-ltb (length (entries_at p s)) most full) ∙ ap (split_into p s _) low ∙ split_none p s _) tt

    pub split_grows : (t : SlotNumber) → lowest_free p ≡ Some t → (v : List ℤ) → Fit v → (x : Entry) → install ours p s e ≡ Split (read v) x
        → (k : FreeSlots) → k ≡ less_slot f t → GrewTo (install ours p s e) (Some (record { partner = Some x; free = k })) v
    split_grows t low v fit x is k less =
        let q : read v ≡ both h full low = split_pool (sym is ∙ split_is h full low) in
        subst⁻¹ (λ (o : Grown). GrewTo o (Some (record { partner = Some x; free = k })) v) is (
          refl,
          record {
            fit = fit;
            is = refl;
            known = subst⁻¹ (λ (y : Pool). Known y k) q (subst⁻¹ (Known (both h full low)) less
                (known_at (put_node p s _) f (put_known _) t _
                (lowest_put p t s _ (lowest_at p t low) (here_node h).slot (here_used h) (here_used h)) (here_used h)));
          },
        )
      where
        split_pool : {a b : Pool} {y z : Entry} → Split a y ≡ Split b z → a ≡ b
        split_pool {a} {b} {y} {z} u = cc
