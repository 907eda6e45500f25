-- What `read` reads of a slot is in the slot's words: runs of a width, one after another, are parts of the list.
use mathlib.Core.Path.{◌≡◌, refl, sym, ap, subst, ◌∙◌}
use mathlib.Core.Bool.{true}
use mathlib.Core.List.{List, [], ◌∷◌, map}
use Prim.Native.Nat.{ℕ, zero, suc, ◌+◌, ◌*◌, ◌-◌, ◌≤◌, ◌<◌, min}
use native.Mathlib.Nat.{mul-zero, mul-suc}
use native.Mathlib.Omega.{arith}
use lib.ListN.{length, get_or, take, drop, length-take, length-map, get_or-map}
use lib.Seq.{get_or-take, get_or-drop, drop-drop}
use lib.IntN.{ℤ, pos}
use borrow.Author.Tests.{leb-true, eqb-true}
use Rattle.rules.specs.declared.Edition.{Edition}
use Rattle.rules.specs.declared.Edition.TheVariants.{One, Two}
use Rattle.rules.specs.declared.Rect.{Rect}
use Rattle.rules.specs.declared.SlotNumber.{SlotNumber}
use Rattle.rules.specs.declared.Entry.{Entry}
use Rattle.rules.specs.Geometry.{no_rect}
use Rattle.rules.specs.Choose.{rect_from}
use Rattle.rules.specs.Pool.{Node, Pool, rectangle, entry, no_entry, free_node, node_at, entries_at, entry_from, entry_at, rects}
use Rattle.rules.specs.Numbers.{most, most_slots}
use Rattle.rules.specs.Layout.{head_size, rect_size, entry_size, slot_head, slot_size, slot_start, level_place, count_place, entry_place, pointer_place}
use Rattle.rules.specs.Layout.{slots_fitting, valid_size, edition_of, slot_count, valid_length, natural, word_at, runs, rect_of, owner_at, entry_of, node_of, read, pointer_of}
use Rattle.rules_laws.proofs.Bools.{and_both}
use Rattle.rules_laws.proofs.Places.{get_d_any}
use Rattle.layout_laws.specs.Slots.{InPool}

-- ---- runs of a width

pub length_runs : (width n : ℕ) (ws : List ℤ) → length (runs width n ws) ≡ n
unfolding runs
length_runs width zero ws = refl
length_runs width (suc n) ws = ap suc (length_runs width n (drop width ws))

pub run_at : (width n i : ℕ) (ws : List ℤ) → i < n → get_or (runs width n ws) i [] ≡ take width (drop (width * i) ws)
unfolding runs
run_at width zero i ws h = absurd (omega arith)
run_at width (suc n) zero ws h = rw (mul-zero width)
run_at width (suc n) (suc i) ws h =
    run_at width n i (drop width ws) (omega arith) ∙ ap (take width) (drop-drop (width * i) width ws ∙ ap (λ (k : ℕ). drop k ws) (more width i))
  where
    more : (k j : ℕ) → k + k * j ≡ k * suc j
    more k j = omega (arith, mul-suc k j)

-- as many rectangles as entries
pub length_rects : (es : List Entry) → length (rects es) ≡ length es
unfolding rects
length_rects es = length-map es _

-- ---- sizes

-- so many words of an edition
module _ (e : Edition) (n : ℕ) (r : valid_size e n ≡ true) where
  pub sized : (n ≡ head_size + slot_size e * slots_fitting e n) × (1 ≤ slots_fitting e n) × (slots_fitting e n ≤ most_slots)
  unfolding valid_size
  sized =
      let a = and_both _ _ r in
      let b = and_both _ _ a.0 in
      (eqb-true n (head_size + slot_size e * slots_fitting e n) b.0, leb-true 1 (slots_fitting e n) b.1, leb-true (slots_fitting e n) most_slots a.1)

module _ (w : List ℤ) (r : valid_length w ≡ true) where
  sizes : (length w ≡ head_size + slot_size (edition_of w) * slot_count w) × (1 ≤ slot_count w) × (slot_count w ≤ most_slots)
  unfolding valid_length slot_count
  sizes = sized (edition_of w) (length w) r

  pub right_size : length w ≡ head_size + slot_size (edition_of w) * slot_count w
  right_size = sizes.0

  pub some_slot : 1 ≤ slot_count w
  some_slot = sizes.1

  pub few_slots : slot_count w ≤ most_slots
  few_slots = sizes.2

-- a slot's words end where the next slot's begin, and an entry's words lie in its slot's: in either edition
pub slot_ends : (e : Edition) (s : SlotNumber) (n : ℕ) → 1 ≤ s.0 → s.0 ≤ n → slot_start e s + slot_size e ≤ head_size + slot_size e * n
slot_ends One s n low high = omega arith
slot_ends Two s n low high = omega arith

pub entry_ends : (e : Edition) (i : ℕ) → i < most → slot_head + entry_size e * i + entry_size e ≤ slot_size e
entry_ends One i h = omega arith
entry_ends Two i h = omega arith

pub places_end : (e : Edition) (n : ℕ) → n ≤ most → slot_head + entry_size e * n ≤ slot_size e
places_end One n h = omega arith
places_end Two n h = omega arith

module _ {w : List ℤ} {s : SlotNumber} (i : InPool w s) where
  pub few : s.0 ≤ most_slots
  few = omega (arith, few_slots w i.right, i.high)

  -- the slot's words are there
  pub room : slot_start (edition_of w) s + slot_size (edition_of w) ≤ length w
  room = omega (arith, right_size w i.right, slot_ends (edition_of w) s (slot_count w) i.low i.high)

-- ---- the node in a slot

-- the words of a slot
pub slot_words : List ℤ → SlotNumber → List ℤ
slot_words w s = take (slot_size (edition_of w)) (drop (slot_start (edition_of w) s) w)

-- no words are a free node
free_none : (e : Edition) → node_of e [] ≡ free_node
unfolding node_of natural word_at
free_none e = refl

node_at_lem : (e : Edition) (l : List (List ℤ)) (k : ℕ) → get_or (map (node_of e) l) k free_node ≡ node_of e (get_or l k [])
node_at_lem e l k = ap (λ d. get_or (map (node_of e) l) k d) (sym (free_none e)) ∙ get_or-map (node_of e) l k []

pub slot_node : {w : List ℤ} {s : SlotNumber} → InPool w s → node_at (read w) s ≡ node_of (edition_of w) (slot_words w s)
unfolding node_at read slot_words
slot_node {w} {s} i =
    let slots = drop head_size w in
    let m = s.0 - 1 in
    let e = edition_of w in
    node_at_lem e (runs (slot_size e) (slot_count w) slots) m
    ∙ ap (node_of e)
    (run_at (slot_size e) (slot_count w) m slots (omega (arith, i.low, i.high)) ∙ ap (take (slot_size e)) (drop-drop (slot_size e * m) head_size w))

-- a word of a part of a width
part_word : (width : ℕ) (ws : List ℤ) (at k : ℕ) → k < width → word_at (take width (drop at ws)) k ≡ word_at ws (at + k)
unfolding word_at
part_word width ws at k h = get_or-take width (drop at ws) k (pos 0) h ∙ get_or-drop at ws k (pos 0)

pub drop_word : (ws : List ℤ) (at k : ℕ) → word_at (drop at ws) k ≡ word_at ws (at + k)
unfolding word_at
drop_word ws at k = get_or-drop at ws k (pos 0)

-- .. of a slot
pub slot_word : {w : List ℤ} {s : SlotNumber} → InPool w s → (k : ℕ) → k < slot_size (edition_of w)
    → word_at (slot_words w s) k ≡ word_at w (slot_start (edition_of w) s + k)
unfolding slot_words
slot_word {w} {s} i k h = part_word (slot_size (edition_of w)) w (slot_start (edition_of w) s) k h

pub slot_level : {w : List ℤ} {s : SlotNumber} → InPool w s → (node_at (read w) s).level ≡ natural (word_at w (level_place (edition_of w) s))
unfolding node_of
slot_level {w} {s} i = ap (λ (n : Node). n.level) (slot_node i) ∙ ap natural (slot_word i 0 (omega arith) ∙ ap (word_at w) (omega arith))

-- ---- its entries

rects_are : (e : Edition) (l : ℕ) (xs : List (List ℤ)) → rects (map (entry_of e l) xs) ≡ map rect_of xs
unfolding rects entry_of
rects_are e l [] = refl
rects_are e l (x ∷ xs) = ap (λ (rs : List Rect). rect_of x ∷ rs) (rects_are e l xs)

rect_none : rect_of [] ≡ no_rect
unfolding rect_of word_at
rect_none = refl

rect_at_lem : (xs : List (List ℤ)) (k : ℕ) → rect_from (map rect_of xs) k ≡ rect_of (get_or xs k [])
unfolding rect_from
rect_at_lem xs k = ap (λ d. get_or (map rect_of xs) k d) (sym rect_none) ∙ get_or-map rect_of xs k []

entry_pointer : (e : Edition) (l : ℕ) (ws : List ℤ) → (entry_of e l ws).pointer ≡ pointer_of l (word_at ws rect_size) (owner_at e ws)
unfolding entry_of
entry_pointer e l ws = refl

module _ (e : Edition) (ws : List ℤ) where
  -- the words of the entry at place i
  abbrev pub entry_part : ℕ → List ℤ
  entry_part i = take (entry_size e) (drop (slot_head + entry_size e * i) ws)

  -- .. of the entries in use
  abbrev parts : List (List ℤ)
  parts = take (natural (word_at ws 1)) (runs (entry_size e) most (drop slot_head ws))

  pub node_count : length (node_of e ws).entries ≡ min (natural (word_at ws 1)) most
  unfolding node_of
  node_count = simp (length-map, length-take, length_runs) refl

  module _ (i : ℕ) (h : i < length (node_of e ws).entries) where
    node_part : get_or parts i [] ≡ entry_part i
    node_part =
        let r = runs (entry_size e) most (drop slot_head ws) in
        let n : i < min (natural (word_at ws 1)) most = rw node_count at h in
        get_or-take (natural (word_at ws 1)) r i [] (omega arith) ∙ run_at (entry_size e) most i (drop slot_head ws) (omega arith)
        ∙ ap (take (entry_size e)) (drop-drop (entry_size e * i) slot_head ws)

    node_rect : rect_from (rects (node_of e ws).entries) i ≡ rect_of (entry_part i)
    unfolding node_of
    node_rect = ap (λ rs. rect_from rs i) (rects_are e (natural (word_at ws 0)) parts) ∙ rect_at_lem parts i ∙ ap rect_of node_part

    node_pointer : (get_or (node_of e ws).entries i no_entry).pointer ≡ pointer_of (node_of e ws).level (word_at (entry_part i) rect_size) (owner_at e (entry_part i))
    unfolding node_of
    node_pointer =
        let l = natural (word_at ws 0) in
        ap (λ (x : Entry). x.pointer)
        (get_d_any (map (entry_of e l) parts) i no_entry (entry_of e l []) h ∙ get_or-map (entry_of e l) parts i [] ∙ ap (entry_of e l) node_part)
        ∙ entry_pointer e l (entry_part i)

pub slot_count_lem : {w : List ℤ} {s : SlotNumber} → InPool w s → length (entries_at (read w) s) ≡ min (natural (word_at w (count_place (edition_of w) s))) most
unfolding entries_at
slot_count_lem {w} {s} i =
    ap (λ (n : Node). length n.entries) (slot_node i) ∙ node_count (edition_of w) (slot_words w s)
    ∙ ap (λ (z : ℤ). min (natural z) most) (slot_word i 1 (omega arith))

-- a slot has no more entries than that
pub slot_few : {w : List ℤ} {s : SlotNumber} → InPool w s → length (entries_at (read w) s) ≤ most
slot_few p = omega (arith, slot_count_lem p)

-- word k of entry i
entry_word : {w : List ℤ} {s : SlotNumber} → InPool w s → (i k : ℕ) → i < most → k < entry_size (edition_of w)
    → word_at (entry_part (edition_of w) (slot_words w s) i) k ≡ word_at w (entry_place (edition_of w) s i + k)
entry_word {w} {s} p i k h l =
    let e = edition_of w in
    let at = slot_head + entry_size e * i in
    part_word (entry_size e) (slot_words w s) at k l ∙ slot_word p (at + k) (omega (arith, entry_ends e i h)) ∙ ap (word_at w) (omega arith)

-- the owner of entry i
owner_word_lem : {w : List ℤ} {s : SlotNumber} → InPool w s → (i : ℕ) → i < most
    → (e : Edition) → e ≡ edition_of w → owner_at e (entry_part (edition_of w) (slot_words w s) i) ≡ owner_at e (drop (entry_place (edition_of w) s i) w)
unfolding owner_at
owner_word_lem p i h One q = refl
owner_word_lem {w} {s} p i h Two q =
    entry_word p i (rect_size + 1) h (subst (λ (e : Edition). rect_size + 1 < entry_size e) q (omega arith))
    ∙ sym (drop_word w (entry_place (edition_of w) s i) (rect_size + 1))

module _ {w : List ℤ} {s : SlotNumber} (p : InPool w s) (i : ℕ) (h : i < length (entries_at (read w) s)) where
  abbrev e : Edition
  e = edition_of w

  abbrev at : ℕ
  at = entry_place (edition_of w) s i

  there : i < length (node_of e (slot_words w s)).entries
  unfolding entries_at
  there = subst (λ (x : Node). i < length x.entries) (slot_node p) h

  part_at : (k : ℕ) → k < entry_size e → word_at (entry_part e (slot_words w s) i) k ≡ word_at w (at + k)
  part_at k l = entry_word p i k (omega (arith, slot_few p)) l

  pub slot_rect : rect_from (rects (entries_at (read w) s)) i ≡ rectangle (word_at w at) (word_at w (at + 1)) (word_at w (at + 2)) (word_at w (at + 3))
  unfolding entries_at rect_of
  slot_rect =
      let same : at + 0 ≡ at = omega arith in
      let first = part_at 0 (omega arith) ∙ ap (word_at w) same in
      ap (λ (x : Node). rect_from (rects x.entries) i) (slot_node p) ∙ node_rect e (slot_words w s) i there
      ∙ (λ j. rectangle (first j) (part_at 1 (omega arith) j) (part_at 2 (omega arith) j) (part_at 3 (omega arith) j))

  pub slot_pointer : (entry_at (read w) s i).pointer
      ≡ pointer_of (node_at (read w) s).level (word_at w (pointer_place (edition_of w) s i)) (owner_at (edition_of w) (drop (entry_place (edition_of w) s i) w))
  unfolding entry_at entry_from entries_at
  slot_pointer =
      ap (λ (x : Node). (get_or x.entries i no_entry).pointer) (slot_node p) ∙ node_pointer e (slot_words w s) i there
      ∙ (λ j. pointer_of (ap (λ (x : Node). x.level) (sym (slot_node p)) j) (part_at rect_size (omega arith) j)
      (owner_word_lem p i (omega (arith, slot_few p)) e refl j))

-- ---- an entry, rectangle and pointer

pub rect_entry : (es : List Entry) (i : ℕ) → rect_from (rects es) i ≡ (get_or es i no_entry).rect
unfolding rect_from rects
rect_entry es i = get_or-map (λ (e : Entry). e.rect) es i no_entry

entry_at_lem : (p : Pool) (s : SlotNumber) (i : ℕ) → (get_or (entries_at p s) i no_entry).rect ≡ (entry_at p s i).rect
unfolding entry_at entry_from
entry_at_lem p s i = refl

-- an entry from its two parts
pub entry_parts : (p : Pool) (s : SlotNumber) (i : ℕ) → entry (rect_from (rects (entries_at p s)) i) (entry_at p s i).pointer ≡ entry_at p s i
entry_parts p s i = λ j. record { rect = (rect_entry (entries_at p s) i ∙ entry_at_lem p s i) j; pointer = (entry_at p s i).pointer }

pub slot_entry : {w : List ℤ} {s : SlotNumber} → InPool w s → (i : ℕ) → i < length (entries_at (read w) s)
    → entry (rect_from (rects (entries_at (read w) s)) i)
    (pointer_of (node_at (read w) s).level (word_at w (pointer_place (edition_of w) s i)) (owner_at (edition_of w) (drop (entry_place (edition_of w) s i) w)))
    ≡ entry_at (read w) s i
slot_entry {w} {s} p i h = ap (λ q. entry (rect_from (rects (entries_at (read w) s)) i) q) (sym (slot_pointer p i h)) ∙ entry_parts (read w) s i
