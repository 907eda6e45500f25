-- A few words of a slot stored in place, and no other word of the pool: an entry's words over those of another, or after the last
-- entry's, with the count one more; a rectangle's words over those of an entry's rectangle; the words of later entries a place down, with the
-- count one less. What a slot then holds are the words of a node, so the node is put into the pool.
use mathlib.Core.Path.{◌≡◌, refl, sym, ap, ap₂, subst, ◌∙◌}
use mathlib.Core.List.{List, [], ◌∷◌, ◌++◌, map}
use Prim.Native.Nat.{ℕ, suc, ◌+◌, ◌*◌, ◌-◌, ◌≤◌, ◌<◌}
use native.Mathlib.Omega.{arith}
use lib.ListN.{length, get_or, set, take, drop, length-append, length-take, length-set, length-map, length-replicate}
use lib.Seq.{sets, sets-eq, length-sets, get_or-set_same, set-set, set-get_or, get_or-drop, drop-append-add}
use lib.IntN.{ℤ, pos}
use borrow.Rule.Slice.PartMut.{put_mid}
use Rattle.std.proofs.lemmas.Slice.{put_mid-paste}
use Rattle.std.proofs.lemmas.List.{take_all}
use Rattle.rules.specs.declared.Edition.{Edition}
use Rattle.rules.specs.declared.Edition.TheVariants.{One, Two}
use Rattle.rules.specs.declared.Rect.{Rect}
use Rattle.rules.specs.declared.SlotNumber.{SlotNumber}
use Rattle.rules.specs.declared.Entry.{Entry}
use Rattle.rules.specs.Lists.{joined, without}
use Rattle.rules.specs.Choose.{rect_from}
use Rattle.rules.specs.Pool.{Node, Pool, node, entry, no_entry, rectangle, rects, free_node, node_at, entries_at, entry_from, entry_at, put_node, put_entries}
use Rattle.rules.specs.Numbers.{most}
use Rattle.rules.specs.Layout.{edition_of, rect_size, entry_size, slot_head, slot_size, slot_start, count_place, entry_place}
use Rattle.rules.specs.Layout.{pointer_word, owner_words, entry_words, node_words, head_words, words, word_at, rect_of, read}
use Rattle.rules_laws.proofs.Places.{each_append, each_without, each_at}
use Rattle.rules_laws.proofs.Parts.{length_without}
use Rattle.layout_laws.specs.Slots.{InPool, Fit, KindOf}
use Rattle.layout_laws.proofs.Parts.{room, entry_ends, places_end, slot_rect, rect_entry}
use Rattle.layout_laws.proofs.Runs.{sets_right, sets_over, zeros, shifted, length_shifted, shifted_right, wide_set, map_set, sets_joined, part_joined}
use Rattle.layout_laws.proofs.Padded.{placed_again, placed_more, placed_less}
use Rattle.layout_laws.proofs.Written.{Fine, entry_size_lem, place_words, node_wide, node_size, head_size_lem, same_head}
use Rattle.layout_laws.proofs.Written.{each_set, fine_at, read_slots, put_is, put_read, put_fit}

-- ---- where an entry's words are

pub spot_inside : {w : List ℤ} {s : SlotNumber} → InPool w s → (i : ℕ) → i < most → entry_place (edition_of w) s i + entry_size (edition_of w) ≤ length w
spot_inside {w} p i h = omega (arith, room p, entry_ends (edition_of w) i h)

-- .. and its rectangle's
pub rect_inside : {w : List ℤ} {s : SlotNumber} → InPool w s → (i : ℕ) → i < most → entry_place (edition_of w) s i + rect_size ≤ length w
rect_inside p i h = omega (arith, spot_inside p i h)

-- the rectangle at a place, word by word
pub rect_words_lem : (w : List ℤ) (at : ℕ) → rectangle (word_at w at) (word_at w (at + 1)) (word_at w (at + 2)) (word_at w (at + 3)) ≡ rect_of (drop at w)
unfolding rect_of word_at
rect_words_lem w at =
    let same : at + 0 ≡ at = omega arith in
    let first = get_or-drop at w 0 (pos 0) ∙ ap (λ (k : ℕ). get_or w k (pos 0)) same in
    λ j. rectangle (sym first j) (sym (get_or-drop at w 1 (pos 0)) j) (sym (get_or-drop at w 2 (pos 0)) j) (sym (get_or-drop at w 3 (pos 0)) j)

pub spot_rect : {w : List ℤ} {s : SlotNumber} → InPool w s → (i : ℕ) → i < length (entries_at (read w) s)
    → rect_of (drop (entry_place (edition_of w) s i) w) ≡ rect_from (rects (entries_at (read w) s)) i
spot_rect {w} {s} p i h = sym (slot_rect p i h ∙ rect_words_lem w (entry_place (edition_of w) s i))

pub spot_entry : {w : List ℤ} {s : SlotNumber} → InPool w s → (i : ℕ) → i < length (entries_at (read w) s)
    → rect_of (drop (entry_place (edition_of w) s i) w) ≡ (entry_at (read w) s i).rect
unfolding entry_at entry_from
spot_entry {w} {s} p i h = spot_rect p i h ∙ rect_entry (entries_at (read w) s) i

-- the four words of a rectangle
abbrev pub rect_words : Rect → List ℤ
rect_words r = r.lowX ∷ r.lowY ∷ r.highX ∷ r.highY ∷ []

-- ---- words over others are a run of stores

-- a part of the list is lent, and written as a whole
pub part_put : (w vs ys : List ℤ) (at n : ℕ) → ys ≡ vs → n ≡ length vs → at + n ≤ length w → put_mid at n w ys ≡ sets w at vs
part_put w vs ys at n e size h =
    put_mid-paste at n w ys vs n e refl size ∙ ap (λ (xs : List ℤ). take at w ++ xs ++ drop (at + n) w) (take_all n vs (omega arith))
    ∙ ap (λ (k : ℕ). take at w ++ vs ++ drop (at + k) w) size
    ∙ sym (sets-eq vs w at (omega arith))

-- ---- the words of one slot

module _ (p : Pool) (s : SlotNumber) where
  -- the pool's words, with others in the slot
  abbrev swapped : List ℤ → List ℤ
  swapped x = head_words p ++ joined (set (map (node_words p.edition) p.slots) (s.0 - 1) x)

  swap_none : words p ≡ swapped (node_words p.edition (node_at p s))
  unfolding words node_at
  swap_none =
      ap (λ (ls : List (List ℤ)). head_words p ++ joined ls)
      (sym (map_set (node_words p.edition) p.slots (s.0 - 1) (get_or p.slots (s.0 - 1) free_node) ∙ ap (map (node_words p.edition)) (set-get_or p.slots (s.0 - 1) free_node)))

  swap_put : (n : Node) → swapped (node_words p.edition n) ≡ words (put_node p s n)
  unfolding words put_node
  swap_put n =
      ap (λ (ls : List (List ℤ)). head_words p ++ joined ls) (map_set (node_words p.edition) p.slots (s.0 - 1) n)
      ∙ ap (λ (h : List ℤ). h ++ joined (map (node_words p.edition) (set p.slots (s.0 - 1) n))) (same_head p s n)

  swap_sets : 1 ≤ s.0 → s.0 ≤ length p.slots → (x : List ℤ) → length x ≡ slot_size p.edition → (j : ℕ) (vs : List ℤ) → j + length vs ≤ slot_size p.edition
      → sets (swapped x) (slot_start p.edition s + j) vs ≡ swapped (sets x j vs)
  swap_sets low high x e j vs h =
      let ls = map (node_words p.edition) p.slots in
      let m = s.0 - 1 in
      let inside : m < length ls = omega (arith, length-map p.slots (node_words p.edition)) in
      let still : m < length (set ls m x) = omega (arith, length-set ls m x) in
      let here : slot_start p.edition s + j ≡ length (head_words p) + (slot_size p.edition * m + j) = omega (arith, head_size_lem p) in
      ap (λ (k : ℕ). sets (swapped x) k vs) here
      ∙ sets_right vs (head_words p) (joined (set ls m x)) (slot_size p.edition * m + j)
      ∙ ap (λ (l : List ℤ). head_words p ++ l)
      (sets_joined (slot_size p.edition) (set ls m x) (wide_set (slot_size p.edition) ls m x (node_wide p.edition p.slots) e) m j vs still h
      ∙ ap (λ (y : List ℤ). joined (set (set ls m x) m (sets y j vs))) (get_or-set_same ls m x [] inside)
      ∙ ap joined (set-set ls m x (sets x j vs)))

  -- a part of the slot's words
  swap_part : 1 ≤ s.0 → s.0 ≤ length p.slots → (x : List ℤ) → length x ≡ slot_size p.edition → (j n : ℕ) → j + n ≤ slot_size p.edition
      → take n (drop (slot_start p.edition s + j) (swapped x)) ≡ take n (drop j x)
  swap_part low high x e j n h =
      let ls = map (node_words p.edition) p.slots in
      let m = s.0 - 1 in
      let inside : m < length ls = omega (arith, length-map p.slots (node_words p.edition)) in
      let still : m < length (set ls m x) = omega (arith, length-set ls m x) in
      let here : slot_start p.edition s + j ≡ length (head_words p) + (slot_size p.edition * m + j) = omega (arith, head_size_lem p) in
      ap (take n)
      (ap (λ (k : ℕ). drop k (swapped x)) here ∙ drop-append-add (head_words p) (joined (set ls m x)) (slot_size p.edition * m + j))
      ∙ part_joined (slot_size p.edition) (set ls m x) (wide_set (slot_size p.edition) ls m x (node_wide p.edition p.slots) e) m j n still h
      ∙ ap (λ (y : List ℤ). take n (drop j y)) (get_or-set_same ls m x [] inside)

  swap_shifted : 1 ≤ s.0 → s.0 ≤ length p.slots → (x : List ℤ) → length x ≡ slot_size p.edition → (j by n : ℕ) → j + by + n ≤ slot_size p.edition
      → shifted (swapped x) (slot_start p.edition s + j) by n ≡ swapped (shifted x j by n)
  swap_shifted low high x e j by n h =
      let at = slot_start p.edition s in
      let next : at + j + by ≡ at + (j + by) = omega arith in
      let part = take n (drop (j + by) x) in
      let short : length part ≤ n = omega (arith, length-take n (drop (j + by) x)) in
      ap (λ (r : List ℤ). sets (swapped x) (at + j) (r ++ zeros by))
      (ap (λ (k : ℕ). take n (drop k (swapped x))) next ∙ swap_part low high x e (j + by) n h)
      ∙ swap_sets low high x e j (part ++ zeros by) (omega (arith, length-append part (zeros by), length-replicate by (pos 0)))

-- ---- the words of one node

module _ (ed : Edition) (l : ℕ) (es : List Entry) (e : Entry) where
  node_again : (i : ℕ) → i < length es → length es ≤ most
      → sets (node_words ed (node l es)) (slot_head + entry_size ed * i) (entry_words ed e) ≡ node_words ed (node l (set es i e))
  unfolding node_words
  node_again i h few =
      sets_right (entry_words ed e) (pos l ∷ pos (length es) ∷ []) (place_words ed es) (entry_size ed * i)
      ∙ ap₂ (λ (n : ℕ) (r : List ℤ). pos l ∷ pos n ∷ r) (sym (length-set es i e))
      (placed_again (entry_size ed) most (entry_words ed) (entry_size_lem ed) es i e h few)

  node_more : length es < most
      → set (sets (node_words ed (node l es)) (slot_head + entry_size ed * length es) (entry_words ed e)) 1 (pos (length es + 1))
      ≡ node_words ed (node l (es ++ e ∷ []))
  unfolding node_words
  node_more h =
      ap (λ (r : List ℤ). set r 1 (pos (length es + 1)))
      (sets_right (entry_words ed e) (pos l ∷ pos (length es) ∷ []) (place_words ed es) (entry_size ed * length es))
      ∙ ap₂ (λ (n : ℕ) (r : List ℤ). pos l ∷ pos n ∷ r) (sym (length-append es (e ∷ [])))
      (placed_more (entry_size ed) most (entry_words ed) (entry_size_lem ed) es e h)

-- an entry taken out, with n after it
node_less : (ed : Edition) (l : ℕ) (es : List Entry) (i n : ℕ) → length es ≡ i + suc n → length es ≤ most
    → set (shifted (node_words ed (node l es)) (slot_head + entry_size ed * i) (entry_size ed) (entry_size ed * n)) 1 (pos (length es - 1))
    ≡ node_words ed (node l (without i es))
unfolding node_words
node_less ed l es i n h few =
    let k = entry_size ed in
    let one : length es - 1 ≡ length (without i es) = omega (arith, length_without es i (omega arith)) in
    ap (λ (r : List ℤ). set r 1 (pos (length es - 1))) (shifted_right (pos l ∷ pos (length es) ∷ []) (place_words ed es) (k * i) k (k * n))
    ∙ ap₂ (λ (c : ℕ) (r : List ℤ). pos l ∷ pos c ∷ r) one (placed_less k most (entry_words ed) (entry_size_lem ed) es i n h few)

-- ---- the entries after one of them

pub spot_order : (e : Edition) (s : SlotNumber) (i j : ℕ) → i ≤ j → entry_place e s i ≤ entry_place e s j
spot_order One s i j h = omega arith
spot_order Two s i j h = omega arith

-- from entry i to the last of n: the words that the entries after it have
words_after : (e : Edition) (s : SlotNumber) (i n : ℕ) → i < n → entry_place e s (n - 1) - entry_place e s i ≡ entry_size e * (n - suc i)
words_after One s i n h = omega arith
words_after Two s i n h = omega arith

-- the words of an entry and of n after it
places_after : (e : Edition) (k n : ℕ) → entry_size e * (k + suc n) ≡ entry_size e * k + entry_size e + entry_size e * n
places_after One k n = omega arith
places_after Two k n = omega arith

-- ---- the pool

module _ {w : List ℤ} {s : SlotNumber} (f : Fit w) (i : InPool w s) where
  abbrev ed : Edition
  ed = edition_of w

  abbrev here : Node
  here = node_at (read w) s

  -- the words of entry k, and of it in its slot
  abbrev at : ℕ → ℕ
  at k = entry_place (edition_of w) s k

  abbrev in_slot : ℕ → ℕ
  in_slot k = slot_head + entry_size (edition_of w) * k

  is_fine : Fine ed here
  is_fine = fine_at i

  there : s.0 ≤ length (read w).slots
  there = omega (arith, i.high, read_slots w)

  stored : (v : List ℤ) (n : Node) → Fine ed n → v ≡ swapped (read w) s (node_words ed n) → (read v ≡ put_node (read w) s n) × Fit v
  unfolding read
  stored v n g e =
      let q : v ≡ sets w (slot_start ed s) (node_words ed n) = e ∙ swap_put (read w) s n ∙ sym (put_is f i g) in
      (ap read q ∙ put_read f i g, subst Fit (sym q) (put_fit f i g))

  -- an entry's words in the slot
  swap_entry : (k : ℕ) (e : Entry) → k < most
      → sets w (at k) (entry_words ed e) ≡ swapped (read w) s (sets (node_words ed here) (in_slot k) (entry_words ed e))
  unfolding read
  swap_entry k e h =
      let a : at k ≡ slot_start ed s + in_slot k = omega arith in
      ap₂ (λ (x : List ℤ) (n : ℕ). sets x n (entry_words ed e)) (sym f.same ∙ swap_none (read w) s) a
      ∙ swap_sets (read w) s i.low there (node_words ed here) (node_size ed here) (in_slot k) (entry_words ed e)
      (omega (arith, entry_size_lem ed e, entry_ends ed k h))

  abbrev Kinds : Entry → Type 0
  Kinds x = KindOf ed here.level x.pointer

  pub again_stored : (k : ℕ) (e : Entry) → k < length (entries_at (read w) s) → KindOf (edition_of w) (node_at (read w) s).level e.pointer
      → (read (sets w (entry_place (edition_of w) s k) (entry_words (edition_of w) e)) ≡ put_entries (read w) s (set (entries_at (read w) s) k e))
      × Fit (sets w (entry_place (edition_of w) s k) (entry_words (edition_of w) e))
  unfolding entries_at put_entries
  again_stored k e h kind =
      let es = here.entries in
      stored (sets w (at k) (entry_words ed e)) (node here.level (set es k e))
      (record { few = omega (arith, length-set es k e, is_fine.few); kinds = each_set Kinds es k e is_fine.kinds kind })
      (swap_entry k e (omega (arith, is_fine.few))
      ∙ ap (swapped (read w) s) (node_again ed here.level es e k h is_fine.few))

  pub more_stored : (e : Entry) → length (entries_at (read w) s) < most → KindOf (edition_of w) (node_at (read w) s).level e.pointer → (v : List ℤ)
      → v ≡ set (sets w (entry_place (edition_of w) s (length (entries_at (read w) s))) (entry_words (edition_of w) e)) (count_place (edition_of w) s)
      (pos (length (entries_at (read w) s) + 1))
      → (read v ≡ put_entries (read w) s (entries_at (read w) s ++ e ∷ [])) × Fit v
  unfolding entries_at put_entries read
  more_stored e h kind v q =
      let es = here.entries in
      let n = length es in
      let x = sets (node_words ed here) (in_slot n) (entry_words ed e) in
      stored v (node here.level (es ++ e ∷ []))
      (record { few = omega (arith, length-append es (e ∷ [])); kinds = each_append Kinds es (e ∷ []) is_fine.kinds (kind, tt) })
      (q
      ∙ ap (λ (y : List ℤ). set y (count_place ed s) (pos (n + 1))) (swap_entry n e h)
      ∙ swap_sets (read w) s i.low there x (length-sets (node_words ed here) (in_slot n) (entry_words ed e) ∙ node_size ed here) 1 (pos (n + 1) ∷ [])
      (omega arith)
      ∙ ap (swapped (read w) s) (node_more ed here.level es e h))

  -- the words of entry k, where they stand
  same_stored : (k : ℕ) → k < length (entries_at (read w) s) → sets w (at k) (entry_words ed (entry_at (read w) s k)) ≡ w
  unfolding entries_at entry_at entry_from read
  same_stored k h =
      let es = here.entries in
      swap_entry k (get_or es k no_entry) (omega (arith, is_fine.few))
      ∙ ap (swapped (read w) s)
      (node_again ed here.level es (get_or es k no_entry) k h is_fine.few
      ∙ ap (λ (xs : List Entry). node_words ed (node here.level xs)) (set-get_or es k no_entry))
      ∙ sym (swap_none (read w) s)
      ∙ f.same

  -- a rectangle's words: the entry is another, with the pointer that it had
  rect_over : (k : ℕ) (r : Rect) → k < length (entries_at (read w) s)
      → sets w (at k) (rect_words r) ≡ sets w (at k) (entry_words ed (entry r (entry_at (read w) s k).pointer))
  unfolding entry_words
  rect_over k r h =
      let e = entry_at (read w) s k in
      ap (λ (x : List ℤ). sets x (at k) (rect_words r)) (sym (same_stored k h))
      ∙ sets_over (rect_words e.rect) (rect_words r) (pointer_word e.pointer ∷ owner_words ed e.pointer) w (at k) refl

  pub rect_stored : (k : ℕ) (r : Rect) → k < length (entries_at (read w) s) → (v : List ℤ) → v ≡ sets w (entry_place (edition_of w) s k) (rect_words r)
      → (read v ≡ put_entries (read w) s (set (entries_at (read w) s) k (entry r (entry_at (read w) s k).pointer))) × Fit v
  unfolding entries_at entry_at entry_from
  rect_stored k r h v q =
      let put = again_stored k (entry r (entry_at (read w) s k).pointer) h (each_at Kinds here.entries k no_entry h is_fine.kinds) in
      let e = q ∙ rect_over k r h in
      (ap read e ∙ put.0, subst Fit (sym e) put.1)

  -- the words after entry k, as far as the last entry begins, moved down by an entry, and one less counted
  pub less_stored : (k : ℕ) → k < length (entries_at (read w) s) → (v : List ℤ)
      → v ≡ set
      (shifted w (entry_place (edition_of w) s k) (entry_size (edition_of w))
      (entry_place (edition_of w) s (length (entries_at (read w) s) - 1) - entry_place (edition_of w) s k)) (count_place (edition_of w) s)
      (pos (length (entries_at (read w) s) - 1))
      → (read v ≡ put_entries (read w) s (without k (entries_at (read w) s))) × Fit v
  unfolding entries_at put_entries read
  less_stored k h v q =
      let es = here.entries in
      let size = entry_size ed in
      let n = length es - suc k in
      let many : length es ≡ k + suc n = omega arith in
      let c = pos (length es - 1) in
      let place : at k ≡ slot_start ed s + in_slot k = omega arith in
      let ends : in_slot k + size + size * n ≤ slot_size ed =
      omega (arith, places_end ed (length es) is_fine.few, ap (λ (m : ℕ). size * m) many, places_after ed k n) in
      stored v (node here.level (without k es))
      (record { few = omega (arith, length_without es k h, is_fine.few); kinds = each_without Kinds es k is_fine.kinds })
      (q
      ∙ ap (λ (y : List ℤ). set y (count_place ed s) c)
      (ap (shifted w (at k) size) (words_after ed s k (length es) h)
      ∙ ap₂ (λ (y : List ℤ) (a : ℕ). shifted y a size (size * n)) (sym f.same ∙ swap_none (read w) s) place
      ∙ swap_shifted (read w) s i.low there (node_words ed here) (node_size ed here) (in_slot k) size (size * n) ends)
      ∙ swap_sets (read w) s i.low there (shifted (node_words ed here) (in_slot k) size (size * n))
      (length_shifted (node_words ed here) (in_slot k) size (size * n) ∙ node_size ed here) 1 (c ∷ []) (omega arith)
      ∙ ap (swapped (read w) s) (node_less ed here.level es k n many is_fine.few))
