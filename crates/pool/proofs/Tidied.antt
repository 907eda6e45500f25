-- The words of a pool that is read from w stand in w: the head's, and each slot's, where the words that are read as naturals are not
-- negative, the counts are no more than a node holds, and what no entry in use has is zero.
use mathlib.Core.Path.{◌≡◌, refl, sym, ap, ap₂, subst, ◌∙◌}
use mathlib.Core.Logic.{◌↔◌}
use mathlib.Core.Bool.{Bool, true, false, ◌&&◌, and_assoc, and-true}
use mathlib.Core.List.{List, [], ◌∷◌, ◌++◌, map}
use Prim.Native.Nat.{ℕ, suc, ◌+◌, ◌*◌, ◌-◌, ◌≤◌, ◌<◌, min}
use native.Mathlib.Omega.{arith}
use lib.Dec.{eqb}
use lib.ListN.{length, get_or, drop}
use lib.IntN.{ℤ, pos, negsuc}
use lib.Signed.{le_z}
use Rattle.rules.specs.declared.Edition.{Edition}
use Rattle.rules.specs.declared.Edition.TheVariants.{One, Two}
use Rattle.rules.specs.declared.Rect.{Rect}
use Rattle.rules.specs.declared.SlotNumber.{SlotNumber}
use Rattle.rules.specs.declared.Pointer.{Pointer}
use Rattle.rules.specs.declared.Pointer.TheVariants.{Child}
use Rattle.rules.specs.declared.Entry.{Entry}
use Rattle.rules.specs.Lists.{joined, same}
use Rattle.rules.specs.Owners.{edition_number}
use Rattle.rules.specs.Pool.{Node, slot, entry, no_entry, free_node, node_at, entries_at, entry_from, entry_at, rects}
use Rattle.rules.specs.Numbers.{most}
use Rattle.rules.specs.Layout.{head_size, edition_place, root_place, height_place, records_place, rect_size, entry_size, slot_head, slot_size, slot_start, level_place, count_place, entry_place}
use Rattle.rules.specs.Layout.{pointer_place, edition_of, valid_length, pointer_word, owner_word, owner_words, owner_at}
use Rattle.rules.specs.Layout.{entry_words, padded, node_words, head_words, words, natural, word_at, pointer_of, read}
use Rattle.rules.specs.Choose.{rect_from}
use Rattle.rules.specs.Sound.{nothing_else}
use Rattle.rules_laws.proofs.Bools.{and_both, both_and}
use Rattle.rules_laws.proofs.Orders.{both_at_most}
use Rattle.rules_laws.proofs.Places.{nothing}
use Rattle.layout_laws.specs.Slots.{InPool, owner_kept}
use Rattle.layout_laws.proofs.Parts.{right_size, room, entry_ends, places_end, drop_word, slot_level, slot_count_lem, slot_few, slot_rect, slot_pointer, slot_entry}
use Rattle.layout_laws.proofs.Written.{owner_kept_lem, place_words, unused, padded_is, head_size_lem, node_size, read_slots, pointer_number, pointer_child, entry_size_lem, words_size}
use Rattle.pool.specs.Standing.{stand, zero_from, tidy_around}
use Rattle.pool.proofs.Stand.{stand_none, stand_cons, stand_append, stand_all, widths_more, widths_end, parts_all, parts_each, same_self, natural_same, natural_some}
use Rattle.layout_laws.proofs.Runs.{zeros, length_parts}

-- ---- the head

pub head_stands : (w : List ℤ) → head_size ≤ length w
    → (same (pos (edition_number (edition_of w))) (word_at w edition_place)
    && ((le_z (pos 0) (word_at w root_place) && (le_z (pos 0) (word_at w height_place) && le_z (pos 0) (word_at w records_place))) && stand (zeros 4) w 4))
    ≡ stand (head_words (read w)) w 0
unfolding head_words padded read
head_stands w l =
    let v = pos (edition_number (edition_of w)) in
    let r = pos (natural (word_at w root_place)) in
    let h = pos (natural (word_at w height_place)) in
    let c = pos (natural (word_at w records_place)) in
    let z = zeros 4 in
    sym (stand_cons v (r ∷ h ∷ c ∷ z) w 0 (omega arith)
    ∙ ap (λ (b : Bool). same v (word_at w 0) && b)
    (stand_cons r (h ∷ c ∷ z) w root_place (omega arith)
    ∙ ap₂ ◌&&◌ (natural_same (word_at w root_place))
    (stand_cons h (c ∷ z) w height_place (omega arith)
    ∙ ap₂ ◌&&◌ (natural_same (word_at w height_place))
    (stand_cons c z w records_place (omega arith) ∙ ap (λ (b : Bool). b && stand z w 4) (natural_same (word_at w records_place))))
    ∙ regroup (le_z (pos 0) (word_at w root_place)) (le_z (pos 0) (word_at w height_place)) (le_z (pos 0) (word_at w records_place)) (stand z w 4)))
  where
    regroup : (a b c d : Bool) → (a && (b && (c && d))) ≡ ((a && (b && c)) && d)
    regroup a b c d = simp and_assoc

-- ---- an entry

-- what an entry's pointer is, written again
leaf_pointer : (l : ℕ) (z o : ℤ) → eqb l 1 ≡ true → same (pointer_word (pointer_of l z o)) z ≡ true
unfolding pointer_word
leaf_pointer l z o e = rw (pointer_number l z o e) (same_self z)

child_pointer : (l : ℕ) (z o : ℤ) → eqb l 1 ≡ false → same (pointer_word (pointer_of l z o)) z ≡ le_z (pos 0) z
unfolding pointer_word
child_pointer l z o e = rw (pointer_child l z o e) (natural_same z)

-- .. and its owner
leaf_owner : (ed : Edition) (l : ℕ) (z : ℤ) (ws : List ℤ) → eqb l 1 ≡ true
    → same (owner_kept ed (owner_word (pointer_of l z (owner_at ed ws)))) (owner_at ed ws) ≡ true
unfolding owner_word
leaf_owner ed l z ws e = rw (pointer_number l z (owner_at ed ws) e, owner_kept_lem ed ws) (same_self (owner_at ed ws))

none_kept : (ed : Edition) → owner_kept ed (pos 0) ≡ pos 0
unfolding owner_kept
none_kept One = refl
none_kept Two = refl

child_owner : (ed : Edition) (l : ℕ) (z o : ℤ) → eqb l 1 ≡ false → owner_kept ed (owner_word (pointer_of l z o)) ≡ pos 0
unfolding owner_word
child_owner ed l z o e = rw (pointer_child l z o e) (none_kept ed)

-- .. is 1 or more where its word is
one_pointer : (l : ℕ) (z o : ℤ) → le_z (pos 1) z ≡ le_z (pos 1) (pointer_word (pointer_of l z o))
unfolding pointer_word natural
one_pointer l z o = go (eqb l 1) refl
  where
    natural_one : (y : ℤ) → le_z (pos 1) y ≡ le_z (pos 1) (pos (natural y))
    natural_one (pos n) = refl
    natural_one (negsuc n) = refl

    go : (b : Bool) → eqb l 1 ≡ b → le_z (pos 1) z ≡ le_z (pos 1) (pointer_word (pointer_of l z o))
    go true e = rw (pointer_number l z o e)
    go false e = rw (pointer_child l z o e) (natural_one z)

entry_words_lem : (ed : Edition) (r : Rect) (p : Pointer)
    → entry_words ed (entry r p) ≡ (r.lowX ∷ r.lowY ∷ r.highX ∷ r.highY ∷ pointer_word p ∷ []) ++ owner_words ed p
unfolding entry_words
entry_words_lem ed r p = refl

-- the words that an entry has in every edition, of which those of the rectangle are those that stand there
words_stand : (w : List ℤ) (at : ℕ) (z : ℤ) → at + 5 ≤ length w
    → stand (word_at w at ∷ word_at w (at + 1) ∷ word_at w (at + 2) ∷ word_at w (at + 3) ∷ z ∷ []) w at ≡ same z (word_at w (at + rect_size))
words_stand w at z l =
    let two : at + 1 + 1 ≡ at + 2 = omega arith in
    let three : at + 2 + 1 ≡ at + 3 = omega arith in
    let four : at + 3 + 1 ≡ at + 4 = omega arith in
    first w at (word_at w (at + 1) ∷ word_at w (at + 2) ∷ word_at w (at + 3) ∷ z ∷ []) (omega arith)
    ∙ first w (at + 1) (word_at w (at + 2) ∷ word_at w (at + 3) ∷ z ∷ []) (omega arith) ∙ ap (stand (word_at w (at + 2) ∷ word_at w (at + 3) ∷ z ∷ []) w) two
    ∙ first w (at + 2) (word_at w (at + 3) ∷ z ∷ []) (omega arith) ∙ ap (stand (word_at w (at + 3) ∷ z ∷ []) w) three
    ∙ first w (at + 3) (z ∷ []) (omega arith) ∙ ap (stand (z ∷ []) w) four
    ∙ stand_cons z [] w (at + 4) (omega arith) ∙ ap (λ (b : Bool). same z (word_at w (at + rect_size)) && b) (stand_none w (at + 4 + 1)) ∙ and-true (same z (word_at w (at + rect_size)))
  where
    first : (w : List ℤ) (at : ℕ) (vs : List ℤ) → at < length w → stand (word_at w at ∷ vs) w at ≡ stand vs w (at + 1)
    first w at vs h = stand_cons (word_at w at) vs w at h ∙ ap (λ (b : Bool). b && stand vs w (at + 1)) (same_self (word_at w at))

-- the owner's word, where there is one
owner_stands : (ed : Edition) (w : List ℤ) (at : ℕ) (p : Pointer) → at + entry_size ed ≤ length w
    → stand (owner_words ed p) w (at + 5) ≡ same (owner_kept ed (owner_word p)) (owner_at ed (drop at w))
unfolding owner_words owner_kept owner_at same
owner_stands One w at p l = stand_none w (at + 5)
owner_stands Two w at p l =
    stand_cons (owner_word p) [] w (at + 5) (omega arith)
    ∙ ap (λ (b : Bool). same (owner_word p) (word_at w (at + 5)) && b) (stand_none w (at + 5 + 1))
    ∙ and-true (same (owner_word p) (word_at w (at + 5)))
    ∙ ap (same (owner_word p)) (sym (drop_word w at 5))

module _ {w : List ℤ} {s : SlotNumber} (p : InPool w s) where
  abbrev ed : Edition
  ed = edition_of w

  -- the words of entry i: where they begin, its pointer's, its owner's
  abbrev begins : ℕ → ℕ
  begins i = entry_place (edition_of w) s i

  abbrev pointed : ℕ → ℤ
  pointed i = word_at w (pointer_place (edition_of w) s i)

  abbrev pub owned : ℕ → ℤ
  owned i = owner_at (edition_of w) (drop (entry_place (edition_of w) s i) w)

  entry_stands : (i : ℕ) → i < length (entries_at (read w) s)
      → stand (entry_words ed (entry_at (read w) s i)) w (begins i)
      ≡ (same (pointer_word (pointer_of (node_at (read w) s).level (pointed i) (owned i))) (pointed i)
      && same (owner_kept ed (owner_word (pointer_of (node_at (read w) s).level (pointed i) (owned i)))) (owned i))
  entry_stands i h =
      let at = begins i in
      let q = pointer_of (node_at (read w) s).level (pointed i) (owned i) in
      let fits : at + entry_size ed ≤ length w = omega (arith, room p, entry_ends ed i (omega (arith, slot_few p))) in
      let five = word_at w at ∷ word_at w (at + 1) ∷ word_at w (at + 2) ∷ word_at w (at + 3) ∷ pointer_word q ∷ [] in
      ap (λ (vs : List ℤ). stand vs w at)
      (ap (entry_words ed) (sym (slot_entry p i h)) ∙ entry_words_lem ed (rect_from (rects (entries_at (read w) s)) i) q
      ∙ ap (λ (r : Rect). (r.lowX ∷ r.lowY ∷ r.highX ∷ r.highY ∷ pointer_word q ∷ []) ++ owner_words ed q) (slot_rect p i h))
      ∙ stand_append five (owner_words ed q) w at (omega arith)
      ∙ ap₂ ◌&&◌ (words_stand w at (pointer_word q) (omega arith)) (owner_stands ed w at q fits)

  pub pointer_one : (i : ℕ) → i < length (entries_at (read w) s)
      → le_z (pos 1) (word_at w (pointer_place (edition_of w) s i)) ≡ le_z (pos 1) (pointer_word (entry_at (read w) s i).pointer)
  pointer_one i h = one_pointer _ _ (owned i) ∙ ap (λ q. le_z (pos 1) (pointer_word q)) (sym (slot_pointer p i h))

  leaf_entry_lem : (i : ℕ) → i < length (entries_at (read w) s) → eqb (node_at (read w) s).level 1 ≡ true
      → stand (entry_words (edition_of w) (entry_at (read w) s i)) w (entry_place (edition_of w) s i) ≡ true
  leaf_entry_lem i h e =
      entry_stands i h ∙ both_and _ _ (leaf_pointer _ _ (owned i) e) (leaf_owner ed _ (pointed i) (drop (begins i) w) e)

  child_entry : (i : ℕ) → i < length (entries_at (read w) s) → eqb (node_at (read w) s).level 1 ≡ false
      → stand (entry_words (edition_of w) (entry_at (read w) s i)) w (entry_place (edition_of w) s i)
      ≡ (le_z (pos 0) (word_at w (pointer_place (edition_of w) s i)) && same (pos 0) (owned i))
  child_entry i h e =
      entry_stands i h
      ∙ ap₂ (λ (a : Bool) (z : ℤ). a && same z (owned i)) (child_pointer _ _ (owned i) e) (child_owner ed _ (pointed i) (owned i) e)

  entries_fit : slot_start ed s + slot_head + entry_size ed * length (entries_at (read w) s) ≤ length w
  entries_fit = omega (arith, room p, places_end ed (length (entries_at (read w) s)) (slot_few p))

  -- all entries of a leaf
  pub leaf_entries_lem : eqb (node_at (read w) s).level 1 ≡ true
      → stand (joined (map (entry_words (edition_of w)) (entries_at (read w) s))) w (slot_start (edition_of w) s + slot_head) ≡ true
  unfolding entry_at entry_from
  leaf_entries_lem e =
      parts_all (entry_size ed) (entry_words ed) (entry_size_lem ed) w (slot_start ed s + slot_head) no_entry (entries_at (read w) s) entries_fit
      (λ i h. leaf_entry_lem i h e)

  -- .. and of an inner node: where no pointer is negative, and no entry has an owner
  module _ (e : eqb (node_at (read w) s).level 1 ≡ false) where
    pub inner_entries_lem : ((i : ℕ) → i < length (entries_at (read w) s)
        → (le_z (pos 0) (word_at w (pointer_place (edition_of w) s i)) ≡ true) × (same (pos 0) (owned i) ≡ true))
        → stand (joined (map (entry_words (edition_of w)) (entries_at (read w) s))) w (slot_start (edition_of w) s + slot_head) ≡ true
    unfolding entry_at entry_from
    inner_entries_lem each =
        parts_all (entry_size ed) (entry_words ed) (entry_size_lem ed) w (slot_start ed s + slot_head) no_entry (entries_at (read w) s) entries_fit
        (λ i h. child_entry i h e ∙ both_and _ _ (each i h).0 (each i h).1)

    pub inner_unowned_lem : stand (joined (map (entry_words (edition_of w)) (entries_at (read w) s))) w (slot_start (edition_of w) s + slot_head) ≡ true
        → (i : ℕ) → i < length (entries_at (read w) s) → same (pos 0) (owned i) ≡ true
    unfolding entry_at entry_from
    inner_unowned_lem all i h =
        (and_both (le_z (pos 0) (pointed i)) (same (pos 0) (owned i)) (sym (child_entry i h e)
        ∙ parts_each (entry_size ed) (entry_words ed) (entry_size_lem ed) w (slot_start ed s + slot_head) no_entry (entries_at (read w) s) entries_fit all i h)).1

-- ---- places that no entry is in

-- five words that are zero, and others after them
five_zero : (w : List ℤ) (at : ℕ) (vs : List ℤ) → at + 5 ≤ length w
    → stand (pos 0 ∷ pos 0 ∷ pos 0 ∷ pos 0 ∷ pos 0 ∷ vs) w at
    ≡ (((same (pos 0) (word_at w at) && same (pos 0) (word_at w (at + 1))) && (same (pos 0) (word_at w (at + 2)) && same (pos 0) (word_at w (at + 3))))
    && (same (pos 0) (word_at w (at + 4)) && stand vs w (at + 5)))
five_zero w at vs l =
    first
    ∙ ap (λ (b : Bool). z at && b) (next 1 (pos 0 ∷ pos 0 ∷ pos 0 ∷ vs) (omega arith)
    ∙ ap (λ (b : Bool). z (at + 1) && b) (next 2 (pos 0 ∷ pos 0 ∷ vs) (omega arith)
    ∙ ap (λ (b : Bool). z (at + 2) && b) (next 3 (pos 0 ∷ vs) (omega arith)
    ∙ ap (λ (b : Bool). z (at + 3) && b) (next 4 vs (omega arith)))))
    ∙ regroup (z at) (z (at + 1)) (z (at + 2)) (z (at + 3)) (z (at + 4)) (stand vs w (at + 5))
  where
    z : ℕ → Bool
    z k = same (pos 0) (word_at w k)

    first : stand (pos 0 ∷ pos 0 ∷ pos 0 ∷ pos 0 ∷ pos 0 ∷ vs) w at ≡ (z at && stand (pos 0 ∷ pos 0 ∷ pos 0 ∷ pos 0 ∷ vs) w (at + 1))
    first = stand_cons (pos 0) (pos 0 ∷ pos 0 ∷ pos 0 ∷ pos 0 ∷ vs) w at (omega arith)

    next : (k : ℕ) (us : List ℤ) → at + k < length w → stand (pos 0 ∷ us) w (at + k) ≡ (z (at + k) && stand us w (at + suc k))
    next k us h = stand_cons (pos 0) us w (at + k) h ∙ ap (λ (n : ℕ). z (at + k) && stand us w n) (omega arith)

    regroup : (a b c d e f : Bool) → (a && (b && (c && (d && (e && f))))) ≡ (((a && b) && (c && d)) && (e && f))
    regroup a b c d e f = simp and_assoc

zero_words : (ed : Edition) → zeros (entry_size ed) ≡ pos 0 ∷ pos 0 ∷ pos 0 ∷ pos 0 ∷ pos 0 ∷ owner_words ed (Child (slot 0))
unfolding owner_words owner_word
zero_words One = refl
zero_words Two = refl

child_none : (ed : Edition) → owner_kept ed (owner_word (Child (slot 0))) ≡ pos 0
unfolding owner_word
child_none ed = none_kept ed

-- the words of an entry are all zero, with the owner's, if there is one, beside the pointer's
pub entry_zero : (ed : Edition) (w : List ℤ) (at : ℕ) → at + entry_size ed ≤ length w
    → (((same (pos 0) (word_at w at) && same (pos 0) (word_at w (at + 1))) && (same (pos 0) (word_at w (at + 2)) && same (pos 0) (word_at w (at + 3))))
    && (same (pos 0) (word_at w (at + 4)) && same (pos 0) (owner_at ed (drop at w))))
    ≡ stand (zeros (entry_size ed)) w at
entry_zero ed w at l =
    let none = Child (slot 0) in
    let last = owner_stands ed w at none l ∙ ap (λ (z : ℤ). same z (owner_at ed (drop at w))) (child_none ed) in
    sym (ap (λ (vs : List ℤ). stand vs w at) (zero_words ed) ∙ five_zero w at (owner_words ed none) (omega arith)
    ∙ ap (λ (b : Bool). ((z at && z (at + 1)) && (z (at + 2) && z (at + 3))) && (z (at + 4) && b)) last)
  where
    z : ℕ → Bool
    z k = same (pos 0) (word_at w k)

module _ {w : List ℤ} {s : SlotNumber} (p : InPool w s) (i : ℕ) where
  pub zero_more : i < most → zero_from w s i ≡ (stand (zeros (entry_size (edition_of w))) w (entry_place (edition_of w) s i) && zero_from w s (i + 1))
  unfolding zero_from
  zero_more h =
      let ed = edition_of w in
      widths_more (entry_size ed) w (slot_start ed s + slot_head) most i h (omega (arith, room p, entry_ends ed i h))

  pub zero_end : most ≤ i → zero_from w s i ≡ true
  unfolding zero_from
  zero_end h = let ed = edition_of w in widths_end (entry_size ed) w (slot_start ed s + slot_head) most i h

-- ---- a slot

-- the entries in use, and zeros after them
pub places_stand : (ed : Edition) (es : List Entry) (w : List ℤ) (at : ℕ) → length es ≤ most → at + most * entry_size ed ≤ length w
    → stand (place_words ed es) w at
    ≡ (stand (joined (map (entry_words ed) es)) w at && stand (zeros (unused ed es)) w (at + entry_size ed * length es))
places_stand ed es w at few fits =
    let j = joined (map (entry_words ed) es) in
    let long = length_parts (entry_size ed) (entry_words ed) (entry_size_lem ed) es in
    ap (λ (vs : List ℤ). stand vs w at) (padded_is ed es few)
    ∙ stand_append j (zeros (unused ed es)) w at (omega (arith, long, places_end ed (length es) few))
    ∙ ap (λ (k : ℕ). stand j w at && stand (zeros (unused ed es)) w (at + k)) long

pub node_stands : (ed : Edition) (n : Node) (w : List ℤ) (at : ℕ) → at + slot_head ≤ length w
    → stand (node_words ed n) w at
    ≡ (same (pos n.level) (word_at w at)
    && (same (pos (length n.entries)) (word_at w (at + 1)) && stand (place_words ed n.entries) w (at + slot_head)))
unfolding node_words
node_stands ed n w at l =
    let r = place_words ed n.entries in
    let two : at + 1 + 1 ≡ at + slot_head = omega arith in
    stand_cons (pos n.level) (pos (length n.entries) ∷ r) w at (omega arith)
    ∙ ap (λ (b : Bool). same (pos n.level) (word_at w at) && b)
    (stand_cons (pos (length n.entries)) r w (at + 1) (omega arith)
    ∙ ap (λ (k : ℕ). same (pos (length n.entries)) (word_at w (at + 1)) && stand r w k) two)

module _ {w : List ℤ} {s : SlotNumber} (p : InPool w s) where
  abbrev which : Edition
  which = edition_of w

  abbrev start : ℕ
  start = slot_start (edition_of w) s

  -- the words of the entries in use
  abbrev in_use : Bool
  in_use = stand (joined (map (entry_words (edition_of w)) (entries_at (read w) s))) w (slot_start (edition_of w) s + slot_head)

  slot_places : stand (place_words which (entries_at (read w) s)) w (start + slot_head) ≡ (in_use && zero_from w s (length (entries_at (read w) s)))
  unfolding zero_from
  slot_places = places_stand which (entries_at (read w) s) w (start + slot_head) (slot_few p) (omega (arith, room p))

  slot_stands : (le_z (pos 0) (word_at w (level_place which s))
      && (same (pos (min (natural (word_at w (count_place which s))) most)) (word_at w (count_place which s))
      && stand (place_words which (entries_at (read w) s)) w (start + slot_head)))
      ≡ stand (node_words which (node_at (read w) s)) w start
  unfolding entries_at
  slot_stands =
      let n = node_at (read w) s in
      let level = word_at w (level_place which s) in
      let count = word_at w (count_place which s) in
      let r = stand (place_words which n.entries) w (start + slot_head) in
      sym (node_stands which n w start (omega (arith, room p))
      ∙ ap₂ ◌&&◌ (ap (λ (k : ℕ). same (pos k) level) (slot_level p) ∙ natural_same level) (ap (λ (k : ℕ). same (pos k) count && r) (slot_count_lem p)))

  -- the level of a node in use is not negative
  pub level_stands : 1 ≤ (node_at (read w) s).level → le_z (pos 0) (word_at w (level_place (edition_of w) s)) ≡ true
  level_stands h = natural_some (word_at w (level_place which s)) (omega (arith, slot_level p))

  -- a slot's words are those of its node where the level is not negative, and the entries and what is around them stand there
  pub slot_parts : stand (node_words (edition_of w) (node_at (read w) s)) w (slot_start (edition_of w) s)
      ≡ (le_z (pos 0) (word_at w (level_place (edition_of w) s))
      && (stand (joined (map (entry_words (edition_of w)) (entries_at (read w) s))) w (slot_start (edition_of w) s + slot_head) && tidy_around w s))
  unfolding tidy_around
  slot_parts =
      let level = le_z (pos 0) (word_at w (level_place which s)) in
      let count = same (pos (min (natural (word_at w (count_place which s))) most)) (word_at w (count_place which s)) in
      sym slot_stands ∙ ap (λ (b : Bool). level && (count && b)) slot_places
      ∙ ap (λ (b : Bool). level && b) (swap count in_use (zero_from w s (length (entries_at (read w) s))))
    where
      swap : (a b c : Bool) → (a && (b && c)) ≡ (b && (a && c))
      swap true b c = refl
      swap false true c = refl
      swap false false c = refl

-- ---- all

-- the words of each slot, one after another
abbrev slots_words : List ℤ → List ℤ
slots_words w = joined (map (node_words (read w).edition) (read w).slots)

edition_read : (w : List ℤ) → (read w).edition ≡ edition_of w
unfolding read
edition_read w = refl

pub nothing_is : (w : List ℤ) → valid_length w ≡ true → (stand (head_words (read w)) w 0 && stand (slots_words w) w head_size) ≡ nothing_else w
unfolding nothing_else words
nothing_is w r =
    let head = head_words (read w) in
    let rest = slots_words w in
    let here : 0 + length head ≡ head_size = omega (arith, head_size_lem (read w)) in
    let long : length (words (read w)) ≡ length w =
    words_size (read w) ∙ ap₂ (λ (e : Edition) (n : ℕ). head_size + slot_size e * n) (edition_read w) (read_slots w) ∙ sym (right_size w r) in
    sym (stand_append head rest w 0 (omega (arith, right_size w r, head_size_lem (read w)))
    ∙ ap (λ (k : ℕ). stand head w 0 && stand rest w k) here)
    ∙ stand_all (words (read w)) w long

-- the head's words stand, and each slot's
pub nothing_each : (w : List ℤ) → valid_length w ≡ true
    → (nothing_else w ≡ true)
    ↔ ((stand (head_words (read w)) w 0 ≡ true)
    × ((s : SlotNumber) → InPool w s → stand (node_words (edition_of w) (node_at (read w) s)) w (slot_start (edition_of w) s) ≡ true))
unfolding node_at read
nothing_each w r =
    let e = edition_of w in
    let ns = (read w).slots in
    let fits : head_size + slot_size e * length ns ≤ length w = slots_fit in (
      λ h. let q = and_both _ _ (nothing_is w r ∙ h) in (
        q.0,
        λ s p. parts_each (slot_size e) (node_words e) (node_size e) w head_size free_node ns fits q.1 (s.0 - 1)
            (omega (arith, p.low, p.high, read_slots w)),
      ),
      λ h. sym (nothing_is w r) ∙ both_and _ _ h.0 (parts_all (slot_size e) (node_words e) (node_size e) w head_size free_node ns fits
          (λ j l. let again : (slot (suc j)).0 - 1 ≡ j = omega arith in
          subst (λ (i : ℕ). stand (node_words e (get_or ns i free_node)) w (head_size + slot_size e * i) ≡ true) again
          (h.1 (slot (suc j)) (record { right = r; low = omega arith; high = omega (arith, read_slots w) })))),
    )
  where
    slots_fit : head_size + slot_size (edition_of w) * length (read w).slots ≤ length w
    slots_fit = omega (arith, right_size w r, ap (λ (n : ℕ). slot_size (edition_of w) * n) (read_slots w))

-- ---- a free slot

-- a slot whose words are those of a free one is free
pub zero_free : (w : List ℤ) (s : SlotNumber) → InPool w s → stand (node_words (edition_of w) free_node) w (slot_start (edition_of w) s) ≡ true
    → node_at (read w) s ≡ free_node
unfolding entries_at same natural
zero_free w s p h =
    let e = edition_of w in
    let q = and_both _ _ (sym (node_stands e free_node w (slot_start e s) (omega (arith, room p))) ∙ h) in
    let l : (node_at (read w) s).level ≡ 0 = slot_level p ∙ ap natural (sym (same_zero (word_at w (level_place e s)) q.0)) in
    let n : length (node_at (read w) s).entries ≡ 0 =
    slot_count_lem p ∙ ap (λ (z : ℤ). min (natural z) most) (sym (same_zero (word_at w (count_place e s)) (and_both _ _ q.1).0)) in
    let none = nothing (node_at (read w) s).entries n in
    λ i. record { level = l i; entries = none i }
  where
    same_zero : (z : ℤ) → same (pos 0) z ≡ true → pos 0 ≡ z
    same_zero z h = let q = and_both _ _ h in both_at_most (pos 0) z q.0 q.1
