-- The owners of the records, a leaf at a time and an entry at a time. In edition 1 no entry has a word for one, and each is read as nobody.
use mathlib.Core.Path.{◌≡◌, refl, sym, ap, ap₂, ◌∙◌}
use mathlib.Core.Bool.{Bool, true, false, cond, ◌&&◌, and_assoc, and-true}
use mathlib.Core.List.{List, [], ◌∷◌, ◌++◌, map}
use Prim.Native.Nat.{ℕ, ◌<◌}
use native.Mathlib.Omega.{arith}
use lib.Dec.{eqb}
use lib.ListN.{length, get_or, take, drop}
use lib.IntN.{ℤ, pos}
use Rattle.rules.specs.declared.Edition.{Edition}
use Rattle.rules.specs.declared.Edition.TheVariants.{One, Two}
use Rattle.rules.specs.declared.SlotNumber.{SlotNumber}
use Rattle.rules.specs.declared.Owner.{Owner}
use Rattle.rules.specs.declared.Record.{Record}
use Rattle.rules.specs.declared.Entry.{Entry}
use Rattle.rules.specs.Lists.{those, every, joined, up_from, same}
use Rattle.rules.specs.Numbers.{most, good_owner}
use Rattle.rules.specs.Owners.{owner, nobody, owner_sound}
use Rattle.rules.specs.Pool.{Node, Pool, entry, no_entry, slot_numbers, node_at, entries_at, entry_at, entry_from, owner_of, record_of, is_leaf, stored}
use Rattle.rules.specs.Layout.{head_size, rect_size, entry_size, slot_head, slot_size, pointer_place, edition_of}
use Rattle.rules.specs.Layout.{slot_count, natural, word_at, runs, rect_of, pointer_of, owner_at, entry_of, node_of, read}
use Rattle.rules.specs.Sound.{owners_sound}
use Rattle.rules_laws.proofs.Bools.{both_and}
use Rattle.rules_laws.proofs.Everies.{every_is, every_both}
use Rattle.rules_laws.proofs.Places.{Among, place_of_lem, length_up_from, get_d_up_from, up_from_among, map_up_from}
use Rattle.layout_laws.specs.Slots.{InPool}
use Rattle.layout_laws.proofs.Parts.{slot_pointer}
use Rattle.layout_laws.proofs.Written.{pointer_number, pointer_child}
use Rattle.nodes.specs.Reading.{pointed_owner}
use Rattle.nodes.proofs.Pointers.{owner_is}
use Rattle.sound_laws.proofs.Tests.{or_is}
use Rattle.sound_laws.proofs.Flat.{nodes_are}
use Rattle.sound.specs.Walked.{owned_entry, owned_node, owner_word_at, places_of, inner_unowned, owners_fit, owner_fits}
use Rattle.sound.proofs.Everies.{every_same}

-- ---- a leaf at a time

every_append : {A : Type 0} (p : A → Bool) (xs ys : List A) → every p (xs ++ ys) ≡ (every p xs && every p ys)
unfolding every
every_append p [] ys = refl
every_append p (x ∷ xs) ys = ap (λ (b : Bool). p x && b) (every_append p xs ys) ∙ sym (and_assoc (p x) (every p xs) (every p ys))

every_map : {A B : Type 0} (p : B → Bool) (f : A → B) (xs : List A) → every p (map f xs) ≡ every (λ x. p (f x)) xs
unfolding every
every_map p f [] = refl
every_map p f (x ∷ xs) = ap (λ (b : Bool). p (f x) && b) (every_map p f xs)

-- the entries of the leaves
abbrev leaf_entries : List Node → List Entry
leaf_entries ns = joined (map (λ (n : Node). n.entries) (those is_leaf ns))

module _ (good : Owner → Bool) where
  -- a node's owners, if it is a leaf, are all good
  abbrev leaf_good : Node → Bool
  leaf_good n = cond (is_leaf n) (every (λ (e : Entry). good (owner_of e)) n.entries) true

  leaves_good : (ns : List Node) → every (λ (e : Entry). good (owner_of e)) (leaf_entries ns) ≡ every leaf_good ns
  unfolding every those joined
  leaves_good [] = refl
  leaves_good (n ∷ ns) = go (is_leaf n) refl (leaves_good ns)
    where
      each : Entry → Bool
      each e = good (owner_of e)

      go : (t : Bool) → is_leaf n ≡ t → every each (leaf_entries ns) ≡ every leaf_good ns
          → every each (leaf_entries (n ∷ ns)) ≡ (leaf_good n && every leaf_good ns)
      go true e rest = rw e (every_append each n.entries (leaf_entries ns) ∙ ap (λ (b : Bool). every each n.entries && b) rest)
      go false e rest = rw e rest

  stored_good : (p : Pool) → every (λ (r : Record). good r.owner) (stored p) ≡ every leaf_good p.slots
  unfolding stored record_of
  stored_good p = every_map (λ (r : Record). good r.owner) record_of (leaf_entries p.slots) ∙ leaves_good p.slots

owners_of_lem : (p : Pool) (e : Edition) → p.edition ≡ e → owners_sound p ≡ every (leaf_good (owner_sound e)) p.slots
unfolding owners_sound
owners_of_lem p e h = ap (λ (d : Edition). every (λ (r : Record). owner_sound d r.owner) (stored p)) h ∙ stored_good (owner_sound e) p

-- ---- edition 2

owners_all : (w : List ℤ) → edition_of w ≡ Two → every owned_node (read w).slots ≡ owners_sound (read w)
unfolding read owned_node owned_entry owner_sound
owners_all w h = sym (owners_of_lem (read w) Two h)

-- each slot's owners are asked, and those of a node above the leaves
pub owners_two : (w : List ℤ) → edition_of w ≡ Two
    → every (owners_fit w) (slot_numbers (read w)) ≡ (owners_sound (read w) && every (inner_unowned w) (slot_numbers (read w)))
unfolding owners_fit
owners_two w h =
    let p = read w in
    every_both (λ s. owned_node (node_at p s)) (inner_unowned w) (slot_numbers p)
    ∙ ap (λ (b : Bool). b && every (inner_unowned w) (slot_numbers p))
    (sym (every_map owned_node (node_at p) (slot_numbers p)) ∙ ap (every owned_node) (nodes_are p) ∙ owners_all w h)

-- ---- edition 1

every_image : {A B : Type 0} (p : B → Bool) (f : A → B) → ((x : A) → p (f x) ≡ true) → (xs : List A) → every p (map f xs) ≡ true
unfolding every
every_image p f h [] = refl
every_image p f h (x ∷ xs) = both_and (p (f x)) (every p (map f xs)) (h x) (every_image p f h xs)

-- an entry that is read has no owner
nobody_read : (l : ℕ) (ws : List ℤ) → owner_of (entry_of One l ws) ≡ nobody
unfolding owner_of entry_of owner_at
nobody_read l ws = go (eqb l 1) refl
  where
    z : ℤ
    z = word_at ws rect_size

    go : (t : Bool) → eqb l 1 ≡ t → owner_of (entry (rect_of ws) (pointer_of l z (pos 0))) ≡ nobody
    go true e = rw (pointer_number l z (pos 0) e)
    go false e = rw (pointer_child l z (pos 0) e)

nobody_sound : owner_sound One nobody ≡ true
unfolding owner_sound same
nobody_sound = refl

nodes_nobody : (ws : List ℤ) → leaf_good (owner_sound One) (node_of One ws) ≡ true
unfolding node_of
nodes_nobody ws = go (is_leaf (node_of One ws)) (every_image each (entry_of One l) (λ x. ap (owner_sound One) (nobody_read l x) ∙ nobody_sound) parts)
  where
    l : ℕ
    l = natural (word_at ws 0)

    parts : List (List ℤ)
    parts = take (natural (word_at ws 1)) (runs (entry_size One) most (drop slot_head ws))

    each : Entry → Bool
    each e = owner_sound One (owner_of e)

    go : (t : Bool) → every each (map (entry_of One l) parts) ≡ true → cond t (every each (map (entry_of One l) parts)) true ≡ true
    go true h = h
    go false h = refl

-- so all records are nobody's
records_nobody : (w : List ℤ) → edition_of w ≡ One → owners_sound (read w) ≡ true
unfolding read
records_nobody w h =
    owners_of_lem (read w) One h
    ∙ ap (λ (e : Edition). every (leaf_good (owner_sound One)) (map (node_of e) (runs (slot_size e) (slot_count w) (drop head_size w)))) h
    ∙ every_image (leaf_good (owner_sound One)) (node_of One) nodes_nobody (runs (slot_size One) (slot_count w) (drop head_size w))

-- ---- the places of a slot

place_below : (n i : ℕ) → Among i (up_from 0 n) → i < n
place_below n i m =
    let q = place_of_lem m in
    let l : q.0 < n = omega (arith, q.1, length_up_from 0 n) in
    omega (arith, q.2 0, get_d_up_from 0 n q.0 0 l)

-- the words of an inner node's owners, a place at a time
module _ (w : List ℤ) (s : SlotNumber) where
  pub unowned_at : inner_unowned w s ≡ true → is_leaf (node_at (read w) s) ≡ false → (i : ℕ) → i < length (entries_at (read w) s)
      → same (pos 0) (owner_word_at w s i) ≡ true
  unfolding inner_unowned
  unowned_at h e i l =
      let zero : ℕ → Bool = λ j. same (pos 0) (owner_word_at w s j) in
      (every_is zero (places_of w s)).0 ((or_is (is_leaf (node_at (read w) s)) (every zero (places_of w s))).0 h e) i
      (up_from_among 0 (length (entries_at (read w) s)) i (omega arith) (omega arith))

  pub at_unowned : (is_leaf (node_at (read w) s) ≡ false → (i : ℕ) → i < length (entries_at (read w) s) → same (pos 0) (owner_word_at w s i) ≡ true)
      → inner_unowned w s ≡ true
  unfolding inner_unowned
  at_unowned h =
      let zero : ℕ → Bool = λ j. same (pos 0) (owner_word_at w s j) in
      (or_is (is_leaf (node_at (read w) s)) (every zero (places_of w s))).1 (λ e. (every_is zero (places_of w s)).1 (λ i m. h e i (place_below _ i m)))

-- in edition 1 there are none
no_word : (e : Edition) → e ≡ One → (ws : List ℤ) → same (pos 0) (owner_at e ws) ≡ true
unfolding owner_at same
no_word e h ws = ap (λ (d : Edition). same (pos 0) (owner_at d ws)) h

pub owners_one : (w : List ℤ) → edition_of w ≡ One → true ≡ (owners_sound (read w) && every (inner_unowned w) (slot_numbers (read w)))
owners_one w h =
    sym (both_and _ _ (records_nobody w h)
    ((every_is (inner_unowned w) (slot_numbers (read w))).1 (λ s m. at_unowned w s (λ e i l. no_word (edition_of w) h _))))

-- ---- an entry at a time

module _ (p : Pool) (s : SlotNumber) where
  leaf_owned : eqb (node_at p s).level 1 ≡ true → owned_node (node_at p s) ≡ every owned_entry (entries_at p s)
  unfolding owned_node is_leaf entries_at
  leaf_owned e = rw e

  inner_owned : eqb (node_at p s).level 1 ≡ false → owned_node (node_at p s) ≡ true
  unfolding owned_node is_leaf
  inner_owned e = rw e

module _ (w : List ℤ) (s : SlotNumber) where
  leaf_free : eqb (node_at (read w) s).level 1 ≡ true → inner_unowned w s ≡ true
  unfolding inner_unowned is_leaf
  leaf_free e = rw e

  inner_asked : eqb (node_at (read w) s).level 1 ≡ false
      → inner_unowned w s ≡ every (λ (i : ℕ). same (pos 0) (owner_word_at w s i)) (places_of w s)
  unfolding inner_unowned is_leaf
  inner_asked e = rw e

pub fits_leaf : (leaf : Bool) (o : ℤ) → leaf ≡ true → owner_fits leaf o ≡ good_owner (owner o)
unfolding owner_fits
fits_leaf leaf o e = rw e

pub fits_inner : (leaf : Bool) (o : ℤ) → leaf ≡ false → owner_fits leaf o ≡ same (pos 0) o
unfolding owner_fits
fits_inner leaf o e = rw e

-- the owner's word is that of the leaf's entry
owned_at : {w : List ℤ} {s : SlotNumber} → InPool w s → eqb (node_at (read w) s).level 1 ≡ true → (i : ℕ) → i < length (entries_at (read w) s)
    → good_owner (owner (owner_word_at w s i)) ≡ owned_entry (get_or (entries_at (read w) s) i no_entry)
unfolding owned_entry entry_at entry_from
owned_at {w} {s} k e i h =
    ap good_owner
    (sym (ap pointed_owner (slot_pointer k i h ∙ pointer_number (node_at (read w) s).level (word_at w (pointer_place (edition_of w) s i)) (owner_word_at w s i) e))
    ∙ owner_is (entry_at (read w) s i))

-- what is asked of the word at place i
abbrev pub fits_at : List ℤ → SlotNumber → ℕ → Bool
fits_at w s i = owner_fits (eqb (node_at (read w) s).level 1) (owner_word_at w s i)

pub fits_next : (w : List ℤ) (s : SlotNumber) (i : ℕ) → i < length (entries_at (read w) s) → fits_at w s i ≡ fits_at w s (get_or (places_of w s) i 0)
fits_next w s i h = ap (fits_at w s) (omega (arith, get_d_up_from 0 (length (entries_at (read w) s)) i 0 h))

-- .. of all of them
pub fits_all : {w : List ℤ} {s : SlotNumber} → InPool w s → every (fits_at w s) (places_of w s) ≡ owners_fit w s
unfolding owners_fit
fits_all {w} {s} k = go (eqb (node_at (read w) s).level 1) refl
  where
    l : ℕ
    l = (node_at (read w) s).level

    es : List Entry
    es = entries_at (read w) s

    entry_at_lem : ℕ → Entry
    entry_at_lem i = get_or es i no_entry

    go : (t : Bool) → eqb l 1 ≡ t → every (fits_at w s) (places_of w s) ≡ (owned_node (node_at (read w) s) && inner_unowned w s)
    go true e =
        every_same (fits_at w s) (λ i. owned_entry (entry_at_lem i)) (places_of w s)
        (λ i m. fits_leaf (eqb l 1) (owner_word_at w s i) e ∙ owned_at k e i (place_below (length es) i m))
        ∙ sym (every_map owned_entry entry_at_lem (places_of w s)) ∙ ap (every owned_entry) (map_up_from no_entry es)
        ∙ sym (ap₂ ◌&&◌ (leaf_owned (read w) s e) (leaf_free w s e) ∙ and-true (every owned_entry es))
    go false e =
        every_same (fits_at w s) (λ i. same (pos 0) (owner_word_at w s i)) (places_of w s) (λ i m. fits_inner (eqb l 1) (owner_word_at w s i) e)
        ∙ sym (ap₂ ◌&&◌ (inner_owned (read w) s e) (inner_asked w s e))
