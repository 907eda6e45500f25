-- What is written is read back: a node from its words, a pool from all of them. And a node written into its slot is the node put into
-- the pool.
use mathlib.Core.Path.{◌≡◌, refl, sym, ap, ap₂, subst, ◌∙◌}
use mathlib.Core.Bool.{Bool, true, false}
use mathlib.Core.List.{List, [], ◌∷◌, ◌++◌, map, append-nil}
use Prim.Native.Nat.{ℕ, zero, suc, ◌+◌, ◌*◌, ◌-◌, ◌≤◌, ◌<◌}
use native.Mathlib.Omega.{arith}
use lib.ListN.{length, get_or, set, take, drop, length-append, length-take, length-map, length-set}
use lib.Seq.{sets, length-sets, drop_at}
use lib.Dec.{eqb}
use lib.IntN.{ℤ, pos}
use Rattle.rules.specs.declared.Edition.{Edition}
use Rattle.rules.specs.declared.Edition.TheVariants.{One, Two}
use Rattle.rules.specs.declared.RecordNumber.{RecordNumber}
use Rattle.rules.specs.declared.SlotNumber.{SlotNumber}
use Rattle.rules.specs.declared.Pointer.{Pointer}
use Rattle.rules.specs.declared.Pointer.TheVariants.{Number, Child}
use Rattle.rules.specs.declared.Entry.{Entry}
use Rattle.rules.specs.Lists.{joined}
use Rattle.rules.specs.Pool.{Node, Pool, slot, number, node, no_entry, node_at, child_of, number_of, is_leaf, put_node, put_root, put_records}
use Rattle.rules.specs.Numbers.{most}
use Rattle.rules.specs.Lists.{same}
use Rattle.rules.specs.Owners.{edition_number, owner}
use Rattle.rules.specs.Layout.{head_size, edition_place, root_place, height_place, records_place, rect_size, entry_size, slot_head, slot_size, slot_start}
use Rattle.rules.specs.Layout.{slots_fitting, valid_size, edition_of, slot_count, valid_length, pointer_word, owner_word, owner_words, entry_words}
use Rattle.rules.specs.Layout.{padded, node_words, head_words, words, natural, word_at, runs, rect_of, pointer_of, owner_at, entry_of, node_of, read}
use Rattle.rules_laws.proofs.Places.{Each}
use Rattle.layout_laws.specs.Slots.{InPool, Fit, owner_kept, KindOf, KindAll}
use Rattle.layout_laws.proofs.Parts.{slot_words, slot_node, node_count, length_runs}
use Rattle.layout_laws.proofs.Runs.{zeros, Wide, wide_at_lem, map_wide, map_set, length_parts, runs_joined, sets_right, sets_all, sets_joined}
use Rattle.layout_laws.proofs.Padded.{placed, unplaced, placed_size, placed_is, placed_back}

-- ---- a node

-- a node that a slot of the edition can hold
pub record Fine (e : Edition) (n : Node) : Type 0 where
  pub few : length n.entries ≤ most
  pub kinds : Each (λ (x : Entry). KindOf e n.level x.pointer) n.entries

-- an owner is kept, and read back
owner_back : (e : Edition) (x : Entry) → owner_at e (entry_words e x) ≡ owner_kept e (owner_word x.pointer)
unfolding owner_at entry_words owner_words owner_kept word_at
owner_back One x = refl
owner_back Two x = refl

entry_back : (e : Edition) (l : ℕ) (x : Entry) → KindOf e l x.pointer → entry_of e l (entry_words e x) ≡ x
unfolding entry_of entry_words rect_of word_at
entry_back e l x k = λ i. record { rect = x.rect; pointer = (ap (pointer_of l (pointer_word x.pointer)) (owner_back e x) ∙ k) i }

entries_back : (e : Edition) (l : ℕ) (es : List Entry) → Each (λ (x : Entry). KindOf e l x.pointer) es → map (entry_of e l) (map (entry_words e) es) ≡ es
entries_back e l [] k = refl
entries_back e l (x ∷ es) k = ap₂ (λ (a : Entry) (b : List Entry). a ∷ b) (entry_back e l x k.0) (entries_back e l es k.1)

pub entry_size_lem : (e : Edition) (x : Entry) → length (entry_words e x) ≡ entry_size e
unfolding entry_words owner_words
entry_size_lem One x = refl
entry_size_lem Two x = refl

pub entry_wide : (e : Edition) (es : List Entry) → Wide (entry_size e) (map (entry_words e) es)
entry_wide e = map_wide (entry_size e) (entry_words e) (entry_size_lem e)

-- the words of a node's places: those of its entries, and zeros after them
abbrev pub place_words : Edition → List Entry → List ℤ
place_words e es = placed (entry_size e) most (entry_words e) (entry_size_lem e) es

-- how many words the places have that no entry is in
abbrev pub unused : Edition → List Entry → ℕ
unused e es = unplaced (entry_size e) most (entry_words e) (entry_size_lem e) es

pub padded_is : (e : Edition) (es : List Entry) → length es ≤ most → place_words e es ≡ joined (map (entry_words e) es) ++ zeros (unused e es)
padded_is e = placed_is (entry_size e) most (entry_words e) (entry_size_lem e)

pub node_size : (e : Edition) (n : Node) → length (node_words e n) ≡ slot_size e
unfolding node_words
node_size e n = omega (arith, placed_size (entry_size e) most (entry_words e) (entry_size_lem e) n.entries)

pub node_back : {e : Edition} {n : Node} → Fine e n → node_of e (node_words e n) ≡ n
unfolding node_of node_words natural word_at
node_back {e} {n} f = λ i. record { level = n.level; entries = same i }
  where
    same : map (entry_of e n.level) (take (length n.entries) (runs (entry_size e) most (place_words e n.entries))) ≡ n.entries
    same =
        ap (map (entry_of e n.level)) (placed_back (entry_size e) most (entry_words e) (entry_size_lem e) n.entries f.few)
        ∙ entries_back e n.level n.entries f.kinds

-- ---- a pool

-- a pool whose nodes its slots can hold
abbrev pub AllFine : Pool → Type 0
AllFine p = Each (Fine p.edition) p.slots

pub node_wide : (e : Edition) (ns : List Node) → Wide (slot_size e) (map (node_words e) ns)
node_wide e = map_wide (slot_size e) (node_words e) (node_size e)

nodes_back : (e : Edition) (ns : List Node) → Each (Fine e) ns → map (node_of e) (map (node_words e) ns) ≡ ns
nodes_back e [] f = refl
nodes_back e (n ∷ ns) f = ap₂ (λ (a : Node) (b : List Node). a ∷ b) (node_back f.0) (nodes_back e ns f.1)

pub head_size_lem : (p : Pool) → length (head_words p) ≡ head_size
unfolding head_words padded
head_size_lem p = refl

slots_after_head : (p : Pool) → drop head_size (words p) ≡ joined (map (node_words p.edition) p.slots)
unfolding words
slots_after_head p = drop_at (head_words p) (joined (map (node_words p.edition) p.slots)) head_size (head_size_lem p)

-- word 0 tells the edition
edition_word : (p : Pool) → word_at (words p) edition_place ≡ pos (edition_number p.edition)
unfolding words head_words padded word_at
edition_word p = refl

edition_back : (e : Edition) (w : List ℤ) → word_at w edition_place ≡ pos (edition_number e) → edition_of w ≡ e
unfolding edition_of edition_number same
edition_back One w q = rw (edition_of, q) refl
edition_back Two w q = rw (edition_of, q) refl

pub words_edition : (p : Pool) → edition_of (words p) ≡ p.edition
words_edition p = edition_back p.edition (words p) (edition_word p)

-- as many slots as fit
slots_fit : (e : Edition) (n m : ℕ) → n ≡ head_size + slot_size e * m → slots_fitting e n ≡ m
unfolding slots_fitting
slots_fit One n m q = omega arith
slots_fit Two n m q = omega arith

module _ (p : Pool) where
  abbrev slot_lists : List (List ℤ)
  slot_lists = map (node_words p.edition) p.slots

  lists : length slot_lists ≡ length p.slots
  lists = length-map p.slots (node_words p.edition)

  pub words_size : length (words p) ≡ head_size + slot_size p.edition * length p.slots
  unfolding words
  words_size =
      omega (
        arith,
        length-append (head_words p) (joined slot_lists),
        head_size_lem p,
        length_parts (slot_size p.edition) (node_words p.edition) (node_size p.edition) p.slots,
      )

  pub words_slots : slot_count (words p) ≡ length p.slots
  unfolding slot_count
  words_slots = ap (λ (e : Edition). slots_fitting e (length (words p))) (words_edition p) ∙ slots_fit p.edition (length (words p)) (length p.slots) words_size

  slots_back : AllFine p → (e : Edition) → e ≡ p.edition → map (node_of e) (runs (slot_size e) (slot_count (words p)) (drop head_size (words p))) ≡ p.slots
  slots_back f e q =
      ap (λ (x : Edition). map (node_of x) (runs (slot_size x) (slot_count (words p)) (drop head_size (words p)))) q
      ∙ ap (map (node_of p.edition))
      (ap₂ (runs (slot_size p.edition)) (words_slots ∙ sym lists) (slots_after_head p ∙ sym (append-nil (joined slot_lists)))
      ∙ runs_joined (slot_size p.edition) slot_lists (node_wide p.edition p.slots) [])
      ∙ nodes_back p.edition p.slots f

  pub read_words : AllFine p → read (words p) ≡ p
  unfolding read words head_words padded natural word_at
  read_words f = λ i. record {
    edition = words_edition p i;
    root = p.root;
    height = p.height;
    records = p.records;
    slots = slots_back f (edition_of (words p)) (words_edition p) i;
  }

-- ---- a node written into its slot

pub same_head : (p : Pool) (s : SlotNumber) (n : Node) → head_words p ≡ head_words (put_node p s n)
unfolding put_node head_words
same_head p s n = refl

pub words_put : (p : Pool) (s : SlotNumber) (n : Node) → 1 ≤ s.0 → s.0 ≤ length p.slots
    → sets (words p) (slot_start p.edition s) (node_words p.edition n) ≡ words (put_node p s n)
unfolding words put_node
words_put p s n low high =
    let e = p.edition in
    let ns = node_words e n in
    let ls = map (node_words e) p.slots in
    let m = s.0 - 1 in
    let inside : m < length ls = omega (arith, length-map p.slots (node_words e)) in
    let here : slot_start e s ≡ length (head_words p) + (slot_size e * m + 0) = omega (arith, head_size_lem p) in
    let fits : 0 + length ns ≤ slot_size e = omega (arith, node_size e n) in
    let whole : length ns ≡ length (get_or ls m []) = node_size e n ∙ sym (wide_at_lem (slot_size e) ls m (node_wide e p.slots) inside) in
    ap (λ (k : ℕ). sets (head_words p ++ joined ls) k ns) here
    ∙ sets_right ns (head_words p) (joined ls) (slot_size e * m + 0)
    ∙ ap (λ (l : List ℤ). head_words p ++ l)
    (sets_joined (slot_size e) ls (node_wide e p.slots) m 0 ns inside fits
    ∙ ap joined (ap (set ls m) (sets_all (get_or ls m []) ns whole) ∙ map_set (node_words e) p.slots m n))
    ∙ ap (λ (h : List ℤ). h ++ joined (map (node_words e) (set p.slots m n))) (same_head p s n)

-- ---- what is read

number_word : (z o : ℤ) → pointer_word (Number (number z) (owner o)) ≡ z
unfolding pointer_word
number_word z o = refl

owner_of_number : (z o : ℤ) → owner_word (Number (number z) (owner o)) ≡ o
unfolding owner_word
owner_of_number z o = refl

child_word : (z : ℤ) → Child (slot (natural (pointer_word (Child (slot (natural z)))))) ≡ Child (slot (natural z))
unfolding pointer_word natural
child_word z = refl

-- the length and word 0 alone decide whether it is valid
pub right_same : (v w : List ℤ) → length v ≡ length w → edition_of v ≡ edition_of w → valid_length w ≡ true → valid_length v ≡ true
unfolding valid_length
right_same v w long same r = ap₂ valid_size same long ∙ r

pub pointer_number : (l : ℕ) (z o : ℤ) → eqb l 1 ≡ true → pointer_of l z o ≡ Number (number z) (owner o)
unfolding pointer_of
pointer_number l z o e = rw (pointer_of, e)

pub pointer_child : (l : ℕ) (z o : ℤ) → eqb l 1 ≡ false → pointer_of l z o ≡ Child (slot (natural z))
unfolding pointer_of
pointer_child l z o e = rw (pointer_of, e)

-- what an entry of the edition has for an owner, it keeps
pub owner_kept_lem : (e : Edition) (ws : List ℤ) → owner_kept e (owner_at e ws) ≡ owner_at e ws
unfolding owner_kept owner_at
owner_kept_lem One ws = refl
owner_kept_lem Two ws = refl

-- a pointer that is read is of its level's kind
pointer_kind : (e : Edition) (l : ℕ) (z : ℤ) (ws : List ℤ) → KindOf e l (pointer_of l z (owner_at e ws))
pointer_kind e l z ws = go (eqb l 1) refl
  where
    o : ℤ
    o = owner_at e ws

    kept : Pointer → Pointer
    kept q = pointer_of l (pointer_word q) (owner_kept e (owner_word q))

    go : (t : Bool) → eqb l 1 ≡ t → kept (pointer_of l z o) ≡ pointer_of l z o
    go true q =
        ap kept (pointer_number l z o q)
        ∙ ap₂ (pointer_of l) (number_word z o) (ap (owner_kept e) (owner_of_number z o) ∙ owner_kept_lem e ws)
    go false q =
        let child = Child (slot (natural z)) in
        ap kept (pointer_child l z o q) ∙ pointer_child l (pointer_word child) (owner_kept e (owner_word child)) q
        ∙ child_word z ∙ sym (pointer_child l z o q)

entry_kinds : (e : Edition) (l : ℕ) (xs : List (List ℤ)) → Each (λ (x : Entry). KindOf e l x.pointer) (map (entry_of e l) xs)
unfolding entry_of
entry_kinds e l [] = tt
entry_kinds e l (x ∷ xs) = (pointer_kind e l (word_at x rect_size) x, entry_kinds e l xs)

read_kinds : (e : Edition) (ws : List ℤ) → Each (λ (x : Entry). KindOf e (node_of e ws).level x.pointer) (node_of e ws).entries
unfolding node_of
read_kinds e ws = entry_kinds e (natural (word_at ws 0)) (take (natural (word_at ws 1)) (runs (entry_size e) most (drop slot_head ws)))

pub node_fine : (e : Edition) (ws : List ℤ) → Fine e (node_of e ws)
node_fine e ws = record { few = omega (arith, node_count e ws); kinds = read_kinds e ws }

nodes_fine : (e : Edition) (ls : List (List ℤ)) → Each (Fine e) (map (node_of e) ls)
nodes_fine e [] = tt
nodes_fine e (l ∷ ls) = (node_fine e l, nodes_fine e ls)

pub read_fine : (w : List ℤ) → AllFine (read w)
unfolding read
read_fine w = nodes_fine (edition_of w) (runs (slot_size (edition_of w)) (slot_count w) (drop head_size w))

pub read_slots : (w : List ℤ) → length (read w).slots ≡ slot_count w
unfolding read
read_slots w =
    let e = edition_of w in
    length-map (runs (slot_size e) (slot_count w) (drop head_size w)) (node_of e) ∙ length_runs (slot_size e) (slot_count w) (drop head_size w)

pub each_set : {A : Type 0} (P : A → Type 0) (xs : List A) (i : ℕ) (y : A) → Each P xs → P y → Each P (set xs i y)
each_set P [] i y a f = tt
each_set P (x ∷ xs) zero y a f = (f, a.1)
each_set P (x ∷ xs) (suc i) y a f = (a.0, each_set P xs i y a.1 f)

-- the first n entries of an array make a fine node
kinds_taken : (e : Edition) (l : ℕ) (es : List Entry) (n : ℕ) → ((i : ℕ) → i < n → KindOf e l (get_or es i no_entry).pointer)
    → Each (λ (x : Entry). KindOf e l x.pointer) (take n es)
kinds_taken e l es zero k = tt
kinds_taken e l [] (suc n) k = tt
kinds_taken e l (x ∷ es) (suc n) k = (k 0 (omega arith), kinds_taken e l es n (λ i h. k (suc i) (omega arith)))

pub fine_node : (e : Edition) (l : ℕ) (es : List Entry) (n : ℕ) → n ≤ most → KindAll e l es n → Fine e (node l (take n es))
fine_node e l es n h k = record { few = omega (arith, length-take n es); kinds = kinds_taken e l es n k.kind }

-- the node in a slot
pub fine_at : {w : List ℤ} {s : SlotNumber} → InPool w s → Fine (edition_of w) (node_at (read w) s)
fine_at {w} {s} i = subst (Fine (edition_of w)) (sym (slot_node i)) (node_fine (edition_of w) (slot_words w s))

-- what is read for the edition, and that it is as it was
pub edition_is : (w : List ℤ) → edition_of w ≡ (read w).edition
unfolding read
edition_is w = refl

pub edition_put : (w v : List ℤ) (s : SlotNumber) (n : Node) → read v ≡ put_node (read w) s n → edition_of v ≡ edition_of w
unfolding read put_node
edition_put w v s n e = ap (λ (p : Pool). p.edition) e

-- ---- a pool's words stay a pool's words

-- words that are a fine pool's, and of the length that the pool's words had, are a pool's
module _ {w v : List ℤ} (f : Fit w) (q : Pool) (size : length v ≡ length w) (is : v ≡ words q) (same : q.edition ≡ edition_of w) (fine : AllFine q) where
  words_read : read v ≡ q
  words_read = ap read is ∙ read_words q fine

  words_fit : Fit v
  words_fit = record { right = right_same v w size (ap edition_of is ∙ words_edition q ∙ same) f.right; same = ap words words_read ∙ sym is }

module _ {w : List ℤ} {s : SlotNumber} (f : Fit w) (i : InPool w s) {n : Node} (g : Fine (edition_of w) n) where
  abbrev written : List ℤ
  written = sets w (slot_start (edition_of w) s) (node_words (edition_of w) n)

  edition_read : (read w).edition ≡ edition_of w
  unfolding read
  edition_read = refl

  pub put_is : sets w (slot_start (edition_of w) s) (node_words (edition_of w) n) ≡ words (put_node (read w) s n)
  put_is =
      ap (λ (x : List ℤ). sets x (slot_start (edition_of w) s) (node_words (edition_of w) n)) (sym f.same)
      ∙ ap (λ (e : Edition). sets (words (read w)) (slot_start e s) (node_words e n)) (sym edition_read)
      ∙ words_put (read w) s n i.low (omega (arith, i.high, read_slots w))

  put_fine : AllFine (put_node (read w) s n)
  unfolding put_node read
  put_fine = each_set (Fine (edition_of w)) (read w).slots (s.0 - 1) n (read_fine w) g

  put_edition : (put_node (read w) s n).edition ≡ edition_of w
  unfolding put_node read
  put_edition = refl

  put_long : length written ≡ length w
  put_long = length-sets w (slot_start (edition_of w) s) (node_words (edition_of w) n)

  pub put_read : read (sets w (slot_start (edition_of w) s) (node_words (edition_of w) n)) ≡ put_node (read w) s n
  put_read = words_read f (put_node (read w) s n) put_long put_is put_edition put_fine

  pub put_fit : Fit (sets w (slot_start (edition_of w) s) (node_words (edition_of w) n))
  put_fit = words_fit f (put_node (read w) s n) put_long put_is put_edition put_fine

-- ---- a child read

pub child_is : (e : Entry) (n : ℕ) (z : ℤ) → e.pointer ≡ Child (slot (natural z)) → n ≡ natural z → slot n ≡ child_of e
unfolding child_of
child_is e n z q h = ap slot h ∙ sym (ap child_of_lem q)
  where
    child_of_lem : Pointer → SlotNumber
    child_of_lem = elim [ Number m o ↦ slot 0 | Child s ↦ s ]

pub number_of_word : (e : Entry) (z o : ℤ) → e.pointer ≡ Number (number z) (owner o) → number z ≡ number_of e
unfolding number_of
number_of_word e z o q = sym (ap number_of_lem q)
  where
    number_of_lem : Pointer → RecordNumber
    number_of_lem = elim [ Number m o ↦ m | Child s ↦ number (pos 0) ]

pub leaf_not : (n : Node) → is_leaf n ≡ false → eqb n.level 1 ≡ false
unfolding is_leaf
leaf_not n e = e

-- ---- the head

root_words : (p : Pool) (s : SlotNumber) (h : ℕ) → set (set (words p) root_place (pos s.0)) height_place (pos h) ≡ words (put_root p s h)
unfolding words head_words padded put_root
root_words p s h = refl

records_words : (p : Pool) (n : ℕ) → set (words p) records_place (pos n) ≡ words (put_records p n)
unfolding words head_words padded put_records
records_words p n = refl

module _ {w : List ℤ} (f : Fit w) (s : SlotNumber) (h : ℕ) where
  abbrev head_set : List ℤ → List ℤ
  head_set x = set (set x root_place (pos s.0)) height_place (pos h)

  abbrev rooted : Pool
  rooted = put_root (read w) s h

  root_is : head_set w ≡ words rooted
  root_is = ap (λ (x : List ℤ). head_set x) (sym f.same) ∙ root_words (read w) s h

  root_size : length (head_set w) ≡ length w
  root_size = length-set (set w root_place (pos s.0)) height_place (pos h) ∙ length-set w root_place (pos s.0)

  root_edition : rooted.edition ≡ edition_of w
  unfolding put_root read
  root_edition = refl

  root_fine : AllFine rooted
  unfolding put_root
  root_fine = read_fine w

  pub root_read : read (head_set w) ≡ put_root (read w) s h
  root_read = words_read f rooted root_size root_is root_edition root_fine

  pub root_fit : Fit (head_set w)
  root_fit = words_fit f rooted root_size root_is root_edition root_fine

module _ {w : List ℤ} (f : Fit w) (n : ℕ) where
  abbrev counted : Pool
  counted = put_records (read w) n

  abbrev count_set : List ℤ
  count_set = set w records_place (pos n)

  records_is : count_set ≡ words counted
  records_is = ap (λ (x : List ℤ). set x records_place (pos n)) (sym f.same) ∙ records_words (read w) n

  records_edition : counted.edition ≡ edition_of w
  unfolding put_records read
  records_edition = refl

  records_fine : AllFine counted
  unfolding put_records
  records_fine = read_fine w

  pub records_read : read (set w records_place (pos n)) ≡ put_records (read w) n
  records_read = words_read f counted (length-set w records_place (pos n)) records_is records_edition records_fine

  pub records_fit : Fit (set w records_place (pos n))
  records_fit = words_fit f counted (length-set w records_place (pos n)) records_is records_edition records_fine
