-- A pool of 32-bit words stores records whose numbers such words hold: every number is a word of the pool. And a valid rectangle's coordinates
-- are far within 32 bits.
use mathlib.Core.Path.{◌≡◌, refl}
use mathlib.Core.Bool.{Bool, true, false}
use mathlib.Core.List.{List, [], ◌∷◌, map}
use Prim.Native.Nat.{ℕ, zero, suc}
use native.Mathlib.Omega.{arith}
use lib.ListN.{take, drop, get_or}
use lib.Dec.{ltb, eqb}
use lib.IntN.{ℤ, pos, negsuc}
use lib.Signed.{le_z, mag}
use borrow.Author.Tests.{leb-true, ltb-true}
use Rattle.rules.specs.declared.Edition.{Edition}
use Rattle.rules.specs.declared.Rect.{Rect}
use Rattle.rules.specs.declared.Record.{Record}
use Rattle.rules.specs.declared.Entry.{Entry}
use Rattle.rules.specs.Lists.{those, every, joined}
use Rattle.rules.specs.Numbers.{most, in_range}
use Rattle.rules.specs.Geometry.{valid}
use Rattle.rules.specs.Pool.{Node, record_of, number_of, is_leaf, stored}
use Rattle.rules.specs.Layout.{head_size, rect_size, entry_size, slot_head, slot_size, edition_of, slot_count, natural, word_at, runs, pointer_of, entry_of, node_of, read}
use Rattle.rules_laws.proofs.Bools.{and_both}
use Rattle.rules_laws.proofs.Places.{Among, Each, each_append, each_of}
use Rattle.search_laws.proofs.Site.{valid_ranged}
use Rattle.file_laws.specs.Bytes.{Word}

-- ---- parts of a list of which each member is so

module _ {A : Type 0} (P : A → Type 0) where
  each_take : (n : ℕ) (l : List A) → Each P l → Each P (take n l)
  each_take zero l a = tt
  each_take (suc n) [] a = tt
  each_take (suc n) (x ∷ l) a = (a.0, each_take n l a.1)

  each_drop : (n : ℕ) (l : List A) → Each P l → Each P (drop n l)
  each_drop zero l a = a
  each_drop (suc n) [] a = tt
  each_drop (suc n) (x ∷ l) a = each_drop n l a.1

  each_place : (d : A) → P d → (l : List A) (i : ℕ) → Each P l → P (get_or l i d)
  each_place d h [] i a = h
  each_place d h (x ∷ l) zero a = a.0
  each_place d h (x ∷ l) (suc i) a = each_place d h l i a.1

  each_those : (t : A → Bool) (l : List A) → Each P l → Each P (those t l)
  unfolding those
  each_those t [] a = tt
  each_those t (x ∷ l) a = go (t x) refl (each_those t l a.1)
    where
      go : (b : Bool) → t x ≡ b → Each P (those t l) → Each P (those t (x ∷ l))
      go true e r = rw e (a.0, r)
      go false e r = rw e r

module _ {A B : Type 0} (P : A → Type 0) (Q : B → Type 0) (f : A → B) (h : (x : A) → P x → Q (f x)) where
  pub each_map : (l : List A) → Each P l → Each Q (map f l)
  each_map [] a = tt
  each_map (x ∷ l) a = (h x a.0, each_map l a.1)

module _ {A B : Type 0} (P : A → Type 0) (Q : B → Type 0) (f : A → List B) (h : (x : A) → P x → Each Q (f x)) where
  each_joined : (l : List A) → Each P l → Each Q (joined (map f l))
  unfolding joined
  each_joined [] a = tt
  each_joined (x ∷ l) a = each_append Q (f x) (joined (map f l)) (h x a.0) (each_joined l a.1)

-- ---- the numbers stored

word_zero : Word (pos 0)
word_zero = record { small = omega arith }

each_run : (width n : ℕ) (l : List ℤ) → Each Word l → Each (Each Word) (runs width n l)
unfolding runs
each_run width zero l a = tt
each_run width (suc n) l a = (each_take Word width l a, each_run width n (drop width l) (each_drop Word width l a))

abbrev Numbered : Entry → Type 0
Numbered e = Word (number_of e).0

entry_numbered : (ed : Edition) (level : ℕ) (ws : List ℤ) → Each Word ws → Numbered (entry_of ed level ws)
unfolding number_of entry_of pointer_of word_at
entry_numbered ed level ws a = go (eqb level 1) refl
  where
    go : (b : Bool) → eqb level 1 ≡ b → Numbered (entry_of ed level ws)
    go true e = rw (pointer_of, e) (each_place Word (pos 0) word_zero ws rect_size a)
    go false e = rw (pointer_of, e) word_zero

node_numbered : (ed : Edition) (ws : List ℤ) → Each Word ws → Each Numbered (node_of ed ws).entries
unfolding node_of
node_numbered ed ws a =
    let level = natural (word_at ws 0) in
    let entries = runs (entry_size ed) most (drop slot_head ws) in
    each_map (Each Word) Numbered (entry_of ed level) (entry_numbered ed level) (take (natural (word_at ws 1)) entries)
    (each_take (Each Word) (natural (word_at ws 1)) entries (each_run (entry_size ed) most (drop slot_head ws) (each_drop Word slot_head ws a)))

pub stored_words : (w : List ℤ) → Each Word w → (r : Record) → Among r (stored (read w)) → Word r.number.0
unfolding stored read record_of
stored_words w a r m = each_of (λ (x : Record). Word x.number.0) all m
  where
    nodes : Each (λ (n : Node). Each Numbered n.entries) (read w).slots
    nodes =
        each_map (Each Word) (λ (n : Node). Each Numbered n.entries) (node_of (edition_of w)) (node_numbered (edition_of w))
        (runs (slot_size (edition_of w)) (slot_count w) (drop head_size w)) (each_run (slot_size (edition_of w)) (slot_count w) (drop head_size w) (each_drop Word head_size w a))

    all : Each (λ (x : Record). Word x.number.0) (stored (read w))
    all =
        each_map Numbered (λ (x : Record). Word x.number.0) record_of (λ e h. h)
        (joined (map (λ (n : Node). n.entries) (those is_leaf (read w).slots)))
        (each_joined (λ (n : Node). Each Numbered n.entries) Numbered (λ (n : Node). n.entries) (λ n h. h) (those is_leaf (read w).slots)
        (each_those (λ (n : Node). Each Numbered n.entries) is_leaf (read w).slots nodes))

-- ---- the coordinates of a valid rectangle

range_word : (z : ℤ) → in_range z ≡ true → Word z
unfolding in_range
range_word (pos n) h = record { small = omega (arith, leb-true n 1000000000 (and_both (le_z (negsuc 999999999) (pos n)) (le_z (pos n) (pos 1000000000)) h).1) }
range_word (negsuc n) h =
    record { small = omega (arith, leb-true n 999999999 (and_both (le_z (negsuc 999999999) (negsuc n)) (le_z (negsuc n) (pos 1000000000)) h).0) }

pub record RectWords (r : Rect) : Type 0 where
  pub lowX : Word r.lowX
  pub lowY : Word r.lowY
  pub highX : Word r.highX
  pub highY : Word r.highY

pub valid_words : (r : Rect) → valid r ≡ true → RectWords r
valid_words r v =
    let i = valid_ranged r v in
    record {
      lowX = range_word r.lowX i.lowX;
      lowY = range_word r.lowY i.lowY;
      highX = range_word r.highX i.highX;
      highY = range_word r.highY i.highY;
    }

-- ---- asked of words that are written out

pub fits_by : (w : List ℤ) → every (λ (z : ℤ). ltb (mag z) 2147483648) w ≡ true → Each Word w
unfolding every
fits_by [] h = tt
fits_by (z ∷ w) h =
    let q = and_both (ltb (mag z) 2147483648) (every (λ (y : ℤ). ltb (mag y) 2147483648) w) h in
    (record { small = ltb-true (mag z) 2147483648 q.0 }, fits_by w q.1)
