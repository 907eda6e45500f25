-- A frame is a request where its length is that of its kind, and its words are where the code finds them.
use mathlib.Core.Path.{◌≡◌, refl, sym, ap, subst, ◌∙◌}
use mathlib.Core.Bool.{Bool, true, false, ◌&&◌, ◌||◌}
use mathlib.Core.List.{List, [], ◌∷◌}
use Rattle.std.specs.Prelude.{None, Some}
use mathlib.Core.Logic.{◌⊎◌, inl, inr}
use Prim.Native.Nat.{ℕ, zero, suc, ◌+◌, ◌*◌, ◌-◌, ◌≤◌, ◌<◌}
use native.Mathlib.Omega.{arith}
use native.Mathlib.Decide.{dec_le, ℕ_discrete}
use lib.ListN.{length, take, drop, length-drop}
use lib.Seq.{length-take-le}
use lib.Dec.{leb, eqb}
use lib.IntN.{ℤ, pos}
use borrow.Author.Tests.{le-leb, lt-leb, eq-eqb, ne_eqb}
use Rattle.rules.specs.declared.Rect.{Rect}
use Rattle.rules.specs.declared.Request.{Request}
use Rattle.rules.specs.Pool.{number, rectangle}
use Rattle.rules.specs.Geometry.{no_rect}
use Rattle.rules.specs.Layout.{word_at}
use Rattle.rules.specs.Lists.{same}
use Rattle.rules.specs.Answers.{Row, row, first_row}
use Rattle.rules.specs.Request.{asked}
use Rattle.rules.specs.Call.{is_request}
use Rattle.rules.specs.Frames.{Frame, word_values, rect_in, request_in, of_kind, window_in, frame_request}
use Rattle.frames.specs.declared.FrameKind.{FrameKind}
use Rattle.frames.specs.declared.FrameKind.TheVariants.{Insert, Delete, Search, SearchInside, SearchEnclosing}
use Rattle.frames.specs.Reading.{kind_number, search_kind, kind_length, some_length}
use Rattle.frames.specs.Places.{word_from, rect_of_bytes, change_from, update_from, search_from, request_from}
use Rattle.frames.proofs.Words.{word_in}

pub true_false : true ≡ false → ⊥
true_false e = let z : ◌≡◌ {A = ℕ} 0 1 = cc in omega arith

-- ---- the length of a kind

pub length_1 : (k : ℕ) → k ≡ 1 → kind_length k ≡ 22
unfolding kind_length
length_1 k e = rw (kind_length, e)

pub length_2 : (k : ℕ) → k ≡ 2 → kind_length k ≡ 22
unfolding kind_length
length_2 k e = rw (kind_length, e)

pub length_3 : (k : ℕ) → k ≡ 3 → kind_length k ≡ 38
unfolding kind_length
length_3 k e = rw (kind_length, e)

-- a search is of kind 4, 5 or 6
searches : (k : ℕ) → 4 ≤ k → k ≤ 6 → search_kind k ≡ true
unfolding search_kind
searches k l h = rw (search_kind, le-leb 4 k l, le-leb k 6 h)

searches_not : (k : ℕ) → (4 ≤ k → 6 < k) → search_kind k ≡ false
unfolding search_kind
searches_not k s = go (dec_le 4 k)
  where
    go : Dec (4 ≤ k) → (leb 4 k && leb k 6) ≡ false
    go (no l) = rw (lt-leb 4 k (omega arith))
    go (yes l) = rw (le-leb 4 k l, lt-leb k 6 (s l))

-- a kind that is none of the three
pub past_searches : (k : ℕ) → (k ≡ 4 → ⊥) → (k ≡ 5 → ⊥) → (k ≡ 6 → ⊥) → 4 ≤ k → 6 < k
past_searches k a b c l = omega arith

pub length_search : (k : ℕ) → 4 ≤ k → k ≤ 6 → kind_length k ≡ 18
unfolding kind_length
length_search k l h =
    rw (kind_length, ne_eqb k 1 (λ q. omega arith), ne_eqb k 2 (λ q. omega arith), ne_eqb k 3 (λ q. omega arith), searches k l h)

pub length_none : (k : ℕ) → (k ≡ 1 → ⊥) → (k ≡ 2 → ⊥) → (k ≡ 3 → ⊥) → (4 ≤ k → 6 < k) → kind_length k ≡ 0
unfolding kind_length
length_none k a b c s = rw (kind_length, ne_eqb k 1 a, ne_eqb k 2 b, ne_eqb k 3 c, searches_not k s)

-- which kind it is
pub data Which (k : ℕ) : Type 0 where
  insert : k ≡ 1 → Which k
  delete : k ≡ 2 → Which k
  update : k ≡ 3 → Which k
  searching : 4 ≤ k → k ≤ 6 → Which k
  unknown : kind_length k ≡ 0 → Which k

pub which : (k : ℕ) → Which k
which k = go (ℕ_discrete k 1) (ℕ_discrete k 2) (ℕ_discrete k 3) (dec_le 4 k) (dec_le k 6)
  where
    go : Dec (k ≡ 1) → Dec (k ≡ 2) → Dec (k ≡ 3) → Dec (4 ≤ k) → Dec (k ≤ 6) → Which k
    go (yes a) b c l h = insert a
    go (no a) (yes b) c l h = delete b
    go (no a) (no b) (yes c) l h = update c
    go (no a) (no b) (no c) (yes l) (yes h) = searching l h
    go (no a) (no b) (no c) (yes l) (no h) = unknown (length_none k a b c (λ s. omega arith))
    go (no a) (no b) (no c) (no l) h = unknown (length_none k a b c (λ s. absurd (l s)))

-- what is left when the others are ruled out
pub only_insert : (k : ℕ) → 0 < kind_length k → (k ≡ 3 → ⊥) → (4 ≤ k → 6 < k) → (k ≡ 2 → ⊥) → k ≡ 1
only_insert k h a b c = go (which k)
  where
    go : Which k → k ≡ 1
    go (insert e) = e
    go (delete e) = absurd (c e)
    go (update e) = absurd (a e)
    go (searching l m) = absurd (omega (arith, b l))
    go (unknown l) = absurd (omega arith)

pub length_small : (k : ℕ) → kind_length k ≤ 38
length_small k = go (which k)
  where
    go : Which k → kind_length k ≤ 38
    go (insert e) = let l = length_1 k e in omega arith
    go (delete e) = let l = length_2 k e in omega arith
    go (update e) = let l = length_3 k e in omega arith
    go (searching l m) = omega (arith, length_search k l m)
    go (unknown l) = omega arith

pub length_least : (k : ℕ) → 0 < kind_length k → 18 ≤ kind_length k
length_least k h = go (which k)
  where
    go : Which k → 18 ≤ kind_length k
    go (insert e) = let l = length_1 k e in omega arith
    go (delete e) = let l = length_2 k e in omega arith
    go (update e) = let l = length_3 k e in omega arith
    go (searching l m) = omega (arith, length_search k l m)
    go (unknown l) = absurd (omega arith)

-- a length that some kind has, and one that none has
pub some_least : (n : ℕ) → some_length n ≡ true → 18 ≤ n
unfolding some_length
some_least n s = go (dec_le 18 n) s
  where
    go : Dec (18 ≤ n) → (eqb n 18 || eqb n 22 || eqb n 38) ≡ true → 18 ≤ n
    go (yes h) t = h
    go (no h) t =
        absurd (true_false (sym t ∙ rw (ne_eqb n 18 (λ q. omega arith), ne_eqb n 22 (λ q. omega arith), ne_eqb n 38 (λ q. omega arith))))

pub some_18 : some_length 18 ≡ true
unfolding some_length
some_18 = refl

pub some_22 : some_length 22 ≡ true
unfolding some_length
some_22 = refl

pub some_38 : some_length 38 ≡ true
unfolding some_length
some_38 = refl

pub some_kind : (n : ℕ) → (n ≡ 18) ⊎ ((n ≡ 22) ⊎ (n ≡ 38)) → some_length n ≡ true
some_kind n (inl e) = ap some_length e ∙ some_18
some_kind n (inr (inl e)) = ap some_length e ∙ some_22
some_kind n (inr (inr e)) = ap some_length e ∙ some_38

pub some_none : (n : ℕ) → (n ≡ 18 → ⊥) → (n ≡ 22 → ⊥) → (n ≡ 38 → ⊥) → some_length n ≡ false
unfolding some_length
some_none n a b c = rw (some_length, ne_eqb n 18 a, ne_eqb n 22 b, ne_eqb n 38 c)

pub no_such : (n k : ℕ) → 2 ≤ n → some_length n ≡ false → kind_length k ≡ n → ⊥
no_such n k h s e = go (which k)
  where
    go : Which k → ⊥
    go (insert q) = true_false (sym some_22 ∙ ap some_length (sym (length_1 k q) ∙ e) ∙ s)
    go (delete q) = true_false (sym some_22 ∙ ap some_length (sym (length_2 k q) ∙ e) ∙ s)
    go (update q) = true_false (sym some_38 ∙ ap some_length (sym (length_3 k q) ∙ e) ∙ s)
    go (searching l m) = true_false (sym some_18 ∙ ap some_length (sym (length_search k l m) ∙ e) ∙ s)
    go (unknown l) = omega arith

-- ---- a frame of the wrong length, or of no kind

not_kind : (f : Frame) (k n : ℕ) → (f.kind ≡ k → length f.body ≡ 4 * n → ⊥) → of_kind f k n ≡ false
unfolding of_kind
not_kind f k n h = go (ℕ_discrete f.kind k) (ℕ_discrete (length f.body) (4 * n))
  where
    go : Dec (f.kind ≡ k) → Dec (length f.body ≡ 4 * n) → (eqb f.kind k && eqb (length f.body) (4 * n)) ≡ false
    go (no a) b = rw (ne_eqb f.kind k a)
    go (yes a) (no b) = rw (eq-eqb f.kind k a, ne_eqb (length f.body) (4 * n) b)
    go (yes a) (yes b) = absurd (h a b)

is_kind : (f : Frame) (k n : ℕ) → f.kind ≡ k → length f.body ≡ 4 * n → of_kind f k n ≡ true
unfolding of_kind
is_kind f k n a b = rw (eq-eqb f.kind k a, eq-eqb (length f.body) (4 * n) b)

pub request_none : (f : Frame) → (kind_length f.kind ≡ 2 + length f.body → ⊥) → frame_request f ≡ None
unfolding frame_request first_row
request_none f h =
    let r1 = not_kind f 1 5 (λ a b. h (length_1 f.kind a ∙ omega arith)) in
    let r2 = not_kind f 2 5 (λ a b. h (length_2 f.kind a ∙ omega arith)) in
    let r3 = not_kind f 3 9 (λ a b. h (length_3 f.kind a ∙ omega arith)) in
    let r4 = no_search 4 (omega arith) (omega arith) in
    let r5 = no_search 5 (omega arith) (omega arith) in
    let r6 = no_search 6 (omega arith) (omega arith) in
    rw (frame_request, first_row, r1, first_row, r2, first_row, r3, first_row, r4, first_row, r5, first_row, r6, first_row)
  where
    no_search : (k : ℕ) → 4 ≤ k → k ≤ 6 → of_kind f k 4 ≡ false
    no_search k l m = not_kind f k 4 (λ a b. h (length_search f.kind (omega arith) (omega arith) ∙ omega arith))

-- ---- a frame of a valid length

-- the frame whose kind is k and whose words follow byte 4
abbrev pub frame_from : ℕ → ℕ → List ℕ → Frame
frame_from k n bs = record { kind = k; body = take (4 * n) (drop 4 bs) }

body_length : (n : ℕ) (bs : List ℕ) → 4 + 4 * n ≤ length bs → length (take (4 * n) (drop 4 bs)) ≡ 4 * n
body_length n bs h = length-take-le (4 * n) (drop 4 bs) (omega (arith, length-drop 4 bs))

rect_in_lem : (bs : List ℕ) (n i : ℕ) → i + 3 < n → rect_in (word_values n (take (4 * n) (drop 4 bs))) i ≡ rect_of_bytes bs (4 + 4 * i)
unfolding rect_in rect_of_bytes
rect_in_lem bs n i h =
    let e1 : 4 + 4 * (i + 1) ≡ 4 + 4 * i + 4 = omega arith in
    let e2 : 4 + 4 * (i + 2) ≡ 4 + 4 * i + 8 = omega arith in
    let e3 : 4 + 4 * (i + 3) ≡ 4 + 4 * i + 12 = omega arith in
    rw (word_in bs n i (omega arith), word_in bs n (i + 1) (omega arith), word_in bs n (i + 2) (omega arith), word_in bs n (i + 3) h, e1, e2, e3)

change_words : (k : ℤ) (bs : List ℕ)
    → request_in k (word_at (word_values 5 (take 20 (drop 4 bs))) 0) (rect_in (word_values 5 (take 20 (drop 4 bs))) 1) no_rect ≡ change_from k bs
unfolding change_from
change_words k bs = rw (word_in bs 5 0 (omega arith), rect_in_lem bs 5 1 (omega arith))

insert_is : (bs : List ℕ) → 24 ≤ length bs → frame_request (frame_from 1 5 bs) ≡ Some (change_from (pos 1) bs)
unfolding frame_request first_row
insert_is bs h =
    rw (frame_request, first_row, is_kind (frame_from 1 5 bs) 1 5 refl (body_length 5 bs (omega arith))) (ap Some (change_words (pos 1) bs))

delete_is : (bs : List ℕ) → 24 ≤ length bs → frame_request (frame_from 2 5 bs) ≡ Some (change_from (pos 2) bs)
unfolding frame_request first_row
delete_is bs h =
    let r1 = not_kind (frame_from 2 5 bs) 1 5 (λ a b. omega arith) in
    rw (frame_request, first_row, r1, first_row, is_kind (frame_from 2 5 bs) 2 5 refl (body_length 5 bs (omega arith))) (ap Some (change_words (pos 2) bs))

update_is : (bs : List ℕ) → 40 ≤ length bs → frame_request (frame_from 3 9 bs) ≡ Some (update_from bs)
unfolding frame_request first_row update_from
update_is bs h =
    let r1 = not_kind (frame_from 3 9 bs) 1 5 (λ a b. omega arith) in
    let r2 = not_kind (frame_from 3 9 bs) 2 5 (λ a b. omega arith) in
    rw (frame_request, first_row, r1, first_row, r2, first_row, is_kind (frame_from 3 9 bs) 3 9 refl (body_length 9 bs (omega arith)))
    (rw (word_in bs 9 0 (omega arith), rect_in_lem bs 9 1 (omega arith), rect_in_lem bs 9 5 (omega arith)))

search_words : (k : ℤ) (bs : List ℕ) → window_in k (take 16 (drop 4 bs)) ≡ search_from k bs
unfolding window_in search_from
search_words k bs = rw (rect_in_lem bs 4 0 (omega arith))

-- the row of a search of kind k applies to a frame of that kind; to another, the rows after it may
search_row : (f : Frame) (k : ℕ) (rows : List (Row Request)) → length f.body ≡ 16
    → ((f.kind ≡ k → ⊥) → first_row rows ≡ Some (window_in (pos f.kind) f.body))
    → first_row (row (of_kind f k 4) (window_in (pos k) f.body) ∷ rows) ≡ Some (window_in (pos f.kind) f.body)
unfolding first_row
search_row f k rows m others = go (ℕ_discrete f.kind k)
  where
    go : Dec (f.kind ≡ k) → first_row (row (of_kind f k 4) (window_in (pos k) f.body) ∷ rows) ≡ Some (window_in (pos f.kind) f.body)
    go (yes e) = rw (first_row, is_kind f k 4 e m) (ap (λ (j : ℕ). Some (window_in (pos j) f.body)) (sym e))
    go (no n) = rw (first_row, not_kind f k 4 (λ a b. n a)) (others n)

search_rows : (f : Frame) → 4 ≤ f.kind → f.kind ≤ 6 → length f.body ≡ 16
    → first_row (row (of_kind f 4 4) (window_in (pos 4) f.body) ∷ row (of_kind f 5 4) (window_in (pos 5) f.body)
    ∷ row (of_kind f 6 4) (window_in (pos 6) f.body) ∷ []) ≡ Some (window_in (pos f.kind) f.body)
search_rows f l h m = search_row f 4 _ m (λ a. search_row f 5 _ m (λ b. search_row f 6 _ m (λ c. absurd (omega arith))))

search_is : (k : ℕ) (bs : List ℕ) → 4 ≤ k → k ≤ 6 → 20 ≤ length bs → frame_request (frame_from k 4 bs) ≡ Some (search_from (pos k) bs)
unfolding frame_request first_row
search_is k bs l m h =
    let r1 = not_kind (frame_from k 4 bs) 1 5 (λ a b. omega arith) in
    let r2 = not_kind (frame_from k 4 bs) 2 5 (λ a b. omega arith) in
    let r3 = not_kind (frame_from k 4 bs) 3 9 (λ a b. omega arith) in
    rw (frame_request, first_row, r1, first_row, r2, first_row, r3)
    (search_rows (frame_from k 4 bs) l m (body_length 4 bs (omega arith)) ∙ ap Some (search_words (pos k) bs))

-- ---- what the code makes of each kind

module _ (bs : List ℕ) where
  pub rect_made : (p : ℕ) {a b c d : ℤ} → a ≡ word_from bs p → b ≡ word_from bs (p + 4) → c ≡ word_from bs (p + 8) → d ≡ word_from bs (p + 12)
      → rectangle a b c d ≡ rect_of_bytes bs p
  unfolding rect_of_bytes
  rect_made p e f g h = λ i. rectangle (e i) (f i) (g i) (h i)

  pub change_made : {k : ℤ} (k' : ℤ) {n : ℤ} {a b : Rect} → k ≡ k' → n ≡ word_from bs 4 → a ≡ rect_of_bytes bs 8 → b ≡ no_rect
      → record { kind = k; number = number n; first = a; second = b } ≡ change_from k' bs
  unfolding change_from request_in
  change_made k' e f g h = λ i. record { kind = e i; number = number (f i); first = g i; second = h i }

  pub update_made : {k n : ℤ} {a b : Rect} → k ≡ pos 3 → n ≡ word_from bs 4 → a ≡ rect_of_bytes bs 8 → b ≡ rect_of_bytes bs 24
      → record { kind = k; number = number n; first = a; second = b } ≡ update_from bs
  unfolding update_from request_in
  update_made e f g h = λ i. record { kind = e i; number = number (f i); first = g i; second = h i }

  pub search_made : {k : ℤ} (k' : ℤ) {a b : Rect} → k ≡ k' → a ≡ rect_of_bytes bs 4 → b ≡ no_rect
      → record { kind = k; number = number (pos 0); first = a; second = b } ≡ search_from k' bs
  unfolding search_from request_in
  search_made k' e g h = λ i. record { kind = e i; number = number (pos 0); first = g i; second = h i }

pub from_update : (k : ℕ) (bs : List ℕ) → k ≡ 3 → request_from k bs ≡ update_from bs
unfolding request_from
from_update k bs e = rw (request_from, eq-eqb k 3 e)

pub from_search : {k j : ℕ} (bs : List ℕ) → k ≡ j → 4 ≤ j → j ≤ 6 → request_from k bs ≡ search_from (pos j) bs
unfolding request_from
from_search {k} {j} bs e l h = rw (e, request_from, ne_eqb j 3 (λ q. omega arith), searches j l h)

pub from_change : {k j : ℕ} (bs : List ℕ) → k ≡ j → j < 3 → request_from k bs ≡ change_from (pos j) bs
unfolding request_from
from_change {k} {j} bs e l = rw (e, request_from, ne_eqb j 3 (λ q. omega arith), searches_not j (λ m. omega arith))

-- ---- the kinds of the code

pub default_none : {r : Rect} → (r.lowX ≡ pos 0) × ((r.lowY ≡ pos 0) × ((r.highX ≡ pos 0) × (r.highY ≡ pos 0))) → r ≡ no_rect
default_none d = λ i. record { lowX = d.0 i; lowY = d.1.0 i; highX = d.1.1.0 i; highY = d.1.1.1 i }

module _ (k : FrameKind) (bs : List ℕ) where
  pub changes_long : (k ≡ Insert) ⊎ (k ≡ Delete) → kind_length (kind_number k) ≡ 22
  changes_long (inl e) = length_1 (kind_number k) (ap kind_number e)
  changes_long (inr e) = length_2 (kind_number k) (ap kind_number e)

  pub changes_from : (k ≡ Insert) ⊎ (k ≡ Delete) → request_from (kind_number k) bs ≡ change_from (pos (kind_number k)) bs
  changes_from (inl e) = from_change bs refl (omega (arith, ap kind_number e))
  changes_from (inr e) = from_change bs refl (omega (arith, ap kind_number e))

  search_numbers : (k ≡ Search) ⊎ ((k ≡ SearchInside) ⊎ (k ≡ SearchEnclosing)) → (4 ≤ kind_number k) × (kind_number k ≤ 6)
  search_numbers (inl e) = (omega (arith, ap kind_number e), omega (arith, ap kind_number e))
  search_numbers (inr (inl e)) = (omega (arith, ap kind_number e), omega (arith, ap kind_number e))
  search_numbers (inr (inr e)) = (omega (arith, ap kind_number e), omega (arith, ap kind_number e))

  module _ (e : (k ≡ Search) ⊎ ((k ≡ SearchInside) ⊎ (k ≡ SearchEnclosing))) where
    pub searches_long : kind_length (kind_number k) ≡ 18
    searches_long = length_search (kind_number k) (search_numbers e).0 (search_numbers e).1

    pub searches_from : request_from (kind_number k) bs ≡ search_from (pos (kind_number k)) bs
    searches_from = from_search bs refl (search_numbers e).0 (search_numbers e).1

-- every kind that has a length: the request is the definition's
pub request_is : (k n : ℕ) (bs : List ℕ) → kind_length k ≡ n → 0 < n → 2 + n ≤ length bs
    → frame_request (record { kind = k; body = take (n - 2) (drop 4 bs) }) ≡ Some (request_from k bs)
request_is k n bs e p h = go (which k)
  where
    go : Which k → frame_request (record { kind = k; body = take (n - 2) (drop 4 bs) }) ≡ Some (request_from k bs)
    go (insert q) = let m : n ≡ 22 = sym e ∙ length_1 k q in rw (from_change bs q (omega arith), q, m) (insert_is bs (omega arith))
    go (delete q) = let m : n ≡ 22 = sym e ∙ length_2 k q in rw (from_change bs q (omega arith), q, m) (delete_is bs (omega arith))
    go (update q) = let m : n ≡ 38 = sym e ∙ length_3 k q in rw (from_update k bs q, q, m) (update_is bs (omega arith))
    go (searching l s) = let m : n ≡ 18 = sym e ∙ length_search k l s in rw (from_search {k = k} bs refl l s, m) (search_is k bs l s (omega arith))
    go (unknown l) = absurd (omega arith)

-- ---- what a frame asks is a request

-- kinds 1 to 6
is_request_lem : (k : ℕ) (n : ℤ) (a b : Rect) → k < 6 → is_request (request_in (pos (suc k)) n a b) ≡ true
unfolding is_request asked request_in first_row same
is_request_lem zero n a b h = refl
is_request_lem (suc zero) n a b h = refl
is_request_lem (suc (suc zero)) n a b h = refl
is_request_lem (suc (suc (suc zero))) n a b h = refl
is_request_lem (suc (suc (suc (suc zero)))) n a b h = refl
is_request_lem (suc (suc (suc (suc (suc zero))))) n a b h = refl
is_request_lem (suc (suc (suc (suc (suc (suc k)))))) n a b h = absurd (omega arith)

none_some : {q : Request} → None ≡ Some q → ⊥
none_some e = let z : ◌≡◌ {A = ℕ} 0 1 = cc in omega arith

-- what a table gives, its first row or one of the others gives
row_asks : (q : Request) (b : Bool) (p : Request) (rows : List (Row Request)) → is_request p ≡ true → (first_row rows ≡ Some q → is_request q ≡ true)
    → first_row (row b p ∷ rows) ≡ Some q → is_request q ≡ true
unfolding first_row
row_asks q true p rows k r e = let z : p ≡ q = cc in subst (λ (x : Request). is_request x ≡ true) z k
row_asks q false p rows k r e = r e

no_row_asks : (q : Request) → first_row [] ≡ Some q → is_request q ≡ true
unfolding first_row
no_row_asks q e = absurd (none_some e)

pub frame_asks : (f : Frame) (q : Request) → frame_request f ≡ Some q → is_request q ≡ true
unfolding frame_request window_in
frame_asks f q =
    row_asks q _ _ _ (is_request_lem 0 _ _ _ (omega arith))
    (row_asks q _ _ _ (is_request_lem 1 _ _ _ (omega arith))
    (row_asks q _ _ _ (is_request_lem 2 _ _ _ (omega arith))
    (row_asks q _ _ _ (is_request_lem 3 _ _ _ (omega arith))
    (row_asks q _ _ _ (is_request_lem 4 _ _ _ (omega arith))
    (row_asks q _ _ _ (is_request_lem 5 _ _ _ (omega arith)) (no_row_asks q))))))
