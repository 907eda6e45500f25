-- What is written is read, and what is read is what would be written: length, kind and words go there and back each by itself.
use mathlib.Core.Path.{◌≡◌, refl, sym, ap, ap₂, subst, ◌∙◌}
use mathlib.Core.List.{List, [], ◌∷◌, ◌++◌, map}
use Rattle.std.specs.Prelude.{Some}
use Prim.Native.Nat.{ℕ, zero, suc, ◌+◌, ◌*◌, ◌≤◌, ◌<◌}
use native.Mathlib.Omega.{arith}
use lib.ListN.{length, take, drop, length-append, length-drop, take-append-drop}
use lib.Seq.{take-add, drop_at}
use lib.IntN.{ℤ}
use Rattle.rules.specs.Lists.{joined}
use Rattle.rules.specs.Frames.{pair_value, word_value, word_values}
use Rattle.rules.specs.File.{pair_bytes, word_bytes, frame_bytes, Due, frame_due}
use Rattle.rules_laws.proofs.Places.{Each}
use Rattle.rules_laws.proofs.Joins.{joined_none, joined_more}
use Rattle.file_laws.specs.Bytes.{AllBytes, Word}
use Rattle.file_laws.proofs.Due.{Stands, due_is, due_stands}
use Rattle.file_laws.proofs.Bytes.{pair_value_bytes, pair_bytes_value, word_value_bytes, word_bytes_value, word_value_word}
use Rattle.file_laws.proofs.All.{all_none, all_more, all_first, all_rest, all_append, all_drop}

-- ---- a frame is bytes, four and four for each word

-- a remainder by 256 is a byte
pair_all : (n : ℕ) → AllBytes (pair_bytes n)
unfolding pair_bytes
pair_all n = all_more (omega arith) (all_more (omega arith) all_none)

word_all : (z : ℤ) → AllBytes (word_bytes z)
unfolding word_bytes
word_all z = all_more (omega arith) (all_more (omega arith) (all_more (omega arith) (all_more (omega arith) all_none)))

words_all : (ws : List ℤ) → AllBytes (joined (map word_bytes ws))
words_all [] = rw (joined_none word_bytes) all_none
words_all (z ∷ zs) = rw (joined_more word_bytes z zs) (all_append (word_all z) (words_all zs))

-- four for each word
words_long : (ws : List ℤ) → length (joined (map word_bytes ws)) ≡ 4 * length ws
unfolding joined word_bytes
words_long [] = refl
words_long (z ∷ zs) = omega (arith, words_long zs)

pub frame_long : (k : ℕ) (ws : List ℤ) → length (frame_bytes k ws) ≡ 4 + 4 * length ws
unfolding frame_bytes pair_bytes
frame_long k ws = omega (arith, words_long ws)

pub frame_all : (k : ℕ) (ws : List ℤ) → AllBytes (frame_bytes k ws)
unfolding frame_bytes
frame_all k ws = all_append (all_append (pair_all (2 + 4 * length ws)) (pair_all k)) (words_all ws)

-- ---- what is written is read

-- the words one after another, whatever comes after them
words_read : (ws : List ℤ) (rest : List ℕ) → Each Word ws → word_values (length ws) (joined (map word_bytes ws) ++ rest) ≡ ws
unfolding word_values joined word_bytes
words_read [] rest h = refl
words_read (z ∷ zs) rest h = ap₂ (λ (x : ℤ) (xs : List ℤ). x ∷ xs) (word_value_bytes z h.0) (words_read zs rest h.1)

-- the length of six words is below 65536, as the kind is, so that two bytes hold each
pub due_written : (k : ℕ) (ws : List ℤ) (rest : List ℕ) → k < 65536 → length ws ≤ 6 → Each Word ws
    → frame_due k (length ws) (frame_bytes k ws ++ rest) ≡ Some (record { words = ws; after = rest })
unfolding frame_bytes pair_bytes
due_written k ws rest h l w =
    due_is k (length ws) (frame_bytes k ws ++ rest) (record {
      enough = omega (arith, length-append (frame_bytes k ws) rest, frame_long k ws);
      size = pair_value_bytes (2 + 4 * length ws) (omega arith);
      kind = pair_value_bytes k h;
    })
    ∙ (λ i. Some (record { words = words_read ws rest w i; after = drop_at (frame_bytes k ws) rest (4 + 4 * length ws) (frame_long k ws) i }))

-- ---- what is read is what would be written

-- the first two bytes, and the first four
pair_back : (bs : List ℕ) → AllBytes bs → 2 ≤ length bs → pair_bytes (pair_value (take 2 bs)) ≡ take 2 bs
pair_back [] h l = absurd (omega arith)
pair_back (a ∷ []) h l = absurd (omega arith)
pair_back (a ∷ b ∷ bs) h l = pair_bytes_value a b (all_first h) (all_first (all_rest h))

word_back : (bs : List ℕ) → AllBytes bs → 4 ≤ length bs → Word (word_value (take 4 bs)) × (word_bytes (word_value (take 4 bs)) ≡ take 4 bs)
word_back [] h l = absurd (omega arith)
word_back (a ∷ []) h l = absurd (omega arith)
word_back (a ∷ b ∷ []) h l = absurd (omega arith)
word_back (a ∷ b ∷ c ∷ []) h l = absurd (omega arith)
word_back (a ∷ b ∷ c ∷ d ∷ bs) h l =
    let after-a = all_rest h in
    let after-b = all_rest after-a in
    let ha = all_first h in
    let hb = all_first after-a in
    let hc = all_first after-b in
    let hd = all_first (all_rest after-b) in
    (word_value_word a b c d ha hb hc hd, word_bytes_value a b c d ha hb hc hd)

-- the n words that begin the bytes: as many, each of 32 bits, and of these bytes
words_count : (n : ℕ) (bs : List ℕ) → length (word_values n bs) ≡ n
unfolding word_values
words_count zero bs = refl
words_count (suc n) bs = ap suc (words_count n (drop 4 bs))

words_small : (n : ℕ) (bs : List ℕ) → AllBytes bs → 4 * n ≤ length bs → Each Word (word_values n bs)
unfolding word_values
words_small zero bs h l = tt
words_small (suc n) bs h l = (
  (word_back bs h (omega arith)).0,
  words_small n (drop 4 bs) (all_drop 4 bs h) (omega (arith, length-drop 4 bs)),
)

words_back : (n : ℕ) (bs : List ℕ) → AllBytes bs → 4 * n ≤ length bs → joined (map word_bytes (word_values n bs)) ≡ take (4 * n) bs
unfolding word_values
words_back zero bs h l = joined_none word_bytes
words_back (suc n) bs h l =
    let e : 4 * suc n ≡ 4 + 4 * n = omega arith in
    joined_more word_bytes (word_value (take 4 bs)) (word_values n (drop 4 bs))
    ∙ rw ((word_back bs h (omega arith)).1, words_back n (drop 4 bs) (all_drop 4 bs h) (omega (arith, length-drop 4 bs)), e)
    (sym (take-add 4 (4 * n) bs))

-- the length and the kind are those of the words that were read, so the whole frame is that of these bytes
frame_back : (k n : ℕ) (bs : List ℕ) → AllBytes bs → Stands k n bs → frame_bytes k (word_values n (drop 4 bs)) ≡ take (4 + 4 * n) bs
unfolding frame_bytes
frame_back k n bs h s =
    let enough = s.enough in
    let size : pair_bytes (2 + 4 * length (word_values n (drop 4 bs))) ≡ take 2 bs =
    ap (λ (m : ℕ). pair_bytes (2 + 4 * m)) (words_count n (drop 4 bs)) ∙ ap pair_bytes (sym s.size) ∙ pair_back bs h (omega arith) in
    let kind : pair_bytes k ≡ take 2 (drop 2 bs) =
    ap pair_bytes (sym s.kind) ∙ pair_back (drop 2 bs) (all_drop 2 bs h) (omega (arith, length-drop 2 bs)) in
    rw (size, kind, words_back n (drop 4 bs) (all_drop 4 bs h) (omega (arith, length-drop 4 bs)), ← (take-add 2 2 bs))
    (sym (take-add 4 (4 * n) bs))

module _ (k n : ℕ) (bs : List ℕ) (d : Due) (h : AllBytes bs) (q : frame_due k n bs ≡ Some d) where
  -- bytes below 256 are the only ones that are read so
  pub due_bytes : (bs ≡ frame_bytes k d.words ++ d.after) × (length d.words ≡ n) × AllBytes d.after
  due_bytes =
      let p = due_stands k n bs d q in
      subst (λ (x : Due). (bs ≡ frame_bytes k x.words ++ x.after) × (length x.words ≡ n) × AllBytes x.after) p.1 (
        rw (frame_back k n bs h p.0) (sym (take-append-drop (4 + 4 * n) bs)),
        words_count n (drop 4 bs),
        all_drop (4 + 4 * n) bs h,
      )

  -- and what is read may be written again
  pub due_small : Each Word d.words
  due_small =
      let p = due_stands k n bs d q in
      subst (λ (x : Due). Each Word x.words) p.1 (words_small n (drop 4 bs) (all_drop 4 bs h) (omega (arith, p.0.enough, length-drop 4 bs)))
