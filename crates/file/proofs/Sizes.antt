-- How many bytes the frames of a file have, each kind of an edition always as many, and so where record k begins.
use mathlib.Core.Path.{◌≡◌, refl, sym, ap, ◌∙◌}
use mathlib.Core.List.{List, [], ◌∷◌, ◌++◌, map}
use Prim.Native.Nat.{ℕ, zero, suc, ◌+◌, ◌*◌, ◌-◌, ◌≤◌}
use native.Mathlib.Omega.{arith}
use lib.ListN.{length, length-append}
use lib.IntN.{ℤ}
use Rattle.rules.specs.declared.Edition.{Edition}
use Rattle.rules.specs.declared.Edition.TheVariants.{One, Two}
use Rattle.rules.specs.declared.Owner.{Owner}
use Rattle.rules.specs.declared.Record.{Record}
use Rattle.rules.specs.Lists.{joined}
use Rattle.rules.specs.File.{pair_bytes, word_bytes, head_frame, record_kind, pair_words, record_words, record_size, record_frame, end_frame, file_bytes}
use Rattle.frames.specs.Writing.{Wrote}
use Rattle.rules_laws.proofs.Joins.{joined_none, joined_more}
use Rattle.file_laws.proofs.Written.{frame_long}
use Rattle.file.specs.Filling.{owner_bytes}
use Rattle.file.specs.Loading.{record_bytes, place_of}

pub pair_long : (n : ℕ) → length (pair_bytes n) ≡ 2
unfolding pair_bytes
pair_long n = refl

pub word_long : (z : ℤ) → length (word_bytes z) ≡ 4
unfolding word_bytes
word_long z = refl

-- a word takes four bytes
pub word_next : {l m : List ℕ} {at n : ℕ} (z : ℤ) → Wrote l at (word_bytes z) m n → n ≡ at + 4
word_next z w = omega (arith, w.place, word_long z)

pub pair_next : {l m : List ℕ} {at k : ℕ} (n : ℕ) → Wrote l at (pair_bytes n) m k → k ≡ at + 2
pair_next n w = omega (arith, w.place, pair_long n)

-- ---- the place of record k

pub place_first : (e : Edition) → place_of e 0 ≡ 12
unfolding place_of
place_first One = refl
place_first Two = refl

pub place_next : (e : Edition) (k : ℕ) → place_of e (suc k) ≡ place_of e k + record_bytes e
unfolding place_of
place_next One k = omega arith
place_next Two k = omega arith

-- .. by the words that a record's frame has
pub place_most : (e : Edition) (k : ℕ) → record_bytes e * k ≤ 28 * k
place_most One k = omega arith
place_most Two k = omega arith

pub place_told : (e : Edition) (k : ℕ) {words : ℕ} → words ≡ record_size e
    → (12 + (4 + 4 * words) * k ≡ place_of e k) × (12 + (4 + 4 * words) * k ≤ 12 + 28 * k)
unfolding place_of
place_told e k q = rw q (refl, omega (arith, place_most e k))

-- the one before ends where it begins
pub place_before : (e : Edition) (k : ℕ) → (k ≡ 0 → ⊥) → place_of e (k - 1) + record_bytes e ≡ place_of e k
place_before e zero h = absurd (h refl)
place_before e (suc k) h =
    let j : suc k - 1 ≡ k = omega arith in
    ap (λ (i : ℕ). place_of e i + record_bytes e) j ∙ sym (place_next e k)

-- ---- the frames

module _ (e : Edition) where
  pub head_long : (n : ℕ) → length (head_frame e n) ≡ 12
  unfolding head_frame
  head_long n = frame_long 16 _

  pub head_next : {l m : List ℕ} {at k : ℕ} (n : ℕ) → Wrote l at (head_frame e n) m k → k ≡ at + 12
  head_next n w = omega (arith, w.place, head_long n)

words_many : (e : Edition) (r : Record) → length (record_words e r) ≡ record_size e
unfolding record_words pair_words
words_many One r = refl
words_many Two r = refl

-- the owner's bytes, by the edition that the code is told
pub owner_one : (e : Edition) (o : Owner) → e ≡ One → [] ≡ owner_bytes e o
unfolding owner_bytes
owner_one e o q = ap (λ (x : Edition). owner_bytes x o) (sym q)

pub owner_two : (e : Edition) (o : Owner) → e ≡ Two → word_bytes o.0 ≡ owner_bytes e o
unfolding owner_bytes
owner_two e o q = ap (λ (x : Edition). owner_bytes x o) (sym q)

-- a record: its start, its owner where the edition has one, and five words
pub owner_long : (e : Edition) (o : Owner) → 4 + length (owner_bytes e o) + 20 ≡ record_bytes e
unfolding owner_bytes word_bytes
owner_long One o = refl
owner_long Two o = refl

pub end_long : length end_frame ≡ 4
unfolding end_frame
end_long = frame_long 18 []

module _ (e : Edition) where
  pub record_long : (r : Record) → length (record_frame e r) ≡ record_bytes e
  unfolding record_frame
  record_long r = omega (arith, frame_long (record_kind e) (record_words e r), words_many e r)

  pub records_long : (rs : List Record) → 12 + length (joined (map (record_frame e) rs)) ≡ place_of e (length rs)
  records_long [] = omega (arith, ap length (joined_none (record_frame e)), place_first e)
  records_long (r ∷ rs) =
      omega (
        arith,
        ap length (joined_more (record_frame e) r rs),
        length-append (record_frame e r) (joined (map (record_frame e) rs)),
        record_long r,
        records_long rs,
        place_next e (length rs),
      )

  pub file_long : (rs : List Record) → length (file_bytes e rs) ≡ place_of e (length rs) + 4
  unfolding file_bytes
  file_long rs =
      length-append (head_frame e (length rs) ++ joined (map (record_frame e) rs)) end_frame
      ∙ omega (
        arith,
        length-append (head_frame e (length rs)) (joined (map (record_frame e) rs)),
        head_long e (length rs),
        records_long rs,
        end_long,
      )
