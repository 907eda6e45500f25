-- A frame is written piece by piece: its length and kind, and then each of its words after what stands there already.
use mathlib.Core.Path.{◌≡◌, sym, ap, ◌∙◌}
use mathlib.Core.List.{List, [], ◌∷◌, ◌++◌, map, map-map, append_assoc, append-nil}
use Prim.Native.Nat.{ℕ, ◌+◌, ◌*◌}
use native.Mathlib.Omega.{arith}
use lib.ListN.{length, length-append}
use lib.IntN.{ℤ, pos}
use Rattle.rules.specs.declared.Edition.{Edition}
use Rattle.rules.specs.declared.Edition.TheVariants.{One, Two}
use Rattle.rules.specs.declared.Owner.{Owner}
use Rattle.rules.specs.declared.Record.{Record}
use Rattle.rules.specs.declared.FoundRecord.{FoundRecord}
use Rattle.rules.specs.Lists.{joined}
use Rattle.rules.specs.Owners.{edition_number, of_owner}
use Rattle.rules.specs.Layout.{edition_of, read}
use Rattle.rules.specs.File.{pair_bytes, word_bytes, frame_bytes, head_frame, record_kind, pair_words, record_words}
use Rattle.rules.specs.File.{record_size, record_frame, end_frame, file_bytes, carried_of, records_carried, pool_file}
use Rattle.rules_laws.proofs.Joins.{joined_none, joined_more, joined_append}
use Rattle.layout_laws.proofs.Written.{edition_is}
use Rattle.frames.specs.Writing.{Wrote}
use Rattle.file.specs.Items.{first_owner, second_carried}
use Rattle.file.specs.Filling.{owner_bytes, own_frames}
use Rattle.file.proofs.Sizes.{pair_long, head_long}
use Rattle.file.proofs.Listing.{carried_two}

-- the length and the kind of a frame of n words
abbrev pub start : ℕ → ℕ → List ℕ
start k n = pair_bytes (2 + 4 * n) ++ pair_bytes k

pub start_next : {l m : List ℕ} {at j : ℕ} (a b : ℕ) → Wrote l at (pair_bytes a ++ pair_bytes b) m j → j ≡ at + 4
start_next a b w = omega (arith, w.place, length-append (pair_bytes a) (pair_bytes b), pair_long a, pair_long b)

words_more : (text : List ℕ) (z : ℤ) (zs : List ℤ) → text ++ joined (map word_bytes (z ∷ zs)) ≡ (text ++ word_bytes z) ++ joined (map word_bytes zs)
words_more text z zs =
    ap (λ (l : List ℕ). text ++ l) (joined_more word_bytes z zs) ∙ sym (append_assoc text (word_bytes z) (joined (map word_bytes zs)))

words_end : (text : List ℕ) → text ++ joined (map word_bytes []) ≡ text
words_end text = ap (λ (l : List ℕ). text ++ l) (joined_none word_bytes) ∙ append-nil text

two_words : (text : List ℕ) (a b : ℤ) → text ++ word_bytes a ++ word_bytes b ≡ text ++ joined (map word_bytes (a ∷ b ∷ []))
two_words text a b =
    let one = text ++ word_bytes a in
    sym (words_more text a (b ∷ []) ∙ words_more one b [] ∙ words_end (one ++ word_bytes b))

pub head_text : (e : Edition) (n : ℕ) → start 16 2 ++ word_bytes (pos (edition_number e)) ++ word_bytes (pos n) ≡ head_frame e n
unfolding head_frame frame_bytes
head_text e n = two_words (start 16 2) (pos (edition_number e)) (pos n)

-- "number, rectangle"
pub pair_text : (r : Record) → word_bytes r.number.0 ++ word_bytes r.rect.lowX ++ word_bytes r.rect.lowY ++ word_bytes r.rect.highX ++ word_bytes r.rect.highY
    ≡ joined (map word_bytes (pair_words r))
unfolding pair_words
pair_text r =
    let one = word_bytes r.number.0 in
    let three = one ++ word_bytes r.rect.lowX ++ word_bytes r.rect.lowY in
    two_words three r.rect.highX r.rect.highY
    ∙ sym (words_more [] r.number.0 (r.rect.lowX ∷ r.rect.lowY ∷ r.rect.highX ∷ r.rect.highY ∷ [])
    ∙ words_more one r.rect.lowX (r.rect.lowY ∷ r.rect.highX ∷ r.rect.highY ∷ [])
    ∙ words_more (one ++ word_bytes r.rect.lowX) r.rect.lowY (r.rect.highX ∷ r.rect.highY ∷ []))

-- "kind 19 (owner, then as 17)"
pub record_text : (e : Edition) (r : Record) → start (record_kind e) (record_size e) ++ owner_bytes e r.owner ++ joined (map word_bytes (pair_words r))
    ≡ record_frame e r
unfolding record_frame frame_bytes record_kind record_words owner_bytes pair_words
record_text One r = ap (λ (l : List ℕ). l ++ joined (map word_bytes (pair_words r))) (append-nil (start 17 5))
record_text Two r = sym (words_more (start 19 6) r.owner.0 (pair_words r))

pub end_text : start 18 0 ≡ end_frame
unfolding end_frame frame_bytes
end_text = sym (words_end (start 18 0))

-- the parts of a file: those of the first owner's records, and then the others'
module _ (w : List ℤ) {ed : Edition} (q : ed ≡ edition_of w) {o : Owner} (whose : o ≡ first_owner (edition_of w)) {fs : List FoundRecord}
    (first : fs ≡ carried_of (read w) o) where
  abbrev e : Edition
  e = edition_of w

  abbrev others : List Record
  others = second_carried e (read w)

  pub records_text : own_frames e o fs ++ joined (map (record_frame e) others) ≡ joined (map (record_frame e) (records_carried (read w)))
  records_text =
      ap (λ (l : List ℕ). l ++ joined (map (record_frame e) others)) (ap joined (sym (map-map (record_frame e) (of_owner o) fs)))
      ∙ sym (joined_append (record_frame e) (map (of_owner o) fs) others)
      ∙ ap (λ (l : List Record). joined (map (record_frame e) l)) (carried_two w whose first)

  pub file_text : {n : ℕ} → n ≡ length (records_carried (read w))
      → head_frame ed n ++ own_frames e o fs ++ joined (map (record_frame e) others) ++ start 18 0 ≡ pool_file (read w)
  unfolding pool_file file_bytes
  file_text {n} c =
      let own = own_frames e o fs in
      let rest = joined (map (record_frame e) others) in
      ap (λ (l : List ℕ). l ++ start 18 0) (append_assoc (head_frame ed n) own rest)
      ∙ (λ i. head_frame (q i) (c i) ++ records_text i ++ end_text i)
      ∙ ap (λ (x : Edition). file_bytes x (records_carried (read w))) (edition_is w)

  -- as long as they are together
  pub file_parts : {n : ℕ} → n ≡ length (records_carried (read w))
      → length (pool_file (read w)) ≡ 12 + length (own_frames e o fs) + length (joined (map (record_frame e) others)) + 4
  file_parts {n} c =
      let own = own_frames e o fs in
      let rest = joined (map (record_frame e) others) in
      omega (
        arith,
        ap length (file_text c),
        length-append (head_frame ed n ++ own ++ rest) (start 18 0),
        length-append (head_frame ed n ++ own) rest,
        length-append (head_frame ed n) own,
        length-append (pair_bytes (2 + 4 * 0)) (pair_bytes 18),
        pair_long (2 + 4 * 0),
        pair_long 18,
        head_long ed n,
      )
