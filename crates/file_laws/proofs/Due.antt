-- A frame is the one due where there are enough bytes, its length field is that of n words, and its kind field is k. By cases of these three:
-- a frame with another length is cut, or its body has another length.
use mathlib.Core.Path.{◌≡◌, refl, sym, ap, ◌∙◌}
use mathlib.Core.Bool.{Bool, true, false, cond, ◌&&◌}
use mathlib.Core.List.{List, [], ◌∷◌}
use Rattle.std.specs.Prelude.{None, Some}
use Prim.Native.Nat.{ℕ, zero, suc, ◌+◌, ◌*◌, ◌-◌, ◌≤◌, ◌<◌}
use native.Mathlib.Omega.{arith}
use native.Mathlib.Nat.{sub-zero, zero-sub, suc-sub-suc}
use native.Mathlib.Decide.{dec_le, ℕ_discrete}
use lib.ListN.{length, take, drop, length-drop}
use lib.Seq.{length-take-le, take-take, take-nil}
use lib.Dec.{leb, eqb}
use lib.IntN.{ℤ}
use borrow.Author.Tests.{leb-true, leb-false, eqb-true, eqb-false, le-leb, lt-leb, eq-eqb, ne_eqb}
use Rattle.rules.specs.Frames.{Frame, Complete, Cut, pair_value, word_values, frame_of, next_frame, of_kind}
use Rattle.rules.specs.File.{Due, frame_due}

-- ---- the bytes of words

-- what is left of the first m
drop_take : (n m : ℕ) (bs : List ℕ) → drop n (take m bs) ≡ take (m - n) (drop n bs)
drop_take zero m bs = rw sub-zero
drop_take (suc n) zero bs = rw zero-sub
drop_take (suc n) (suc m) [] = sym (take-nil (suc m - suc n))
drop_take (suc n) (suc m) (b ∷ bs) = rw suc-sub-suc (drop_take n m bs)

-- n words need no more than their 4 n bytes
words_front : (n m : ℕ) (bs : List ℕ) → 4 * n ≤ m → word_values n (take m bs) ≡ word_values n bs
unfolding word_values
words_front zero m bs h = refl
words_front (suc n) m bs h =
    rw (take-take 4 m bs (omega arith), drop_take 4 m bs, words_front n (m - 4) (drop 4 bs) (omega arith))

-- ---- the kind, and with it as many words as it has

module _ (f : Frame) (k n : ℕ) where
  kind_other : (f.kind ≡ k → ⊥) → of_kind f k n ≡ false
  unfolding of_kind
  kind_other h = rw (of_kind, ne_eqb f.kind k h)

  body_other : (length f.body ≡ 4 * n → ⊥) → of_kind f k n ≡ false
  unfolding of_kind
  body_other h = rw (of_kind, ne_eqb (length f.body) (4 * n) h) (never (eqb f.kind k))
    where
      never : (t : Bool) → (t && false) ≡ false
      never true = refl
      never false = refl

  of_kind_lem : f.kind ≡ k → length f.body ≡ 4 * n → of_kind f k n ≡ true
  unfolding of_kind
  of_kind_lem e h = rw (of_kind, eq-eqb f.kind k e, eq-eqb (length f.body) (4 * n) h)

-- ---- the frame that the bytes begin, of the length that the first two say

-- the frame of length m that the bytes after the length hold
abbrev whole_in : ℕ → List ℕ → Frame
whole_in m rest = record { kind = pair_value (take 2 rest); body = take (m - 2) (drop 2 rest) }

body_long : (m : ℕ) (rest : List ℕ) → m ≤ length rest → length (whole_in m rest).body ≡ m - 2
body_long m rest h = length-take-le (m - 2) (drop 2 rest) (omega (arith, length-drop 2 rest))

module _ (k n b c : ℕ) (rest : List ℕ) where
  -- the length that they say
  abbrev said : ℕ
  said = pair_value (b ∷ c ∷ [])

  -- what is due of a frame that is cut, and of a whole one
  due_cut : frame_of said rest ≡ Cut → frame_due k n (b ∷ c ∷ rest) ≡ None
  unfolding frame_due next_frame
  due_cut e = rw (frame_due, e)

  due_whole : frame_of said rest ≡ Complete (whole_in said rest) (drop said rest) → (t : Bool) → of_kind (whole_in said rest) k n ≡ t
      → frame_due k n (b ∷ c ∷ rest) ≡ cond t (Some (record { words = word_values n (whole_in said rest).body; after = drop said rest })) None
  unfolding frame_due next_frame
  due_whole e true o = rw (frame_due, e, o)
  due_whole e false o = rw (frame_due, e, o)

  -- no room for a kind; more than there is; whole
  cut_small : said < 2 → frame_of said rest ≡ Cut
  unfolding frame_of
  cut_small h = rw (frame_of, lt-leb 2 said h)

  cut_long : 2 ≤ said → length rest < said → frame_of said rest ≡ Cut
  unfolding frame_of
  cut_long h l = rw (frame_of, le-leb 2 said h, lt-leb said (length rest) l)

  is_whole : 2 ≤ said → said ≤ length rest → frame_of said rest ≡ Complete (whole_in said rest) (drop said rest)
  unfolding frame_of
  is_whole h l = rw (frame_of, le-leb 2 said h, le-leb said (length rest) l)

  -- it is cut, or another than the one due
  none_due : (2 ≤ said → said ≤ length rest → of_kind (whole_in said rest) k n ≡ false) → frame_due k n (b ∷ c ∷ rest) ≡ None
  none_due h = go (dec_le 2 said) (dec_le said (length rest))
    where
      go : Dec (2 ≤ said) → Dec (said ≤ length rest) → frame_due k n (b ∷ c ∷ rest) ≡ None
      go (no l) m = due_cut (cut_small (omega arith))
      go (yes l) (no m) = due_cut (cut_long l (omega arith))
      go (yes l) (yes m) = due_whole (is_whole l m) false (h l m)

  -- of another length, or of another kind
  none_by_length : (2 ≤ said → said ≤ length rest → said - 2 ≡ 4 * n → ⊥) → frame_due k n (b ∷ c ∷ rest) ≡ None
  none_by_length h = none_due (λ l m. body_other (whole_in said rest) k n (λ e. h l m (sym (body_long said rest m) ∙ e)))

  none_by_kind : (pair_value (take 2 rest) ≡ k → ⊥) → frame_due k n (b ∷ c ∷ rest) ≡ None
  none_by_kind h = none_due (λ l m. kind_other (whole_in said rest) k n h)

  -- the one due, with the bytes after it
  this_due : said ≡ 2 + 4 * n → said ≤ length rest → pair_value (take 2 rest) ≡ k
      → frame_due k n (b ∷ c ∷ rest) ≡ Some (record { words = word_values n (drop 2 rest); after = drop said rest })
  this_due l m e =
      due_whole (is_whole (omega arith) m) true (of_kind_lem (whole_in said rest) k n e (omega (arith, body_long said rest m)))
      ∙ ap (λ (ws : List ℤ). Some (record { words = ws; after = drop said rest })) (words_front n (said - 2) (drop 2 rest) (omega arith))

-- ---- no bytes, and one: no frame

module _ (k n : ℕ) where
  due_nothing : frame_due k n [] ≡ None
  unfolding frame_due next_frame
  due_nothing = refl

  due_one : (b : ℕ) → frame_due k n (b ∷ []) ≡ None
  unfolding frame_due next_frame
  due_one b = refl

-- ---- the three that are asked, and the frame where all three hold

-- a frame of the kind k with n words begins the bytes
pub record Stands (k n : ℕ) (bs : List ℕ) : Type 0 where
  pub enough : 4 + 4 * n ≤ length bs
  pub size : pair_value (take 2 bs) ≡ 2 + 4 * n
  pub kind : pair_value (take 2 (drop 2 bs)) ≡ k

-- and is read so
abbrev pub due_in : ℕ → List ℕ → Due
due_in n bs = record { words = word_values n (drop 4 bs); after = drop (4 + 4 * n) bs }

module _ (k n : ℕ) where
  -- each of the three, where it fails
  pub due_short : (bs : List ℕ) → length bs < 4 + 4 * n → frame_due k n bs ≡ None
  due_short [] h = due_nothing k n
  due_short (b ∷ []) h = due_one k n b
  due_short (b ∷ c ∷ rest) h = none_by_length k n b c rest (λ l m e. omega arith)

  pub due_length : (bs : List ℕ) → (pair_value (take 2 bs) ≡ 2 + 4 * n → ⊥) → frame_due k n bs ≡ None
  due_length [] h = due_nothing k n
  due_length (b ∷ []) h = due_one k n b
  due_length (b ∷ c ∷ rest) h = none_by_length k n b c rest (λ l m e. h (omega arith))

  pub due_kind : (bs : List ℕ) → (pair_value (take 2 (drop 2 bs)) ≡ k → ⊥) → frame_due k n bs ≡ None
  due_kind [] h = due_nothing k n
  due_kind (b ∷ []) h = due_one k n b
  due_kind (b ∷ c ∷ rest) h = none_by_kind k n b c rest h

  -- all three
  pub due_is : (bs : List ℕ) → Stands k n bs → frame_due k n bs ≡ Some (due_in n bs)
  due_is [] s = absurd (omega (arith, s.enough))
  due_is (b ∷ []) s = absurd (omega (arith, s.enough))
  due_is (b ∷ c ∷ rest) s =
      let l : pair_value (b ∷ c ∷ []) ≡ 2 + 4 * n = s.size in
      let d : 4 + 4 * n ≡ suc (suc (pair_value (b ∷ c ∷ []))) = omega arith in
      rw d (this_due k n b c rest l (omega (arith, s.enough)) s.kind)

module _ (k n : ℕ) (bs : List ℕ) where
  by_tests : (h l e : Bool) → leb (4 + 4 * n) (length bs) ≡ h → eqb (pair_value (take 2 bs)) (2 + 4 * n) ≡ l
      → eqb (pair_value (take 2 (drop 2 bs))) k ≡ e → frame_due k n bs ≡ cond (h && (l && e)) (Some (due_in n bs)) None
  by_tests false l e p q r = due_short k n bs (leb-false (4 + 4 * n) (length bs) p)
  by_tests true false e p q r = due_length k n bs (eqb-false (pair_value (take 2 bs)) (2 + 4 * n) q)
  by_tests true true false p q r = due_kind k n bs (eqb-false (pair_value (take 2 (drop 2 bs))) k r)
  by_tests true true true p q r =
      due_is k n bs (record {
        enough = leb-true (4 + 4 * n) (length bs) p;
        size = eqb-true (pair_value (take 2 bs)) (2 + 4 * n) q;
        kind = eqb-true (pair_value (take 2 (drop 2 bs))) k r;
      })

  -- the reader's answer, as the code finds it
  pub due_places : frame_due k n bs
      ≡ cond (leb (4 + 4 * n) (length bs) && (eqb (pair_value (take 2 bs)) (2 + 4 * n) && eqb (pair_value (take 2 (drop 2 bs))) k))
      (Some (record { words = word_values n (drop 4 bs); after = drop (4 + 4 * n) bs })) None
  due_places = by_tests _ _ _ refl refl refl

  -- a frame that is the one due stands there
  pub due_stands : (d : Due) → frame_due k n bs ≡ Some d → Stands k n bs × (due_in n bs ≡ d)
  due_stands d q =
      go (dec_le (4 + 4 * n) (length bs)) (ℕ_discrete (pair_value (take 2 bs)) (2 + 4 * n)) (ℕ_discrete (pair_value (take 2 (drop 2 bs))) k)
    where
      not_none : frame_due k n bs ≡ None → Stands k n bs × (due_in n bs ≡ d)
      not_none e = absurd (let z : ◌≡◌ {A = ℕ} 0 1 = cc in omega arith)

      go : Dec (4 + 4 * n ≤ length bs) → Dec (pair_value (take 2 bs) ≡ 2 + 4 * n) → Dec (pair_value (take 2 (drop 2 bs)) ≡ k)
          → Stands k n bs × (due_in n bs ≡ d)
      go (no h) l e = not_none (due_short k n bs (omega arith))
      go (yes h) (no l) e = not_none (due_length k n bs l)
      go (yes h) (yes l) (no e) = not_none (due_kind k n bs e)
      go (yes h) (yes l) (yes e) =
          let s : Stands k n bs = record { enough = h; size = l; kind = e } in
          let r = due_is k n bs s in
          (s, cc)
