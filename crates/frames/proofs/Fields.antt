-- Lines, field by field.
use mathlib.Core.Path.{◌≡◌, refl, sym, ap, ◌∙◌}
use mathlib.Core.List.{List, [], ◌∷◌, ◌++◌, map, append_assoc, append-nil}
use Prim.Native.Nat.{ℕ, min, ◌+◌, ◌*◌, ◌≤◌, ◌<◌}
use native.Mathlib.Omega.{arith}
use native.Mathlib.Numerals.{add-one}
use native.Mathlib.Decide.{dec_le}
use native.Mathlib.Nat.{min-eq_left, min-eq_right}
use lib.ListN.{length, get_or, take}
use lib.Seq.{take-suc, take_all}
use Rattle.std.proofs.lemmas.List.{length-take}
use borrow.Author.Tests.{eq-eqb, ne_eqb}
use Rattle.rules.specs.declared.FoundRecord.{FoundRecord}
use Rattle.rules.specs.declared.Answer.{Answer}
use Rattle.rules.specs.Lists.{joined}
use Rattle.rules.specs.Frames.{nat_shown, int_shown, line, answer_line, record_line, listed_of, reply_lines, bad_line}
use Rattle.rules_laws.proofs.Joins.{joined_none, joined_more, joined_append}
use Rattle.frames.specs.declared.Lines.{Lines}
use Rattle.frames.specs.Writing.{Adds}
use Rattle.frames.proofs.Texts.{adds_none, adds_then, adds_as}

-- ---- fields

pub line_of_four : (a b c d : List ℕ) → (((a ++ 32 ∷ []) ++ (b ++ 32 ∷ [])) ++ (c ++ 32 ∷ [])) ++ (d ++ 10 ∷ []) ≡ line (a ∷ b ∷ c ∷ d ∷ [])
unfolding line
line_of_four a b c d = simp append_assoc

pub line_of_five : (a b c d e : List ℕ)
    → ((((a ++ 32 ∷ []) ++ (b ++ 32 ∷ [])) ++ (c ++ 32 ∷ [])) ++ (d ++ 32 ∷ [])) ++ (e ++ 10 ∷ []) ≡ line (a ∷ b ∷ c ∷ d ∷ e ∷ [])
unfolding line
line_of_five a b c d e = simp append_assoc

pub answer_is : (p : ℕ) (a : Answer) → line (nat_shown p ∷ nat_shown a.number ∷ nat_shown a.found ∷ nat_shown a.opened ∷ []) ≡ answer_line p a
unfolding answer_line
answer_is p a = refl

pub record_line_lem : (r : FoundRecord)
    → line (int_shown r.number.0 ∷ int_shown r.rect.lowX ∷ int_shown r.rect.lowY ∷ int_shown r.rect.highX ∷ int_shown r.rect.highY ∷ [])
    ≡ record_line r
unfolding record_line
record_line_lem r = refl

pub bad_is : (p : ℕ) → (98 ∷ 97 ∷ 100 ∷ 32 ∷ 102 ∷ 114 ∷ 97 ∷ 109 ∷ 101 ∷ 32 ∷ []) ++ (nat_shown p ++ 10 ∷ []) ≡ bad_line p
unfolding bad_line
bad_is p = refl

-- ---- the records that a call lists

pub told_none : (a : Answer) → (a.number ≡ 0 → ⊥) → 0 ≡ min (listed_of a) 64
unfolding listed_of
told_none a h = rw (listed_of, ne_eqb a.number 0 h)

pub told_some : (a : Answer) → a.number ≡ 0 → min a.found 64 ≡ min (listed_of a) 64
unfolding listed_of
told_some a h = rw (listed_of, eq-eqb a.number 0 h)

-- ---- the lines of the first n records

abbrev pub lines_of : List FoundRecord → List ℕ
lines_of rs = joined (map record_line rs)

abbrev pub Listed : ℕ → Lines → List FoundRecord → Lines → Type 0
Listed n x rs y = Adds (110 * n) x (lines_of (take n rs)) y

pub lines_none : {x : Lines} (rs : List FoundRecord) → Listed 0 x rs x
lines_none {x} rs = adds_as (omega arith) (sym (joined_none record_line)) (adds_none x)

pub lines_more : {x y z : Lines} (rs : List FoundRecord) (i : ℕ) (d : FoundRecord) → i < length rs
    → Listed i x rs y → Adds 110 y (record_line (get_or rs i d)) z → Listed (i + 1) x rs z
lines_more rs i d h a b =
    let r = get_or rs i d in
    let one : lines_of (r ∷ []) ≡ record_line r =
    joined_more record_line r [] ∙ ap (λ (t : List ℕ). record_line r ++ t) (joined_none record_line)
    ∙ append-nil (record_line r) in
    let e : lines_of (take (i + 1) rs) ≡ lines_of (take i rs) ++ record_line r =
    ap lines_of (ap (λ (k : ℕ). take k rs) (add-one i) ∙ take-suc rs i d h)
    ∙ joined_append record_line (take i rs) (r ∷ [])
    ∙ ap (λ (t : List ℕ). lines_of (take i rs) ++ t) one in
    adds_as (omega arith) (sym e) (adds_then a b)

-- the found list has 64 places, so no more are taken
pub lines_all : (p : ℕ) (a : Answer) {x y z : Lines} (found : List FoundRecord) {n i : ℕ}
    → length found ≡ 64 → n ≡ min (listed_of a) 64
    → length (take n found) ≤ i → i ≤ length (take n found)
    → Adds 84 x (answer_line p a) y → Listed i y (take n found) z → Adds 7124 x (reply_lines p a found) z
unfolding reply_lines
lines_all p a found {n} {i} f e h l v w =
    adds_as (omega (arith, length-take n found))
    (ap (λ (rs : List FoundRecord). answer_line p a ++ lines_of rs)
    (take_all i (take n found) h ∙ rw e (all (dec_le (listed_of a) 64)))) (adds_then v w)
  where
    all : Dec (listed_of a ≤ 64) → take (min (listed_of a) 64) found ≡ take (listed_of a) found
    all (yes h) = ap (λ (k : ℕ). take k found) (min-eq_left h)
    all (no h) =
        ap (λ (k : ℕ). take k found) (min-eq_right {n = 64} {m = listed_of a} (omega arith))
        ∙ take_all 64 found (omega arith) ∙ sym (take_all (listed_of a) found (omega arith))
