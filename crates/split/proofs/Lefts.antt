-- The places left, in stored order. The one that joins a group is left out and the later ones close
-- up: what is left is `leaving` it, since no place is there twice.
use mathlib.Core.Path.{◌≡◌, refl, sym, ap, ap₂, ◌∙◌}
use mathlib.Core.List.{List, [], ◌∷◌}
use Prim.Native.Nat.{ℕ, zero, suc, ◌+◌, ◌-◌, ◌≤◌, ◌<◌}
use native.Mathlib.Omega.{arith}
use native.Mathlib.Decide.{dec_le}
use lib.ListN.{length, take, get_or}
use lib.Seq.{length-take-le, get_or-take, ext_get_or}
use borrow.Author.Tests.{eq-eqb, ne_eqb}
use Rattle.rules.specs.Lists.{those, up_from, without}
use Rattle.rules.specs.Split as S
use Rattle.rules_laws.proofs.Parts.{length_without}
use Rattle.rules_laws.proofs.Places.{Each, each_without, each_at, each_up_from, Ordered, ordered_up_from, get_d_up_from}
use Rattle.split.specs.Stored.{Stored}

-- ---- one left out of a list

module _ {A : Type 0} where
  get_d_before : (xs : List A) (b k : ℕ) (d : A) → k < b → get_or (without b xs) k d ≡ get_or xs k d
  unfolding without
  get_d_before [] b k d h = refl
  get_d_before (x ∷ xs) zero k d h = absurd (omega arith)
  get_d_before (x ∷ xs) (suc b) zero d h = refl
  get_d_before (x ∷ xs) (suc b) (suc k) d h = get_d_before xs b k d (omega arith)

  get_d_after : (xs : List A) (b k : ℕ) (d : A) → b ≤ k
      → get_or (without b xs) k d ≡ get_or xs (suc k) d
  unfolding without
  get_d_after [] b k d h = refl
  get_d_after (x ∷ xs) zero k d h = refl
  get_d_after (x ∷ xs) (suc b) zero d h = absurd (omega arith)
  get_d_after (x ∷ xs) (suc b) (suc k) d h = get_d_after xs b k d (omega arith)

  ordered_without : (R : A → A → Type 0) (xs : List A) (b : ℕ) → Ordered R xs
      → Ordered R (without b xs)
  unfolding without
  ordered_without R [] b a = a
  ordered_without R (x ∷ xs) zero a = a.1
  ordered_without R (x ∷ xs) (suc b) a = (each_without (R x) xs b a.0, ordered_without R xs b a.1)

leaving_none : (x : ℕ) (xs : List ℕ) → Each (λ k. x < k) xs → S.leaving x xs ≡ xs
unfolding S.leaving those
leaving_none x [] a = refl
leaving_none x (y ∷ ys) a = rw (ne_eqb y x (omega (arith, a.0))) (ap (λ (l : List ℕ). y ∷ l) (leaving_none x ys a.1))

leaving_ordered : (xs : List ℕ) (b : ℕ) → b < length xs → Ordered ◌<◌ xs
    → S.leaving (get_or xs b 0) xs ≡ without b xs
unfolding S.leaving those without
leaving_ordered [] b h o = absurd (omega arith)
leaving_ordered (x ∷ xs) zero h o = rw (eq-eqb x x refl) (leaving_none x xs o.0)
leaving_ordered (x ∷ xs) (suc b) h o =
    rw (ne_eqb x (get_or xs b 0) (λ e. omega (arith, each_at (λ k. x < k) xs b 0 (omega arith) o.0)))
    (ap (λ (l : List ℕ). x ∷ l) (leaving_ordered xs b (omega arith) o.1))

pub leaving_at : (xs : List ℕ) (b : ℕ) → b < length xs → Stored xs
    → S.leaving (get_or xs b 0) xs ≡ without b xs
leaving_at xs b h s = leaving_ordered xs b h s.1

pub stored_at : (xs : List ℕ) (b : ℕ) → b < length xs → Stored xs → get_or xs b 0 < 9
stored_at xs b h s = each_at (λ k. k < 9) xs b 0 h s.0

pub stored_without : (xs : List ℕ) (b : ℕ) → Stored xs → Stored (without b xs)
stored_without xs b s = (each_without (λ k. k < 9) xs b s.0, ordered_without ◌<◌ xs b s.1)

-- the first, and the others
pub first_left : (xs : List ℕ) → 0 < length xs → xs ≡ get_or xs 0 0 ∷ without 0 xs
unfolding without
first_left [] h = absurd (omega arith)
first_left (x ∷ xs) h = refl

-- ---- closing up: the place at `at` of the first n + 1 is left out, and the later ones have moved up by one
closed_up : (at n : ℕ) (old new : List ℕ) → at ≤ n → n < length old → length new ≡ length old
    → ((k : ℕ) → k < at → get_or new k 0 ≡ get_or old k 0) → ((k : ℕ) → at ≤ k → k < n → get_or new k 0 ≡ get_or old (suc k) 0)
    → take n new ≡ without at (take (suc n) old)
closed_up at n old new h few same before moved =
    ext_get_or 0 (take n new) (without at was) (size ∙ omega (arith, length_without was at (omega (arith, long)), long))
    (λ k g. get_or-take n new k 0 (omega (arith, g, size)) ∙ go k (omega (arith, g, size)) (dec_le at k))
  where
    was : List ℕ
    was = take (suc n) old

    long : length was ≡ suc n
    long = length-take-le (suc n) old (omega arith)

    size : length (take n new) ≡ n
    size = length-take-le n new (omega (arith, same))

    go : (k : ℕ) → k < n → Dec (at ≤ k) → get_or new k 0 ≡ get_or (without at was) k 0
    go k g (yes q) = moved k q g ∙ sym (get_d_after was at k 0 q ∙ get_or-take (suc n) old (suc k) 0 (omega arith))
    go k g (no q) = before k (omega arith) ∙ sym (get_d_before was at k 0 (omega arith) ∙ get_or-take (suc n) old k 0 (omega arith))

pub closed_less : (at m : ℕ) (old new : List ℕ) → at < m → m ≤ length old → length new ≡ length old
    → ((k : ℕ) (d : ℕ) → k < at → get_or new k d ≡ get_or old k d)
    → ((k : ℕ) (d : ℕ) → at ≤ k → k < at + (m - (at + 1)) → get_or new k d ≡ get_or old (at + 1 + (k - at)) d)
    → take (m - 1) new ≡ without at (take m old)
closed_less at m old new h few same before moved =
    let e : suc (m - 1) ≡ m = omega arith in
    closed_up at (m - 1) old new (omega arith) (omega arith) same (λ k l. before k 0 l)
    (λ k g l. moved k 0 g (omega arith) ∙ ap (λ (j : ℕ). get_or old j 0) (omega arith))
    ∙ ap (λ (j : ℕ). without at (take j old)) e

-- ---- all but two

abbrev pub nine_left : List ℕ
nine_left = 0 ∷ 1 ∷ 2 ∷ 3 ∷ 4 ∷ 5 ∷ 6 ∷ 7 ∷ 8 ∷ []

nine_are : nine_left ≡ up_from 0 9
unfolding up_from
nine_are = refl

pub nine_stored : Stored nine_left
unfolding up_from
nine_stored = (each_up_from (λ k. k < 9) (λ k. k) 0 9 (λ k a b. omega arith), ordered_up_from ◌<◌ (λ k. k) 0 9 (λ j k a b c. b))

nine_at : (i : ℕ) → i < 9 → get_or nine_left i 0 ≡ i
nine_at i h = ap (λ (l : List ℕ). get_or l i 0) nine_are ∙ get_d_up_from 0 9 i 0 h ∙ omega arith

-- the place of the earlier seed is left out, and then that of the later, which has moved up by one
pub seeds_leaving : {i j : ℕ} → i < j → j < 9 → (two : List ℕ)
    → two ≡ without (j - 1) (without i nine_left)
    → two ≡ S.leaving j (S.leaving i (up_from 0 9))
seeds_leaving {i} {j} h m two e =
    e ∙ sym (leaving_at (without i nine_left) (j - 1) (omega (arith, length_without nine_left i (omega arith))) (stored_without nine_left i nine_stored))
    ∙ ap₂ S.leaving next (sym (leaving_at nine_left i (omega arith) nine_stored) ∙ ap₂ S.leaving (nine_at i (omega arith)) nine_are)
  where
    next : get_or (without i nine_left) (j - 1) 0 ≡ j
    next =
        let e : suc (j - 1) ≡ j = omega arith in
        get_d_after nine_left i (j - 1) 0 (omega arith) ∙ rw e (nine_at j m)
