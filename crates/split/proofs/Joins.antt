-- A group: a seed alone, and with one place more, which is last in it, and its cover grows by it;
-- and its enlargements, which are measured one after another.
use mathlib.Core.Path.{◌≡◌, refl, sym, ap, subst⁻¹, ◌∙◌}
use mathlib.Core.List.{List, [], ◌∷◌, ◌++◌, map, foldl}
use Prim.Native.Nat.{ℕ, ◌+◌, ◌≤◌, ◌<◌}
use native.Mathlib.Numerals.{add-one}
use native.Mathlib.Omega.{arith}
use native.Mathlib.Decide.{ℕ_discrete}
use lib.ListN.{length, take, get_or, set, replicate}
use lib.Seq.{length-take-le, take-suc, take-suc-set, get_or-set_same, get_or-set_other}
use lib.IntN.{pos}
use Rattle.rules.specs.declared.Rect.{Rect}
use Rattle.rules.specs.Geometry.{cover, cover_all, enlargement}
use Rattle.rules.specs.Choose.{rect_from}
use Rattle.rules.specs.Split as S
use Rattle.rules_laws.proofs.Places.{each_append, each_also, get_d_alike}
use Rattle.split.specs.State.{Grows}

-- ---- enlargements

pub kept_more : (rs : List Rect) (cover : Rect) (places grows : List ℕ) (i at v : ℕ)
    → Grows rs cover (take i places) grows → i < length places
    → at ≡ get_or places i 0 → at < length grows → pos v ≡ enlargement cover (rect_from rs at) → Grows rs cover (take (i + 1) places) (set grows at v)
kept_more rs cover places grows i at v g h s m e =
    rw (add-one i, take-suc places i 0 h, ← s) (each_append Now (take i places) (at ∷ []) (each_also Then Now still (take i places) g) (here, tt))
  where
    Then : ℕ → Type 0
    Then k = pos (get_or grows k 0) ≡ enlargement cover (rect_from rs k)

    Now : ℕ → Type 0
    Now k = pos (get_or (set grows at v) k 0) ≡ enlargement cover (rect_from rs k)

    here : Now at
    here = rw (get_or-set_same grows at v 0 m) e

    still : (k : ℕ) → Then k → Now k
    still k t = go (ℕ_discrete k at)
      where
        go : Dec (k ≡ at) → Now k
        go (yes q) = subst⁻¹ Now q here
        go (no q) = rw (get_or-set_other grows at k v 0 q) t

-- ---- covers

fold_snoc : (c : Rect) (rs : List Rect) (r : Rect)
    → foldl cover c (rs ++ r ∷ []) ≡ cover (foldl cover c rs) r
fold_snoc c [] r = refl
fold_snoc c (x ∷ xs) r = fold_snoc (cover c x) xs r

map_snoc : (f : ℕ → Rect) (is : List ℕ) (k : ℕ) → map f (is ++ k ∷ []) ≡ map f is ++ f k ∷ []
map_snoc f [] k = refl
map_snoc f (i ∷ is) k = ap (λ (l : List Rect). f i ∷ l) (map_snoc f is k)

pub cover_snoc : (rs : List Rect) (is : List ℕ) (k : ℕ) → 1 ≤ length is
    → S.cover_group rs (is ++ k ∷ []) ≡ cover (S.cover_group rs is) (rect_from rs k)
unfolding S.cover_group cover_all
cover_snoc rs [] k h = absurd (omega arith)
cover_snoc rs (i ∷ is) k h = ap (foldl cover (rect_from rs i)) (map_snoc (rect_from rs) is k) ∙ fold_snoc (rect_from rs i) (map (rect_from rs) is) (rect_from rs k)

pub cover_alone : (rs : List Rect) (i : ℕ) → rect_from rs i ≡ S.cover_group rs (i ∷ [])
unfolding S.cover_group cover_all
cover_alone rs i = refl

-- ---- a seed alone

pub alone_after : (i k : ℕ) → 1 ≤ k → get_or (set (replicate 9 0) 0 i) k 0 ≡ 0
alone_after i k l = get_or-set_other (replicate 9 0) 0 k i 0 (omega arith) ∙ get_d_alike 9 k 0

-- ---- one place more

module _ (places : List ℕ) (n k : ℕ) (h : n < length places) where
  pub more_places : take (n + 1) (set places n k) ≡ take n places ++ k ∷ []
  more_places = rw (add-one n) (take-suc-set places n k h)

  pub more_inside : k < 9 → ((j : ℕ) → j < n → get_or places j 0 < 9) → (j : ℕ) → j < n + 1
      → get_or (set places n k) j 0 < 9
  more_inside s inside j l = go (ℕ_discrete j n)
    where
      go : Dec (j ≡ n) → get_or (set places n k) j 0 < 9
      go (yes e) = rw (e, get_or-set_same places n k 0 h) s
      go (no ne) = rw (get_or-set_other places n j k 0 ne) (inside j (omega (arith, l)))

  pub more_after : ((j : ℕ) → n ≤ j → get_or places j 0 ≡ 0) → (j : ℕ) → n + 1 ≤ j
      → get_or (set places n k) j 0 ≡ 0
  more_after after j l = get_or-set_other places n j k 0 (omega (arith, l)) ∙ after j (omega (arith, l))

  pub more_cover : (rs : List Rect) → 1 ≤ n
      → cover (S.cover_group rs (take n places)) (rect_from rs k) ≡ S.cover_group rs (take (n + 1) (set places n k))
  more_cover rs s =
      sym (cover_snoc rs (take n places) k (rw (length-take-le n places (omega (arith, h))) s)) ∙ ap (S.cover_group rs) (sym more_places)
