-- Each pair of an owner once: in found order a pair that occurs twice stands beside itself, so that what is left rises; and what rises has each
-- pair once already, and is in found order.
use mathlib.Core.Path.{◌≡◌, refl, sym, ap, ◌∙◌, subst}
use mathlib.Core.Bool.{Bool, true, false, not, cond}
use mathlib.Core.List.Memᴰ
use mathlib.Core.List.{List, [], ◌∷◌}
use mathlib.Core.Logic.{⊎_elim}
use Prim.Native.Nat.{◌≤◌}
use native.Mathlib.Omega.{arith}
use lib.ListN.{length}
use Rattle.rules.specs.declared.FoundRecord.{FoundRecord}
use Rattle.rules.specs.Lists.{those}
use Rattle.rules.specs.Geometry.{same_found}
use Rattle.rules.specs.Search.{before, ordered}
use Rattle.rules.specs.File.{distinct}
use Rattle.rules_laws.proofs.Places.{Among, Each, each_of, each_among}
use Rattle.rules_laws.proofs.Parts.{those_yes, those_no, those_none, those_every, among_those, counted, count_cons}
use Rattle.sound_laws.proofs.Same.{same_found_lem}
use Rattle.search_laws.specs.Order.{Foremost, Sorted, Alike}
use Rattle.search_laws.proofs.Order.{before_strict, before_on, neither_before, sorted_is}
use Rattle.file_laws.specs.Ascending.{Rising}
use Rattle.file_laws.proofs.Ascends.{up_apart}

-- ---- pairs that are not the same

apart : (a b : FoundRecord) → before a b ≡ true → same_found a b ≡ false
apart = up_apart before_strict same_found same_found_lem

-- where r is before every member, each is another pair
all_others : (r : FoundRecord) (xs : List FoundRecord) → Each (λ x. before r x ≡ true) xs → those (λ x. not (same_found r x)) xs ≡ xs
all_others r xs h = those_every (λ x. not (same_found r x)) xs (λ x m. rw (apart r x (each_of (λ y. before r y ≡ true) h m)))

-- ---- one more in front

distinct_more : (r : FoundRecord) (rs : List FoundRecord) → distinct (r ∷ rs) ≡ r ∷ those (λ x. not (same_found r x)) (distinct rs)
unfolding distinct
distinct_more r rs = refl

pub distinct_none : distinct [] ≡ []
unfolding distinct
distinct_none = refl

-- a pair before all of what is left is kept
pub distinct_new : (r : FoundRecord) (rs : List FoundRecord) → Each (λ x. before r x ≡ true) (distinct rs) → distinct (r ∷ rs) ≡ r ∷ distinct rs
distinct_new r rs h = distinct_more r rs ∙ ap (λ (l : List FoundRecord). r ∷ l) (all_others r (distinct rs) h)

-- a second one like it is dropped
pub distinct_same : (r : FoundRecord) (rs : List FoundRecord) → distinct (r ∷ r ∷ rs) ≡ distinct (r ∷ rs)
distinct_same r rs =
    let t : FoundRecord → Bool = λ x. not (same_found r x) in
    let self : t r ≡ false = rw ((same_found_lem r r).1 refl) in
    let again : those t (those t (distinct rs)) ≡ those t (distinct rs) =
    those_every t (those t (distinct rs)) (λ x m. ((among_those t x (distinct rs)).0 m).1) in
    distinct_more r (r ∷ rs)
    ∙ ap (λ (l : List FoundRecord). r ∷ those t l) (distinct_more r rs)
    ∙ ap (λ (l : List FoundRecord). r ∷ l) (those_no t r (those t (distinct rs)) self ∙ again)
    ∙ sym (distinct_more r rs)

-- ---- in found order

-- the first of what is left is the first
from_first : (x : FoundRecord) (xs : List FoundRecord) → Rising (distinct (x ∷ xs)) → (r : FoundRecord) → before r x ≡ true
    → Each (λ y. before r y ≡ true) (distinct (x ∷ xs))
from_first x xs a r h =
    let rest = those (λ y. not (same_found x y)) (distinct xs) in
    let b = subst Rising (distinct_more x xs) a in
    subst (Each (λ y. before r y ≡ true)) (sym (distinct_more x xs))
    (h, each_among (λ y. before r y ≡ true) rest (λ y m. before_on r x y h (each_of (λ z. before x z ≡ true) b.0 m)))

-- whether two neighbours are the same pair is a question of their order
pub distinct_next : (r x : FoundRecord) (xs : List FoundRecord) → Foremost r (x ∷ xs) → Rising (distinct (x ∷ xs))
    → distinct (r ∷ x ∷ xs) ≡ cond (before r x) (r ∷ distinct (x ∷ xs)) (distinct (x ∷ xs))
distinct_next r x xs f a = go (before r x) refl
  where
    go : (b : Bool) → before r x ≡ b → distinct (r ∷ x ∷ xs) ≡ cond (before r x) (r ∷ distinct (x ∷ xs)) (distinct (x ∷ xs))
    go true e = rw e (distinct_new r (x ∷ xs) (from_first x xs a r e))
    go false e =
        let s = neither_before r x e f in
        rw e (subst (λ (y : FoundRecord). distinct (y ∷ x ∷ xs) ≡ distinct (x ∷ xs)) (sym s) (distinct_same x xs))

pub distinct_ascending : (xs : List FoundRecord) → Sorted xs → Rising (distinct xs)
distinct_ascending [] s = rw distinct_none tt
distinct_ascending (r ∷ []) s = rw (distinct_new r [] (rw distinct_none tt), distinct_none) (tt, tt)
distinct_ascending (r ∷ x ∷ xs) s = go (before r x) refl (distinct_ascending (x ∷ xs) s.1)
  where
    go : (b : Bool) → before r x ≡ b → Rising (distinct (x ∷ xs)) → Rising (distinct (r ∷ x ∷ xs))
    go true e a = subst Rising (sym (rw e at (distinct_next r x xs s.0 a))) (from_first x xs a r e, a)
    go false e a = subst Rising (sym (rw e at (distinct_next r x xs s.0 a))) a

-- nothing is added
pub distinct_among : (x : FoundRecord) (xs : List FoundRecord) → Among x (distinct xs) → Among x xs
distinct_among x [] m = rw distinct_none at m
distinct_among x (r ∷ rs) m =
    ⊎_elim (λ e. Memᴰ.head e)
    (λ n. Memᴰ.tail (distinct_among x rs ((among_those (λ y. not (same_found r y)) x (distinct rs)).0 n).0))
    (Memᴰ.cases_cons (subst (Among x) (distinct_more r rs) m))

-- ---- what rises

pub ascending_distinct : (xs : List FoundRecord) → Rising xs → distinct xs ≡ xs
ascending_distinct [] a = distinct_none
ascending_distinct (r ∷ rs) a =
    let e = ascending_distinct rs a.1 in
    distinct_new r rs (subst (Each (λ x. before r x ≡ true)) (sym e) a.0) ∙ ap (λ (l : List FoundRecord). r ∷ l) e

pub ascending_sorted : (xs : List FoundRecord) → Rising xs → Sorted xs
ascending_sorted [] a = tt
ascending_sorted (r ∷ []) a = (tt, tt)
ascending_sorted (r ∷ x ∷ xs) a = (before_strict.one_way r x a.0.0, ascending_sorted (x ∷ xs) a.1)

-- it is the one order of the records that it holds
pub ascending_ordered : (xs ys : List FoundRecord) → Rising ys → Alike xs ys → ordered xs ≡ ys
ascending_ordered xs ys a h = sym (sorted_is xs ys (ascending_sorted ys a) h)

-- where no pair is held twice, nothing is dropped
pub once_distinct : (xs : List FoundRecord) → ((x : FoundRecord) → length (those (same_found x) xs) ≤ 1) → distinct xs ≡ xs
once_distinct [] h = distinct_none
once_distinct (r ∷ rs) h =
    let fewer : (x : FoundRecord) → length (those (same_found x) rs) ≤ 1 = λ x. omega (arith, h x, count_cons (same_found x) r rs) in
    distinct_more r rs ∙ ap (λ (l : List FoundRecord). r ∷ those (λ x. not (same_found r x)) l) (once_distinct rs fewer)
    ∙ ap (λ (l : List FoundRecord). r ∷ l) (those_every (λ x. not (same_found r x)) rs other)
  where
    other : (x : FoundRecord) → Among x rs → not (same_found r x) ≡ true
    other x m = go (same_found r x) refl
      where
        go : (b : Bool) → same_found r x ≡ b → not (same_found r x) ≡ true
        go false e = rw e
        go true e =
            let self = those_yes (same_found r) r [] ((same_found_lem r r).1 refl) ∙ ap (λ (l : List FoundRecord). r ∷ l) (those_none (same_found r)) in
            absurd (omega (arith, h r, count_cons (same_found r) r rs, counted (same_found r) m e, ap length self))
