-- `distribute` a place at a time: whichever place joins whichever group, what the groups come to
-- stays the same. A forced joining takes the first of those left: then the group still needs all
-- the others, so they join it in order.
use mathlib.Core.Path.{◌≡◌, refl, sym, ap, ◌∙◌}
use mathlib.Core.Bool.{Bool, true, false}
use mathlib.Core.List.{List, [], ◌∷◌, ◌++◌, append-nil}
use Prim.Native.Nat.{ℕ, zero, suc, ◌+◌, ◌≤◌}
use native.Mathlib.Omega.{arith}
use lib.ListN.{length, length-append}
use lib.Seq.{append_snoc}
use borrow.Author.Tests.{eq-eqb, ne_eqb}
use Rattle.rules.specs.Split as S

-- ---- `distribute` case by case

module _ (next : S.Groups → ℕ) (toTwo : S.Groups → ℕ → Bool) (n : ℕ) (g : S.Groups) where
  all_one : S.needs_all g.one g.left ≡ true → S.distribute next toTwo (suc n) g ≡ S.all_join_one g
  unfolding S.distribute
  all_one e = rw (S.distribute, e)

  module _ (e : S.needs_all g.one g.left ≡ false) where
    all_two : S.needs_all g.two g.left ≡ true → S.distribute next toTwo (suc n) g ≡ S.all_join_two g
    unfolding S.distribute
    all_two f = rw (S.distribute, e, f)

    module _ (f : S.needs_all g.two g.left ≡ false) where
      pub next_two : toTwo g (next g) ≡ true
          → S.distribute next toTwo (suc n) g ≡ S.distribute next toTwo n (S.join_two (next g) g)
      unfolding S.distribute
      next_two h = rw (S.distribute, e, f, h)

      pub next_one : toTwo g (next g) ≡ false
          → S.distribute next toTwo (suc n) g ≡ S.distribute next toTwo n (S.join_one (next g) g)
      unfolding S.distribute
      next_one h = rw (S.distribute, e, f, h)

pub none : (next : S.Groups → ℕ) (toTwo : S.Groups → ℕ → Bool) (g : S.Groups)
    → S.distribute next toTwo 0 g ≡ g
unfolding S.distribute
none next toTwo g = refl

-- ---- a forced joining, one place at a time

empty : (m : List ℕ) → length m ≡ 0 → m ≡ []
empty [] e = refl
empty (x ∷ m) e = absurd (omega arith)

last_one : (a b m : List ℕ) → length m ≡ 0
    → S.all_join_one (record { one = a; two = b; left = m }) ≡ record { one = a; two = b; left = m }
unfolding S.all_join_one
last_one a b m z = let e = empty m z in λ k. record { one = (ap (λ (x : List ℕ). a ++ x) e ∙ append-nil a) k; two = b; left = sym e k }

pub needs_if : (a b : List ℕ) → length a + length b ≡ 3 → S.needs_all a b ≡ true
unfolding S.needs_all
needs_if a b e = eq-eqb (length a + length b) 3 e

pub needs_not : (a b : List ℕ) → (length a + length b ≡ 3 → ⊥) → S.needs_all a b ≡ false
unfolding S.needs_all
needs_not a b e = ne_eqb (length a + length b) 3 e

-- i is the first of those left, and `rest` are the others
module _ (g : S.Groups) (i : ℕ) (rest : List ℕ) (l : g.left ≡ i ∷ rest) (q : S.leaving i g.left ≡ rest) where
  one_left : S.join_one i g ≡ record { one = g.one ++ i ∷ []; two = g.two; left = rest }
  unfolding S.join_one
  one_left = λ k. record { one = g.one ++ i ∷ []; two = g.two; left = q k }

  -- they join group 1 after i
  one_all : S.all_join_one g ≡ S.all_join_one (S.join_one i g)
  unfolding S.all_join_one
  one_all = rw one_left (λ k. record { one = (ap (λ (m : List ℕ). g.one ++ m) l ∙ sym (append_snoc g.one i rest)) k; two = g.two; left = [] })

  one_last : length rest ≡ 0 → S.all_join_one g ≡ S.join_one i g
  one_last z = one_all ∙ ap S.all_join_one one_left ∙ last_one (g.one ++ i ∷ []) g.two rest z ∙ sym one_left

-- group 2 likewise: the groups under each other's name
mirrored : S.Groups → S.Groups
mirrored g = record { one = g.two; two = g.one; left = g.left }

module _ (g : S.Groups) (i : ℕ) (rest : List ℕ) (l : g.left ≡ i ∷ rest) (q : S.leaving i g.left ≡ rest) where
  two_left : S.join_two i g ≡ record { one = g.one; two = g.two ++ i ∷ []; left = rest }
  unfolding mirrored S.join_one S.join_two
  two_left = ap mirrored (one_left (mirrored g) i rest l q)

  two_all : S.all_join_two g ≡ S.all_join_two (S.join_two i g)
  unfolding mirrored S.join_one S.join_two S.all_join_one S.all_join_two
  two_all = ap mirrored (one_all (mirrored g) i rest l q)

  two_last : length rest ≡ 0 → S.all_join_two g ≡ S.join_two i g
  unfolding mirrored S.join_one S.join_two S.all_join_one S.all_join_two
  two_last z = ap mirrored (one_last (mirrored g) i rest l q z)

module _ (next : S.Groups → ℕ) (toTwo : S.Groups → ℕ → Bool) (g : S.Groups) (i : ℕ) (rest : List ℕ) (l : g.left ≡ i ∷ rest) (q : S.leaving i g.left ≡ rest) where
  size : length g.left ≡ suc (length rest)
  size = ap length l

  -- a group of a places needs all that are left, and so it does with i among them
  needs_still : (a : List ℕ) → length a + length g.left ≡ 3 → S.needs_all (a ++ i ∷ []) rest ≡ true
  needs_still a e = needs_if (a ++ i ∷ []) rest (omega (arith, size, length-append a (i ∷ [])))

  pub forced_one : (n : ℕ) → length rest ≡ n → length g.one + length g.left ≡ 3
      → S.distribute next toTwo (suc n) g ≡ S.distribute next toTwo n (S.join_one i g)
  forced_one zero z e = all_one next toTwo 0 g (needs_if g.one g.left e) ∙ one_last g i rest l q z ∙ sym (none next toTwo (S.join_one i g))
  forced_one (suc n) z e =
      all_one next toTwo (suc n) g (needs_if g.one g.left e) ∙ one_all g i rest l q
      ∙ sym (all_one next toTwo n (S.join_one i g) (rw (one_left g i rest l q) (needs_still g.one e)))

  pub forced_two : (n : ℕ) → length rest ≡ n → length g.two + length g.left ≡ 3 → 4 ≤ length g.one
      → S.distribute next toTwo (suc n) g ≡ S.distribute next toTwo n (S.join_two i g)
  forced_two n z e h = go n z
    where
      joins : (n : ℕ) → S.distribute next toTwo (suc n) g ≡ S.all_join_two g
      joins n = all_two next toTwo n g (needs_not g.one g.left (λ x. omega arith)) (needs_if g.two g.left e)

      go : (n : ℕ) → length rest ≡ n
          → S.distribute next toTwo (suc n) g ≡ S.distribute next toTwo n (S.join_two i g)
      go zero z = joins 0 ∙ two_last g i rest l q z ∙ sym (none next toTwo (S.join_two i g))
      go (suc n) z =
          let t = two_left g i rest l q in
          joins (suc n) ∙ two_all g i rest l q
          ∙ sym (all_two next toTwo n (S.join_two i g) (rw t (needs_not g.one rest (λ x. omega arith))) (rw t (needs_still g.two e)))
