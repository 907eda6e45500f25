-- Lists in which each member goes before every later one, by any strict order: none occurs twice, and what the list holds settles it.
use mathlib.Core.Path.{◌≡◌, refl, sym, ap, ap₂, subst}
use mathlib.Core.Logic.{◌↔◌, ◌⊎◌, inl, inr}
use mathlib.Core.Bool.{Bool, true, false}
use mathlib.Core.List.Memᴰ
use mathlib.Core.List.{List, [], ◌∷◌}
use Prim.Native.Nat.{◌≤◌}
use native.Mathlib.Omega.{arith}
use lib.ListN.{length}
use Rattle.rules.specs.Lists.{those}
use Rattle.rules_laws.proofs.Orders.{Strict, never_both, not_itself}
use Rattle.rules_laws.proofs.Places.{Among, Each, Ordered, each_of, nothing}
use Rattle.rules_laws.proofs.Parts.{those_yes, those_no, those_none, those_nothing}
use Rattle.search_laws.specs.Order.{Alike}
use Rattle.search_laws.proofs.Order.{alike_back, alike_length, alike_less, among_by}

-- `t` tells which are equal
module _ {A : Type 0} {better : A → A → Bool} (strict : Strict better) (t : A → A → Bool) (is : (a b : A) → (t a b ≡ true) ↔ (a ≡ b)) where
  pub up_apart : (a b : A) → better a b ≡ true → t a b ≡ false
  up_apart a b h = go (t a b) refl
    where
      go : (x : Bool) → t a b ≡ x → t a b ≡ false
      go true e = never_both (subst (λ (y : A). better a y ≡ true) (sym ((is a b).0 e)) h) (not_itself strict a)
      go false e = e

  pub up_once : (xs : List A) → Ordered (λ a b. better a b ≡ true) xs → (x : A) → length (those (t x) xs) ≤ 1
  up_once [] a x = omega (arith, ap length (those_none (t x)))
  up_once (r ∷ rs) a x = go (t x r) refl (up_once rs a.1 x)
    where
      go : (y : Bool) → t x r ≡ y → length (those (t x) rs) ≤ 1 → length (those (t x) (r ∷ rs)) ≤ 1
      go false e later = rw (those_no (t x) r rs e) later
      go true e later =
          let s = (is x r).0 e in
          let none_left = those_nothing (t x) rs
          (λ y m. up_apart x y (subst (λ (z : A). better z y ≡ true) (sym s) (each_of (λ z. better r z ≡ true) a.0 m))) in
          rw (those_yes (t x) r rs e, none_left) (omega arith)

  -- two such lists that hold the same begin with the same member
  first_same : (x y : A) (xs ys : List A) → Each (λ z. better x z ≡ true) xs → Each (λ z. better y z ≡ true) ys → Among x (y ∷ ys) → Among y (x ∷ xs)
      → x ≡ y
  first_same x y xs ys h k m n = go (Memᴰ.cases_cons m) (Memᴰ.cases_cons n)
    where
      go : (x ≡ y) ⊎ Among x ys → (y ≡ x) ⊎ Among y xs → x ≡ y
      go (inl e) v = e
      go (inr u) (inl e) = sym e
      go (inr u) (inr v) = never_both (each_of (λ z. better x z ≡ true) h v) (strict.one_way y x (each_of (λ z. better y z ≡ true) k u))

  pub up_same : (xs ys : List A) → Ordered (λ a b. better a b ≡ true) xs → Ordered (λ a b. better a b ≡ true) ys → Alike xs ys → xs ≡ ys
  up_same [] ys h k a = sym (nothing ys (sym (alike_length a)))
  up_same (x ∷ xs) [] h k a = nothing (x ∷ xs) (alike_length a)
  up_same (x ∷ xs) (y ∷ ys) h k a =
      let e = first_same x y xs ys h.0 k.0 (among_by t is a x (Memᴰ.head refl)) (among_by t is (alike_back a) y (Memᴰ.head refl)) in
      ap₂ (λ (z : A) (zs : List A). z ∷ zs) e (up_same xs ys h.1 k.1 (alike_less y (rw e at a)))
