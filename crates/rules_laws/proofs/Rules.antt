-- `less_then` of two comparisons is `less_then` of what is compared: coordinates, measures or counts, each by the number that it stands for; and
-- so is a rule that is asked by itself, before the next. And one of two things by a test: what is true of both is true of it.
use mathlib.Core.Path.{◌≡◌, refl, sym, ap, ap₂, ◌∙◌}
use mathlib.Core.Bool.{Bool, true, false, cond, not, ◌&&◌, ◌||◌}
use Prim.Native.Nat.{ℕ}
use native.Mathlib.Omega.{arith}
use lib.Dec.{ltb}
use lib.IntN.{ℤ, pos}
use lib.Signed.{lt_z}
use borrow.Author.Tests.{ltb-false, le-ltb, lt-ltb}
use Rattle.rules.specs.Lists.{less_then}

pub by_rule : {a b x y : ℤ} {r s next : Bool} → a ≡ x → b ≡ y → r ≡ (lt_z a b || (not (lt_z b a) && s)) → s ≡ next → r ≡ less_then x y next
unfolding less_then
by_rule {a} {b} {x} {y} {r} {s} {next} p q e n = e ∙ ap (λ (t : Bool). lt_z a b || (not (lt_z b a) && t)) n ∙ ap₂ (λ (u v : ℤ). less_then u v next) p q

-- two naturals that the code compares, and the whole numbers that they stand for, which compare alike
pub record Alike (m n : ℕ) (x y : ℤ) : Type 0 where
  pub less : lt_z x y ≡ ltb m n
  pub more : lt_z y x ≡ ltb n m

pub as_pos : {m n : ℕ} {x y : ℤ} → pos m ≡ x → pos n ≡ y → Alike m n x y
as_pos p q = record { less = ap₂ lt_z (sym p) (sym q); more = ap₂ lt_z (sym q) (sym p) }

-- a rule asked by itself: where the numbers differ it decides; where they do not, the next does; and the last has no next
module _ {m n : ℕ} {x y : ℤ} (a : Alike m n x y) where
  by_both : (next : Bool) → less_then x y next ≡ (ltb m n || (not (ltb n m) && next))
  unfolding less_then
  by_both next = rw (a.less, a.more)

  pub decides : (next : Bool) → (m ≡ n → ⊥) → ltb m n ≡ less_then x y next
  decides next differ = go (ltb m n) refl ∙ sym (by_both next)
    where
      go : (t : Bool) → ltb m n ≡ t → t ≡ (t || (not (ltb n m) && next))
      go true e = refl
      go false e = sym (ap (λ (s : Bool). not s && next) (lt-ltb n m (omega (arith, ltb-false m n e, differ))))

  pub ties : {r : Bool} (next : Bool) → m ≡ n → r ≡ next → r ≡ less_then x y next
  ties next same e =
      e ∙ sym (ap₂ (λ (s t : Bool). s || (not t && next)) (le-ltb m n (omega (arith, same))) (le-ltb n m (omega (arith, same)))) ∙ sym (by_both next)

  pub last_rule : ltb m n ≡ less_then x y false
  last_rule = go (ltb m n) (ltb n m) ∙ sym (by_both false)
    where
      go : (s t : Bool) → s ≡ (s || (not t && false))
      go true t = refl
      go false true = refl
      go false false = refl

module _ {A : Type 0} where
  pub chosen : (P : A → Type 0) (t : Bool) {x y : A} → P x → P y → P (cond t x y)
  chosen P true a b = a
  chosen P false a b = b

  pub chosen_part : {B : Type 0} (f : A → B) (t : Bool) (x y : A) → f (cond t x y) ≡ cond t (f x) (f y)
  chosen_part f true x y = refl
  chosen_part f false x y = refl
