-- Comparisons that know ties. Each choice of document 01 compares numbers, and a later rule decides only where the earlier ones
-- find no difference, so every comparison here is that of numbers, one after another.
use mathlib.Core.Path.{◌≡◌, refl, sym, ap, ◌∙◌}
use mathlib.Core.Logic.Iff
use mathlib.Core.Logic.{◌↔◌, ◌⊎◌, inl, inr, ⊎_elim}
use mathlib.Core.Bool.{Bool, true, false, true≢false}
use native.Mathlib.Omega.{arith}
use lib.Dec.{ltb}
use lib.IntN.{ℤ, pos, negsuc}
use lib.Signed.{lt_z, le_z}
use borrow.Author.Tests.{ltb-true, ltb-false, le-ltb, leb-true, le-leb}
use Rattle.rules.specs.Lists.{less_then}

-- never both ways; and where a is not better than b, nor b than c, a is not better than c
pub record Strict {A : Type 0} (better : A → A → Bool) : Type 0 where
  pub one_way : (a b : A) → better a b ≡ true → better b a ≡ false
  pub onward : (a b c : A) → better a b ≡ false → better b c ≡ false → better a c ≡ false

-- no test comes out both ways
pub never_both : {X : Type 0} {t : Bool} → t ≡ true → t ≡ false → X
never_both p q = absurd (true≢false (sym p ∙ q))

module _ {A : Type 0} {better : A → A → Bool} (s : Strict better) where
  pub not_itself : (a : A) → better a a ≡ false
  not_itself a = go (better a a) refl
    where
      go : (t : Bool) → better a a ≡ t → better a a ≡ false
      go true e = s.one_way a a e
      go false e = e

  -- a beats c and b does not: a beats b
  pub beats : (a b c : A) → better a c ≡ true → better b c ≡ false → better a b ≡ true
  beats a b c p q = go (better a b) refl
    where
      go : (t : Bool) → better a b ≡ t → t ≡ true
      go true e = refl
      go false e = never_both p (s.onward a b c e q)

  -- b beats c and not a: a beats c
  pub beats_too : (a b c : A) → better b c ≡ true → better b a ≡ false → better a c ≡ true
  beats_too a b c p q = go (better a c) refl
    where
      go : (t : Bool) → better a c ≡ t → t ≡ true
      go true e = refl
      go false e = never_both p (s.onward b a c q e)

  pub beats_on : (a b c : A) → better a b ≡ true → better b c ≡ true → better a c ≡ true
  beats_on a b c p q = beats a c b p (s.one_way b c q)

  -- by a key; and the other way round
  pub by_key : {B : Type 0} (key : B → A) → Strict (λ x y. better (key x) (key y))
  by_key key = record { one_way = λ x y. s.one_way (key x) (key y); onward = λ x y z. s.onward (key x) (key y) (key z) }

  pub reversed : Strict (λ a b. better b a)
  reversed = record { one_way = λ a b. s.one_way b a; onward = λ a b c p q. s.onward c b a q p }

-- no difference at all
pub tied : {A : Type 0} → Strict {A = A} (λ a b. false)
tied = record { one_way = λ a b p. refl; onward = λ a b c p q. refl }

-- ---- numbers

pub ltb_strict : Strict ltb
ltb_strict = record {
  one_way = λ a b p. le-ltb b a (omega (arith, ltb-true a b p));
  onward = λ a b c p q. le-ltb a c (omega (arith, ltb-false a b p, ltb-false b c q));
}

lt_z_one_way : (a b : ℤ) → lt_z a b ≡ true → lt_z b a ≡ false
lt_z_one_way (pos a) (pos b) p = ltb_strict.one_way a b p
lt_z_one_way (pos a) (negsuc b) p = sym p
lt_z_one_way (negsuc a) (pos b) p = refl
lt_z_one_way (negsuc a) (negsuc b) p = ltb_strict.one_way b a p

lt_z_onward : (a b c : ℤ) → lt_z a b ≡ false → lt_z b c ≡ false → lt_z a c ≡ false
lt_z_onward (pos a) (pos b) (pos c) p q = ltb_strict.onward a b c p q
lt_z_onward (pos a) (pos b) (negsuc c) p q = refl
lt_z_onward (pos a) (negsuc b) (pos c) p q = never_both refl q
lt_z_onward (pos a) (negsuc b) (negsuc c) p q = refl
lt_z_onward (negsuc a) (pos b) (pos c) p q = p
lt_z_onward (negsuc a) (pos b) (negsuc c) p q = never_both refl p
lt_z_onward (negsuc a) (negsuc b) (pos c) p q = q
lt_z_onward (negsuc a) (negsuc b) (negsuc c) p q = ltb_strict.onward c b a q p

pub lt_z_strict : Strict lt_z
lt_z_strict = record { one_way = lt_z_one_way; onward = lt_z_onward }

-- not less is at least; each at most the other, or neither less, is the same
pub not_less : (a b : ℤ) → lt_z b a ≡ false → le_z a b ≡ true
not_less (pos a) (pos b) p = le-leb a b (ltb-false b a p)
not_less (pos a) (negsuc b) p = sym p
not_less (negsuc a) (pos b) p = refl
not_less (negsuc a) (negsuc b) p = le-leb b a (ltb-false a b p)

not_more : (a b : ℤ) → le_z a b ≡ true → lt_z b a ≡ false
not_more (pos a) (pos b) p = le-ltb b a (leb-true a b p)
not_more (pos a) (negsuc b) p = never_both p refl
not_more (negsuc a) (pos b) p = refl
not_more (negsuc a) (negsuc b) p = le-ltb a b (leb-true b a p)

pub at_most_on : (a b c : ℤ) → le_z a b ≡ true → le_z b c ≡ true → le_z a c ≡ true
at_most_on a b c p q = not_less a c (lt_z_onward c b a (not_more b c q) (not_more a b p))

pub at_most_self : (a : ℤ) → le_z a a ≡ true
at_most_self a = not_less a a (not_itself lt_z_strict a)

pub both_at_most : (a b : ℤ) → le_z a b ≡ true → le_z b a ≡ true → a ≡ b
both_at_most (pos a) (pos b) p q = ap pos (omega (arith, leb-true a b p, leb-true b a q))
both_at_most (pos a) (negsuc b) p q = never_both p refl
both_at_most (negsuc a) (pos b) p q = never_both q refl
both_at_most (negsuc a) (negsuc b) p q = ap negsuc (omega (arith, leb-true b a p, leb-true a b q))

pub neither_less : (a b : ℤ) → lt_z a b ≡ false → lt_z b a ≡ false → a ≡ b
neither_less a b p q = both_at_most a b (not_less a b q) (not_less b a p)

-- ---- a rule and the next

module _ (a b : ℤ) (next : Bool) where
  pub then_less : lt_z a b ≡ true → less_then a b next ≡ true
  unfolding less_then
  then_less p = rw p

  pub then_more : lt_z b a ≡ true → less_then a b next ≡ false
  unfolding less_then
  then_more p = rw (lt_z_one_way b a p, p)

pub then_same : (a b : ℤ) (next : Bool) → a ≡ b → less_then a b next ≡ next
unfolding less_then
then_same a b next p = rw (p, not_itself lt_z_strict b)

-- not better: at most as good by the one rule, and where that knows no difference, not better by the next
pub not_next : {a b : ℤ} {next : Bool} → b ≡ a → less_then a b next ≡ false → next ≡ false
not_next {a} {b} {next} e h = sym (then_same a b next (sym e)) ∙ h

pub at_most : (a b : ℤ) (next : Bool) → less_then a b next ≡ false → le_z b a ≡ true
at_most a b next h = go (lt_z a b) refl
  where
    go : (t : Bool) → lt_z a b ≡ t → le_z b a ≡ true
    go true p = never_both (then_less a b next p) h
    go false p = not_less b a p

-- less, the same or more
data Compared (a b : ℤ) : Type 0 where
  less : lt_z a b ≡ true → Compared a b
  equal : a ≡ b → Compared a b
  more : lt_z b a ≡ true → Compared a b

compared : (a b : ℤ) → Compared a b
compared a b = go (lt_z a b) (lt_z b a) refl refl
  where
    go : (s t : Bool) → lt_z a b ≡ s → lt_z b a ≡ t → Compared a b
    go true t p q = less p
    go false true p q = more q
    go false false p q = equal (neither_less a b p q)

-- it is better by the one rule; or the rule knows no difference, and it is better by the next, which says N
pub better_by : {N : Type 0} (a b : ℤ) (next : Bool) → (next ≡ true) ↔ N → (less_then a b next ≡ true) ↔ ((lt_z a b ≡ true) ⊎ ((a ≡ b) × N))
better_by {N} a b next n = (to (compared a b), ⊎_elim (then_less a b next) (λ h. then_same a b next h.0 ∙ n.1 h.1))
  where
    to : Compared a b → less_then a b next ≡ true → (lt_z a b ≡ true) ⊎ ((a ≡ b) × N)
    to (less p) h = inl p
    to (equal p) h = inr (p, n.0 (sym (then_same a b next p) ∙ h))
    to (more p) h = never_both h (then_more a b next p)

pub not_better_by : (a b : ℤ) (next : Bool) → (less_then a b next ≡ false) ↔ ((lt_z b a ≡ true) ⊎ ((a ≡ b) × (next ≡ false)))
not_better_by a b next = (to (compared a b), ⊎_elim (then_more a b next) (λ h. then_same a b next h.0 ∙ h.1))
  where
    to : Compared a b → less_then a b next ≡ false → (lt_z b a ≡ true) ⊎ ((a ≡ b) × (next ≡ false))
    to (less p) h = never_both (then_less a b next p) h
    to (equal p) h = inr (p, sym (then_same a b next p) ∙ h)
    to (more p) h = inl p

module _ {A : Type 0} (key : A → ℤ) {next : A → A → Bool} (s : Strict next) where
  -- not better, by the rules
  abbrev Not : A → A → Type 0
  Not a b = (lt_z (key b) (key a) ≡ true) ⊎ ((key a ≡ key b) × (next a b ≡ false))

  not_one_way : (a b : A) → (lt_z (key a) (key b) ≡ true) ⊎ ((key a ≡ key b) × (next a b ≡ true)) → Not b a
  not_one_way a b (inl p) = inl p
  not_one_way a b (inr p) = inr (sym p.0, s.one_way a b p.1)

  not_onward : (a b c : A) → Not a b → Not b c → Not a c
  not_onward a b c (inl p) (inl q) = inl (beats_on lt_z_strict (key c) (key b) (key a) q p)
  not_onward a b c (inl p) (inr q) = inl (rw q.0 at p)
  not_onward a b c (inr p) (inl q) = inl (rw p.0 q)
  not_onward a b c (inr p) (inr q) = inr (p.0 ∙ q.0, s.onward a b c p.1 q.1)

  pub then_strict : Strict (λ a b. less_then (key a) (key b) (next a b))
  then_strict = record {
    one_way = λ a b h. (not_better_by _ _ _).1 (not_one_way a b ((better_by _ _ _ Iff.rfl).0 h));
    onward = λ a b c h k. (not_better_by _ _ _).1 (not_onward a b c ((not_better_by _ _ _).0 h) ((not_better_by _ _ _).0 k));
  }
