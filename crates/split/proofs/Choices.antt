-- A turn of the loop over the positions of a choice: the item kept is the one that `earliest_best`
-- keeps.
use mathlib.Core.Path.{◌≡◌, refl, sym, ap, ◌∙◌}
use mathlib.Core.Bool.{Bool, cond}
use mathlib.Core.List.{List, [], ◌∷◌, map}
use Prim.Native.Nat.{ℕ, ◌+◌, ◌-◌, ◌≤◌, ◌<◌}
use Rattle.rules.specs.Lists.{earliest_best, up_from}
use Rattle.rules_laws.proofs.Rules.{chosen, chosen_part}
use Rattle.rules_laws.proofs.Turns.{best_nil, best_cons, up_more, up_none}
use Rattle.split.specs.declared.choice.Keyed.{Keyed}

module _ {T : Type 0} (before : T → T → Bool) (item : ℕ → T) where
  -- the best of x and the items at the positions from i to n
  abbrev pub best_from : T → ℕ → ℕ → T
  best_from x i n = earliest_best before x (map item (up_from i (n - i)))

  pub from_more : (x : T) (i n : ℕ) → i < n
      → best_from x i n ≡ best_from (cond (before (item i) x) (item i) x) (i + 1) n
  from_more x i n h = rw (up_more i n h) (best_cons before x (item i) (map item (up_from (i + 1) (n - (i + 1)))))

  pub from_none : (x : T) (i n : ℕ) → n ≤ i → best_from x i n ≡ x
  from_none x i n h = rw (up_none i n h) (best_nil before x)

  -- the loop has come to the position i: the best so far has its key, and it and the items from i
  -- on give what all give
  pub record Held (Right : T → ℕ → Type 0) (from to : ℕ) (best b : Keyed T) (i : ℕ) : Type 0 where
    pub right : Right b.item b.key
    pub rest : best_from b.item i to ≡ best_from best.item from to

  module _ {Right : T → ℕ → Type 0} {from to : ℕ} {best b : Keyed T} {i : ℕ} (h : Held Right from to best b i) where
    pub held_more : i < to → {other : Keyed T} → other.item ≡ item i → Right other.item other.key
        → Held Right from to best (cond (before other.item b.item) other b) (i + 1)
    held_more l {other} e r = record {
      right = chosen (λ (p : Keyed T). Right p.item p.key) (before other.item b.item) r h.right;
      rest =
          rw (chosen_part (λ (p : Keyed T). p.item) (before other.item b.item) other b, e) (sym (from_more b.item i to l) ∙ h.rest);
    }

    pub held_all : to ≤ i → b.item ≡ best_from best.item from to
    held_all l = sym (from_none b.item i to l) ∙ h.rest

-- a choice by what f makes of the items
pub best_map : {T U : Type 0} (f : T → U) (before : U → U → Bool) (item : ℕ → T) (x : T) (is : List ℕ)
    → f (earliest_best (λ a b. before (f a) (f b)) x (map item is)) ≡ earliest_best before (f x) (map (λ i. f (item i)) is)
unfolding earliest_best
best_map f before item x [] = refl
best_map f before item x (i ∷ is) =
    best_map f before item (cond (before (f (item i)) (f x)) (item i) x) is
    ∙ ap (λ y. earliest_best before y (map (λ i. f (item i)) is)) (chosen_part f (before (f (item i)) (f x)) (item i) x)
