-- A turn of `choose_tied` and of `choose_child`: the entry kept is the one that `earliest_best` keeps.
use mathlib.Core.Path.{◌≡◌, refl, sym, ap, ◌∙◌}
use mathlib.Core.Bool.{Bool, true, false, cond}
use mathlib.Core.List.{List, ◌∷◌}
use Prim.Native.Nat.{ℕ, ◌+◌, ◌-◌, ◌≤◌, ◌<◌}
use native.Mathlib.Omega.{arith}
use lib.Dec.{ltb}
use lib.ListN.{length}
use lib.IntN.{pos}
use Rattle.rules.specs.declared.Rect.{Rect}
use Rattle.rules.specs.Geometry.{enlargement}
use Rattle.rules.specs.Lists.{earliest_best, up_from}
use Rattle.rules.specs.Choose.{rect_from, takes_better, earliest, choose_child}
use Rattle.rules_laws.proofs.Turns.{best_nil, best_cons, up_more, up_none}
use Rattle.rules_laws.proofs.Rules.{chosen_part, as_pos, decides}
use Rattle.layout_laws.proofs.Parts.{length_rects}
use Rattle.choose.specs.declared.Best.{Best}
use Rattle.pool.specs.declared.node.Node.{Node}
use Rattle.pool.specs.Reading.{rects_of, entries_of}
use Rattle.choose.specs.State.{better, ahead}

-- an entry has the place of its rectangle
pub in_node : (n : Node) {i : ℕ} → i < length (rects_of n) → i < length (entries_of n)
in_node n h = rw (length_rects (entries_of n)) at h

module _ (rs : List Rect) (new : Rect) where
  -- the entry that the code keeps
  abbrev pub keeps : Best → Best → Best
  keeps b a = cond (better rs new a.at b.at) a b

  step : (k i : ℕ) → i < length rs → ahead rs new k i ≡ ahead rs new (cond (better rs new i k) i k) (i + 1)
  step k i h =
      ap (earliest_best (better rs new) k) (up_more i (length rs) h)
      ∙ best_cons (better rs new) k i (up_from (i + 1) (length rs - (i + 1)))

  pub step_kept : (a b : Best) (i : ℕ) → a.at ≡ i → i < length rs → ahead rs new b.at i ≡ ahead rs new (keeps b a).at (i + 1)
  step_kept a b i e h =
      step b.at i h
      ∙ ap (λ (k : ℕ). ahead rs new k (i + 1))
      (ap (λ (j : ℕ). cond (better rs new j b.at) j b.at) (sym e)
      ∙ sym (chosen_part (λ (c : Best). c.at) (better rs new a.at b.at) a b))

  -- two enlargements that differ decide
  module _ (at i least grows : ℕ) (p : pos least ≡ enlargement (rect_from rs at) new) (q : pos grows ≡ enlargement (rect_from rs i) new) (differ : grows ≡ least → ⊥) where
    same_test : ltb grows least ≡ better rs new i at
    unfolding takes_better
    same_test = decides (as_pos q p) _ differ

    pub step_least : i < length rs → ahead rs new at i ≡ ahead rs new (cond (ltb grows least) i at) (i + 1)
    step_least h = step at i h ∙ ap (λ (t : Bool). ahead rs new (cond t i at) (i + 1)) (sym same_test)

    pub least_is : pos (cond (ltb grows least) grows least) ≡ enlargement (rect_from rs (cond (ltb grows least) i at)) new
    least_is = go (ltb grows least)
      where
        go : (t : Bool) → pos (cond t grows least) ≡ enlargement (rect_from rs (cond t i at)) new
        go true = q
        go false = p

  pub first : 0 < length rs → ahead rs new 0 1 ≡ choose_child rs new
  unfolding choose_child earliest
  first h = rw (up_first (length rs) h)
    where
      up_first : (n : ℕ) → 0 < n → up_from 0 n ≡ 0 ∷ up_from 1 (n - 1)
      up_first n l = ap (up_from 0) (omega arith) ∙ up_more 0 n l ∙ refl

  pub last : (k i : ℕ) → length rs ≤ i → ahead rs new k i ≡ k
  last k i h = ap (earliest_best (better rs new) k) (up_none i (length rs) h) ∙ best_nil (better rs new) k
