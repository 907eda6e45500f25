-- The nodes that leave their parents are counted from the leaf up: those passed are thin, and the count ends at one that keeps enough, or
-- at the root.
use mathlib.Core.Path.{◌≡◌, refl, sym, ap, subst, ◌∙◌}
use mathlib.Core.List.{List}
use mathlib.Core.Bool.{true}
use Prim.Native.Nat.{ℕ, zero, suc, ◌+◌, ◌-◌, ◌≤◌, ◌<◌}
use native.Mathlib.Decide.{dec_le}
use native.Mathlib.Omega.{arith}
use lib.ListN.{length}
use lib.IntN.{ℤ}
use Rattle.rules.specs.declared.SlotNumber.{SlotNumber}
use Rattle.rules.specs.Numbers.{least}
use Rattle.rules.specs.Pool.{Pool, entries_at}
use Rattle.rules.specs.Layout.{valid_length, read}
use Rattle.layout_laws.specs.Slots.{InPool}
use Rattle.delete_laws.specs.Way.{next_leaves, thin_levels}
use Rattle.delete_laws.proofs.Thin.{next_leaves_lem, next_keeps, next_stays}
use Rattle.find_leaf.specs.declared.Step.{Step}
use Rattle.find_leaf.specs.declared.Way.{Way}
use Rattle.find_leaf.specs.Ways.{path_of}
use Rattle.find_leaf.proofs.Inner.{tree_in}
use Rattle.delete.specs.Aside.{ComesDown}
use Rattle.delete.proofs.Climb.{node_on, down_on}

-- the k lowest nodes are thin, and the root is not among them
pub record Thins (p : Pool) (h : ℕ) (ss : List Step) (k : ℕ) : Type 0 where
  pub thin : (j : ℕ) → j < k → length (entries_at p (node_on ss j)) ≤ least
  pub low : k < h

pub one_thinner : {p : Pool} {h : ℕ} {ss : List Step} {k : ℕ} → Thins p h ss k → k + 1 < h
    → length (entries_at p (node_on ss k)) ≤ least → Thins p h ss (k + 1)
one_thinner {p} {h} {ss} {k} t more few = record { thin = λ j low. go j low (dec_le (suc j) k); low = more }
  where
    go : (j : ℕ) → j < k + 1 → Dec (suc j ≤ k) → length (entries_at p (node_on ss j)) ≤ least
    go j low (yes y) = t.thin j y
    go j low (no n) = let same : k ≡ j = omega arith in subst (λ (i : ℕ). length (entries_at p (node_on ss i)) ≤ least) same few

module _ (p : Pool) (way : Way) where
  abbrev top : ℕ → SlotNumber
  top l = node_on way.steps l

  path_long : (l : ℕ) → length (path_of l way) ≡ l
  unfolding path_of
  path_long zero = refl
  path_long (suc l) = ap suc (path_long l)

  thin_none : thin_levels p (path_of 1 way) ≡ 0
  unfolding thin_levels path_of
  thin_none = refl

  thin_next : (l : ℕ)
      → thin_levels p (path_of (suc (suc l)) way) ≡ next_leaves l (thin_levels p (path_of (suc l) way)) (length (entries_at p (top l)))
  unfolding thin_levels path_of
  thin_next l = ap (λ (m : ℕ). next_leaves m (thin_levels p (path_of (suc l) way)) (length (entries_at p (top l)))) (path_long l)

  all_thin : (k : ℕ) → ((j : ℕ) → j < k → length (entries_at p (top j)) ≤ least) → thin_levels p (path_of (suc k) way) ≡ k
  all_thin zero h = thin_none
  all_thin (suc k) h =
      thin_next k ∙ ap (λ (n : ℕ). next_leaves k n (length (entries_at p (top k)))) (all_thin k (λ j low. h j (omega arith)))
      ∙ next_leaves_lem k k (length (entries_at p (top k))) (omega arith) (h k (omega arith))

  -- one keeps enough: what is above it stays
  module _ (k : ℕ) (h : (j : ℕ) → j < k → length (entries_at p (top j)) ≤ least) (keeps : least < length (entries_at p (top k))) where
    thin_above : (m : ℕ) → k < m → thin_levels p (path_of (suc m) way) ≡ k
    thin_above zero low = absurd (omega arith)
    thin_above (suc m) low = go (dec_le (suc k) m) (thin_above m)
      where
        go : Dec (k < m) → (k < m → thin_levels p (path_of (suc m) way) ≡ k) → thin_levels p (path_of (suc (suc m)) way) ≡ k
        go (yes y) f =
            thin_next m ∙ ap (λ (n : ℕ). next_leaves m n (length (entries_at p (top m)))) (f y)
            ∙ next_stays m k (length (entries_at p (top m))) y
        go (no n) f =
            let same : k ≡ m = omega arith in
            subst (λ (i : ℕ). thin_levels p (path_of (suc (suc i)) way) ≡ k) same
            (thin_next k ∙ ap (λ (n : ℕ). next_leaves k n (length (entries_at p (top k)))) (all_thin k h)
            ∙ next_keeps k k (length (entries_at p (top k))) keeps)

  -- the count, at the one or at the other end
  module _ (h k : ℕ) (t : Thins p h way.steps k) where
    pub counted_root : h ≤ k + 1 → k ≡ thin_levels p (path_of h way)
    counted_root end =
        let same : suc k ≡ h = omega (arith, t.low) in
        subst (λ (l : ℕ). k ≡ thin_levels p (path_of l way)) same (sym (all_thin k t.thin))

    pub counted_kept : k + 1 < h → least < length (entries_at p (top k)) → k ≡ thin_levels p (path_of h way)
    counted_kept more keeps =
        let same : suc (h - 1) ≡ h = omega arith in
        subst (λ (l : ℕ). k ≡ thin_levels p (path_of l way)) same (sym (thin_above k t.thin keeps (h - 1) (omega arith)))

-- a node of the way
pub level_in : (w : List ℤ) → valid_length w ≡ true → (way : Way) (h : ℕ) → ComesDown (read w) h way → (l : ℕ) → l < h → InPool w (node_on way.steps l)
level_in w v way h d l low = tree_in w (suc l) (node_on way.steps l) v (down_on (read w) way h d l low).tree
