-- What `find_leaf` promises leaves one outcome: the path gives every step up to the height, and above it there is none.
use mathlib.Core.Path.{◌≡◌, refl, sym, ap, ◌∙◌}
use Rattle.std.specs.Prelude.{Option, None, Some}
use Prim.Native.Nat.{ℕ, zero, suc, ◌≤◌, ◌<◌}
use native.Mathlib.Omega.{arith}
use native.Mathlib.Decide.{dec_le}
use lib.ListN.{get_or, drop}
use lib.Seq.{ext_get_or}
use Rattle.rules.specs.Pool.{slot}
use Rattle.rules.specs.Delete.{Place, Path, place}
use Rattle.find_leaf.specs.declared.Way.{Way}
use Rattle.find_leaf.specs.Ways.{no_step, path_of, UpTo, Gives}
use Rattle.find_leaf.proofs.Down.{node_in, step_at}

-- ways with the same path have the same place at each level of it
path_same : (v w : Way) (l : ℕ) → path_of l v ≡ path_of l w → (k : ℕ) → k < l → node_in v k ≡ node_in w k
unfolding path_of
path_same v w zero e k h = absurd (omega arith)
path_same v w (suc l) e k h = go (path_same v w l (ap (λ (path : Path). drop 1 path) e) k) (dec_le l k)
  where
    go : (k < l → node_in v k ≡ node_in w k) → Dec (l ≤ k) → node_in v k ≡ node_in w k
    go below (yes a) = let q : k ≡ l = omega (arith, a, h) in rw q (ap (λ (path : Path). get_or path 0 (place (slot 0) 0)) e)
    go below (no a) = below (omega (arith, a))

-- the same steps, at every level
ways_same : (v w : Way) (l : ℕ) → UpTo l v → UpTo l w → ((k : ℕ) → k < l → node_in v k ≡ node_in w k) → v ≡ w
ways_same v w l a b e =
    let ss : v.steps ≡ w.steps = ext_get_or no_step v.steps w.steps (a.long ∙ sym b.long) (λ k _. all k (dec_le l k)) in
    λ i. record { steps = ss i }
  where
    all : (k : ℕ) → Dec (l ≤ k) → get_or v.steps k no_step ≡ get_or w.steps k no_step
    all k (yes h) = a.above k h ∙ sym (b.above k h)
    all k (no h) = ap (λ (p : Place). step_at p.node p.at) (e k (omega (arith, h)))

pub way_once : (o : Option Path) (l : ℕ) (v w : Option Way) → Gives o l v → Gives o l w → v ≡ w
way_once None l None None a b = refl
way_once None l None (Some w) a b = absurd b
way_once None l (Some v) w a b = absurd a
way_once (Some path) l None w a b = absurd a
way_once (Some path) l (Some v) None a b = absurd b
way_once (Some path) l (Some v) (Some w) a b = ap Some (ways_same v w l a.1 b.1 (path_same v w l (a.0 ∙ sym b.0)))
