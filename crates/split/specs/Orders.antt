-- Two keys that differ decide, as `by_key` of `Choice` asks.
use Rattle.std.specs.Prelude.{◌≡◌, List, ℕ, ltb}
use mathlib.Core.Path.{sym}
use Rattle.rules.specs.declared.Rect.{Rect}
use Rattle.rules.specs.Split as S
use Rattle.rules_laws.proofs.Rules.{as_pos, decides}
use Rattle.rules_laws.proofs.Measures.{as_wastes}
use Rattle.split.specs.declared.left.Left.{Left}
use Rattle.split.specs.declared.seeds.Seeds.{Seeds}
use Rattle.split.specs.State.{Wasting, wastes_more, standing, Preferring, prefers}

pub by_waste : (rs : List Rect) (p q : Seeds) (m n : ℕ) → Wasting rs p m → Wasting rs q n
    → (m ≡ n → ⊥) → wastes_more rs p q ≡ ltb n m
unfolding S.wastes_more
by_waste rs p q m n a b differ = sym (decides (as_wastes 8000000000000000000 b.key a.key) _ (λ e. differ (sym e)))

pub by_preference : (rs : List Rect) (a b : Rect) (left : Left) (i j m n : ℕ)
    → Preferring rs a b left i m → Preferring rs a b left j n
    → (m ≡ n → ⊥) → prefers rs a b (standing left) i j ≡ ltb n m
unfolding S.prefers_more
by_preference rs a b left i j m n p q differ = sym (decides (as_pos q.key p.key) _ (λ e. differ (sym e)))
