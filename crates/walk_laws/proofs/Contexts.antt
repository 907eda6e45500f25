-- The context of a walk in two parts: its first items, and the others. The star of a list is the star of its two parts.
--     first n, beyond n    the first n items; the others
--     makes n P            the first n items are made the one item P, which they entail together
--     sinks n              the first n items go after the others
-- Assumes `Logic`.
use mathlib.Core.List.{List, [], ◌∷◌, ◌++◌}
use Prim.Native.Nat.{ℕ, zero, suc}
use seplogic.Ra.Ura.{Ura}
use base.Logic.{SProp, ent, sep, emp, via, comm∗, assoc', mono_l, mono_r, emp∗}
use types.Logic.{Logic}
use types.Kit.{prop, Item, raw, mean, ⋆, pop, push, ++⊢, Goal, Seq, Step, step}

module _ {M : Type 1} {𝓤 : Ura M} where
  abbrev pub first : ℕ → List (Item 𝓤) → List (Item 𝓤)
  first zero Γ = []
  first (suc n) [] = []
  first (suc n) (i ∷ Γ) = i ∷ first n Γ

  abbrev pub beyond : ℕ → List (Item 𝓤) → List (Item 𝓤)
  beyond zero Γ = Γ
  beyond (suc n) [] = []
  beyond (suc n) (i ∷ Γ) = beyond n Γ

module _ {M : Type 1} {𝓤 : Ura M} (𝓛 : Logic 𝓤) where
  parted : (n : ℕ) (Γ : List (Item 𝓤)) → ent 𝓤 (⋆ 𝓛 Γ) (sep 𝓤 (⋆ 𝓛 (first n Γ)) (⋆ 𝓛 (beyond n Γ)))
  parted zero Γ = emp∗ 𝓤 (⋆ 𝓛 Γ)
  parted (suc n) [] = emp∗ 𝓤 (emp 𝓤)
  parted (suc n) (i ∷ Γ) =
      via 𝓤 (sep 𝓤 (mean 𝓛 i) (⋆ 𝓛 Γ)) (pop 𝓛 i Γ)
      (via 𝓤 (sep 𝓤 (mean 𝓛 i) (sep 𝓤 (⋆ 𝓛 (first n Γ)) (⋆ 𝓛 (beyond n Γ)))) (mono_r 𝓤 (mean 𝓛 i) (parted n Γ))
      (via 𝓤 (sep 𝓤 (sep 𝓤 (mean 𝓛 i) (⋆ 𝓛 (first n Γ))) (⋆ 𝓛 (beyond n Γ)))
      (assoc' 𝓤 (mean 𝓛 i) (⋆ 𝓛 (first n Γ)) (⋆ 𝓛 (beyond n Γ)))
      (mono_l 𝓤 (⋆ 𝓛 (beyond n Γ)) (push 𝓛 i (first n Γ)))))

-- the first n items are made an item that they entail together
pub makes : {M : Type 1} {𝓤 : Ura M} {𝓛 : Logic 𝓤} {K : Type 0} {Γ : List (Item 𝓤)} {G : Goal 𝓤 𝓛.H}
    → K → (n : ℕ) (P : SProp 𝓤) → Seq K 𝓛 (first n Γ) (prop P) → Step K 𝓛 (raw P ∷ beyond n Γ) G Γ G
makes {𝓤 = 𝓤} {𝓛 = 𝓛} {Γ = Γ} t n P h = step (λ s. record {
  prf = via 𝓤 (sep 𝓤 (⋆ 𝓛 (first n Γ)) (⋆ 𝓛 (beyond n Γ))) (parted 𝓛 n Γ)
      (via 𝓤 (sep 𝓤 P (⋆ 𝓛 (beyond n Γ))) (mono_l 𝓤 (⋆ 𝓛 (beyond n Γ)) h.prf)
      (via 𝓤 (⋆ 𝓛 (raw P ∷ beyond n Γ)) (push 𝓛 (raw P) (beyond n Γ)) s.prf));
})

-- the first n items go after the others
pub sinks : {M : Type 1} {𝓤 : Ura M} {𝓛 : Logic 𝓤} {K : Type 0} {Γ : List (Item 𝓤)} {G : Goal 𝓤 𝓛.H}
    → K → (n : ℕ) → Step K 𝓛 (beyond n Γ ++ first n Γ) G Γ G
sinks {𝓤 = 𝓤} {𝓛 = 𝓛} {Γ = Γ} t n = step (λ s. record {
  prf = via 𝓤 (sep 𝓤 (⋆ 𝓛 (first n Γ)) (⋆ 𝓛 (beyond n Γ))) (parted 𝓛 n Γ)
      (via 𝓤 (sep 𝓤 (⋆ 𝓛 (beyond n Γ)) (⋆ 𝓛 (first n Γ))) (comm∗ 𝓤 (⋆ 𝓛 (first n Γ)) (⋆ 𝓛 (beyond n Γ)))
      (via 𝓤 (⋆ 𝓛 (beyond n Γ ++ first n Γ)) (++⊢ 𝓛 (beyond n Γ) (first n Γ)) s.prf));
})
