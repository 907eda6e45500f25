-- A call, as one step of a walk. The first items of the context make what the callee asks; what comes back is the callee's tokens, its result, the last value of each
-- `&mut` it was lent, and what it promises of them. This is the kit's `calls_at`, with the contract's existentials opened and the rest of the context framed.
--     promised S c     the contract of a function with the parameters S and the clauses c
--     tokens           a token for each lifetime
--     calls            the step
--     one_fact, more_facts, says_all    what a callee asks, where it asks several things, or nothing: `◌∗◌` of facts, or `emp`
--     needs_none       the walked function itself asks nothing
-- Assumes `Logic`, and that the table of calls is monotone under a frame, as every `Tables` is.
use mathlib.Core.List.{List, [], ◌∷◌, ◌++◌}
use Prim.Native.Nat.{ℕ, zero, suc}
use seplogic.Ra.Ura.{Ura}
use mir.Syntax.{Callee, Place, Opd as Operand, Body, seq, call as callTo}
use mir.Val.{Val}
use base.Logic.{SProp, ent, sep, emp, id⊢, via, comm∗, mono_l, mono_r, mono∗, emp∗, fst∗}
use base.Fml.{flft}
use prog.Wp.{Env, Calls, Loops}
use types.Logic.{Logic}
use sound.WpLaws.{FmC}
use types.Kit.{prop, Item, ‵, raw, ◌⊛◌, some, later, ⋆, push, cut, Post, runs, lands, Seq, Step, step, ◌$◌, move, use1, split, pick, await}
use types.Run.{Opds}
use Rattle.walk_laws.proofs.Contexts.{first, beyond, makes}
use contract.Lifetimes.{Lfts, Shares, toks}
use contract.Monad.{fact, fact_i}
use denote.Signature.{type_at}
use denote.Triple.Entry.{Res}
use denote.Triple.Bound.{Bound, passed}
use denote.Triple.Spec.{triple_of}
use denote.Triple.Statement.{Contract, Triple}
use denote.Triple.Clauses.{Ended, Clauses, Lasts, at_exit, lasts, closing}
use denote.Triple.Call.{calls_at}

-- ---- contracts

module _ {M : Type 1} {𝓤 : Ura M} (𝓛 : Logic 𝓤) (S : Ended) (c : Clauses 𝓤 S) where
  abbrev pub promised : Contract 𝓤
  promised = triple_of 𝓛 S.signature (closing 𝓛 S c)

module _ {M : Type 1} (𝓤 : Ura M) where
  -- one fact, and one more before others
  pub one_fact : {φ : Type 0} → φ → ent 𝓤 (emp 𝓤) (fact 𝓤 φ)
  one_fact {φ} x = fact_i 𝓤 φ (emp 𝓤) x

  pub more_facts : {φ : Type 0} {Q : SProp 𝓤} → φ → ent 𝓤 (emp 𝓤) Q → ent 𝓤 (emp 𝓤) (sep 𝓤 (fact 𝓤 φ) Q)
  more_facts {φ} {Q} x h = via 𝓤 (sep 𝓤 (emp 𝓤) (emp 𝓤)) (emp∗ 𝓤 (emp 𝓤)) (mono∗ 𝓤 (one_fact x) h)

-- a contract that asks nothing
pub needs_none : {M : Type 1} (𝓤 : Ura M) {P Q : SProp 𝓤} → ent 𝓤 P Q → ent 𝓤 (sep 𝓤 P (emp 𝓤)) Q
needs_none 𝓤 {P} h = via 𝓤 P (fst∗ 𝓤 P (emp 𝓤)) h

-- a goal P ∗ Q: Q is shown from nothing, and P is left
pub says_all : {M : Type 1} {𝓤 : Ura M} {𝓛 : Logic 𝓤} {K : Type 0} {Γ : List (Item 𝓤)}
    → K → {Q P : SProp 𝓤} → ent 𝓤 (emp 𝓤) Q → Step K 𝓛 Γ (prop P) Γ (prop (sep 𝓤 P Q))
says_all {𝓤 = 𝓤} t {Q} {P} h = step (λ s. record {
  prf = via 𝓤 P s.prf (via 𝓤 (sep 𝓤 (emp 𝓤) P) (emp∗ 𝓤 P) (via 𝓤 (sep 𝓤 Q P) (mono_l 𝓤 P h) (comm∗ 𝓤 Q P)));
})

-- ---- the tokens of a call, one for each lifetime

module _ {M : Type 1} {𝓤 : Ura M} where
  abbrev pub tokens : (n : ℕ) → Lfts n → Shares n → List (Item 𝓤)
  tokens zero κs qs = []
  tokens (suc n) κs qs = ‵ (flft κs.0 qs.0) ∷ tokens n κs.1 qs.1

module _ {M : Type 1} {𝓤 : Ura M} (𝓛 : Logic 𝓤) where
  open 𝓛 use {A}

  token_each : (n : ℕ) (κs : Lfts n) (qs : Shares n) → ent 𝓤 (toks 𝓛 n κs qs) (⋆ 𝓛 (tokens n κs qs))
  token_each zero κs qs = id⊢ 𝓤 (emp 𝓤)
  token_each (suc n) κs qs =
      via 𝓤 (sep 𝓤 (A.lft κs.0 qs.0) (⋆ 𝓛 (tokens n κs.1 qs.1)))
      (mono_r 𝓤 (A.lft κs.0 qs.0) (token_each n κs.1 qs.1)) (push 𝓛 (‵ (flft κs.0 qs.0)) (tokens n κs.1 qs.1))

-- ---- the call

module _ {M : Type 1} {𝓤 : Ura M} {𝓛 : Logic 𝓤} {K : Type 0} {Γ : List (Item 𝓤)} {E : Env 𝓤 𝓛.H} {C : Calls 𝓤 𝓛.H} {f : Callee}
    {xs : List Operand} {Λ : Loops 𝓤 𝓛.H} {q : Post 𝓤 𝓛.H} {d : Place} {rest : Body} where
  open 𝓛 use {H}

  pub calls : K → FmC 𝓤 H 𝓛.laws C → (n : ℕ) (S : Ended) (c : Clauses 𝓤 S) → Triple 𝓤 (C f) (promised 𝓛 S c)
      → (x : Bound 𝓛 S.signature) (g : (c x.0 x.3).ghost)
      → Seq K 𝓛 (first n Γ) (prop ((promised 𝓛 S c).pre (x, g)))
      → Opds K 𝓛 (raw ((promised 𝓛 S c).pre (x, g)) ∷ beyond n Γ) E xs (passed 𝓛 S.signature x)
      → ((v : Val) (r : Res S.signature x.0) (zs : Lasts S x.0 x.3)
      → Seq K 𝓛 (tokens S.signature.lifetimes x.0 x.1
      ++ ‵ ((type_at S.signature.result x.0).own_val r (v ∷ []))
      ∷ ‵ (lasts S x.0 x.3 zs)
      ∷ raw ((c x.0 x.3).ensures g r (at_exit S x.0 x.3 zs))
      ∷ beyond n Γ) (lands C Λ E d v rest q))
      → Seq K 𝓛 Γ (runs C Λ E (seq (callTo f xs d) rest) q)
  calls t fm n S c known x g asked operands k =
      makes t n ((promised 𝓛 S c).pre (x, g)) asked $
      calls_at t fm (promised 𝓛 S c) known (x, g) operands (λ v.
      use1 𝓛 (later (some (λ (r : Res S.signature x.0).
      (raw (toks 𝓛 S.signature.lifetimes x.0 x.1) ⊛ ‵ ((type_at S.signature.result x.0).own_val r (v ∷ [])))
      ⊛ some (λ (zs : Lasts S x.0 x.3). ‵ (lasts S x.0 x.3 zs) ⊛ raw ((c x.0 x.3).ensures g r (at_exit S x.0 x.3 zs)))))) (id⊢ 𝓤 _) $
      await t tt $ pick t (λ r. split t $ split t $ move t (2 ∷ []) $ pick t (λ zs. split t $
      -- [the last values; what is promised; the tokens; the result; Γ]
      move t (2 ∷ 3 ∷ 0 ∷ 1 ∷ []) $
      cut (raw (toks 𝓛 S.signature.lifetimes x.0 x.1) ∷ []) (tokens S.signature.lifetimes x.0 x.1) _
      (token_each 𝓛 S.signature.lifetimes x.0 x.1) $ k v r zs)))
