-- A function's locals in the context of a walk, and the steps that read, write and free them.
--     cell, vacant, dies   local at l holds v; holds nothing; is freed at the end
--     locals E vs          every local of E with its `dies`: those numbered in vs (in order) hold the value beside the number, the others nothing
--     held, part           an operand: what a local holds; what one field of it holds.   The number is the place of the local's cell in the context
--     pointed              the address that a field of a local points to, as `&mut *x` takes it of a slice x
--     puts, puts_last      an assignment to a local; one that ends its part of the code, as a turn
--     free_all             the locals are freed, once they hold nothing
--     rest_of              the code after k statements, for a lemma that starts inside a turn, which the generated MIR has under no name
-- Each is a step of the kit with the place of a local filled in. Assumes `Logic`.
use mathlib.Core.Path.{◌≡◌}
use mathlib.Core.Bool.{Bool, true, false}
use mathlib.Core.List.{List, [], ◌∷◌, ◌++◌}
use mathlib.Core.Option.{some}
use Prim.Native.Nat.{ℕ, zero, suc, ◌+◌}
use lib.Dec.{eqb}
use seplogic.Ra.Ura.{Ura}
use base.Fraction.{full_share}
use mir.Syntax.{Ty, deref, field, place, copy, addr_of, Rv as RValue, Body, skip, seq, assign, block, loop, cond, switch, exit, return, call, unreachable, call_v, lend_static}
use mir.Val.{Val, vptr}
use base.Fml.{Share, fat, froom, fdies}
use prog.Memory.{field_of}
use prog.Wp.{next, Env, spot_of, Calls, Loops}
use types.Logic.{Logic}
use types.Kit.{Item, ‵, nth, Post, post, Goal, prop, runs, frees, Step, step, ◌$◌}
use types.Part.{Part, look_in}
use types.Run.{Opd, Rv, Writes, look, stop, hop, fld, from, load, addr, assigns, assigns_last, free1, free0}

-- ---- contexts

module _ {M : Type 1} {𝓤 : Ura M} where
  abbrev pub cell : Ty → ℕ → Val → Item 𝓤
  cell τ l v = ‵ (fat full_share τ l 0 v)

  abbrev pub vacant : Ty → ℕ → Item 𝓤
  vacant τ l = ‵ (froom τ l 0)

  abbrev pub dies : Ty → ℕ → Item 𝓤
  dies τ l = ‵ (fdies τ l)

  -- a local, where it is the next that holds something, and where it is not
  abbrev pub next_or : Bool → Ty → ℕ → Val → Item 𝓤
  next_or true τ l v = cell τ l v
  next_or false τ l v = vacant τ l

-- those that hold something, after a local that was the next of them, or was not
abbrev pub after_or : Bool → ℕ × Val → List (ℕ × Val) → List (ℕ × Val)
after_or true v vs = vs
after_or false v vs = v ∷ vs

module _ {M : Type 1} {𝓤 : Ura M} where
  abbrev pub locals_from : ℕ → List (Ty × ℕ) → List (ℕ × Val) → List (Item 𝓤)
  locals_from i [] vs = []
  locals_from i (e ∷ E) [] = vacant e.0 e.1 ∷ dies e.0 e.1 ∷ locals_from (suc i) E []
  locals_from i (e ∷ E) (v ∷ vs) =
      next_or (eqb v.0 i) e.0 e.1 v.1 ∷ dies e.0 e.1 ∷ locals_from (suc i) E (after_or (eqb v.0 i) v vs)

  abbrev pub locals : List (Ty × ℕ) → List (ℕ × Val) → List (Item 𝓤)
  locals E vs = locals_from 0 E vs

-- ---- the code after k statements of a sequence

abbrev pub tail : Body → Body
tail skip = skip
tail (seq a b) = b
tail (assign p r) = skip
tail (block b) = skip
tail (loop b) = skip
tail (cond c a b) = skip
tail (switch c a) = skip
tail (exit n) = skip
tail return = skip
tail (call f xs d) = skip
tail unreachable = skip
tail (call_v x s xs d) = skip
tail (lend_static p τ c) = skip

abbrev pub rest_of : ℕ → Body → Body
rest_of zero b = b
rest_of (suc k) b = rest_of k (tail b)

-- ---- steps

module _ {M : Type 1} {𝓤 : Ura M} {𝓛 : Logic 𝓤} {K : Type 0} {Γ : List (Item 𝓤)} {E : Env 𝓤 𝓛.H} where
  open 𝓛 use {H}

  pub held : K → (n : ℕ) {i : ℕ} {q : Share} {v : Val} → nth 𝓛 n Γ ≡ ‵ (fat q (spot_of 𝓤 H E i).0 (spot_of 𝓤 H E i).1 0 v)
      → Opd K 𝓛 Γ E (copy (place i [])) v
  held t n e = load t (from t (stop t)) (look t n e)

  module _ {i k d : ℕ} {τ : Ty} {q : Share} {back : Val → Item 𝓤} where
    pub part : K → (n : ℕ) {v : Val} → field_of (spot_of 𝓤 H E i).0 k ≡ some (τ, d)
        → Part K 𝓛 (nth 𝓛 n Γ) q τ (spot_of 𝓤 H E i).1 ((spot_of 𝓤 H E i).2 + d) v back → Opd K 𝓛 Γ E (copy (place i (field k ∷ []))) v
    part t n e p = load t (from t (fld t e (stop t))) (look_in t n p)

    pub pointed : K → (n : ℕ) {σ : Ty} {b o : ℕ} → field_of (spot_of 𝓤 H E i).0 k ≡ some (τ, d)
        → Part K 𝓛 (nth 𝓛 n Γ) q τ (spot_of 𝓤 H E i).1 ((spot_of 𝓤 H E i).2 + d) (vptr b o) back
        → Rv K 𝓛 Γ E (addr_of (place i (field k ∷ deref σ ∷ []))) (vptr b o)
    pointed t n e p = addr t (from t (fld t e (hop t (look_in t n p) (stop t))))

  module _ {C : Calls 𝓤 H} {Λ : Loops 𝓤 H} {q : Post 𝓤 H} {i : ℕ} {rv : RValue} {v : Val} {Γ' : List (Item 𝓤)} where
    pub puts : K → {rest : Body} → Rv K 𝓛 Γ E rv v → Writes K 𝓛 Γ (spot_of 𝓤 H E i).0 (spot_of 𝓤 H E i).1 (spot_of 𝓤 H E i).2 v Γ'
        → Step K 𝓛 Γ' (runs C Λ E rest q) Γ (runs C Λ E (seq (assign (place i []) rv) rest) q)
    puts t r w = assigns t r (from t (stop t)) w

    pub puts_last : K → Rv K 𝓛 Γ E rv v → Writes K 𝓛 Γ (spot_of 𝓤 H E i).0 (spot_of 𝓤 H E i).1 (spot_of 𝓤 H E i).2 v Γ'
        → Step K 𝓛 Γ' (prop (post 𝓤 H q next)) Γ (runs C Λ E (assign (place i []) rv) q)
    puts_last t r w = assigns_last t r (from t (stop t)) w

module _ {M : Type 1} {𝓤 : Ura M} {𝓛 : Logic 𝓤} {K : Type 0} {Γ : List (Item 𝓤)} {g : Goal 𝓤 𝓛.H} where
  open 𝓛 use {H}

  pub free_from_lem : K → (i : ℕ) (E : Env 𝓤 H) → Step K 𝓛 Γ g (locals_from i E [] ++ Γ) (frees E g)
  free_from_lem t i [] = free0 t
  free_from_lem t i (e ∷ E) = step (λ s. free1 t $ free_from_lem t (suc i) E $ s)

  pub free_all : K → (E : Env 𝓤 H) → Step K 𝓛 Γ g (locals E [] ++ Γ) (frees E g)
  free_all t E = free_from_lem t 0 E
