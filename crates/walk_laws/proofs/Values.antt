-- Values in a walk: what is owned of one is had for nothing, since it is but a fact; and of a struct, the laws that the prover makes of it, put into the steps.
--     told, spelt          the machine value that stands for x is the one that x has; so that one stands for it too
--     has                  what is owned of a struct.        has_usize, has_i32, has_bool     of a scalar
--     looks_at             a `&[T]` of structs is looked into
--     takes                an element is taken out of the row
-- Assumes `Logic`.
use mathlib.Core.Path.{◌≡◌, refl, subst}
use mathlib.Core.Bool.{Bool}
use mathlib.Core.List.{List, [], ◌∷◌, ◌++◌}
use Prim.Native.Nat.{ℕ, ◌<◌, ◌^◌}
use lib.ListN.{length, get_or}
use lib.IntN.{ℤ}
use lib.Signed.{mag}
use seplogic.Ra.Ura.{Ura}
use mir.Syntax.{Lifetime, w32, w64}
use mir.Val.{Val, vint, vbool, of_z, hbits}
use base.Fml.{Lft, Share, flft}
use types.Logic.{Logic}
use types.Kit.{Goal, Soaks, Item, ‵, Seq, Step}
use denote.Laws.{Is, shows}
use denote.Memory.{cell_at, mem, shares}
use denote.Plain.{uint_Makes, bool_Makes}
use denote.Signed.{sint_Makes}
use denote.Builtin.{i32, bool, usize}
use denote.Steps.{owned}
use denote.Index.{place, others, elem_out, row as row_of}
use denote.Struct.Struct.{Plains}
use denote.Struct.Declared.{Declared, fields, row}
use denote.Struct.Laws.{Laws, Copyables, val, vals, tells, makes, copied}
use Rattle.walk_laws.proofs.Slices.{OwnShr, Looked, looks}

module _ (T : Declared) (L : Laws T) where
  pub told : (x : T.D) (v : Val) → Is (row T) x (v ∷ []) → v ∷ [] ≡ val T L x ∷ []
  told x v is = tells T L x (v ∷ []) is

  pub spelt : (x : T.D) (v : Val) → Is (row T) x (v ∷ []) → Is (row T) x (val T L x ∷ [])
  spelt x v is = subst (Is (row T) x) (told x v is) is

module _ {M : Type 1} {𝓤 : Ura M} {𝓛 : Logic 𝓤} {K : Type 0} {Γ : List (Item 𝓤)} {G : Goal 𝓤 𝓛.H} where
  pub has : K → (T : Declared) → Plains (fields T) → (x : T.D) (vs : List Val) → Is (row T) x vs → Step K 𝓛 (‵ ((row T).own_val x vs) ∷ Γ) G Γ G
  has t T plain x vs is = owned t (row T) (Is (row T)) (makes T plain 𝓛) x vs is

  pub has_usize : K → (n : ℕ) → n < 2 ^ 64 → Step K 𝓛 (‵ (usize.own_val n (vint w64 n ∷ [])) ∷ Γ) G Γ G
  has_usize t n fits = owned t usize (Is usize) (uint_Makes 𝓛 w64) n _ (refl, fits)

  pub has_i32 : K → (z : ℤ) → mag z < 2 ^ hbits w32 → Step K 𝓛 (‵ (i32.own_val z (vint w32 (of_z w32 z) ∷ [])) ∷ Γ) G Γ G
  has_i32 t z fits = owned t i32 (Is i32) (sint_Makes 𝓛 w32) z _ (refl, fits)

  pub has_bool : K → (b : Bool) → Step K 𝓛 (‵ (bool.own_val b (vbool b ∷ [])) ∷ Γ) G Γ G
  has_bool t b = owned t bool (Is bool) (bool_Makes 𝓛) b _ refl

  pub looks_at : K → Soaks G → (T : Declared) → Copyables T.parts
      → (ℓ : Lifetime) {κ : Lft} {q : Share} (b o : ℕ) (ys : List T.D) → ((π : Share) → Seq K 𝓛 (Looked 𝓛 (row T) κ q b o π ys ++ Γ) G)
      → Seq K 𝓛 (‵ (OwnShr (row T) ℓ κ b o ys) ∷ ‵ (flft κ q) ∷ Γ) G
  looks_at t z T copies ℓ b o ys k = looks t z (row T) (copied T copies 𝓛) ℓ b o ys k

  pub takes : K → (T : Declared) (L : Laws T) (π : Share) (ys : List T.D) (i : ℕ) (d : T.D) (b o : ℕ) → i < length ys
      → (Is (row T) (get_or ys i d) (vals T L (get_or ys i d))
      → Seq K 𝓛 (‵ (cell_at π (row T).mir (vals T L (get_or ys i d)) b (place (mem (row T)).size o i))
      ∷ ‵ ((row T).own_val (get_or ys i d) (vals T L (get_or ys i d)))
      ∷ ‵ (others (shares (row T)) π ys i b o)
      ∷ Γ) G)
      → Seq K 𝓛 (‵ (row_of (row T) π ys b o) ∷ Γ) G
  takes t T L π ys i d b o inside k =
      elem_out t (row T) (Is (row T)) (shows 𝓛 (row T)) (vals T L) (tells T L) π ys i d b o inside k
