-- Slices in the context of a walk. A `&[T]` is looked into before a loop and shut after it, a `&mut [T]` opened and closed; between, its elements are a row
-- from which one is taken out and put back. A `&[T]` may be had twice.
--     ref, shr, counted     a slice's value, of a `&mut [T]` and of a `&[T]`, and its machine values
--     Own, OwnShr      a `&mut [T]`, a `&[T]`, owned at the list ys, with its length as its count
--     Looked, Opened   what is had of one that is looked into, and of one that is opened at ys and holds zs now
--     looks, shuts     [OwnShr ys; [κ]_q; Γ]  ↔  Looked ys ++ Γ
--     opens, closes    [Own ys; [κ]_q; Γ]  →  Opened ys ys ++ Γ,   Opened ys zs ++ Γ  →  [Own zs; [κ]_q; Γ]
--     doubles          [OwnShr ys; Γ]  →  [OwnShr ys; OwnShr ys; Γ]
-- Each takes the slice's formula apart, does the kit's step on a row, and puts the formula together. `looks` takes that T is Copy as `denote/Copied.antt` has it,
-- and `doubles` that what a `&` to a T holds may be had twice. Assumes `Logic`.
use mathlib.Core.Path.{◌≡◌, refl, sym, subst}
use mathlib.Core.List.{List, [], ◌∷◌, ◌++◌}
use Prim.Native.Nat.{ℕ}
use lib.ListN.{length}
use seplogic.Ra.Ura.{Ura}
use base.Fraction.{full_share}
use mir.Syntax.{Lifetime}
use mir.Val.{Val}
use base.Fml.{Lft, GName, Share, Fml, flft, fobor, fobs, fauth, fhide}
use types.Logic.{Logic}
use types.Kit.{Goal, Soaks, Item, ‵, ◌⊛◌, Seq, Step, step, ◌$◌, move, drop, use1, split, fsplit, fjoin}
use denote.RattleType.{RattleType, RowLaws}
use denote.Copied.{Copied}
use denote.Opens.{Shut}
use denote.Ref.{MutBor, Bor}
use denote.Shadow.{pure_i}
use denote.Lend.{Held}
use denote.Index.{row, opens_slice, closes_slice, looks_slice, shuts_slice}
use denote.Slice.{slice_val, MutSlice, ShrSlice, Room, heres, coded_holeys, mut_slice_at, shr_slice_at, elements_shared, shr_slice_copy}

abbrev pub ref : {X : Type 0} → ℕ → ℕ → GName → List X → MutBor (List X)
ref b o γ l = record { ref_ptr = (b, o); ghost_name = γ; now = l }

abbrev pub shr : {X : Type 0} → ℕ → ℕ → List X → Bor (List X)
shr b o l = record { ref_ptr = (b, o); now = l }

-- the machine values of a slice that holds a list: where it begins, and how long the list is
abbrev pub counted : {X : Type 0} → ℕ → ℕ → List X → List Val
counted b o l = slice_val (b, o) (length l) ∷ []

abbrev pub Own : (R : RattleType) → Lifetime → Lft → ℕ → ℕ → GName → List R.Denot → Fml
Own R ℓ κ b o γ l = (MutSlice ℓ κ R).own_val (ref b o γ l) (counted b o l)

abbrev pub OwnShr : (R : RattleType) → Lifetime → Lft → ℕ → ℕ → List R.Denot → Fml
OwnShr R ℓ κ b o l = (ShrSlice ℓ κ R).own_val (shr b o l) (counted b o l)

module _ {M : Type 1} {𝓤 : Ura M} (𝓛 : Logic 𝓤) (R : RattleType) (κ : Lft) (q : Share) (b o : ℕ) where
  -- a share of the row; the token's way back for it; what the `&[T]` holds
  abbrev pub Looked : Share → List R.Denot → List (Item 𝓤)
  Looked π ys =
      ‵ (row R π ys b o)
      ∷ Shut 𝓛 κ q (row R π ys b o)
      ∷ ‵ (fhide (elements_shared R ys b o κ))
      ∷ []

module _ {M : Type 1} {𝓤 : Ura M} (R : RattleType) (κ : Lft) (q : Share) (b o : ℕ) (γ : GName) where
  abbrev pub Opened : List R.Denot → List R.Denot → List (Item 𝓤)
  Opened ys zs =
      ‵ (row R full_share zs b o)
      ∷ ‵ (fobor κ q (Held R (length ys) b o γ))
      ∷ ‵ (fobs γ ((coded_holeys R).code (heres R ys)))
      ∷ ‵ (fauth γ ((coded_holeys R).code (heres R ys)))
      ∷ []

module _ {M : Type 1} {𝓤 : Ura M} {𝓛 : Logic 𝓤} {K : Type 0} {Γ : List (Item 𝓤)} {G : Goal 𝓤 𝓛.H} where
  pub looks : K → Soaks G → (R : RattleType) → Copied 𝓛 R
      → (ℓ : Lifetime) {κ : Lft} {q : Share} (b o : ℕ) (ys : List R.Denot) → ((π : Share) → Seq K 𝓛 (Looked 𝓛 R κ q b o π ys ++ Γ) G)
      → Seq K 𝓛 (‵ (OwnShr R ℓ κ b o ys) ∷ ‵ (flft κ q) ∷ Γ) G
  looks t z R c ℓ b o ys k =
      -- [the slice's fact; what it holds; the token; Γ], and then [the row; the token's way back; what it holds; the fact; Γ]
      fsplit t $ move t (1 ∷ 2 ∷ []) $ looks_slice t z R c ys b o (λ π. move t (3 ∷ []) $ drop t $ k π)

  pub shuts : K → Soaks G → (R : RattleType) (ℓ : Lifetime) {κ : Lft} {q : Share} (b o : ℕ) (π : Share) (ys : List R.Denot) → Room R (length ys)
      → Step K 𝓛 (‵ (OwnShr R ℓ κ b o ys) ∷ ‵ (flft κ q) ∷ Γ) G (Looked 𝓛 R κ q b o π ys ++ Γ) G
  shuts t z R ℓ b o π ys room = step (λ s.
      shuts_slice t z R π ys b o $ move t (1 ∷ []) $
      pure_i t (shr_slice_at R (shr b o ys) (counted b o ys)) (tt, (tt, tt)) (refl, room) $ fjoin t $ s)

  pub opens : K → Soaks G → (R : RattleType) (ℓ : Lifetime) {κ : Lft} {q : Share} (b o : ℕ) (γ : GName) (ys : List R.Denot)
      → Step K 𝓛 (Opened R κ q b o γ ys ys ++ Γ) G (‵ (Own R ℓ κ b o γ ys) ∷ ‵ (flft κ q) ∷ Γ) G
  opens t z R ℓ b o γ ys = step (λ s.
      fsplit t $ move t (1 ∷ []) $ fsplit t $ move t (0 ∷ 1 ∷ 3 ∷ []) $ opens_slice t z R ys b o $ move t (4 ∷ []) $ drop t $ s)

  pub closes : K → Soaks G → (R : RattleType) (ℓ : Lifetime) {κ : Lft} {q : Share} (b o : ℕ) (γ : GName) (ys zs : List R.Denot)
      → length zs ≡ length ys → Room R (length ys) → Step K 𝓛 (‵ (Own R ℓ κ b o γ zs) ∷ ‵ (flft κ q) ∷ Γ) G (Opened R κ q b o γ ys zs ++ Γ) G
  closes t z R ℓ b o γ ys zs e room = step (λ s.
      closes_slice t z R ys zs e b o $ fjoin t $
      pure_i t (mut_slice_at R (ref b o γ zs) (counted b o zs)) (tt, (tt, tt)) (refl, subst (Room R) (sym e) room) $ fjoin t $ s)

  pub doubles : K → (R : RattleType) → RowLaws R → (ℓ : Lifetime) (κ : Lft) (b o : ℕ) (ys : List R.Denot)
      → Step K 𝓛 (‵ (OwnShr R ℓ κ b o ys) ∷ ‵ (OwnShr R ℓ κ b o ys) ∷ Γ) G (‵ (OwnShr R ℓ κ b o ys) ∷ Γ) G
  doubles t R L ℓ κ b o ys = step (λ s.
      use1 𝓛 (‵ (OwnShr R ℓ κ b o ys) ⊛ ‵ (OwnShr R ℓ κ b o ys))
      ((shr_slice_copy 𝓛 ℓ κ R L).twice (shr b o ys) (counted b o ys)) $ split t $ s)
