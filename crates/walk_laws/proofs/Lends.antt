-- A `&κ mut [T]` is lent again for the lifetime of a call, as a `&mut [T]` or as a `&[T]`, and comes back: with the list that the callee left, or as it was.
--     lent         [own (the slice at ys); [κ]_q; Γ]  →  [[ν]; own (the slice lent for ν, under δ); LentAgain; Γ], at some ν and δ
--     back         [[ν]; finally δ zs; LentAgain; Γ]  →  [own (the slice at zs); [κ]_q; Γ]
--     lent_shr     [own (the slice at ys); [κ]_q; Γ]  →  [[ν]; own (the `&ν [T]`); LentShr; Γ].        It need not come back: the callee may keep it
--     back_shr     [[ν]; LentShr; Γ]  →  [own (the slice at ys); [κ]_q; Γ]
-- `lent_shr` takes T's law by which a `&` to a T is made of a borrow with no other token (`denote/Shares.antt`'s `Shares` at 'static), which a Copy type has.
-- A lifetime is made for the call and ended after it; what the holder keeps meanwhile says what the slice is again when that lifetime is over. Assumes `Logic`.
use mathlib.Core.Path.{◌≡◌, refl, sym}
use Prim.Native.Nat.{ℕ}
use mathlib.Core.List.{List, [], ◌∷◌}
use lib.ListN.{length}
use seplogic.Ra.Ura.{Ura}
use base.Fraction.{full_share}
use mir.Syntax.{Lifetime}
use base.Fml.{Lft, GName, Share, Fml, fsep, flft, flent, fobor, fobs, fauth}
use types.Logic.{Logic}
use types.Kit.{Goal, Soaks, Item, ‵, ◌⊛◌, some, later, Seq, Step, step, ◌$◌, move, drop, use2, use3, split, pick, rewrite, fsplit, fjoin, feq_i, await}
use types.Tokens.{lft_new, lft_end, lent_back}
use types.Share.{arr_parts}
use denote.RattleType.{RattleType}
use denote.Memory.{shares}
use denote.Shares.{Shares}
use denote.Lend.{Held, lends_shr_slice}
use contract.BorrowLft.{⊑_static}
use denote.Slice.{slice_val, MutSlice, Room, heres, coded_holeys, finally}
use Rattle.walk_laws.proofs.Again.{LentAgain, lends_again, comes_back}
use Rattle.walk_laws.proofs.Slices.{ref, Own, OwnShr, opens, closes}

-- the share that is lent for ν
abbrev pub Part : (R : RattleType) → ℕ → ℕ → ℕ → List R.Denot → Fml
Part R ν b o ys = flent (ν ∷ []) ((arr_parts (shares R) (length ys)).part full_share ys b o)

-- what the holder keeps while the slice is lent as a `&[T]`: the lender's part, and its own borrow, open
abbrev pub LentShr : (R : RattleType) → Lft → ℕ → Share → GName → ℕ → ℕ → List R.Denot → Fml
LentShr R κ ν q γ b o ys =
    fsep (Part R ν b o ys)
    (fsep (fobor κ q (Held R (length ys) b o γ))
    (fsep (fobs γ ((coded_holeys R).code (heres R ys))) (fauth γ ((coded_holeys R).code (heres R ys)))))

module _ {M : Type 1} {𝓤 : Ura M} {𝓛 : Logic 𝓤} {K : Type 0} {Γ : List (Item 𝓤)} {G : Goal 𝓤 𝓛.H} where
  pub lent : K → Soaks G → (R : RattleType) (ℓ ℓ' : Lifetime) {κ : Lft} {q : Share} (b o : ℕ) (γ : GName) (ys : List R.Denot)
      → ((ν : ℕ) (δ : GName)
      → Seq K 𝓛 (‵ (flft (ν ∷ []) full_share) ∷ ‵ (Own R ℓ' (ν ∷ []) b o δ ys) ∷ ‵ (LentAgain R κ (ν ∷ []) q γ b o δ ys) ∷ Γ) G)
      → Seq K 𝓛 (‵ (Own R ℓ κ b o γ ys) ∷ ‵ (flft κ q) ∷ Γ) G
  lent t z R ℓ ℓ' {κ} {q} b o γ ys k = lft_new t z (λ ν. move t (1 ∷ 2 ∷ []) $
      use2 𝓛 (later (some (λ (δ : GName). ‵ (Own R ℓ' (ν ∷ []) b o δ ys) ⊛ ‵ (LentAgain R κ (ν ∷ []) q γ b o δ ys))))
      (lends_again R κ (ν ∷ []) q γ b o 𝓛 ℓ ℓ' ys) $ await t z $ pick t (λ δ. split t $ move t (2 ∷ []) $ k ν δ))

  pub back : K → Soaks G → (R : RattleType) (ℓ : Lifetime) {κ : Lft} {q : Share} {ν : ℕ} {δ : GName} (b o : ℕ) (γ : GName) (ys zs : List R.Denot)
      → Room R (length ys) → length zs ≡ length ys
      → Step K 𝓛 (‵ (Own R ℓ κ b o γ zs) ∷ ‵ (flft κ q) ∷ Γ) G
      (‵ (flft (ν ∷ []) full_share) ∷ ‵ (finally R δ zs) ∷ ‵ (LentAgain R κ (ν ∷ []) q γ b o δ ys) ∷ Γ) G
  back t z R ℓ {κ} {q} {ν} {δ} b o γ ys zs room e = step (λ s. lft_end t z $ move t (0 ∷ 2 ∷ 1 ∷ []) $
      use3 𝓛 (later (‵ ((MutSlice ℓ κ R).own_val (ref b o γ zs) (slice_val (b, o) (length ys) ∷ [])) ⊛ ‵ (flft κ q)))
      (comes_back R κ (ν ∷ []) q γ b o 𝓛 ℓ ℓ ys δ zs room e) $ await t z $ split t $
      rewrite t 0 (λ (m : ℕ). ‵ ((MutSlice ℓ κ R).own_val (ref b o γ zs) (slice_val (b, o) m ∷ []))) (sym e) refl $ s)

  pub lent_shr : K → Soaks G → (R : RattleType) → Shares 𝓛 R [] → (ℓ ℓ' : Lifetime) {κ : Lft} {q : Share} (b o : ℕ) (γ : GName) (ys : List R.Denot) → Room R (length ys)
      → ((ν : ℕ) → Seq K 𝓛 (‵ (flft (ν ∷ []) full_share) ∷ ‵ (OwnShr R ℓ' (ν ∷ []) b o ys) ∷ ‵ (LentShr R κ ν q γ b o ys) ∷ Γ) G)
      → Seq K 𝓛 (‵ (Own R ℓ κ b o γ ys) ∷ ‵ (flft κ q) ∷ Γ) G
  lent_shr t z R law ℓ ℓ' {κ} {q} b o γ ys room k = lft_new t z (λ ν. move t (1 ∷ 2 ∷ []) $ opens t z R ℓ b o γ ys $
      -- [the row; the open borrow; obs; auth; the token of ν; Γ]
      feq_i t ℕ (length ys) (length ys) refl $ fjoin t $ move t (0 ∷ 4 ∷ []) $
      use2 𝓛 (later ((‵ (OwnShr R ℓ' (ν ∷ []) b o ys) ⊛ ‵ (Part R ν b o ys)) ⊛ ‵ (flft (ν ∷ []) full_share)))
      (lends_shr_slice 𝓛 R ℓ' (ν ∷ []) full_share ys b o room [] law ((ν ∷ [], full_share) ∷ []) (⊑_static (ν ∷ [])) (λ a m. m)) $ await t z $ split t $ split t $
      -- [the slice lent; the lender's part; the token of ν; the open borrow; obs; auth; Γ]
      move t (4 ∷ 5 ∷ []) $ fjoin t $ move t (4 ∷ 0 ∷ []) $ fjoin t $ move t (2 ∷ 0 ∷ []) $ fjoin t $ move t (2 ∷ 1 ∷ 0 ∷ []) $ k ν)

  pub back_shr : K → Soaks G → (R : RattleType) (ℓ : Lifetime) {κ : Lft} {q : Share} {ν : ℕ} (b o : ℕ) (γ : GName) (ys : List R.Denot)
      → Room R (length ys) → Step K 𝓛 (‵ (Own R ℓ κ b o γ ys) ∷ ‵ (flft κ q) ∷ Γ) G (‵ (flft (ν ∷ []) full_share) ∷ ‵ (LentShr R κ ν q γ b o ys) ∷ Γ) G
  back_shr t z R ℓ {κ} {q} {ν} b o γ ys room = step (λ s. lft_end t z $ move t (1 ∷ []) $ fsplit t $ move t (2 ∷ 0 ∷ []) $ lent_back t z $ fsplit t $ drop t $
      move t (1 ∷ []) $ fsplit t $ move t (1 ∷ []) $ fsplit t $ move t (3 ∷ 2 ∷ 0 ∷ 1 ∷ []) $ closes t z R ℓ b o γ ys ys refl room $ s)
