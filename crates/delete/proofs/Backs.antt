-- CT6, an entry at a time: what is left to insert again gives what the whole gives, and the entries left wait beside a tree that stands.
use mathlib.Core.Path.{◌≡◌, refl, sym, ap, subst, ◌∙◌}
use mathlib.Core.Logic.{⊎_elim}
use mathlib.Core.List.Memᴰ
use mathlib.Core.List.{List, ◌∷◌, map}
use Prim.Native.Nat.{ℕ, suc, ◌+◌, ◌≤◌, ◌<◌}
use native.Mathlib.Numerals.{add-one}
use native.Mathlib.Omega.{arith}
use lib.ListN.{length, get_or, drop}
use lib.Seq.{drop-cons}
use Rattle.std.proofs.lemmas.List.{drop_all}
use lib.IntN.{ℤ}
use Rattle.std.specs.Prelude.{Some, None}
use mathlib.Core.Bool.{true}
use Rattle.rules.specs.declared.Edition.{Edition}
use Rattle.rules.specs.Owners.{owner_sound}
use Rattle.rules.specs.Pool.{Pool, owner_of}
use Rattle.rules.specs.Layout.{read}
use Rattle.rules.specs.Insert.{Change, Done, NoneFree, insert_at, ours}
use Rattle.rules.specs.Delete.{Aside, reinsert}
use Rattle.rules_laws.proofs.Splits.{ours_lawful}
use Rattle.layout_laws.specs.Slots.{Fit}
use Rattle.free_slots.specs.declared.FreeSlots.{FreeSlots}
use Rattle.free_slots.specs.Known.{Known}
use Rattle.insert_laws.proofs.Standing.{standing_once}
use Rattle.insert_laws.proofs.Lasting.{insert_at_edition}
use Rattle.delete_laws.specs.Shrunk.{slots_aside, Waiting}
use Rattle.delete_laws.proofs.Again.{reinsert_none, reinsert_done, reinsert_full, first_put, still_waiting}
use Rattle.insert.specs.Left.{Leaves, MayGo, Upright}
use Rattle.insert.proofs.Fitted.{fits_kind}
use Rattle.delete.specs.Removed.{Removes}
use Rattle.delete.specs.declared.asides.SetAside.{SetAside}
use Rattle.delete.specs.Aside.{held, OwnedAside}

-- the first k are in again
pub record Returning (w₀ : List ℤ) (xs : List SetAside) (w : List ℤ) (f : FreeSlots) (k : ℕ) : Type 0 where
  pub few : length xs ≤ 14
  pub long : length w ≡ length w₀
  pub fit : Fit w
  pub known : Known (read w) f
  pub waits : Waiting (read w) (map held (drop k xs))
  pub owned : OwnedAside (read w).edition (map held (drop k xs))
  pub rest : reinsert ours (read w) (map held (drop k xs)) ≡ reinsert ours (read w₀) (map held xs)
  pub high : (read w).height ≤ 8 + k

module _ {w₀ : List ℤ} {xs : List SetAside} {w : List ℤ} {f : FreeSlots} {k : ℕ} (t : Returning w₀ xs w f k) where
  pub upright : Upright (read w)
  upright =
      let s = t.waits.stands in
      record { tree = s.tree; once = standing_once (read w) (slots_aside (read w) (map held (drop k xs))) s; some = s.some }

  -- the next one, as the code has it (what comes after the last place does not matter)
  module _ (h : k < length xs) (d : SetAside) where
    abbrev next : SetAside
    next = get_or xs k d

    abbrev later : List Aside
    later = map held (drop (suc k) xs)

    next_list : map held (drop k xs) ≡ held next ∷ later
    next_list = ap (map held) (drop-cons xs k d h)

    next_waits : Waiting (read w) (held next ∷ later)
    next_waits = subst (Waiting (read w)) next_list t.waits

    pub next_level : next.level ≤ (read w).height
    next_level = omega (arith, next_waits.low (held next) (Memᴰ.head refl))

    next_owned : OwnedAside (read w).edition (held next ∷ later)
    next_owned = subst (OwnedAside (read w).edition) next_list t.owned

    pub next_goes : MayGo (read w) next.level next.entry
    next_goes = record {
      fits = next_waits.fit (held next) (Memᴰ.head refl);
      kind = fits_kind (read w) next.level next.entry (next_waits.fit (held next) (Memᴰ.head refl))
          (next_owned.each (held next) (Memᴰ.head refl));
    }

    -- the tree is one level higher at most
    next_high : (q : Pool) → insert_at ours next.level (read w) next.entry ≡ Done q → q.height ≤ suc (read w).height
    next_high q e =
        let g = first_put ours ours_lawful (read w) (held next) later next_waits q e in
        ⊎_elim (λ o. omega (arith, o.1)) (λ o. omega (arith, o.1)) g.head

    -- it is in
    pub returning_next : (v : List ℤ) → length v ≡ length w → (g : FreeSlots)
        → Leaves w (insert_at ours next.level (read w) next.entry) (Some g) v → Returning w₀ xs v g (k + 1)
    returning_next v same g x = go (insert_at ours next.level (read w) next.entry) refl x
      where
        go : (c : Change) → insert_at ours next.level (read w) next.entry ≡ c → Leaves w c (Some g) v → Returning w₀ xs v g (k + 1)
        go NoneFree i y = absurd y
        go (Done p) i y = rw (add-one k) (record {
          few = t.few;
          long = same ∙ t.long;
          fit = y.fit;
          known = subst (λ (z : Pool). Known z g) (sym y.is) y.known;
          waits = subst (λ (z : Pool). Waiting z later) (sym y.is) (still_waiting ours ours_lawful (read w) (held next) later next_waits p i);
          owned = record {
            each = λ a m. subst (λ (e : Edition). a.level ≡ 1 → owner_sound e (owner_of a.entry) ≡ true)
                (sym (ap (λ (z : Pool). z.edition) y.is ∙ insert_at_edition ours (read w) p next.level next.entry i)) (next_owned.each a (Memᴰ.tail m));
          };
          rest = ap (λ (z : Pool). reinsert ours z later) y.is ∙ sym (reinsert_done ours (read w) (held next) later p i)
              ∙ ap (reinsert ours (read w)) (sym next_list) ∙ t.rest;
          high = omega (arith, ap (λ (z : Pool). z.height) y.is, next_high p i, t.high);
        })

    -- no slot is free for it
    pub returning_refused : (v : List ℤ) → Leaves w (insert_at ours next.level (read w) next.entry) None v
        → Removes w₀ (reinsert ours (read w₀) (map held xs)) None v × ((read v).height ≤ 22)
    returning_refused v x = go (insert_at ours next.level (read w) next.entry) refl x
      where
        go : (c : Change) → insert_at ours next.level (read w) next.entry ≡ c → Leaves w c None v
            → Removes w₀ (reinsert ours (read w₀) (map held xs)) None v × ((read v).height ≤ 22)
        go (Done p) i y = absurd y
        go NoneFree i y =
            let none : reinsert ours (read w₀) (map held xs) ≡ NoneFree =
            sym t.rest ∙ ap (reinsert ours (read w)) next_list ∙ reinsert_full ours (read w) (held next) later i in (
              subst (λ (c : Change). Removes w₀ c None v) (sym none) (ap length y ∙ t.long),
              omega (arith, ap (λ (z : List ℤ). (read z).height) y, t.high, t.few, h),
            )

  -- all are in
  pub returning_last : k ≡ length xs → Removes w₀ (reinsert ours (read w₀) (map held xs)) (Some f) w × ((read w).height ≤ 22)
  returning_last e =
      let done : reinsert ours (read w₀) (map held xs) ≡ Done (read w) =
      sym t.rest ∙ ap (λ (ys : List SetAside). reinsert ours (read w) (map held ys)) (drop_all k xs (omega (arith, e))) ∙ reinsert_none ours (read w) in (
        subst (λ (c : Change). Removes w₀ c (Some f) w) (sym done) (record { fit = t.fit; is = refl; known = t.known }),
        omega (arith, t.high, t.few, e),
      )

pub returning_first : (w : List ℤ) (xs : List SetAside) (f : FreeSlots) → length xs ≤ 14 → Fit w → Known (read w) f
    → Waiting (read w) (map held xs) → OwnedAside (read w).edition (map held xs) → (read w).height ≤ 8 → Returning w xs w f 0
returning_first w xs f few fit known waits owned high = record {
  few = few;
  long = refl;
  fit = fit;
  known = known;
  waits = waits;
  owned = owned;
  rest = refl;
  high = omega arith;
}
