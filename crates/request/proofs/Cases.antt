-- What is asked of a request, and what is told of a reply, case by case: each is the row of its table that applies.
use mathlib.Core.Path.{◌≡◌, refl, sym, ap, subst, ◌∙◌}
use mathlib.Core.Bool.{Bool, true, false}
use Rattle.std.specs.Prelude.{Option, None, Some}
use lib.IntN.{ℤ, pos}
use Rattle.rules.specs.declared.Owner.{Owner}
use Rattle.rules.specs.declared.Request.{Request}
use Rattle.rules.specs.declared.Asked.{Asked}
use Rattle.rules.specs.declared.Asked.TheVariants.{Insert, Delete, Update, Search}
use Rattle.rules_laws.proofs.Orders.{never_both}
use Rattle.rules.specs.declared.Mode.TheVariants.{Meeting, OnlyInside, OnlyEnclosing}
use Rattle.rules.specs.Lists.{same}
use Rattle.sound_laws.proofs.Same.{same_is}
use Rattle.in_force_laws.proofs.Asks.{asks_nothing}
use Rattle.request.specs.Serving.{mode_of}
use Rattle.rules.specs.Answers.{first_row}
use Rattle.rules.specs.Request.{pair_in, asked}
use Rattle.rules.specs.Call.{is_request}

module _ (o : Owner) (q : Request) where
  abbrev kind : ℤ → Bool
  kind k = same q.kind k

  pub asks_insert : kind (pos 1) ≡ true → asked o q ≡ Some (Insert (pair_in o q))
  unfolding asked first_row
  asks_insert h = rw (h, first_row)

  pub asks_delete : kind (pos 1) ≡ false → kind (pos 2) ≡ true → asked o q ≡ Some (Delete (pair_in o q))
  unfolding asked first_row
  asks_delete a h = rw (a, h, first_row)

  pub asks_update : kind (pos 1) ≡ false → kind (pos 2) ≡ false → kind (pos 3) ≡ true
      → asked o q ≡ Some (Update (pair_in o q) q.second)
  unfolding asked first_row
  asks_update a b h = rw (a, b, h, first_row)

  -- of kind 4 the mode is meeting, since it is neither 5 nor 6
  kind_4 : kind (pos 4) ≡ true → mode_of q.kind ≡ Meeting
  unfolding mode_of same
  kind_4 e = rw ((same_is q.kind (pos 4)).0 e)

  kind_5 : kind (pos 5) ≡ true → mode_of q.kind ≡ OnlyInside
  unfolding mode_of
  kind_5 e = rw e

  kind_6 : kind (pos 5) ≡ false → kind (pos 6) ≡ true → mode_of q.kind ≡ OnlyEnclosing
  unfolding mode_of
  kind_6 n e = rw (n, e)

  pub asks_search : kind (pos 1) ≡ false → kind (pos 2) ≡ false → kind (pos 3) ≡ false → is_request q ≡ true
      → asked o q ≡ Some (Search o (mode_of q.kind) q.first)
  unfolding asked first_row
  asks_search a b d h = go (kind (pos 4)) (kind (pos 5)) (kind (pos 6)) refl refl refl
    where
      go : (x y z : Bool) → kind (pos 4) ≡ x → kind (pos 5) ≡ y → kind (pos 6) ≡ z → asked o q ≡ Some (Search o (mode_of q.kind) q.first)
      go true y z e f g = rw (kind_4 e, a, b, d, e, first_row)
      go false true z e f g = rw (kind_5 f, a, b, d, e, f, first_row)
      go false false true e f g = rw (kind_6 f g, a, b, d, e, f, g, first_row)
      go false false false e f g = never_both h (asks_nothing o q (rw (a, b, d, e, f, g, first_row)))

-- ---- what is asked is one thing

pub asks_one : (P : Asked → Type 0) (x o : Owner) → x ≡ o → (q : Request) (b : Asked) → asked x q ≡ Some b → P b → (a : Asked) → asked o q ≡ Some a → P a
asks_one P x o is q b h y a e = subst P (ap pick (sym h ∙ ap (λ (w : Owner). asked w q) is ∙ e)) y
  where
    pick : Option Asked → Asked
    pick None = b
    pick (Some c) = c
