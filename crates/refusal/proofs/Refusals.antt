-- The rows that refuse a call, from the top: what each of them answers.
use mathlib.Core.Path.{◌≡◌, refl, sym}
use mathlib.Core.Bool.{Bool, true, false, not, ◌||◌}
use mathlib.Core.List.{List}
use Prim.Native.Nat.{ℕ}
use lib.IntN.{ℤ}
use lib.ListN.{length}
use lib.Dec.{ltb, eqb}
use Rattle.rules.specs.Numbers.{most_requests, good_owner}
use Rattle.rules.specs.Owners.{owner}
use Rattle.rules.specs.Lists.{every}
use Rattle.rules.specs.Layout.{valid_length}
use Rattle.rules.specs.Sound.{sound}
use Rattle.std.specs.Prelude.{Ok, Err}
use Rattle.rules.specs.declared.CallFault.TheVariants.{BadLists, BadOwner, BadLength, NotSound, NoRequest}
use Rattle.rules.specs.Answers.{checked, first_row}
use Rattle.rules.specs.Call.{Lent, call_fault, is_request}
use Rattle.refusal.specs.Refusing.{refusal_of}

module _ (w : List ℤ) (who : ℤ) (ws qs rs : ℕ) (all : Bool) where
  abbrev lists : Bool
  lists = ltb most_requests qs || not (eqb rs qs)

  abbrev lengths : Bool
  lengths = not (valid_length w) || not (eqb ws (length w))

  pub bad_lists : lists ≡ true → refusal_of w who ws qs rs all ≡ Err BadLists
  unfolding refusal_of first_row
  bad_lists a = rw (refusal_of, a)

  pub bad_owner : lists ≡ false → good_owner (owner who) ≡ false → refusal_of w who ws qs rs all ≡ Err BadOwner
  unfolding refusal_of first_row
  bad_owner a o = rw (refusal_of, a, o)

  module _ (a : lists ≡ false) (o : good_owner (owner who) ≡ true) where
    pub bad_length : lengths ≡ true → refusal_of w who ws qs rs all ≡ Err BadLength
    unfolding refusal_of first_row
    bad_length b = rw (refusal_of, a, o, b)

    pub not_sound : lengths ≡ false → sound w ≡ false → refusal_of w who ws qs rs all ≡ Err NotSound
    unfolding refusal_of first_row
    not_sound b c = rw (refusal_of, a, o, b, c)

    pub no_request : lengths ≡ false → sound w ≡ true → all ≡ false → refusal_of w who ws qs rs all ≡ Err NoRequest
    unfolding refusal_of first_row
    no_request b c d = rw (refusal_of, a, o, b, c, d)

    pub none_refuses : lengths ≡ false → sound w ≡ true → all ≡ true → refusal_of w who ws qs rs all ≡ Ok tt
    unfolding refusal_of first_row
    none_refuses b c d = rw (refusal_of, a, o, b, c, d)

pub right_first : (a b : Bool) → (not a || not b) ≡ false → a ≡ true
right_first true b h = refl
right_first false b h = sym h

-- a call is refused by the first of its rows that applies
pub refusal_is : (l : Lent) → refusal_of l.pool l.owner.0 (length l.workspace) (length l.requests) (length l.answers) (every is_request l.requests) ≡ checked (call_fault l)
unfolding refusal_of call_fault
refusal_is l = refl
