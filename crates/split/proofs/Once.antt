-- What `split_nine` promises leaves one outcome: the groups give the places that they have, and the
-- others are zero.
use mathlib.Core.Path.{◌≡◌, sym, ap, ◌∙◌}
use mathlib.Core.List.{List}
use Prim.Native.Nat.{ℕ, ◌≤◌}
use native.Mathlib.Omega.{arith}
use native.Mathlib.Decide.{dec_le}
use lib.ListN.{length, take, get_or}
use lib.Seq.{length-take-le, get_or-take, ext_get_or}
use Rattle.rules.specs.declared.Rect.{Rect}
use Rattle.rules.specs.Split as S
use Rattle.split.specs.declared.Grouping.{Grouping}
use Rattle.split.specs.State.{GroupsWhole}

-- two lists of as many places, equal up to a count and zero after it
module _ (xs ys : List ℕ) (m n : ℕ) (long : length xs ≡ 9) (other : length ys ≡ 9) (few : m ≤ 9) (less : n ≤ 9) (e : take m xs ≡ take n ys) where
  many_same : m ≡ n
  many_same =
      sym (length-take-le m xs (omega (arith, long, few))) ∙ ap (λ (l : List ℕ). length l) e ∙ length-take-le n ys (omega (arith, other, less))

  places_same : ((k : ℕ) → m ≤ k → get_or xs k 0 ≡ 0) → ((k : ℕ) → n ≤ k → get_or ys k 0 ≡ 0)
      → xs ≡ ys
  places_same a b = ext_get_or 0 xs ys (long ∙ sym other) (λ k _. all k (dec_le m k))
    where
      all : (k : ℕ) → Dec (m ≤ k) → get_or xs k 0 ≡ get_or ys k 0
      all k (yes h) = a k h ∙ sym (b k (omega (arith, h, many_same)))
      all k (no h) =
          sym (get_or-take m xs k 0 (omega (arith, h))) ∙ ap (λ (l : List ℕ). get_or l k 0) e ∙ get_or-take n ys k 0 (omega (arith, h, many_same))

pub groups_once : (rs : List Rect) (s t : Grouping)
    → take s.one.count s.one.places ≡ take t.one.count t.one.places
    → take s.two.count s.two.places ≡ take t.two.count t.two.places → GroupsWhole rs s → GroupsWhole rs t → s ≡ t
groups_once rs s t e f a b =
    let o : s.one.count ≤ 9 = omega (arith, a.all) in
    let p : t.one.count ≤ 9 = omega (arith, b.all) in
    let u : s.two.count ≤ 9 = omega (arith, a.all) in
    let v : t.two.count ≤ 9 = omega (arith, b.all) in
    let ones = many_same s.one.places t.one.places s.one.count t.one.count a.one9 b.one9 o p e in
    let twos = many_same s.two.places t.two.places s.two.count t.two.count a.two9 b.two9 u v f in
    let one = places_same s.one.places t.one.places s.one.count t.one.count a.one9 b.one9 o p e a.after_one b.after_one in
    let two = places_same s.two.places t.two.places s.two.count t.two.count a.two9 b.two9 u v f a.after_two b.after_two in
    let cover = a.coverTwo ∙ ap (S.cover_group rs) f ∙ sym b.coverTwo in
    λ i. record {
      one = record { places = one i; count = ones i };
      two = record { places = two i; count = twos i };
      coverTwo = cover i;
    }
