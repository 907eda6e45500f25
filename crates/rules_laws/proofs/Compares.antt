-- What the comparison of two rectangles says. It asks three questions, whether they meet and whether each lies in the other, and every law here
-- is by cases of the three answers. Coordinates are compared by "at most", so each of the five cases is one about coordinates.
use mathlib.Core.Path.{◌≡◌, refl, sym, subst, ◌∙◌}
use mathlib.Core.Logic.{◌↔◌, ◌≢◌}
use mathlib.Core.Bool.{Bool, true, false, ◌&&◌}
use lib.Signed.{le_z}
use Rattle.rules.specs.declared.Rect.{Rect}
use Rattle.rules.specs.declared.Relation.{Relation}
use Rattle.rules.specs.declared.Relation.TheVariants.{Apart, Inside, Enclosing, Equal, OtherwiseMeeting}
use Rattle.rules.specs.declared.Mode.{Mode}
use Rattle.rules.specs.declared.Mode.TheVariants.{Meeting, OnlyInside, OnlyEnclosing}
use Rattle.rules.specs.Numbers.{in_range}
use Rattle.rules.specs.Geometry.{valid, meets}
use Rattle.rules.specs.Compare.{lies_in, meeting_as, compared, is_meeting, is_inside, is_enclosing, is_equal, wanted}
use Rattle.rules_laws.proofs.Bools.{and_both, both_and, same_test}
use Rattle.rules_laws.proofs.Orders.{at_most_on, at_most_self, both_at_most, never_both}

-- ---- by coordinates

-- a holds b
pub record HoldsRect (a b : Rect) : Type 0 where
  pub lowX : le_z a.lowX b.lowX ≡ true
  pub lowY : le_z a.lowY b.lowY ≡ true
  pub highX : le_z b.highX a.highX ≡ true
  pub highY : le_z b.highY a.highY ≡ true

pub holds_self : (a : Rect) → HoldsRect a a
holds_self a = record {
  lowX = at_most_self a.lowX;
  lowY = at_most_self a.lowY;
  highX = at_most_self a.highX;
  highY = at_most_self a.highY;
}

pub holds_on : {a b c : Rect} → HoldsRect a b → HoldsRect b c → HoldsRect a c
holds_on {a} {b} {c} h k = record {
  lowX = at_most_on a.lowX b.lowX c.lowX h.lowX k.lowX;
  lowY = at_most_on a.lowY b.lowY c.lowY h.lowY k.lowY;
  highX = at_most_on c.highX b.highX a.highX k.highX h.highX;
  highY = at_most_on c.highY b.highY a.highY k.highY h.highY;
}

-- each holds the other: they are the same
pub holds_both : (a b : Rect) → HoldsRect a b → HoldsRect b a → a ≡ b
holds_both a b h k = λ i. record {
  lowX = both_at_most a.lowX b.lowX h.lowX k.lowX i;
  lowY = both_at_most a.lowY b.lowY h.lowY k.lowY i;
  highX = both_at_most a.highX b.highX k.highX h.highX i;
  highY = both_at_most a.highY b.highY k.highY h.highY i;
}

-- the test says so, both ways
pub lies_in_lem : (a b : Rect) → (lies_in a b ≡ true) ↔ HoldsRect b a
unfolding lies_in
lies_in_lem a b = (to, λ h. rw (h.lowX, h.lowY, h.highX, h.highY))
  where
    to : lies_in a b ≡ true → HoldsRect b a
    to h =
        let q = and_both _ (le_z a.highY b.highY) h in
        let r = and_both _ (le_z a.highX b.highX) q.0 in
        let s = and_both (le_z b.lowX a.lowX) (le_z b.lowY a.lowY) r.0 in
        record { lowX = s.0; lowY = s.1; highX = r.1; highY = q.1 }

-- ---- meeting

-- on each axis, what two that meet have at most what
pub record Touches (a b : Rect) : Type 0 where
  pub lowX : le_z a.lowX b.highX ≡ true
  pub highX : le_z b.lowX a.highX ≡ true
  pub lowY : le_z a.lowY b.highY ≡ true
  pub highY : le_z b.lowY a.highY ≡ true

pub meets_is : (a b : Rect) → (meets a b ≡ true) ↔ Touches a b
unfolding meets
meets_is a b = (to, λ h. rw (h.lowX, h.highX, h.lowY, h.highY))
  where
    to : meets a b ≡ true → Touches a b
    to m =
        let q = and_both _ (le_z b.lowY a.highY) m in
        let r = and_both _ (le_z a.lowY b.highY) q.0 in
        let s = and_both (le_z a.lowX b.highX) (le_z b.lowX a.highX) r.0 in
        record { lowX = s.0; highX = s.1; lowY = r.1; highY = q.1 }

-- "Low may equal high", and is not above it
pub valid_meets : (r : Rect) → valid r ≡ true → meets r r ≡ true
unfolding valid meets
valid_meets r v =
    let all = in_range r.lowX && in_range r.lowY && in_range r.highX && in_range r.highY in
    let y = and_both (all && le_z r.lowX r.highX) (le_z r.lowY r.highY) v in
    let x = and_both all (le_z r.lowX r.highX) y.0 in
    rw (x.1, y.1)

-- what holds something that meets a window meets it too
pub holds_meets : {a b : Rect} (window : Rect) → HoldsRect a b → meets b window ≡ true → meets a window ≡ true
holds_meets {a} {b} w h m =
    let t = (meets_is b w).0 m in
    (meets_is a w).1 (record {
      lowX = at_most_on a.lowX b.lowX w.highX h.lowX t.lowX;
      highX = at_most_on w.lowX b.highX a.highX t.highX h.highX;
      lowY = at_most_on a.lowY b.lowY w.highY h.lowY t.lowY;
      highY = at_most_on w.lowY b.highY a.highY t.highY h.highY;
    })

pub holds_misses : {a b : Rect} (window : Rect) → HoldsRect a b → meets a window ≡ false → meets b window ≡ false
holds_misses {a} {b} window h n = go (meets b window) refl
  where
    go : (t : Bool) → meets b window ≡ t → t ≡ false
    go true m = never_both (holds_meets window h m) n
    go false m = refl

-- it does not matter which of the two is asked
pub meets_mirror : (a b : Rect) → meets a b ≡ meets b a
meets_mirror a b = same_test (meets a b) (meets b a) (turned a b) (turned b a)
  where
    turned : (x y : Rect) → meets x y ≡ true → meets y x ≡ true
    turned x y m = let t = (meets_is x y).0 m in (meets_is y x).1 (record { lowX = t.highX; highX = t.lowX; lowY = t.highY; highY = t.lowY })

-- what has no low above its high, and lies in something, meets it
pub held_meets : (a b : Rect) → meets a a ≡ true → HoldsRect b a → meets a b ≡ true
held_meets a b m h = meets_mirror a b ∙ holds_meets a h m

-- ---- the five cases

module _ (a b : Rect) where
  pub compared_apart : meets a b ≡ false → compared a b ≡ Apart
  unfolding compared
  compared_apart h = rw (h, compared)

  pub compared_as : meets a b ≡ true → compared a b ≡ meeting_as (lies_in a b) (lies_in b a)
  unfolding compared
  compared_as h = rw (h, compared)

-- ---- questions

-- of two that meet: each question by the two answers
pub record EachQuestion (i e : Bool) : Type 0 where
  pub meeting : is_meeting (meeting_as i e) ≡ true
  pub inside : is_inside (meeting_as i e) ≡ i
  pub enclosing : is_enclosing (meeting_as i e) ≡ e
  pub equal : is_equal (meeting_as i e) ≡ (i && e)

each_question : (i e : Bool) → EachQuestion i e
unfolding is_meeting is_inside is_enclosing is_equal meeting_as
each_question true true = record { meeting = refl; inside = refl; enclosing = refl; equal = refl }
each_question true false = record { meeting = refl; inside = refl; enclosing = refl; equal = refl }
each_question false true = record { meeting = refl; inside = refl; enclosing = refl; equal = refl }
each_question false false = record { meeting = refl; inside = refl; enclosing = refl; equal = refl }

-- a question that is no of two that are apart
module _ (asks : Relation → Bool) (says : Bool → Bool → Bool) (each : (i e : Bool) → asks (meeting_as i e) ≡ says i e) (no : asks Apart ≡ false)
    (a b : Rect) where
  asked_of : asks (compared a b) ≡ (meets a b && says (lies_in a b) (lies_in b a))
  asked_of = go (meets a b) refl
    where
      go : (t : Bool) → meets a b ≡ t → asks (compared a b) ≡ (meets a b && says (lies_in a b) (lies_in b a))
      go true h = rw (h, compared_as a b h) (each (lies_in a b) (lies_in b a))
      go false h = rw (h, compared_apart a b h) no

module _ (a b : Rect) where
  -- meeting is all but apart
  pub meeting_is : is_meeting (compared a b) ≡ meets a b
  unfolding is_meeting
  meeting_is = asked_of is_meeting (λ i e. true) (λ i e. (each_question i e).meeting) refl a b ∙ still (meets a b)
    where
      still : (t : Bool) → (t && true) ≡ t
      still true = refl
      still false = refl

  pub inside_is : is_inside (compared a b) ≡ (meets a b && lies_in a b)
  unfolding is_inside
  inside_is = asked_of is_inside (λ i e. i) (λ i e. (each_question i e).inside) refl a b

  pub enclosing_is : is_enclosing (compared a b) ≡ (meets a b && lies_in b a)
  unfolding is_enclosing
  enclosing_is = asked_of is_enclosing (λ i e. e) (λ i e. (each_question i e).enclosing) refl a b

  equal_is : is_equal (compared a b) ≡ (meets a b && (lies_in a b && lies_in b a))
  unfolding is_equal
  equal_is = asked_of is_equal (λ i e. i && e) (λ i e. (each_question i e).equal) refl a b

  -- equal are the same
  pub equal_same : is_equal (compared a b) ≡ true → a ≡ b
  equal_same h =
      let q = and_both (lies_in a b) (lies_in b a) (and_both (meets a b) _ (sym equal_is ∙ h)).1 in
      holds_both a b ((lies_in_lem b a).0 q.1) ((lies_in_lem a b).0 q.0)

-- .. and the same are equal, where no low is above its high
pub same_equal : (a : Rect) → meets a a ≡ true → is_equal (compared a a) ≡ true
same_equal a m = equal_is a a ∙ rw (m, (lies_in_lem a a).1 (holds_self a))

-- ---- what a search asks of a record

-- whatever a search of any mode lists meets its window
pub wanted_meets : (mode : Mode) (a window : Rect) → wanted mode (compared a window) ≡ true → meets a window ≡ true
unfolding wanted
wanted_meets Meeting a w h = sym (meeting_is a w) ∙ h
wanted_meets OnlyInside a w h = (and_both (meets a w) (lies_in a w) (sym (inside_is a w) ∙ h)).0
wanted_meets OnlyEnclosing a w h = (and_both (meets a w) (lies_in w a) (sym (enclosing_is a w) ∙ h)).0

pub wanted_misses : (mode : Mode) (a window : Rect) → meets a window ≡ false → wanted mode (compared a window) ≡ false
wanted_misses mode a w n = go (wanted mode (compared a w)) refl
  where
    go : (t : Bool) → wanted mode (compared a w) ≡ t → t ≡ false
    go true h = never_both (wanted_meets mode a w h) n
    go false h = refl

module _ (a window : Rect) (v : valid a ≡ true) where
  -- "inside": the record lies in the window
  pub wanted_inside : (wanted OnlyInside (compared a window) ≡ true) ↔ HoldsRect window a
  unfolding wanted
  wanted_inside = (
    λ h. (lies_in_lem a window).0 (and_both (meets a window) (lies_in a window) (sym (inside_is a window) ∙ h)).1,
    λ h.
        inside_is a window
        ∙ both_and (meets a window) (lies_in a window) (held_meets a window (valid_meets a v) h) ((lies_in_lem a window).1 h),
  )

  -- mode meeting lists it exactly where it meets the window
  pub wanted_meeting : (wanted Meeting (compared a window) ≡ true) ↔ Touches a window
  unfolding wanted
  wanted_meeting = (λ h. (meets_is a window).0 (sym (meeting_is a window) ∙ h), λ h. meeting_is a window ∙ (meets_is a window).1 h)

-- "enclosing": the record holds the window
pub wanted_enclosing : (a window : Rect) → valid window ≡ true → (wanted OnlyEnclosing (compared a window) ≡ true) ↔ HoldsRect a window
unfolding wanted
wanted_enclosing a window v = (
  λ h. (lies_in_lem window a).0 (and_both (meets a window) (lies_in window a) (sym (enclosing_is a window) ∙ h)).1,
  λ h.
      enclosing_is a window
      ∙ both_and (meets a window) (lies_in window a) (holds_meets window h (valid_meets window v)) ((lies_in_lem window a).1 h),
)

-- ---- the mirror

-- inside and enclosing are each other's mirror; the others are their own
unfoldable pub mirror : Relation → Relation
mirror Apart = Apart
mirror Inside = Enclosing
mirror Enclosing = Inside
mirror Equal = Equal
mirror OtherwiseMeeting = OtherwiseMeeting

mirror_as : (i e : Bool) → meeting_as e i ≡ mirror (meeting_as i e)
unfolding meeting_as mirror
mirror_as true true = refl
mirror_as true false = refl
mirror_as false true = refl
mirror_as false false = refl

pub compared_mirror : (a b : Rect) → compared b a ≡ mirror (compared a b)
unfolding mirror
compared_mirror a b = go (meets a b) refl
  where
    go : (t : Bool) → meets a b ≡ t → compared b a ≡ mirror (compared a b)
    go true h = rw (compared_as a b h, compared_as b a (sym (meets_mirror a b) ∙ h)) (mirror_as (lies_in a b) (lies_in b a))
    go false h = rw (compared_apart a b h, compared_apart b a (sym (meets_mirror a b) ∙ h))

-- ---- exactly one

-- what each case means, of rectangles with no low above a high
abbrev pub Means : Relation → Rect → Rect → Type 0
Means Apart a b = meets a b ≡ false
Means Inside a b = HoldsRect b a × (a ≢ b)
Means Enclosing a b = HoldsRect a b × (a ≢ b)
Means Equal a b = a ≡ b
Means OtherwiseMeeting a b = (meets a b ≡ true) × (HoldsRect b a → ⊥) × (HoldsRect a b → ⊥)

module _ (a b : Rect) (v : valid a ≡ true) (w : valid b ≡ true) where
  -- a case that is meant is the one that the comparison says
  pub means_compared : (r : Relation) → Means r a b → compared a b ≡ r
  unfolding meeting_as
  means_compared Apart h = compared_apart a b h
  means_compared Inside h =
      compared_as a b (held_meets a b (valid_meets a v) h.0)
      ∙ rw ((lies_in_lem a b).1 h.0, not_back (lies_in b a) refl)
    where
      not_back : (t : Bool) → lies_in b a ≡ t → lies_in b a ≡ false
      not_back true k = absurd (h.1 (holds_both a b ((lies_in_lem b a).0 k) h.0))
      not_back false k = k
  means_compared Enclosing h =
      compared_as a b (holds_meets b h.0 (valid_meets b w))
      ∙ rw ((lies_in_lem b a).1 h.0, not_forth (lies_in a b) refl)
    where
      not_forth : (t : Bool) → lies_in a b ≡ t → lies_in a b ≡ false
      not_forth true k = absurd (h.1 (holds_both a b h.0 ((lies_in_lem a b).0 k)))
      not_forth false k = k
  means_compared Equal h =
      let m : meets a b ≡ true = subst (λ (x : Rect). meets a x ≡ true) h (valid_meets a v) in
      let i : HoldsRect b a = subst (λ (x : Rect). HoldsRect x a) h (holds_self a) in
      let e : HoldsRect a b = subst (λ (x : Rect). HoldsRect a x) h (holds_self a) in
      compared_as a b m ∙ rw ((lies_in_lem a b).1 i, (lies_in_lem b a).1 e)
  means_compared OtherwiseMeeting h =
      compared_as a b h.0 ∙ rw (never (lies_in a b) refl (λ k. h.1 ((lies_in_lem a b).0 k)), never (lies_in b a) refl (λ k. h.2 ((lies_in_lem b a).0 k)))
    where
      never : {x : Bool} (t : Bool) → x ≡ t → (x ≡ true → ⊥) → x ≡ false
      never true k n = absurd (n k)
      never false k n = k

  -- the case that it says is meant
  pub compared_means : Means (compared a b) a b
  unfolding meeting_as
  compared_means = go (meets a b) (lies_in a b) (lies_in b a) refl refl refl
    where
      told : (r : Relation) → compared a b ≡ r → Means r a b → Means (compared a b) a b
      told r e h = subst (λ (s : Relation). Means s a b) (sym e) h

      case : (i e : Bool) → meets a b ≡ true → lies_in a b ≡ i → lies_in b a ≡ e → compared a b ≡ meeting_as i e
      case i e m p q = compared_as a b m ∙ rw (p, q)

      go : (t i e : Bool) → meets a b ≡ t → lies_in a b ≡ i → lies_in b a ≡ e → Means (compared a b) a b
      go false i e m p q = told Apart (compared_apart a b m) m
      go true true true m p q = told Equal (case true true m p q) (holds_both a b ((lies_in_lem b a).0 q) ((lies_in_lem a b).0 p))
      go true true false m p q =
          told Inside (case true false m p q)
          ((lies_in_lem a b).0 p, λ s. never_both ((lies_in_lem b a).1 (subst (λ (x : Rect). HoldsRect a x) s (holds_self a))) q)
      go true false true m p q =
          told Enclosing (case false true m p q)
          ((lies_in_lem b a).0 q, λ s. never_both ((lies_in_lem a b).1 (subst (λ (x : Rect). HoldsRect x a) s (holds_self a))) p)
      go true false false m p q =
          told OtherwiseMeeting (case false false m p q)
          (m, λ h. never_both ((lies_in_lem a b).1 h) p, λ h. never_both ((lies_in_lem b a).1 h) q)

  -- exactly one case holds: the one that the comparison says
  pub exactly_one : (r : Relation) → Means r a b ↔ (compared a b ≡ r)
  exactly_one r = (means_compared r, λ e. subst (λ (s : Relation). Means s a b) e compared_means)
