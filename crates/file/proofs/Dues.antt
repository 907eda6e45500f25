-- Whether the frame that is due is there, by its bytes, and the record in it.
use mathlib.Core.Path.{◌≡◌, refl, sym, ap, ap₂, subst, ◌∙◌}
use mathlib.Core.Bool.{Bool, true, false, cond}
use mathlib.Core.List.{List}
use Rattle.std.specs.Prelude.{Option, None, Some}
use Prim.Native.Nat.{ℕ, zero, suc, ◌+◌, ◌*◌, ◌-◌, ◌≤◌, ◌<◌}
use native.Mathlib.Omega.{arith}
use lib.ListN.{length, take, drop}
use lib.Seq.{drop-drop}
use lib.Dec.{eqb}
use lib.IntN.{ℤ}
use borrow.Author.Tests.{le-leb, eq-eqb}
use Rattle.rules.specs.declared.Edition.{Edition}
use Rattle.rules.specs.declared.Edition.TheVariants.{One, Two}
use Rattle.rules.specs.declared.Rect.{Rect}
use Rattle.rules.specs.declared.Owner.{Owner}
use Rattle.rules.specs.declared.Record.{Record}
use Rattle.rules.specs.declared.FileFault.TheVariants.{BadRectangle, BadNumber, BadOwner, BadFrame, NotAfter}
use Rattle.rules.specs.Numbers.{good_number}
use Rattle.rules.specs.Owners.{owner, nobody, owner_sound}
use Rattle.rules.specs.Geometry.{valid}
use Rattle.rules.specs.Pool.{number}
use Rattle.rules.specs.Layout.{word_at}
use Rattle.rules.specs.Answers.{first_row}
use Rattle.rules.specs.Frames.{pair_value, word_values, rect_in}
use Rattle.rules.specs.File.{Due, frame_due, record_kind, record_size, record_in, before_in_file, follows, record_fault}
use Rattle.rules_laws.proofs.Orders.{never_both}
use Rattle.frames.specs.Places.{word_from, rect_of_bytes}
use Rattle.frames.proofs.Words.{words_at}
use Rattle.file_laws.proofs.Due.{due_in, due_places, due_short, due_length, due_stands}
use Rattle.file.specs.Loading.{is_due, record_bytes, place_of, record_at, last_at, pair_from, is_record, frame_fault}

-- ---- is it there

pub not_due : (k n : ℕ) (bs : List ℕ) → frame_due k n bs ≡ None → false ≡ is_due k n bs
unfolding is_due
not_due k n bs e = rw (is_due, e)

pub is_due_lem : (k n : ℕ) (bs : List ℕ) (d : Due) → frame_due k n bs ≡ Some d → is_due k n bs ≡ true
unfolding is_due
is_due_lem k n bs d e = rw (is_due, e)

-- one that is there, with its words and what comes after
pub due_here : (k n : ℕ) (bs : List ℕ) → is_due k n bs ≡ true → frame_due k n bs ≡ Some (due_in n bs)
due_here k n bs h = go (frame_due k n bs) refl
  where
    go : (o : Option Due) → frame_due k n bs ≡ o → frame_due k n bs ≡ Some (due_in n bs)
    go None e = never_both h (sym (not_due k n bs e))
    go (Some d) e = e ∙ ap Some (sym (due_stands k n bs d e).1)

pub none_due : (k n : ℕ) (bs : List ℕ) → is_due k n bs ≡ false → frame_due k n bs ≡ None
none_due k n bs h = go (frame_due k n bs) refl
  where
    go : (o : Option Due) → frame_due k n bs ≡ o → frame_due k n bs ≡ None
    go None e = e
    go (Some d) e = never_both (is_due_lem k n bs d e) h

-- the frame of record j, as the code asks for it
pub due_told : (e : Edition) (bs : List ℕ) (j : ℕ) {k n p : ℕ} {t : Bool} → k ≡ record_kind e → n ≡ record_size e → p ≡ place_of e j
    → t ≡ is_due k n (drop p bs) → is_record e bs j ≡ t
due_told e bs j a b c d = sym (d ∙ (λ i. is_due (a i) (b i) (drop (c i) bs)))

-- .. has its size
pub due_long : (k n : ℕ) (bs : List ℕ) → is_due k n bs ≡ true → 4 + 4 * n ≤ length bs
due_long k n bs h = (due_stands k n bs (due_in n bs) (due_here k n bs h)).0.enough

module _ (k n : ℕ) (bs : List ℕ) where
  pub due_cut : length bs < 4 + 4 * n → false ≡ is_due k n bs
  due_cut h = not_due k n bs (due_short k n bs h)

  pub due_other : (pair_value (take 2 bs) ≡ 2 + 4 * n → ⊥) → false ≡ is_due k n bs
  due_other h = not_due k n bs (due_length k n bs h)

  -- of the right length, the kind decides
  pub due_kinds : 4 + 4 * n ≤ length bs → pair_value (take 2 bs) ≡ 2 + 4 * n → {j : ℕ} → j ≡ pair_value (take 2 (drop 2 bs)) → eqb j k ≡ is_due k n bs
  due_kinds h s {j} e = rw e (go (eqb (pair_value (take 2 (drop 2 bs))) k) refl)
    where
      places : (b : Bool) → eqb (pair_value (take 2 (drop 2 bs))) k ≡ b → frame_due k n bs ≡ cond b (Some (due_in n bs)) None
      places b f = due_places k n bs ∙ rw (le-leb (4 + 4 * n) (length bs) h, eq-eqb (pair_value (take 2 bs)) (2 + 4 * n) s, f)

      go : (b : Bool) → eqb (pair_value (take 2 (drop 2 bs))) k ≡ b → eqb (pair_value (take 2 (drop 2 bs))) k ≡ is_due k n bs
      go true f = f ∙ sym (is_due_lem k n bs (due_in n bs) (places true f))
      go false f = f ∙ not_due k n bs (places false f)

-- ---- the record at a place

-- word i of record k, of m words
word_of : (bs : List ℕ) (p m i : ℕ) → i < m → word_at (word_values m (drop (p + 4) bs)) i ≡ word_from bs (p + 4 + 4 * i)
word_of bs p m i h =
    words_at m i (drop (p + 4) bs) h
    ∙ ap (λ (l : List ℕ). word_from l 0) (drop-drop (4 * i) (p + 4) bs)

-- .. at the place where it stands
word_at_lem : (bs : List ℕ) (p m i j : ℕ) → i < m → p + 4 + 4 * i ≡ j → word_from bs j ≡ word_at (word_values m (drop (p + 4) bs)) i
word_at_lem bs p m i j h q = sym (word_of bs p m i h ∙ ap (word_from bs) q)

-- the four words of a rectangle, from word i on
rect_of_lem : (bs : List ℕ) (p m i j : ℕ) → i + 3 < m → p + 4 + 4 * i ≡ j → rect_of_bytes bs j ≡ rect_in (word_values m (drop (p + 4) bs)) i
unfolding rect_in rect_of_bytes
rect_of_lem bs p m i j h q =
    λ x. record {
      lowX = word_at_lem bs p m i j (omega arith) q x;
      lowY = word_at_lem bs p m (i + 1) (j + 4) (omega arith) (omega arith) x;
      highX = word_at_lem bs p m (i + 2) (j + 8) (omega arith) (omega arith) x;
      highY = word_at_lem bs p m (i + 3) (j + 12) h (omega arith) x;
    }

pub pair_made : (o : Owner) (bs : List ℕ) (at : ℕ) {n : ℤ} {r : Rect} → n ≡ word_from bs at → r ≡ rect_of_bytes bs (at + 4)
    → record { owner = o; number = number n; rect = r } ≡ pair_from o bs at
pair_made o bs at a b = λ i. record { owner = o; number = number (a i); rect = b i }

module _ (bs : List ℕ) (k : ℕ) where
  one_made : pair_from nobody bs (place_of One k + 4) ≡ record_at One bs k
  unfolding record_at record_in
  one_made =
      let p = place_of One k in
      λ i. record {
        owner = nobody;
        number = number (word_at_lem bs p 5 0 (p + 4) (omega arith) (omega arith) i);
        rect = rect_of_lem bs p 5 1 (p + 4 + 4) (omega arith) (omega arith) i;
      }

  two_made : pair_from (owner (word_from bs (place_of Two k + 4))) bs (place_of Two k + 8) ≡ record_at Two bs k
  unfolding record_at record_in
  two_made =
      let p = place_of Two k in
      λ i. record {
        owner = owner (word_at_lem bs p 6 0 (p + 4) (omega arith) (omega arith) i);
        number = number (word_at_lem bs p 6 1 (p + 8) (omega arith) (omega arith) i);
        rect = rect_of_lem bs p 6 2 (p + 8 + 4) (omega arith) (omega arith) i;
      }

  -- .. by the edition that the code is told
  module _ (e : Edition) {at : ℕ} (place : at ≡ place_of e k) {r : Record} where
    pub record_one : e ≡ One → r ≡ pair_from nobody bs (at + 4) → r ≡ record_at e bs k
    record_one q f =
        let here = place ∙ ap (λ (x : Edition). place_of x k) q in
        f ∙ ap (λ (p : ℕ). pair_from nobody bs (p + 4)) here ∙ one_made ∙ ap (λ (x : Edition). record_at x bs k) (sym q)

    pub record_two : e ≡ Two → {z : ℤ} → z ≡ word_from bs (at + 4) → r ≡ pair_from (owner z) bs (at + 8) → r ≡ record_at e bs k
    record_two q g f =
        let here = place ∙ ap (λ (x : Edition). place_of x k) q in
        f ∙ ap (λ (y : ℤ). pair_from (owner y) bs (at + 8)) g
        ∙ ap (λ (p : ℕ). pair_from (owner (word_from bs (p + 4))) bs (p + 8)) here ∙ two_made ∙ ap (λ (x : Edition). record_at x bs k) (sym q)

-- its words are there
pub room_one : (e : Edition) (p n : ℕ) → e ≡ One → p + record_bytes e ≤ n → p + 24 ≤ n
room_one e p n q h = subst (λ (x : Edition). p + record_bytes x ≤ n) q h

pub room_two : (e : Edition) (p n : ℕ) → e ≡ Two → p + record_bytes e ≤ n → p + 28 ≤ n
room_two e p n q h = subst (λ (x : Edition). p + record_bytes x ≤ n) q h

-- ---- what it follows

module _ (ed : Edition) (bs : List ℕ) where
  pub first_follows : (k : ℕ) → k ≡ 0 → true ≡ follows (last_at ed bs k) (record_at ed bs k)
  unfolding follows last_at
  first_follows k e = subst (λ (j : ℕ). true ≡ follows (last_at ed bs j) (record_at ed bs k)) (sym e) refl

  pub later_follows : (k : ℕ) → (k ≡ 0 → ⊥) → {a b : Record} {t : Bool} → a ≡ record_at ed bs (k - 1) → b ≡ record_at ed bs k → t ≡ before_in_file a b
      → t ≡ follows (last_at ed bs k) (record_at ed bs k)
  unfolding follows last_at
  later_follows zero h e f g = absurd (h refl)
  later_follows (suc k) h e f g =
      let j : suc k - 1 ≡ k = omega arith in
      g ∙ ap₂ before_in_file (e ∙ ap (record_at ed bs) j) f

-- ---- what refuses it

module _ (e : Edition) (bs : List ℕ) (k : ℕ) where
  pub not_there : is_record e bs k ≡ false → frame_fault e bs k ≡ Some BadFrame
  unfolding frame_fault
  not_there h = rw (frame_fault, h)

  module _ (h : is_record e bs k ≡ true) where
    here : frame_fault e bs k ≡ record_fault e (last_at e bs k) (record_at e bs k)
    unfolding frame_fault
    here = rw (frame_fault, h)

    -- .. by the tests that the code makes of the record there
    module _ {r : Record} (is : r ≡ record_at e bs k) where
      pub bad_rectangle : valid r.rect ≡ false → frame_fault e bs k ≡ Some BadRectangle
      unfolding record_fault first_row
      bad_rectangle a = rw (here, sym is, a)

      module _ (a : valid r.rect ≡ true) where
        pub bad_number : good_number r.number ≡ false → frame_fault e bs k ≡ Some BadNumber
        unfolding record_fault first_row
        bad_number b = rw (here, sym is, a, b)

        module _ (b : good_number r.number ≡ true) where
          pub bad_owner : owner_sound e r.owner ≡ false → frame_fault e bs k ≡ Some BadOwner
          unfolding record_fault first_row
          bad_owner c = rw (here, sym is, a, b, c)

          module _ (c : owner_sound e r.owner ≡ true) where
            pub not_after : follows (last_at e bs k) (record_at e bs k) ≡ false → frame_fault e bs k ≡ Some NotAfter
            unfolding record_fault first_row
            not_after d = let f = subst (λ (x : Record). follows (last_at e bs k) x ≡ false) (sym is) d in rw (here, sym is, a, b, c, f)

            pub no_fault : follows (last_at e bs k) (record_at e bs k) ≡ true → (frame_fault e bs k ≡ None) × (r ≡ record_at e bs k)
            unfolding record_fault first_row
            no_fault d = let f = subst (λ (x : Record). follows (last_at e bs k) x ≡ true) (sym is) d in (rw (here, sym is, a, b, c, f), is)
