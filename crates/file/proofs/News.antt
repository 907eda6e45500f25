-- The items that are another pair than the one before are the distinct pairs, since the items are in found order.
use mathlib.Core.Path.{◌≡◌, refl, sym, ap, subst, ◌∙◌}
use mathlib.Core.Bool.{Bool, true, false, cond}
use mathlib.Core.List.{List, [], ◌∷◌, ◌++◌, map, append-nil, append_assoc}
use Prim.Native.Nat.{ℕ, zero, suc, ◌+◌, ◌-◌, ◌*◌, ◌≤◌, ◌<◌}
use native.Mathlib.Omega.{arith}
use lib.ListN.{length, length-append}
use lib.IntN.{ℤ}
use Rattle.rules.specs.declared.Edition.{Edition}
use Rattle.rules.specs.declared.Owner.{Owner}
use Rattle.rules.specs.declared.FoundRecord.{FoundRecord}
use Rattle.rules.specs.Lists.{those}
use Rattle.rules.specs.Owners.{owned_by, as_found, of_owner}
use Rattle.rules.specs.Pool.{stored}
use Rattle.rules.specs.Layout.{rect_size, edition_of, read}
use Rattle.rules.specs.Search.{before}
use Rattle.rules.specs.File.{distinct, carried_of, record_frame}
use Rattle.rules_laws.proofs.Joins.{joined_more, joined_none, joined_append}
use Rattle.search_laws.specs.Order.{Sorted}
use Rattle.search_laws.proofs.Order.{neither_before, ordered_sorted}
use Rattle.found_items.specs.Items.{spot_at, shown_at, shown_from}
use Rattle.found_items.proofs.Words as I
use Rattle.frames.specs.Writing.{Wrote}
use Rattle.frames.proofs.Texts.{nothing_wrote, wrote_then, wrote_as, wrote_length}
use Rattle.file_laws.proofs.Distinct.{distinct_none, distinct_new, distinct_next, distinct_ascending}
use mir.Val.{bool_byte}
use Rattle.file.specs.Items.{Listed, InOrder, is_new, new_from, first_owner, second_carried, CountsFile}
use Rattle.file.specs.Filling.{own_frames}
use Rattle.file.proofs.Listing.{count_two}

-- the frame of a record that is shown, of its owner
abbrev frame : Edition → Owner → FoundRecord → List ℕ
frame e o f = record_frame e (of_owner o f)

module _ (pool items : List ℤ) where
  -- ---- one item

  items_more : (k n : ℕ) → shown_from pool items k (suc n) ≡ shown_at pool items k ∷ shown_from pool items (suc k) n
  items_more k n = I.items_more (shown_at pool items) k n

  items_none : (k : ℕ) → shown_from pool items k zero ≡ []
  items_none k = I.items_none (shown_at pool items) k

  pub new_none : (k : ℕ) → new_from pool items k zero ≡ []
  unfolding new_from
  new_none k = refl

  pub new_yes : (k n : ℕ) → is_new pool items k ≡ true → new_from pool items k (suc n) ≡ shown_at pool items k ∷ new_from pool items (suc k) n
  unfolding new_from
  new_yes k n h = rw h

  pub new_no : (k n : ℕ) → is_new pool items k ≡ false → new_from pool items k (suc n) ≡ new_from pool items (suc k) n
  unfolding new_from
  new_no k n h = rw h

  pub new_few : (k n : ℕ) → length (new_from pool items k n) ≤ n
  new_few k zero = omega (arith, ap length (new_none k))
  new_few k (suc n) = go (is_new pool items k) refl (new_few (suc k) n)
    where
      go : (b : Bool) → is_new pool items k ≡ b → length (new_from pool items (suc k) n) ≤ n → length (new_from pool items k (suc n)) ≤ suc n
      go true e h = omega (arith, ap length (new_yes k n e))
      go false e h = omega (arith, ap length (new_no k n e))

  -- one, and then the others
  pub new_parts : (k n : ℕ) → new_from pool items k (suc n) ≡ new_from pool items k 1 ++ new_from pool items (suc k) n
  new_parts k n = go (is_new pool items k) refl
    where
      go : (b : Bool) → is_new pool items k ≡ b → new_from pool items k (suc n) ≡ new_from pool items k 1 ++ new_from pool items (suc k) n
      go true e = new_yes k n e ∙ sym (rw (new_yes k 0 e, new_none (suc k)))
      go false e = new_no k n e ∙ sym (rw (new_no k 0 e, new_none (suc k)))

  -- ---- all of them

  -- after the item at place k
  new_after : (k n : ℕ) → Sorted (shown_from pool items k (suc n))
      → distinct (shown_at pool items k ∷ shown_from pool items (suc k) n) ≡ shown_at pool items k ∷ new_from pool items (suc k) n
  new_after k zero s =
      let r = shown_at pool items k in
      ap (λ (l : List FoundRecord). distinct (r ∷ l)) (items_none (suc k)) ∙ distinct_new r [] (rw distinct_none tt)
      ∙ ap (λ (l : List FoundRecord). r ∷ l) (distinct_none ∙ sym (new_none (suc k)))
  new_after k (suc n) s = go (before (shown_at pool items k) (shown_at pool items (suc k))) refl (new_after (suc k) n sorted.1)
    where
      sorted : Sorted (shown_at pool items k ∷ shown_from pool items (suc k) (suc n))
      sorted = subst Sorted (items_more k (suc n)) s

      all : distinct (shown_at pool items k ∷ shown_from pool items (suc k) (suc n))
          ≡ cond (before (shown_at pool items k) (shown_at pool items (suc k)))
          (shown_at pool items k ∷ distinct (shown_at pool items (suc k) ∷ shown_from pool items (suc (suc k)) n))
          (distinct (shown_at pool items (suc k) ∷ shown_from pool items (suc (suc k)) n))
      all =
          let two = subst (λ (l : List FoundRecord). Sorted (shown_at pool items k ∷ l)) (items_more (suc k) n) sorted in
          ap (λ (l : List FoundRecord). distinct (shown_at pool items k ∷ l)) (items_more (suc k) n)
          ∙ distinct_next (shown_at pool items k) (shown_at pool items (suc k)) (shown_from pool items (suc (suc k)) n) two.0
          (distinct_ascending (shown_at pool items (suc k) ∷ shown_from pool items (suc (suc k)) n) two.1)

      is_new_lem : (b : Bool) → before (shown_at pool items k) (shown_at pool items (suc k)) ≡ b → is_new pool items (suc k) ≡ b
      is_new_lem b e = unfold is_new in e

      not_before : before (shown_at pool items (suc k)) (shown_at pool items k) ≡ false
      not_before = (subst (λ (l : List FoundRecord). Sorted (shown_at pool items k ∷ l)) (items_more (suc k) n) sorted).0

      go : (b : Bool) → before (shown_at pool items k) (shown_at pool items (suc k)) ≡ b
          → distinct (shown_at pool items (suc k) ∷ shown_from pool items (suc (suc k)) n) ≡ shown_at pool items (suc k) ∷ new_from pool items (suc (suc k)) n
          → distinct (shown_at pool items k ∷ shown_from pool items (suc k) (suc n)) ≡ shown_at pool items k ∷ new_from pool items (suc k) (suc n)
      go true e later =
          (rw e at all) ∙ ap (λ (l : List FoundRecord). shown_at pool items k ∷ l) (later ∙ sym (new_yes (suc k) n (is_new_lem true e)))
      go false e later =
          (rw e at all) ∙ later
          ∙ ap (λ (r : FoundRecord). r ∷ new_from pool items (suc (suc k)) n) (sym (neither_before (shown_at pool items k) (shown_at pool items (suc k)) e not_before))
          ∙ ap (λ (l : List FoundRecord). shown_at pool items k ∷ l) (sym (new_no (suc k) n (is_new_lem false e)))

  new_distinct : (n : ℕ) → Sorted (shown_from pool items 0 n) → new_from pool items 0 n ≡ distinct (shown_from pool items 0 n)
  new_distinct zero s = new_none 0 ∙ sym (ap distinct (items_none 0) ∙ distinct_none)
  new_distinct (suc n) s =
      new_yes 0 n (unfold is_new in refl) ∙ sym (ap distinct (items_more 0 n) ∙ new_after 0 n s)

  -- the new ones are what is carried of the owner
  pub new_carried : (o : Owner) (n : ℕ) → InOrder pool o items n → new_from pool items 0 n ≡ carried_of (read pool) o
  unfolding carried_of
  new_carried o n h =
      let own = map as_found (those (owned_by o) (stored (read pool))) in
      new_distinct n (subst Sorted (sym h.is) (ordered_sorted own)) ∙ ap distinct h.is

  -- ---- what the code asks

  pub new_first : (k : ℕ) → k ≡ 0 → true ≡ is_new pool items k
  unfolding is_new
  new_first k e = rw e

  pub new_later : (k : ℕ) → (k ≡ 0 → ⊥) → before (shown_at pool items (k - 1)) (shown_at pool items k) ≡ is_new pool items k
  unfolding is_new
  new_later zero h = absurd (h refl)
  new_later (suc k) h = ap (λ (j : ℕ). before (shown_at pool items j) (shown_at pool items (suc k))) (omega arith)

  -- an item's words and its rectangle are there
  pub item_words_lem : (n k : ℕ) → Listed pool items n → k < n → 2 * k + 2 ≤ length items
  item_words_lem n k h l = omega (arith, h.few, h.long)

  pub item_spot : (n k : ℕ) → Listed pool items n → k < n → spot_at items k + rect_size ≤ length pool
  item_spot n k h l = I.pointing_rect h.pointing k (omega arith) (omega arith)

  -- ---- the frames of one item

  module _ (e : Edition) (o : Owner) where
    pub old_text : (k : ℕ) → is_new pool items k ≡ false → own_frames e o (new_from pool items k 1) ≡ []
    old_text k h = rw (new_no k 0 h, new_none (suc k)) (joined_none (frame e o))

    pub new_text : (k : ℕ) → is_new pool items k ≡ true → own_frames e o (new_from pool items k 1) ≡ frame e o (shown_at pool items k)
    new_text k h =
        rw (new_yes k 0 h, new_none (suc k))
        (joined_more (frame e o) (shown_at pool items k) [] ∙ ap (λ (l : List ℕ). frame e o (shown_at pool items k) ++ l) (joined_none (frame e o))
        ∙ append-nil (frame e o (shown_at pool items k)))

-- ---- the count of a file

module _ (pool items : List ℤ) {o : Owner} (whose : o ≡ first_owner (edition_of pool)) {n : ℕ} where
  -- the first owner's items are listed, and the new ones and the others' records counted
  pub counts_file : {new others : ℕ} → InOrder pool o items n → new ≡ length (new_from pool items 0 n) → new ≤ n
      → others ≡ length (second_carried (edition_of pool) (read pool)) → others ≤ 32768 → CountsFile pool items n (new + others)
  counts_file {new} {others} h a few b most =
      record {
        first = subst (λ (x : Owner). InOrder pool x items n) whose h;
        is = count_two pool whose (new_carried pool items o n h) a b;
        few = omega (arith, few, h.listed.few, most);
      }

  pub first_carried : {count : ℕ} → CountsFile pool items n count → new_from pool items 0 n ≡ carried_of (read pool) o
  first_carried c =
      new_carried pool items (first_owner (edition_of pool)) n c.first ∙ ap (carried_of (read pool)) (sym whose)

-- so many of the n items are left, from item k on
pub record Left (n k : ℕ) : Type 0 where
  pub rest : ℕ
  pub left : k + rest ≡ n

-- ---- counted

pub record Counted (pool items : List ℤ) (n k count : ℕ) : Type 0 where
  pub to : Left n k
  pub few : count ≤ k
  pub all : count + length (new_from pool items k to.rest) ≡ length (new_from pool items 0 n)

pub count_first : (pool items : List ℤ) (n : ℕ) → Counted pool items n 0 0
count_first pool items n = record { to = record { rest = n; left = omega arith }; few = omega arith; all = omega arith }

pub bool_byte_most : (b : Bool) → bool_byte b ≤ 1
bool_byte_most true = omega arith
bool_byte_most false = omega arith

pub count_next : {pool items : List ℤ} {n k count r : ℕ} (b : Bool) → Counted pool items n k count → k < n → b ≡ is_new pool items k → r ≡ bool_byte b
    → Counted pool items n (k + 1) (count + r)
count_next {pool} {items} {n} {k} {count} {r} b c h e f = go c.to.rest c.to.left c.all b e f
  where
    go : (m : ℕ) → k + m ≡ n → count + length (new_from pool items k m) ≡ length (new_from pool items 0 n) → (b : Bool) → b ≡ is_new pool items k
        → r ≡ bool_byte b → Counted pool items n (k + 1) (count + r)
    go zero l a b e f = absurd (omega arith)
    go (suc m) l a true e f =
        let j : k + 1 ≡ suc k = omega arith in
        rw j (record {
          to = record { rest = m; left = omega arith };
          few = omega (arith, c.few);
          all = omega (arith, a, ap length (new_yes pool items k m (sym e)));
        })
    go (suc m) l a false e f =
        let j : k + 1 ≡ suc k = omega arith in
        rw j (record {
          to = record { rest = m; left = omega arith };
          few = omega (arith, c.few);
          all = omega (arith, a, ap length (new_no pool items k m (sym e)));
        })

pub count_all : {pool items : List ℤ} {n k count : ℕ} → Counted pool items n k count → n ≤ k
    → (count ≡ length (new_from pool items 0 n)) × (count ≤ n)
count_all {pool} {items} {n} {k} {count} c h = go c.to.rest c.to.left c.all
  where
    go : (m : ℕ) → k + m ≡ n → count + length (new_from pool items k m) ≡ length (new_from pool items 0 n)
        → (count ≡ length (new_from pool items 0 n)) × (count ≤ n)
    go zero l a = (omega (arith, a, ap length (new_none pool items k)), omega (arith, c.few))
    go (suc m) l a = absurd (omega arith)

-- ---- written

-- what is written is the text so far, and the frames of what is left make the whole
pub record Putting (e : Edition) (o : Owner) (pool items : List ℤ) (n : ℕ) (first : List ℕ) (at : ℕ) (file : List ℕ) (next k : ℕ) : Type 0 where
  pub to : Left n k
  pub text : List ℕ
  pub wrote : Wrote first at text file next
  pub all : text ++ own_frames e o (new_from pool items k to.rest) ≡ own_frames e o (new_from pool items 0 n)

pub put_first : (e : Edition) (o : Owner) (pool items : List ℤ) (n : ℕ) (file : List ℕ) (at : ℕ) → Putting e o pool items n file at file at 0
put_first e o pool items n file at = record { to = record { rest = n; left = omega arith }; text = []; wrote = nothing_wrote file at; all = refl }

module _ {e : Edition} {o : Owner} {pool items : List ℤ} {n : ℕ} {first : List ℕ} {at : ℕ} {file : List ℕ} {next k : ℕ} (p : Putting e o pool items n first at file next k) (h : k < n) where
  parts : (m : ℕ) → own_frames e o (new_from pool items k (suc m))
      ≡ own_frames e o (new_from pool items k 1) ++ own_frames e o (new_from pool items (suc k) m)
  parts m =
      ap (λ (l : List FoundRecord). own_frames e o l) (new_parts pool items k m)
      ∙ joined_append (frame e o) (new_from pool items k 1) (new_from pool items (suc k) m)

  -- there is room for the next frame
  pub put_room : at + length (own_frames e o (new_from pool items 0 n)) ≤ length first
      → next + length (own_frames e o (new_from pool items k 1)) ≤ length file
  put_room r = go p.to.rest p.to.left p.all
    where
      go : (m : ℕ) → k + m ≡ n → p.text ++ own_frames e o (new_from pool items k m) ≡ own_frames e o (new_from pool items 0 n)
          → next + length (own_frames e o (new_from pool items k 1)) ≤ length file
      go zero l a = absurd (omega arith)
      go (suc m) l a =
          omega (
            arith,
            r,
            p.wrote.place,
            wrote_length p.wrote,
            ap length a,
            length-append p.text (own_frames e o (new_from pool items k (suc m))),
            ap length (parts m),
            length-append (own_frames e o (new_from pool items k 1)) (own_frames e o (new_from pool items (suc k) m)),
          )

  pub put_next : {out : List ℕ} {place : ℕ} → Wrote file next (own_frames e o (new_from pool items k 1)) out place
      → Putting e o pool items n first at out place (k + 1)
  put_next {out} {place} w = go p.to.rest p.to.left p.all
    where
      go : (m : ℕ) → k + m ≡ n → p.text ++ own_frames e o (new_from pool items k m) ≡ own_frames e o (new_from pool items 0 n)
          → Putting e o pool items n first at out place (k + 1)
      go zero l a = absurd (omega arith)
      go (suc m) l a =
          let one = own_frames e o (new_from pool items k 1) in
          let j : k + 1 ≡ suc k = omega arith in
          rw j (record {
            to = record { rest = m; left = omega arith };
            text = p.text ++ one;
            wrote = wrote_then p.wrote w;
            all = append_assoc p.text one (own_frames e o (new_from pool items (suc k) m))
                ∙ ap (λ (l : List ℕ). p.text ++ l) (sym (parts m)) ∙ a;
          })

pub put_all : {e : Edition} {o : Owner} {pool items : List ℤ} {n : ℕ} {first : List ℕ} {at : ℕ} {file : List ℕ} {next k : ℕ} → Putting e o pool items n first at file next k → n ≤ k
    → Wrote first at (own_frames e o (new_from pool items 0 n)) file next
put_all {e} {o} {pool} {items} {n} {first} {at} {file} {next} {k} p h = go p.to.rest p.to.left p.all
  where
    go : (m : ℕ) → k + m ≡ n → p.text ++ own_frames e o (new_from pool items k m) ≡ own_frames e o (new_from pool items 0 n)
        → Wrote first at (own_frames e o (new_from pool items 0 n)) file next
    go zero l a =
        let none_left : own_frames e o (new_from pool items k 0) ≡ [] =
        ap (λ (l : List FoundRecord). own_frames e o l) (new_none pool items k) ∙ joined_none (frame e o) in
        wrote_as (sym (append-nil p.text) ∙ ap (λ (l : List ℕ). p.text ++ l) (sym none_left) ∙ a) p.wrote
    go (suc m) l a = absurd (omega arith)
