-- A walk, a step at a time: one walk after another is a walk over what both find and open, because the second leaves the first one's items
-- as they are.
use mathlib.Core.Path.{◌≡◌, refl, sym, ap, ap₂, subst, ◌∙◌}
use mathlib.Core.Bool.{Bool, true, false, cond}
use mathlib.Core.List.{List, [], ◌∷◌, ◌++◌}
use Prim.Native.Nat.{ℕ, ◌+◌, ◌*◌, ◌≤◌, ◌<◌}
use native.Mathlib.Omega.{arith}
use lib.ListN.{length, drop, length-append}
use lib.Seq.{sets, length-sets}
use lib.IntN.{ℤ, pos}
use borrow.Author.Tests.{eq-eqb}
use Rattle.rules.specs.declared.Rect.{Rect}
use Rattle.rules.specs.declared.SlotNumber.{SlotNumber}
use Rattle.rules.specs.declared.Mode.TheVariants.{Meeting}
use Rattle.rules.specs.declared.RecordNumber.{RecordNumber}
use Rattle.rules.specs.declared.Owner.{Owner}
use Rattle.rules.specs.declared.Record.{Record}
use Rattle.rules.specs.Owners.{owner}
use Rattle.rules.specs.Pool.{Pool, node_at, entries_at, entry_at, number_of, owner_of, record_of}
use Rattle.rules.specs.Layout.{entry_place, edition_of, valid_length, rect_of, owner_at, word_at, read}
use Rattle.rules.specs.Search.{found_in, opened_in, found_from_root, opened_from_root}
use Rattle.layout_laws.specs.Slots.{InPool}
use Rattle.layout_laws.proofs.Parts.{slot_few, slot_pointer}
use Rattle.layout_laws.proofs.Written.{pointer_number}
use Rattle.pool.proofs.Stores.{spot_inside, spot_entry}
use Rattle.nodes.specs.Reading.{pointed_owner}
use Rattle.nodes.proofs.Pointers.{owner_is}
use Rattle.found_items.specs.Items.{spot_at, item_at, items_from, Pointing}
use Rattle.found_items.proofs.Words.{SameItems, put_before, spot_put, item_put, items_none, items_one, items_append, items_same, pointing_none, pointing_same, pointing_append}
use Rattle.search.specs.declared.Walked.{Walked}
use Rattle.search.specs.State.{meets_at, found_at}
use Rattle.search.specs.Walk.{walked, ItemRoom, Went, FindsAll}
use Rattle.search.proofs.Meeting.{found_yes, found_no, opened_most}

-- ---- what is found and opened, said otherwise

pub room_same : {items : List ℤ} {a : Walked} {rs ts : List Record} {m n : ℕ} → rs ≡ ts → m ≡ n → ItemRoom items a rs m → ItemRoom items a ts n
room_same {a = a} d e r = record { room = omega (arith, ap length d, r.room); opened = omega (arith, e, r.opened) }

pub went_same : {pool u v : List ℤ} {a b : Walked} {rs ts : List Record} {m n : ℕ} → rs ≡ ts → m ≡ n → Went pool u v a b rs m → Went pool u v a b ts n
went_same {pool} {u} {v} {a} {b} {rs} {ts} {m} {n} d e w = subst (λ (xs : List Record). Went pool u v a b xs n) d (subst (λ (k : ℕ). Went pool u v a b rs k) e w)

-- ---- nothing found, nothing opened

pub went_none : (pool u : List ℤ) (a : Walked) (rs : List Record) (n : ℕ) → rs ≡ [] → n ≡ 0 → Went pool u u a a rs n
went_none pool u a rs n d e =
    went_same (sym d) (sym e)
    record {
      next = omega arith;
      opened = omega arith;
      stay = λ i h. refl;
      listed = items_none (item_at pool u) a.next;
      pointing = pointing_none pool u a.next;
      long = refl;
    }

-- ---- one walk after another

room_first : {u : List ℤ} {a : Walked} {all : List Record} {both : ℕ} (rs ts : List Record) (m n : ℕ) → all ≡ rs ++ ts → both ≡ m + n → ItemRoom u a all both → ItemRoom u a rs m
room_first rs ts m n d e r = record { room = omega (arith, ap length d, length-append rs ts, r.room); opened = omega (arith, e, r.opened) }

room_rest : {pool u v : List ℤ} {a b : Walked} {rs ts all : List Record} {m n both : ℕ} → all ≡ rs ++ ts → both ≡ m + n → ItemRoom u a all both
    → Went pool u v a b rs m → ItemRoom v b ts n
room_rest {rs = rs} {ts = ts} d e r w = record {
  room = omega (arith, ap length d, length-append rs ts, r.room, w.next, w.long);
  opened = omega (arith, e, r.opened, w.opened);
}

went_both : {pool u v x : List ℤ} {a b c : Walked} {rs ts all : List Record} {m n both : ℕ} → all ≡ rs ++ ts → both ≡ m + n
    → Went pool u v a b rs m → Went pool v x b c ts n → Went pool u x a c all both
went_both {pool} {u} {v} {x} {a} {b} {c} {rs} {ts} {all} {m} {n} {both} d e h k =
    went_same (sym d) (sym e)
    record {
      next = omega (arith, h.next, k.next, length-append rs ts);
      opened = omega (arith, h.opened, k.opened);
      stay = λ i l. k.stay i (omega (arith, h.next)) ∙ h.stay i l;
      listed =
          ap (items_from pool x a.next) (length-append rs ts)
          ∙ items_append (item_at pool x) a.next (length rs) (length ts)
          ∙ ap₂ (λ (xs ys : List Record). xs ++ ys) (items_same pool a.next (length rs) first ∙ h.listed)
          (ap (λ (i : ℕ). items_from pool x i (length ts)) (sym h.next) ∙ k.listed);
      pointing =
          subst (Pointing pool x a.next) (sym (length-append rs ts))
          (pointing_append pool x a.next (length rs) (length ts) (pointing_same pool a.next (length rs) first h.pointing)
          (subst (λ (i : ℕ). Pointing pool x i (length ts)) h.next k.pointing));
      long = k.long ∙ h.long;
    }
  where
    first : SameItems x v a.next (length rs)
    first = record { word = λ i l g. k.stay i (omega (arith, h.next)) }

-- ---- a walk underway: from a and the items u it has come to b and the items v. `rest` and n are left of `all` and m

pub record Underway (pool u v : List ℤ) (a b : Walked) (all rest : List Record) (m n : ℕ) : Type 0 where
  pub room : ItemRoom v b rest n
  pub long : length v ≡ length u
  pub onward : (x : List ℤ) (z : Walked) → Went pool v x b z rest n → Went pool u x a z all m

pub sets_out : {pool u : List ℤ} {a : Walked} {all rest : List Record} {m n : ℕ} → all ≡ rest → m ≡ n → ItemRoom u a all m → Underway pool u u a a all rest m n
sets_out d e r = record { room = room_same d e r; long = refl; onward = λ x z g. went_same (sym d) (sym e) g }

module _ {pool u v : List ℤ} {a b : Walked} {all rest : List Record} {m n : ℕ} (h : Underway pool u v a b all rest m n) where
  pub arrives : rest ≡ [] → n ≡ 0 → Went pool u v a b all m
  arrives d e = h.onward v b (went_none pool v b rest n d e)

  module _ (rs ts : List Record) (i j : ℕ) (d : rest ≡ rs ++ ts) (e : n ≡ i + j) where
    pub next_room : ItemRoom v b rs i
    next_room = room_first rs ts i j d e h.room

    pub goes_on : {x : List ℤ} {c : Walked} → Went pool v x b c rs i → Underway pool u x a c all ts m j
    goes_on g = record { room = room_rest d e h.room g; long = g.long ∙ h.long; onward = λ y z k. h.onward y z (went_both d e g k) }

-- ---- a node opened

pub room_opens : {items : List ℤ} {a : Walked} {rs : List Record} {n : ℕ} → ItemRoom items a rs (1 + n) → ItemRoom items a rs n
room_opens r = record { room = r.room; opened = omega (arith, r.opened) }

pub went_opens : {pool u v : List ℤ} {a b : Walked} {rs : List Record} {n : ℕ} → Went pool u v a b rs n → Went pool u v a (walked b.next (b.opened + 1)) rs (1 + n)
went_opens w = record {
  next = w.next;
  opened = omega (arith, w.opened);
  stay = w.stay;
  listed = w.listed;
  pointing = w.pointing;
  long = w.long;
}

-- ---- an entry of a leaf: its item is written at the next place, and found where the entry meets the window

-- a leaf's entry as a record, read from its words: there its owner is the word after its number
leaf_owner : {w : List ℤ} {s : SlotNumber} → InPool w s → (node_at (read w) s).level ≡ 1 → (i : ℕ) → i < length (entries_at (read w) s)
    → owner_of (entry_at (read w) s i) ≡ owner (owner_at (edition_of w) (drop (entry_place (edition_of w) s i) w))
leaf_owner {w} {s} p leaf i h =
    sym (owner_is (entry_at (read w) s i))
    ∙ ap pointed_owner (slot_pointer p i h ∙ pointer_number (node_at (read w) s).level _ _ (eq-eqb (node_at (read w) s).level 1 leaf))

record_is : (p : Pool) (s : SlotNumber) (i : ℕ) (o : Owner) (r : Rect) → o ≡ owner_of (entry_at p s i) → r ≡ (entry_at p s i).rect
    → record { owner = o; number = number_of (entry_at p s i); rect = r } ≡ record_of (entry_at p s i)
unfolding record_of
record_is p s i o r d e = λ j. record { owner = d j; number = number_of (entry_at p s i); rect = e j }

module _ {w : List ℤ} {s : SlotNumber} (u : List ℤ) (p : InPool w s) (leaf : (node_at (read w) s).level ≡ 1)
    (i : ℕ) (h : i < length (entries_at (read w) s)) (k : ℕ) (room : 2 * k + 2 ≤ length u) where
  abbrev number : ℤ
  number = (number_of (entry_at (read w) s i)).0

  abbrev place : ℕ
  place = entry_place (edition_of w) s i

  abbrev put : List ℤ
  put = sets u (2 * k) (number ∷ pos place ∷ [])

  one_listed : items_from w put k 1 ≡ record_of (entry_at (read w) s i) ∷ []
  one_listed =
      items_one (item_at w put) k
      ∙ ap (λ (r : Record). r ∷ [])
      (item_put w u k number place room ∙ record_is (read w) s i _ (rect_of (drop place w)) (sym (leaf_owner p leaf i h)) (spot_entry p i h))

  one_pointing : Pointing w put k 1
  one_pointing = record {
    inside = λ j l g.
        let e : j ≡ k = omega arith in
        omega (arith, ap (spot_at put) e, spot_put u k number place room, spot_inside p i (omega (arith, slot_few p)));
  }

  before : (j : ℕ) → j < 2 * k → word_at put j ≡ word_at u j
  before j l = (put_before u k number (pos place) 0 k (omega arith)).word j (omega arith) (omega arith)

  went_one : Went w u put (walked k 0) (walked (k + 1) 0) (record_of (entry_at (read w) s i) ∷ []) 0
  went_one = record {
    next = omega arith;
    opened = omega arith;
    stay = before;
    listed = one_listed;
    pointing = one_pointing;
    long = length-sets u (2 * k) (number ∷ pos place ∷ []);
  }

  -- written, and not found: the next item is written over it
  went_over : Went w u put (walked k 0) (walked (k + 0) 0) [] 0
  went_over = record {
    next = omega arith;
    opened = omega arith;
    stay = before;
    listed = items_none (item_at w put) k;
    pointing = pointing_none w put k;
    long = length-sets u (2 * k) (number ∷ pos place ∷ []);
  }

  pub went_entry : (window : Rect) (v : List ℤ) (z : RecordNumber) (at n : ℕ) → z ≡ number_of (entry_at (read w) s i) → at ≡ entry_place (edition_of w) s i
      → v ≡ sets u (2 * k) (z.0 ∷ pos at ∷ []) → n ≡ cond (meets_at (read w) window s i) 1 0
      → Went w u v (walked k 0) (walked (k + n) 0) (found_at (read w) window s i) 0
  went_entry window v z at n d e f g =
      let is : v ≡ put = f ∙ ap₂ (λ (x : RecordNumber) (y : ℕ). sets u (2 * k) (x.0 ∷ pos y ∷ [])) d e in
      subst (λ (x : List ℤ). Went w u x (walked k 0) (walked (k + n) 0) (found_at (read w) window s i) 0) (sym is)
      (subst (λ (j : ℕ). Went w u put (walked k 0) (walked (k + j) 0) (found_at (read w) window s i) 0) (sym g) (go (meets_at (read w) window s i) refl))
    where
      go : (b : Bool) → meets_at (read w) window s i ≡ b
          → Went w u put (walked k 0) (walked (k + cond (meets_at (read w) window s i) 1 0) 0) (found_at (read w) window s i) 0
      go true q = rw (q, found_yes (read w) window s i q) went_one
      go false q = rw (q, found_no (read w) window s i q) went_over

-- whatever was opened before
pub went_beside : {pool u v : List ℤ} {j k : ℕ} {rs : List Record} (n : ℕ) → Went pool u v (walked j 0) (walked k 0) rs 0 → Went pool u v (walked j n) (walked k n) rs 0
went_beside n w = record {
  next = w.next;
  opened = omega arith;
  stay = w.stay;
  listed = w.listed;
  pointing = w.pointing;
  long = w.long;
}

-- ---- from the root on

module _ (w : List ℤ) (window : Rect) (right : valid_length w ≡ true) (h : ℕ) (s : SlotNumber) (low : (read w).height ≤ 8) (d : h ≡ (read w).height) (e : s ≡ (read w).root) where
  abbrev all : List Record
  all = found_from_root (read w) Meeting window

  same_found_lem : found_in (read w) Meeting window h s ≡ all
  same_found_lem = ap₂ (found_in (read w) Meeting window) d e

  same_opened : opened_in (read w) window h s ≡ opened_from_root (read w) window
  same_opened = ap₂ (opened_in (read w) window) d e

  pub top_room : (u : List ℤ) → 2 * length all + 2 ≤ length u → ItemRoom u (walked 0 0) (found_in (read w) Meeting window h s) (opened_in (read w) window h s)
  top_room u g = record {
    room = omega (arith, ap length same_found_lem);
    opened = omega (arith, opened_most w right window h s (omega arith));
  }

  pub top_went : {u v : List ℤ} {r : Walked} → Went w u v (walked 0 0) r (found_in (read w) Meeting window h s) (opened_in (read w) window h s)
      → FindsAll w Meeting window u v r
  top_went {v = v} {r = r} g =
      let k = went_same same_found_lem same_opened g in
      let many : r.next ≡ length all = omega (arith, k.next) in
      record {
        found = many;
        opened = omega (arith, k.opened);
        most = omega (arith, g.opened, opened_most w right window h s (omega arith));
        listed = ap (items_from w v 0) many ∙ k.listed;
        pointing = subst (Pointing w v 0) (sym many) k.pointing;
        long = k.long;
      }
