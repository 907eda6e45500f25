-- The items whose records a test holds for, closed up to the front, an item at a time: those kept so far are those of the items looked at, and
-- the items ahead are as they were, since what is written lies before them. Whatever the test is: the mode's, or whether the record is the owner's.
use mathlib.Core.Path.{◌≡◌, refl, sym, ap, ap₂, subst, ◌∙◌}
use mathlib.Core.Logic.{◌⊎◌, inl, inr}
use mathlib.Core.Bool.{Bool, true, false, cond}
use mathlib.Core.List.{List, [], ◌∷◌, ◌++◌, append-nil}
use Prim.Native.Nat.{ℕ, zero, suc, ◌+◌, ◌-◌, ◌*◌, ◌≤◌, ◌<◌}
use native.Mathlib.Omega.{arith}
use lib.ListN.{length, drop}
use lib.Seq.{sets, length-sets}
use lib.IntN.{ℤ, pos}
use Rattle.rules.specs.declared.Edition.{Edition}
use Rattle.rules.specs.declared.Edition.TheVariants.{One}
use Rattle.rules.specs.declared.Rect.{Rect}
use Rattle.rules.specs.declared.Owner.{Owner}
use Rattle.rules.specs.declared.RecordNumber.{RecordNumber}
use Rattle.rules.specs.declared.Record.{Record}
use Rattle.rules.specs.declared.Mode.{Mode}
use Rattle.rules.specs.Lists.{those, same}
use Rattle.rules.specs.Owners.{owned_by, owner_in}
use Rattle.rules.specs.Compare.{compared, wanted}
use Rattle.rules.specs.Pool.{number}
use Rattle.rules.specs.Layout.{entry_size, word_at, edition_of, rect_of, owner_at}
use Rattle.rules_laws.proofs.Parts.{those_yes, those_no, those_none, those_append}
use Rattle.search_laws.specs.Window.{record_wanted}
use Rattle.found_items.specs.Items.{spot_at, item_at, items_from, Pointing}
use Rattle.found_items.proofs.Words.{SameItems, same_itself, same_spot, same_item, put_other, spot_put, item_put, items_none}
use Rattle.found_items.proofs.Words.{items_one, items_more, items_append, items_same, record_from, pointing_none, pointing_same, pointing_append}
use Rattle.search.specs.Walk.{KeptAll}

-- ---- what the tests look at

item_of : (pool w : List ℤ) (k : ℕ) → item_at pool w k ≡ record_from pool (word_at w (2 * k)) (spot_at w k)
unfolding item_at
item_of pool w k = refl

pub wanted_item : (pool w : List ℤ) (k : ℕ) (mode : Mode) (window : Rect) (at : ℕ) (r : Rect) → at ≡ spot_at w k → r ≡ rect_of (drop at pool)
    → wanted mode (compared r window) ≡ record_wanted mode window (item_at pool w k)
unfolding item_at
wanted_item pool w k mode window at r e f = ap (λ (x : Rect). wanted mode (compared x window)) (f ∙ ap (λ (i : ℕ). rect_of (drop i pool)) e)

pub owned_item : (pool w : List ℤ) (k : ℕ) (o : Owner) (at : ℕ) (z : ℤ) → at ≡ spot_at w k → z ≡ owner_at (edition_of pool) (drop at pool)
    → same z o.0 ≡ owned_by o (item_at pool w k)
unfolding item_at owned_by
owned_item pool w k o at z e f = ap (λ (x : ℤ). same x o.0) (f ∙ ap (λ (i : ℕ). owner_at (edition_of pool) (drop i pool)) e)

-- one item more
items_last : (pool w : List ℤ) (k : ℕ) → items_from pool w 0 (k + 1) ≡ items_from pool w 0 k ++ item_at pool w k ∷ []
items_last pool w k =
    let z : 0 + k ≡ k = omega arith in
    items_append (item_at pool w) 0 k 1 ∙ ap (λ (j : ℕ). items_from pool w 0 k ++ items_from pool w j 1) z
    ∙ ap (λ (rs : List Record). items_from pool w 0 k ++ rs) (items_one (item_at pool w) k)

-- ---- so far: of the first k of n items `count` are kept, and the items ahead are as they were

pub record Ahead (u v : List ℤ) (n count k : ℕ) : Type 0 where
  pub few : count ≤ k
  pub most : k ≤ n
  pub same : SameItems v u k (n - k)
  pub long : length v ≡ length u

-- .. and those kept are those whose records the test holds for
pub record Keeping (pool : List ℤ) (test : Record → Bool) (u v : List ℤ) (count k : ℕ) : Type 0 where
  pub kept : items_from pool v 0 count ≡ those test (items_from pool u 0 k)
  pub pointing : Pointing pool v 0 count

pub ahead_first : (u : List ℤ) (n : ℕ) → Ahead u u n 0 0
ahead_first u n = record {
  few = omega arith;
  most = omega arith;
  same = same_itself u 0 (n - 0);
  long = refl;
}

pub keeping_first : (pool : List ℤ) (test : Record → Bool) (u : List ℤ) → Keeping pool test u u 0 0
keeping_first pool test u = record {
  kept =
      items_none (item_at pool u) 0
      ∙ sym (ap (those test) (items_none (item_at pool u) 0) ∙ those_none test);
  pointing = pointing_none pool u 0;
}

-- ---- a turn: the item at place k is written at the place `count`

module _ {u v : List ℤ} {n count k : ℕ} (g : Ahead u v n count k) (more : k < n) where
  pub spot_ahead : spot_at v k ≡ spot_at u k
  spot_ahead = same_spot g.same k (omega arith) (omega arith)

  module _ (room : 2 * n ≤ length u) {x : List ℤ} {z : RecordNumber} {s : ℕ}
      (d : z ≡ number (word_at v (2 * k))) (e : s ≡ spot_at v k)
      (put : x ≡ sets v (2 * count) (z.0 ∷ pos s ∷ [])) where
    stay : (i : ℕ) → (i < 2 * count) ⊎ (2 * count + 2 ≤ i) → word_at x i ≡ word_at v i
    stay i h = ap (λ (w : List ℤ). word_at w i) put ∙ put_other v count z.0 (pos s) i h

    -- it counts, or does not
    pub next_ahead : (j : ℕ) → j ≤ 1 → Ahead u x n (count + j) (k + 1)
    next_ahead j one = record {
      few = omega (arith, g.few, one);
      most = omega arith;
      same = record {
        word = λ i l m. stay i (inr (omega (arith, g.few, l))) ∙ g.same.word i (omega arith) (omega arith);
      };
      long = ap length put ∙ length-sets v (2 * count) (z.0 ∷ pos s ∷ []) ∙ g.long;
    }

    there : 2 * count + 2 ≤ length v
    there = omega (arith, g.few, g.long, room, more)

    spot_here : spot_at x count ≡ spot_at u k
    spot_here =
        ap (λ (w : List ℤ). spot_at w count) put ∙ spot_put v count z.0 s there ∙ e ∙ spot_ahead

    module _ (pool : List ℤ) where
      item_here : item_at pool x count ≡ item_at pool u k
      item_here =
          ap (λ (w : List ℤ). item_at pool w count) put ∙ item_put pool v count z.0 s there
          ∙ ap₂ (record_from pool) (ap (λ (y : RecordNumber). y.0) d) e
          ∙ sym (item_of pool v k) ∙ same_item g.same pool k (omega arith) (omega arith)

      module _ {test : Record → Bool} (points : Pointing pool u 0 n)
          (h : Keeping pool test u v count k) where
        before : SameItems x v 0 count
        before = record { word = λ i l m. stay i (inl (omega arith)) }

        kept_before : items_from pool x 0 count ≡ those test (items_from pool u 0 k)
        kept_before = items_same pool 0 count before ∙ h.kept

        points_before : Pointing pool x 0 count
        points_before = pointing_same pool 0 count before h.pointing

        turn : (b : Bool) → test (item_at pool u k) ≡ b
            → Keeping pool test u x (count + cond b 1 0) (k + 1)
        turn true in_ =
            record {
              kept =
                  items_last pool x count
                  ∙ ap (λ (r : Record). items_from pool x 0 count ++ r ∷ []) item_here
                  ∙ ap (λ (rs : List Record). rs ++ item_at pool u k ∷ []) kept_before
                  ∙ sym (ap (those test) (items_last pool u k)
                  ∙ those_append test (items_from pool u 0 k) (item_at pool u k ∷ [])
                  ∙ ap (λ (rs : List Record). those test (items_from pool u 0 k) ++ rs)
                  (those_yes test (item_at pool u k) [] in_
                  ∙ ap (λ (rs : List Record). item_at pool u k ∷ rs) (those_none test)));
              pointing =
                  pointing_append pool x 0 count 1 points_before
                  (record { inside = λ i l m. at i (omega (arith, l, m)) });
            }
          where
            at : (i : ℕ) → i ≡ count → spot_at x i + entry_size (edition_of pool) ≤ length pool
            at i q =
                let s : spot_at x i ≡ spot_at u k = ap (spot_at x) q ∙ spot_here in
                omega (arith, s, points.inside k (omega arith) (omega arith))
        turn false out =
            let z : count + 0 ≡ count = omega arith in
            subst (λ (j : ℕ). Keeping pool test u x j (k + 1)) (sym z) (record {
              kept =
                  kept_before
                  ∙ sym (ap (those test) (items_last pool u k)
                  ∙ those_append test (items_from pool u 0 k) (item_at pool u k ∷ [])
                  ∙ ap (λ (rs : List Record). those test (items_from pool u 0 k) ++ rs)
                  (those_no test (item_at pool u k) [] out ∙ those_none test)
                  ∙ append-nil (those test (items_from pool u 0 k)));
              pointing = points_before;
            })

        pub next_keeping : (b : Bool) (j : ℕ) → b ≡ test (item_at pool u k) → j ≡ cond b 1 0
            → Keeping pool test u x (count + j) (k + 1)
        next_keeping b j says is =
            subst (λ (i : ℕ). Keeping pool test u x (count + i) (k + 1)) (sym is)
            (turn b (sym says))

-- ---- all of them

pub kept_all : {pool : List ℤ} {test : Record → Bool} {u v : List ℤ} {n count k : ℕ}
    → Ahead u v n count k → n ≤ k → Keeping pool test u v count k → KeptAll pool test u v n count
kept_all {pool} {test} {u} {v} {n} {count} {k} g end h =
    let e : k ≡ n = omega (arith, g.most) in
    record {
      kept = h.kept ∙ ap (λ (i : ℕ). those test (items_from pool u 0 i)) e;
      pointing = h.pointing;
      long = g.long;
    }

-- ---- in edition 1 there is nothing to keep apart

nobodys : (o : Owner) (ws : List ℤ) → owner_in One o ≡ o → same (owner_at One ws) o.0 ≡ true
unfolding owner_at owner_in same
nobodys o ws h = subst (λ (x : Owner). same (pos 0) x.0 ≡ true) h refl

pub all_own : (pool w : List ℤ) (o : Owner) → edition_of pool ≡ One → owner_in One o ≡ o
    → (k n : ℕ) → those (owned_by o) (items_from pool w k n) ≡ items_from pool w k n
all_own pool w o e h k zero = ap (those (owned_by o)) (items_none (item_at pool w) k) ∙ those_none (owned_by o) ∙ sym (items_none (item_at pool w) k)
all_own pool w o e h k (suc n) =
    ap (those (owned_by o)) (items_more (item_at pool w) k n)
    ∙ those_yes (owned_by o) (item_at pool w k) (items_from pool w (suc k) n) mine
    ∙ ap (λ (rs : List Record). item_at pool w k ∷ rs) (all_own pool w o e h (suc k) n)
    ∙ sym (items_more (item_at pool w) k n)
  where
    mine : owned_by o (item_at pool w k) ≡ true
    mine =
        let ws = drop (spot_at w k) pool in
        sym (owned_item pool w k o (spot_at w k) _ refl refl) ∙ ap (λ (x : Edition). same (owner_at x ws) o.0) e ∙ nobodys o ws h
