-- The run of full nodes on the way up: it ends at a node with room or goes on through a full one, and it includes the node at the top just where
-- it is the whole way, since every other node of the way is on a lower level.
use mathlib.Core.Path.{◌≡◌, refl, sym, ap, ◌∙◌}
use mathlib.Core.Bool.{Bool, true, false}
use mathlib.Core.List.{List, [], ◌∷◌, ◌++◌, append-nil}
use Prim.Native.Nat.{ℕ, zero, suc, ◌+◌, ◌≤◌, ◌<◌}
use native.Mathlib.Decide.{dec_le}
use native.Mathlib.Omega.{arith}
use lib.ListN.{length, length-append}
use borrow.Author.Tests.{le-leb, lt-leb}
use Rattle.rules.specs.declared.Rect.{Rect}
use Rattle.rules.specs.declared.SlotNumber.{SlotNumber}
use Rattle.rules.specs.Lists.{one_of}
use Rattle.rules.specs.Numbers.{most}
use Rattle.rules.specs.Pool.{Pool, same_slot, node_at, entries_at, entry_at, child_of}
use Rattle.rules.specs.Insert.{Choice}
use Rattle.rules.specs.Lawful.{Lawful}
use Rattle.rules.specs.Room.{is_full, way_up, full_run, plus_root}
use Rattle.rules_laws.proofs.Places.{Each, each_append, each_also}
use Rattle.sound_laws.specs.Tree.{Tree}
use Rattle.sound_laws.proofs.Same.{same_slot_lem}
use Rattle.sound_laws.proofs.Walk.{no_tree, tree_node}
use Rattle.insert_laws.proofs.Below.{way, way_there}
use Rattle.insert_laws.proofs.Beside.{child_entry}

-- ---- the run of any way

module _ (p : Pool) where
  run_yes : (s : SlotNumber) (up : List SlotNumber) → is_full p s ≡ true → full_run p (s ∷ up) ≡ s ∷ full_run p up
  unfolding full_run
  run_yes s up h = rw h

  run_no : (s : SlotNumber) (up : List SlotNumber) → is_full p s ≡ false → full_run p (s ∷ up) ≡ []
  unfolding full_run
  run_no s up h = rw h

  run_none : full_run p [] ≡ []
  unfolding full_run
  run_none = refl

  pub run_le : (up : List SlotNumber) → length (full_run p up) ≤ length up
  run_le [] = omega (arith, ap length run_none)
  run_le (s ∷ up) = go (is_full p s) refl (run_le up)
    where
      go : (b : Bool) → is_full p s ≡ b → length (full_run p up) ≤ length up → length (full_run p (s ∷ up)) ≤ length (s ∷ up)
      go true h k = omega (arith, ap length (run_yes s up h))
      go false h k = omega (arith, ap length (run_no s up h))

  -- it ends before the end, or goes on
  pub run_before : (up more : List SlotNumber) → length (full_run p up) < length up → full_run p (up ++ more) ≡ full_run p up
  run_before [] more h = absurd (omega arith)
  run_before (s ∷ up) more h = go (is_full p s) refl (run_before up more)
    where
      go : (b : Bool) → is_full p s ≡ b → (length (full_run p up) < length up → full_run p (up ++ more) ≡ full_run p up)
          → full_run p (s ∷ up ++ more) ≡ full_run p (s ∷ up)
      go true k f =
          run_yes s (up ++ more) k ∙ ap (λ (ss : List SlotNumber). s ∷ ss) (f (omega (arith, ap length (run_yes s up k)))) ∙ sym (run_yes s up k)
      go false k f = run_no s (up ++ more) k ∙ sym (run_no s up k)

  pub run_all : (up more : List SlotNumber) → length (full_run p up) ≡ length up → full_run p (up ++ more) ≡ up ++ full_run p more
  run_all [] more h = refl
  run_all (s ∷ up) more h = go (is_full p s) refl (run_all up more)
    where
      go : (b : Bool) → is_full p s ≡ b → (length (full_run p up) ≡ length up → full_run p (up ++ more) ≡ up ++ full_run p more)
          → full_run p (s ∷ up ++ more) ≡ s ∷ up ++ full_run p more
      go true k f = run_yes s (up ++ more) k ∙ ap (λ (ss : List SlotNumber). s ∷ ss) (f (omega (arith, ap length (run_yes s up k))))
      go false k f = absurd (omega (arith, ap length (run_no s up k)))

  -- it is a part of the way
  run_each : (P : SlotNumber → Type 0) (up : List SlotNumber) → Each P up → Each P (full_run p up)
  run_each P [] a = rw run_none tt
  run_each P (s ∷ up) a = go (is_full p s) refl (run_each P up a.1)
    where
      go : (b : Bool) → is_full p s ≡ b → Each P (full_run p up) → Each P (full_run p (s ∷ up))
      go true h k = rw (run_yes s up h) (a.0, k)
      go false h k = rw (run_no s up h) tt

  -- ---- one node

  module _ (s : SlotNumber) where
    run_full : most ≤ length (entries_at p s) → full_run p (s ∷ []) ≡ s ∷ []
    unfolding is_full
    run_full h = run_yes s [] (le-leb most (length (entries_at p s)) h) ∙ ap (λ (ss : List SlotNumber). s ∷ ss) run_none

    run_room : length (entries_at p s) < most → full_run p (s ∷ []) ≡ []
    unfolding is_full
    run_room h = run_no s [] (lt-leb most (length (entries_at p s)) h)

    pub full_one : most ≤ length (entries_at p s) → length (full_run p (s ∷ [])) ≡ 1
    full_one h = ap length (run_full h)

    pub room_none : length (entries_at p s) < most → length (full_run p (s ∷ [])) ≡ 0
    room_none h = ap length (run_room h)

-- ---- "plus one if the run includes the root"

module _ (s : SlotNumber) where
  plus_yes : (up : List SlotNumber) → one_of (same_slot s) up ≡ true → plus_root s up ≡ suc (length up)
  unfolding plus_root
  plus_yes up h = rw h (omega arith)

  plus_no : (up : List SlotNumber) → one_of (same_slot s) up ≡ false → plus_root s up ≡ length up
  unfolding plus_root
  plus_no up h = rw h (omega arith)

  -- it is one of a list that ends with it
  one_last : (up : List SlotNumber) → one_of (same_slot s) (up ++ s ∷ []) ≡ true
  unfolding one_of
  one_last [] = rw ((same_slot_lem s s).1 refl)
  one_last (t ∷ up) = go (same_slot s t) refl (one_last up)
    where
      go : (b : Bool) → same_slot s t ≡ b → one_of (same_slot s) (up ++ s ∷ []) ≡ true → one_of (same_slot s) (t ∷ up ++ s ∷ []) ≡ true
      go true h k = rw h
      go false h k = rw h k

  module _ (p : Pool) where
    -- a node lower than that at s
    abbrev pub Lower : SlotNumber → Type 0
    Lower t = (node_at p t).level < (node_at p s).level

    one_lower : (up : List SlotNumber) → Each Lower up → one_of (same_slot s) up ≡ false
    unfolding one_of
    one_lower [] a = refl
    one_lower (t ∷ up) a = go (same_slot s t) refl (one_lower up a.1)
      where
        go : (b : Bool) → same_slot s t ≡ b → one_of (same_slot s) up ≡ false → one_of (same_slot s) (t ∷ up) ≡ false
        go true h k = absurd (omega (arith, a.0, ap (λ (u : SlotNumber). (node_at p u).level) ((same_slot_lem s t).0 h)))
        go false h k = rw h k

    -- lower nodes, and then that at s
    module _ (low : List SlotNumber) (lower : Each Lower low) where
      abbrev up : List SlotNumber
      up = low ++ s ∷ []

      -- the run is the whole way, or ends below the top
      top_cases : (P : List SlotNumber → Type 0) → (length (full_run p low) ≤ length low → P (full_run p low)) → P low → P up → P (full_run p up)
      top_cases P ended top_room top-full = go (dec_le (length low) (length (full_run p low))) (dec_le most (length (entries_at p s)))
        where
          go : Dec (length low ≤ length (full_run p low)) → Dec (most ≤ length (entries_at p s)) → P (full_run p up)
          go (no h) k = rw (run_before p low (s ∷ []) (omega arith)) (ended (omega arith))
          go (yes h) (yes k) = rw (run_all p low (s ∷ []) (omega (arith, run_le p low)), run_full p s k) top-full
          go (yes h) (no k) = rw (run_all p low (s ∷ []) (omega (arith, run_le p low)), run_room p s (omega arith), append-nil low) top_room

      -- where it is shorter than the way it does not include the top
      pub plus_short : length (full_run p up) ≤ length low → plus_root s (full_run p up) ≡ length (full_run p up)
      plus_short =
          top_cases (λ r. length r ≤ length low → plus_root s r ≡ length r)
          (λ h k. plus_no (full_run p low) (one_lower (full_run p low) (run_each p Lower low lower)))
          (λ k. plus_no low (one_lower low lower))
          (λ k. absurd (omega (arith, length-append low (s ∷ []))))

      pub plus_whole : length (full_run p up) ≡ suc (length low) → plus_root s (full_run p up) ≡ suc (length (full_run p up))
      plus_whole =
          top_cases (λ r. length r ≡ suc (length low) → plus_root s r ≡ suc (length r))
          (λ h k. absurd (omega arith))
          (λ k. absurd (omega arith))
          (λ k. plus_yes up (one_last low))

-- ---- the way up

module _ (c : Choice) where
  pub way_length : (n : ℕ) (p : Pool) (s : SlotNumber) (new : Rect) → length (way_up c n p s new) ≡ suc n
  unfolding way_up
  way_length zero p s new = refl
  way_length (suc n) p s new =
      let t = child_of (entry_at p s (way c p s new)) in
      omega (arith, length-append (way_up c n p t new) (s ∷ []), way_length n p t new)

  pub way_here : (p : Pool) (s : SlotNumber) (new : Rect) → way_up c 0 p s new ≡ s ∷ []
  unfolding way_up
  way_here p s new = refl

  way_up_lem : (n : ℕ) (p : Pool) (s : SlotNumber) (new : Rect)
      → way_up c (suc n) p s new ≡ way_up c n p (child_of (entry_at p s (way c p s new))) new ++ s ∷ []
  unfolding way_up
  way_up_lem n p s new = refl

  -- how long the run is
  unfoldable pub run : ℕ → Pool → SlotNumber → Rect → ℕ
  run n p s new = length (full_run p (way_up c n p s new))

  module _ (n : ℕ) (p : Pool) (s : SlotNumber) (new : Rect) where
    abbrev below : List SlotNumber
    below = way_up c n p (child_of (entry_at p s (way c p s new))) new

    pub run_ends : length (full_run p below) ≤ n → run (suc n) p s new ≡ length (full_run p below)
    unfolding run
    run_ends h =
        ap (λ (up : List SlotNumber). length (full_run p up)) (way_up_lem n p s new)
        ∙ ap length (run_before p below (s ∷ []) (omega (arith, way_length n p (child_of (entry_at p s (way c p s new))) new)))

    pub run_goes_on : length (full_run p below) ≡ suc n → run (suc n) p s new ≡ suc n + length (full_run p (s ∷ []))
    unfolding run
    run_goes_on h =
        let m = way_length n p (child_of (entry_at p s (way c p s new))) new in
        ap (λ (up : List SlotNumber). length (full_run p up)) (way_up_lem n p s new) ∙ ap length (run_all p below (s ∷ []) (omega arith))
        ∙ length-append below (full_run p (s ∷ [])) ∙ omega arith

    pub run_most : run n p s new ≤ suc n
    unfolding run
    run_most = omega (arith, run_le p (way_up c n p s new), way_length n p s new)

  -- ---- in a tree

  module _ (lawful : Lawful c) (p : Pool) (k : ℕ) (low : 1 ≤ k) (new : Rect) where
    -- no node of the way is higher than the one at its top
    way_low : (n l : ℕ) (s : SlotNumber) → l ≡ n + k → Tree p l s → (0 < n → 0 < length (entries_at p s))
        → Each (λ t. (node_at p t).level ≤ l) (way_up c n p s new)
    way_low zero l s h d some = rw (way_here p s new) (omega (arith, (tree_node p l s d).level), tt)
    way_low (suc n) zero s h d some = absurd (no_tree p s d)
    way_low (suc n) (suc zero) s h d some = absurd (omega arith)
    way_low (suc n) (suc (suc l)) s h d some =
        let x = child_entry p l s d (way c p s new) (way_there c lawful p s new (some (omega arith))) in
        let child = child_of (entry_at p s (way c p s new)) in
        let up = way_up c n p child new in
        rw (way_up_lem n p s new)
        (each_append (λ t. (node_at p t).level ≤ suc (suc l)) up (s ∷ [])
        (each_also (λ t. (node_at p t).level ≤ suc l) (λ t. (node_at p t).level ≤ suc (suc l)) (λ t b. omega arith) up
        (way_low n (suc l) child (omega arith) x.child (λ z. omega (arith, x.enough))))
        (omega (arith, (tree_node p (suc (suc l)) s d).level), tt))

    -- so the others are lower
    record Topped (s : SlotNumber) (up : List SlotNumber) : Type 0 where
      under : List SlotNumber
      is : up ≡ under ++ s ∷ []
      lower : Each (Lower s p) under

    topped : (n l : ℕ) (s : SlotNumber) → l ≡ n + k → Tree p l s → (0 < n → 0 < length (entries_at p s)) → Topped s (way_up c n p s new)
    topped zero l s h d some = record { under = []; is = way_here p s new; lower = tt }
    topped (suc n) zero s h d some = absurd (no_tree p s d)
    topped (suc n) (suc zero) s h d some = absurd (omega arith)
    topped (suc n) (suc (suc l)) s h d some =
        let x = child_entry p l s d (way c p s new) (way_there c lawful p s new (some (omega arith))) in
        let child = child_of (entry_at p s (way c p s new)) in
        let up = way_up c n p child new in
        record {
          under = up;
          is = way_up_lem n p s new;
          lower = each_also (λ t. (node_at p t).level ≤ suc l) (Lower s p) (λ t b. omega (arith, (tree_node p (suc (suc l)) s d).level)) up
              (way_low n (suc l) child (omega arith) x.child (λ z. omega (arith, x.enough)));
        }

    module _ (n l : ℕ) (s : SlotNumber) (h : l ≡ n + k) (d : Tree p l s) (some : 0 < n → 0 < length (entries_at p s)) where
      abbrev whole_way : List SlotNumber
      whole_way = way_up c n p s new

      split_way : Topped s whole_way
      split_way = topped n l s h d some

      under_long : length split_way.under ≡ n
      under_long = omega (arith, way_length n p s new, ap length split_way.is, length-append split_way.under (s ∷ []))

      -- the run ends below the top
      pub needed_less : run n p s new ≤ n → plus_root s (full_run p whole_way) ≡ run n p s new
      unfolding run
      needed_less r = rw split_way.is (plus_short s p split_way.under split_way.lower (omega (arith, rw split_way.is at r, under_long)))

      -- .. or includes it
      pub needed_all : run n p s new ≡ suc n → plus_root s (full_run p whole_way) ≡ suc (run n p s new)
      unfolding run
      needed_all r = rw split_way.is (plus_whole s p split_way.under split_way.lower (omega (arith, rw split_way.is at r, under_long)))

      pub needed_between : (run n p s new ≤ plus_root s (full_run p whole_way)) × (plus_root s (full_run p whole_way) ≤ suc (run n p s new))
      needed_between = go (dec_le (run n p s new) n)
        where
          go : Dec (run n p s new ≤ n) → (run n p s new ≤ plus_root s (full_run p whole_way)) × (plus_root s (full_run p whole_way) ≤ suc (run n p s new))
          go (yes r) = let e = needed_less r in (omega arith, omega arith)
          go (no r) = let m = run_most n p s new in let e = needed_all (omega arith) in (omega arith, omega arith)
