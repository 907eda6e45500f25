-- The places of the entries that meet the window, a place at a time, as the loops go through them; what search finds and opens at those places;
-- and how many nodes can be opened: a node has at most 8 entries, so each level opens at most 9 times as many.
use mathlib.Core.Path.{◌≡◌, refl, sym, ap, ◌∙◌}
use mathlib.Core.Bool.{Bool, true, false, cond}
use mathlib.Core.List.{List, [], ◌∷◌, ◌++◌, map, map-map}
use Prim.Native.Nat.{ℕ, zero, suc, ◌+◌, ◌-◌, ◌^◌, ◌≤◌, ◌<◌}
use native.Mathlib.Nat.{pow-suc, pow-le-pow_right, mul-le-mul_left}
use native.Mathlib.Numerals.{add-one, sub-one}
use native.Mathlib.Omega.{arith}
use lib.ListN.{length, get_or, set, take, drop}
use lib.Seq.{take-suc-set, take-set-le, append_snoc}
use lib.IntN.{ℤ}
use Rattle.rules.specs.declared.Rect.{Rect}
use Rattle.rules.specs.declared.SlotNumber.{SlotNumber}
use Rattle.rules.specs.declared.Mode.TheVariants.{Meeting}
use Rattle.rules.specs.declared.Record.{Record}
use Rattle.rules.specs.declared.Entry.{Entry}
use Rattle.rules.specs.Lists.{those, joined, total, up_from}
use Rattle.rules.specs.Geometry.{meets}
use Rattle.rules.specs.Compare.{compared, is_meeting}
use Rattle.rules.specs.Choose.{rect_from}
use Rattle.rules.specs.Pool.{Pool, rects, no_entry, entries_at, entry_from, entry_at, child_of, record_of}
use Rattle.rules.specs.Layout.{valid_length, read}
use Rattle.rules.specs.Search.{found_in, opened_in}
use Rattle.rules_laws.proofs.Places.{place_of_lem, at_place, length_up_from, get_d_up_from, map_up_from}
use Rattle.rules_laws.proofs.Parts.{those_yes, those_no, those_none, those_map, those_fewer, among_those}
use Rattle.rules_laws.proofs.Sums.{total_most}
use Rattle.rules_laws.proofs.Compares.{meeting_is}
use Rattle.rules_laws.proofs.Turns.{up_more, up_none}
use Rattle.layout_laws.proofs.Parts.{rect_entry}
use Rattle.nodes.proofs.Slots.{most_entries}
use Rattle.search_laws.proofs.Clauses.{found_leaf_met, found_inner, opened_none, opened_leaf, opened_inner}
use Rattle.search.specs.State.{meets_at, meeting_from, meeting_places, found_at}
use Rattle.search.proofs.Sums.{total_end, total_next, joined_end, joined_next}

-- ---- what search does at some places of a node

-- the records at these places of a leaf
unfoldable pub leaf_records : Pool → SlotNumber → List ℕ → List Record
leaf_records p s places = map (λ (i : ℕ). record_of (entry_at p s i)) places

-- the nodes opened, and the records found, below the entries at these places, whose children have the level given
unfoldable pub opened_below : Pool → Rect → ℕ → SlotNumber → List ℕ → ℕ
opened_below p window level s places = total (map (λ (i : ℕ). opened_in p window level (child_of (entry_at p s i))) places)

unfoldable pub found_below : Pool → Rect → ℕ → SlotNumber → List ℕ → List Record
found_below p window level s places = joined (map (λ (i : ℕ). found_in p Meeting window level (child_of (entry_at p s i))) places)

module _ (p : Pool) (window : Rect) where
  -- ---- one entry, as the code tests it

  pub met_is : (s : SlotNumber) (i : ℕ) (r : Rect) (b : Bool) → r ≡ rect_from (rects (entries_at p s)) i → b ≡ is_meeting (compared r window)
      → meets_at p window s i ≡ b
  unfolding meets_at entry_at entry_from
  met_is s i r b d e = sym (e ∙ meeting_is r window ∙ ap (λ (q : Rect). meets q window) (d ∙ rect_entry (entries_at p s) i))

  pub found_yes : (s : SlotNumber) (i : ℕ) → meets_at p window s i ≡ true → found_at p window s i ≡ record_of (entry_at p s i) ∷ []
  unfolding found_at
  found_yes s i e = rw e

  pub found_no : (s : SlotNumber) (i : ℕ) → meets_at p window s i ≡ false → found_at p window s i ≡ []
  unfolding found_at
  found_no s i e = rw e

  -- ---- the places that meet, from place i on

  module _ (s : SlotNumber) (i : ℕ) where
    pub meeting_end : length (entries_at p s) ≤ i → meeting_from p window s i ≡ []
    unfolding meeting_from
    meeting_end h = rw (up_none i (length (entries_at p s)) h) (those_none (meets_at p window s))

    meeting_yes : i < length (entries_at p s) → meets_at p window s i ≡ true → meeting_from p window s i ≡ i ∷ meeting_from p window s (i + 1)
    unfolding meeting_from
    meeting_yes h e =
        rw (up_more i (length (entries_at p s)) h) (those_yes (meets_at p window s) i (up_from (i + 1) (length (entries_at p s) - (i + 1))) e)

    meeting_no : i < length (entries_at p s) → meets_at p window s i ≡ false → meeting_from p window s i ≡ meeting_from p window s (i + 1)
    unfolding meeting_from
    meeting_no h e =
        rw (up_more i (length (entries_at p s)) h) (those_no (meets_at p window s) i (up_from (i + 1) (length (entries_at p s) - (i + 1))) e)

    -- place i is written down after the others, and stays where its entry meets the window
    pub gathers : (places : List ℕ) (count : ℕ) → i < length (entries_at p s) → count < length places
        → take (count + cond (meets_at p window s i) 1 0) (set places count i) ++ meeting_from p window s (i + 1) ≡ take count places ++ meeting_from p window s i
    gathers places count h l = go (meets_at p window s i) refl
      where
        go : (b : Bool) → meets_at p window s i ≡ b
            → take (count + cond (meets_at p window s i) 1 0) (set places count i) ++ meeting_from p window s (i + 1) ≡ take count places ++ meeting_from p window s i
        go true e =
            rw (e, add-one count, take-suc-set places count i l, meeting_yes h e) (append_snoc (take count places) i (meeting_from p window s (i + 1)))
        go false e =
            let z : count + 0 ≡ count = omega arith in
            rw (e, z, take-set-le count places count i (omega arith), meeting_no h e)

    -- a leaf's records at those places
    pub records_end : length (entries_at p s) ≤ i → leaf_records p s (meeting_from p window s i) ≡ []
    unfolding leaf_records
    records_end h = rw (meeting_end h)

    pub records_next : i < length (entries_at p s)
        → leaf_records p s (meeting_from p window s i) ≡ found_at p window s i ++ leaf_records p s (meeting_from p window s (i + 1))
    unfolding leaf_records
    records_next h = go (meets_at p window s i) refl
      where
        go : (b : Bool) → meets_at p window s i ≡ b
            → leaf_records p s (meeting_from p window s i) ≡ found_at p window s i ++ leaf_records p s (meeting_from p window s (i + 1))
        go true e = rw (meeting_yes h e, found_yes s i e)
        go false e = rw (meeting_no h e, found_no s i e)

  -- each is a place of the node
  pub meeting_inside : (s : SlotNumber) (k : ℕ) → k < length (meeting_places p window s) → get_or (meeting_places p window s) k 0 < length (entries_at p s)
  unfolding meeting_from
  meeting_inside s k h =
      let n = length (entries_at p s) in
      let m = (among_those (meets_at p window s) (get_or (meeting_places p window s) k 0) (up_from 0 (n - 0))).0 (at_place (meeting_places p window s) k 0 h) in
      let q = place_of_lem m.0 in
      let l : q.0 < n - 0 = omega (arith, q.1, length_up_from 0 (n - 0)) in
      omega (arith, q.2 0, get_d_up_from 0 (n - 0) q.0 0 l)

  meeting_few : (s : SlotNumber) → length (meeting_places p window s) ≤ length (entries_at p s)
  unfolding meeting_from
  meeting_few s =
      let n = length (entries_at p s) in
      omega (arith, those_fewer (meets_at p window s) (up_from 0 (n - 0)), length_up_from 0 (n - 0))

  -- the entries that meet are those at these places
  meeting_entries : (s : SlotNumber) → those (λ e. meets e.rect window) (entries_at p s) ≡ map (entry_at p s) (meeting_places p window s)
  unfolding meeting_from meets_at entry_at entry_from
  meeting_entries s =
      let es = entries_at p s in
      let z : length es - 0 ≡ length es = omega arith in
      ap (those (λ (e : Entry). meets e.rect window)) (sym (map_up_from no_entry es))
      ∙ those_map (λ i. get_or es i no_entry) (λ (e : Entry). meets e.rect window) (up_from 0 (length es))
      ∙ ap (λ (n : ℕ). map (λ i. get_or es i no_entry) (those (λ i. meets (get_or es i no_entry).rect window) (up_from 0 n))) (sym z)

  -- ---- a node, by its places

  pub leaf_found : (s : SlotNumber) → found_in p Meeting window 1 s ≡ leaf_records p s (meeting_places p window s)
  unfolding leaf_records
  leaf_found s = found_leaf_met p window s ∙ ap (map record_of) (meeting_entries s) ∙ map-map record_of (entry_at p s) (meeting_places p window s)

  inner_found : (l : ℕ) (s : SlotNumber) → found_in p Meeting window (suc (suc l)) s ≡ found_below p window (suc l) s (meeting_places p window s)
  unfolding found_below
  inner_found l s =
      let below : Entry → List Record = λ e. found_in p Meeting window (suc l) (child_of e) in
      found_inner p window Meeting l s ∙ ap (λ (es : List Entry). joined (map below es)) (meeting_entries s)
      ∙ ap joined (map-map below (entry_at p s) (meeting_places p window s))

  inner_opened : (l : ℕ) (s : SlotNumber) → opened_in p window (suc (suc l)) s ≡ 1 + opened_below p window (suc l) s (meeting_places p window s)
  unfolding opened_below
  inner_opened l s =
      let below : Entry → ℕ = λ e. opened_in p window (suc l) (child_of e) in
      opened_inner p window l s
      ∙ ap suc (ap (λ (es : List Entry). total (map below es)) (meeting_entries s) ∙ ap total (map-map below (entry_at p s) (meeting_places p window s)))
      ∙ omega arith

  pub node_found : (level : ℕ) (s : SlotNumber) → 2 ≤ level → found_in p Meeting window level s ≡ found_below p window (level - 1) s (meeting_places p window s)
  node_found zero s h = absurd (omega arith)
  node_found (suc zero) s h = absurd (omega arith)
  node_found (suc (suc l)) s h = rw (sub-one (suc (suc l))) (inner_found l s)

  pub node_opened : (level : ℕ) (s : SlotNumber) → 2 ≤ level → opened_in p window level s ≡ 1 + opened_below p window (level - 1) s (meeting_places p window s)
  node_opened zero s h = absurd (omega arith)
  node_opened (suc zero) s h = absurd (omega arith)
  node_opened (suc (suc l)) s h = rw (sub-one (suc (suc l))) (inner_opened l s)

  -- ---- a child at a time

  module _ (l : ℕ) (s : SlotNumber) (places : List ℕ) (k : ℕ) where
    pub opened_end : length places ≤ k → opened_below p window l s (drop k places) ≡ 0
    unfolding opened_below
    opened_end h = total_end (λ (i : ℕ). opened_in p window l (child_of (entry_at p s i))) places k h

    pub found_end : length places ≤ k → found_below p window l s (drop k places) ≡ []
    unfolding found_below
    found_end h = joined_end (λ (i : ℕ). found_in p Meeting window l (child_of (entry_at p s i))) places k h

    pub opened_next : k < length places
        → opened_below p window l s (drop k places) ≡ opened_in p window l (child_of (entry_at p s (get_or places k 0))) + opened_below p window l s (drop (k + 1) places)
    unfolding opened_below
    opened_next h = total_next (λ (i : ℕ). opened_in p window l (child_of (entry_at p s i))) places k 0 h

    pub found_next : k < length places
        → found_below p window l s (drop k places) ≡ found_in p Meeting window l (child_of (entry_at p s (get_or places k 0))) ++ found_below p window l s (drop (k + 1) places)
    unfolding found_below
    found_next h = joined_next (λ (i : ℕ). found_in p Meeting window l (child_of (entry_at p s i))) places k 0 h

-- ---- at most so many

nine_some : (l : ℕ) → 1 ≤ 9 ^ l
nine_some zero = omega arith
nine_some (suc l) = omega (arith, pow-suc 9 l, nine_some l)

nine_most : (l : ℕ) → l ≤ 8 → 9 ^ l ≤ 43046721
nine_most l h = pow-le-pow_right {n = 9} (omega arith) h

module _ (w : List ℤ) (r : valid_length w ≡ true) (window : Rect) where
  few : (s : SlotNumber) → length (meeting_places (read w) window s) ≤ 8
  few s = omega (arith, meeting_few (read w) window s, most_entries w r s)

  opened_power : (l : ℕ) (s : SlotNumber) → opened_in (read w) window l s ≤ 9 ^ l
  unfolding opened_below
  opened_power zero s = omega (arith, opened_none (read w) window s)
  opened_power (suc zero) s = omega (arith, opened_leaf (read w) window s, pow-suc 9 0)
  opened_power (suc (suc l)) s =
      let places = meeting_places (read w) window s in
      let child : ℕ → SlotNumber = λ i. child_of (entry_at (read w) s i) in
      omega (
        arith,
        inner_opened (read w) window l s,
        total_most (λ i. opened_in (read w) window (suc l) (child i)) (9 ^ suc l) places (λ i m. opened_power (suc l) (child i)),
        mul-le-mul_left (9 ^ suc l) (few s),
        nine_some (suc l),
        pow-suc 9 (suc l),
      )

  pub opened_most : (l : ℕ) (s : SlotNumber) → l ≤ 8 → opened_in (read w) window l s ≤ 43046721
  opened_most l s h = omega (arith, opened_power l s, nine_most l h)
