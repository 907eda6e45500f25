-- What a call of the walk needs and does, from what the calls before it did: `Meeting` and `Steps` over the values that the code holds.
use mathlib.Core.Path.{◌≡◌, refl, sym, ap, subst, ◌∙◌}
use mathlib.Core.Bool.{cond}
use mathlib.Core.List.{List, ◌++◌, append-nil}
use Prim.Native.Nat.{ℕ, ◌+◌, ◌-◌, ◌*◌, ◌≤◌, ◌<◌}
use native.Mathlib.Omega.{arith}
use lib.ListN.{length, get_or, set, take, drop, length-set}
use lib.IntN.{ℤ}
use Rattle.rules.specs.declared.Rect.{Rect}
use Rattle.rules.specs.declared.SlotNumber.{SlotNumber}
use Rattle.rules.specs.declared.Mode.TheVariants.{Meeting}
use Rattle.rules.specs.Pool.{Pool, entries_at, entry_at, child_of}
use Rattle.rules.specs.Layout.{read}
use Rattle.rules.specs.Search.{found_in, opened_in}
use Rattle.search_laws.proofs.Clauses.{opened_leaf}
use Rattle.search.specs.declared.Walked.{Walked}
use Rattle.search.specs.State.{meets_at, meeting_from, meeting_places, found_at}
use Rattle.search.specs.Walk.{walked, ItemRoom, Went}
use Rattle.search.proofs.Meeting.{leaf_records, opened_below, found_below, gathers, meeting_end, meeting_inside, records_end, records_next, leaf_found}
use Rattle.search.proofs.Meeting.{node_found, node_opened, opened_end, found_end, opened_next, found_next}
use Rattle.search.proofs.Steps.{Underway, sets_out, arrives, next_room, goes_on, room_same, went_same, room_opens, went_opens, went_beside}

-- ---- the places gathered: those of the entries before place i stand first, and those from i on are to come

pub record Gathered (w : List ℤ) (window : Rect) (s : SlotNumber) (places : List ℕ) (count i : ℕ) : Type 0 where
  pub few : count ≤ i
  pub most : i ≤ length (entries_at (read w) s)
  pub long : length places ≡ 8
  pub are : take count places ++ meeting_from (read w) window s i ≡ meeting_places (read w) window s

module _ {w : List ℤ} {window : Rect} {s : SlotNumber} {places : List ℕ} {count i : ℕ} (g : Gathered w window s places count i) where
  pub gather_turn : (n : ℕ) → i < length (entries_at (read w) s) → length (entries_at (read w) s) ≤ 8 → n ≡ cond (meets_at (read w) window s i) 1 0 → n ≤ 1
      → Gathered w window s (set places count i) (count + n) (i + 1)
  gather_turn n h few e one = record {
    few = omega (arith, g.few, one);
    most = omega (arith, h);
    long = length-set places count i ∙ g.long;
    are =
        ap (λ (k : ℕ). take (count + k) (set places count i) ++ meeting_from (read w) window s (i + 1)) e
        ∙ gathers (read w) window s i places count h (omega (arith, g.few, g.long, h, few)) ∙ g.are;
  }

  pub gather_ends : length (entries_at (read w) s) ≤ i → take count places ≡ meeting_places (read w) window s
  gather_ends h =
      sym (append-nil (take count places)) ∙ ap (λ (xs : List ℕ). take count places ++ xs) (sym (meeting_end (read w) window s i h)) ∙ g.are

module _ (w : List ℤ) (window : Rect) where
  abbrev p : Pool
  p = read w

  -- ---- a leaf, whose entries from place i on are to come

  module _ (s : SlotNumber) where
    abbrev pub LeafWalk : List ℤ → List ℤ → Walked → ℕ → ℕ → Type 0
    LeafWalk u v a next i = Underway w u v a (walked next a.opened) (found_in p Meeting window 1 s) (leaf_records p s (meeting_from p window s i)) 0 0

    pub leaf_begins : {u : List ℤ} {a : Walked} → ItemRoom u a (found_in p Meeting window 1 s) 1 → LeafWalk u u a a.next 0
    leaf_begins r = sets_out (leaf_found p window s) refl (room_opens r)

    module _ (i : ℕ) {u v : List ℤ} {a : Walked} {next : ℕ} (g : LeafWalk u v a next i) where
      pub item_room : 2 * next + 2 ≤ length v
      item_room = omega (arith, g.room.room)

      pub leaf_turn : i < length (entries_at p s) → {x : List ℤ} {then : ℕ} → Went w v x (walked next 0) (walked then 0) (found_at p window s i) 0 → LeafWalk u x a then (i + 1)
      leaf_turn h e = goes_on g (found_at p window s i) (leaf_records p s (meeting_from p window s (i + 1))) 0 0 (records_next p window s i h) refl (went_beside a.opened e)

      pub leaf_ends : length (entries_at p s) ≤ i → Went w u v a (walked next (a.opened + 1)) (found_in p Meeting window 1 s) 1
      leaf_ends h = went_opens (arrives g (records_end p window s i h) refl)

  -- ---- a node, of the level given

  module _ (level : ℕ) (s : SlotNumber) where
    module _ (leaf : level ≡ 1) where
      found_leaf : found_in p Meeting window level s ≡ found_in p Meeting window 1 s
      found_leaf = ap (λ (k : ℕ). found_in p Meeting window k s) leaf

      opened_one : opened_in p window level s ≡ 1
      opened_one = ap (λ (k : ℕ). opened_in p window k s) leaf ∙ opened_leaf p window s

      pub leaf_room : {u : List ℤ} {a : Walked} → ItemRoom u a (found_in p Meeting window level s) (opened_in p window level s) → ItemRoom u a (found_in p Meeting window 1 s) 1
      leaf_room r = room_same found_leaf opened_one r

      pub leaf_went : {u v : List ℤ} {a z : Walked} → Went w u v a z (found_in p Meeting window 1 s) 1 → Went w u v a z (found_in p Meeting window level s) (opened_in p window level s)
      leaf_went g = went_same (sym found_leaf) (sym opened_one) g

    -- given the places of the children to open
    module _ (inner : 2 ≤ level) (places : List ℕ) (are : places ≡ meeting_places p window s) where
      found_are : found_in p Meeting window level s ≡ found_below p window (level - 1) s places
      found_are = node_found p window level s inner ∙ ap (found_below p window (level - 1) s) (sym are)

      opened_are : opened_in p window level s ≡ 1 + opened_below p window (level - 1) s places
      opened_are = node_opened p window level s inner ∙ ap (λ (is : List ℕ). 1 + opened_below p window (level - 1) s is) (sym are)

      pub node_room : {u : List ℤ} {a : Walked} → ItemRoom u a (found_in p Meeting window level s) (opened_in p window level s)
          → ItemRoom u a (found_below p window (level - 1) s places) (opened_below p window (level - 1) s places)
      node_room r = room_opens (room_same found_are opened_are r)

      pub node_went : {u v : List ℤ} {a z : Walked} → Went w u v a z (found_below p window (level - 1) s places) (opened_below p window (level - 1) s places)
          → Went w u v a (walked z.next (z.opened + 1)) (found_in p Meeting window level s) (opened_in p window level s)
      node_went g = went_same (sym found_are) (sym opened_are) (went_opens g)

  -- ---- its children, of which those from the k-th on are to come

  module _ (below : ℕ) (t : SlotNumber) (places : List ℕ) where
    abbrev pub ChildWalk : List ℤ → List ℤ → Walked → Walked → ℕ → Type 0
    ChildWalk u v a b k =
        Underway w u v a b (found_below p window below t places) (found_below p window below t (drop k places))
        (opened_below p window below t places) (opened_below p window below t (drop k places))

    pub children_begin : {u : List ℤ} {a : Walked} → ItemRoom u a (found_below p window below t places) (opened_below p window below t places)
        → ChildWalk u u a a 0
    children_begin r = sets_out refl refl r

    module _ (k : ℕ) where
      pub children_end : length places ≤ k → {u v : List ℤ} {a b : Walked} → ChildWalk u v a b k
          → Went w u v a b (found_below p window below t places) (opened_below p window below t places)
      children_end h g = arrives g (found_end p window below t places k h) (opened_end p window below t places k h)

      module _ (there : k < length places) where
        pub child_there : places ≡ meeting_places p window t → get_or places k 0 < length (entries_at p t)
        child_there are =
            subst (λ (i : ℕ). i < length (entries_at p t)) (ap (λ (is : List ℕ). get_or is k 0) (sym are))
            (meeting_inside p window t k (omega (arith, there, ap length are)))

        module _ (c : SlotNumber) (child : c ≡ child_of (entry_at p t (get_or places k 0))) where
          found_child : found_below p window below t (drop k places) ≡ found_in p Meeting window below c ++ found_below p window below t (drop (k + 1) places)
          found_child =
              found_next p window below t places k there
              ∙ ap (λ (x : SlotNumber). found_in p Meeting window below x ++ found_below p window below t (drop (k + 1) places)) (sym child)

          opened_child : opened_below p window below t (drop k places) ≡ opened_in p window below c + opened_below p window below t (drop (k + 1) places)
          opened_child =
              opened_next p window below t places k there
              ∙ ap (λ (x : SlotNumber). opened_in p window below x + opened_below p window below t (drop (k + 1) places)) (sym child)

          pub child_room : {u v : List ℤ} {a b : Walked} → ChildWalk u v a b k → ItemRoom v b (found_in p Meeting window below c) (opened_in p window below c)
          child_room g =
              next_room g (found_in p Meeting window below c) (found_below p window below t (drop (k + 1) places))
              (opened_in p window below c) (opened_below p window below t (drop (k + 1) places)) found_child opened_child

          pub child_turn : {u v x : List ℤ} {a b z : Walked} → ChildWalk u v a b k → Went w v x b z (found_in p Meeting window below c) (opened_in p window below c)
              → ChildWalk u x a z (k + 1)
          child_turn g h =
              goes_on g (found_in p Meeting window below c) (found_below p window below t (drop (k + 1) places))
              (opened_in p window below c) (opened_below p window below t (drop (k + 1) places)) found_child opened_child h
