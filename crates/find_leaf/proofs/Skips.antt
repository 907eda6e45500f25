-- FindLeaf goes only below entries that hold the pair's rectangle. In a tree a node's cover holds what is below it: so below an entry that
-- does not hold the rectangle, and below one that does not meet it, there is no such pair.
use mathlib.Core.Path.{◌≡◌, refl, sym, ap, subst, ◌∙◌}
use mathlib.Core.Bool.{Bool, true, false}
use mathlib.Core.List.{List, [], ◌∷◌}
use Rattle.std.specs.Prelude.{Option, None, Some}
use Prim.Native.Nat.{ℕ, zero, suc, ◌+◌, ◌-◌, ◌≤◌, ◌<◌}
use native.Mathlib.Omega.{arith}
use native.Mathlib.Numerals.{sub-one}
use lib.ListN.{length, drop, drop_of_length-le}
use lib.Seq.{drop-cons}
use Rattle.rules.specs.declared.Rect.{Rect}
use Rattle.rules.specs.declared.SlotNumber.{SlotNumber}
use Rattle.rules.specs.declared.Record.{Record}
use Rattle.rules.specs.declared.Entry.{Entry}
use Rattle.rules.specs.Lists.{those, up_from}
use Rattle.rules.specs.Geometry.{meets}
use Rattle.rules.specs.Compare.{lies_in}
use Rattle.rules.specs.Pool.{Pool, no_entry, entries_at, entry_from, entry_at, child_of}
use Rattle.rules.specs.Delete.{Path, or_later, find_child, find_leaf}
use Rattle.rules_laws.proofs.Orders.{never_both}
use Rattle.rules_laws.proofs.Places.{Among, at_place}
use Rattle.rules_laws.proofs.Parts.{those_yes, those_no, those_none}
use Rattle.sound_laws.specs.Tree.{records_in, Tree, InnerEntry}
use Rattle.sound_laws.proofs.Walk.{inner_of}
use Rattle.rules_laws.proofs.Compares.{HoldsRect, lies_in_lem, holds_meets, valid_meets}
use Rattle.search_laws.proofs.Found.{record_good, record_held}
use Rattle.delete_laws.specs.Way.{Leads, EachWay}
use Rattle.delete_laws.proofs.Clauses.{child_none, child_yes, child_no, or_none, leaf_below}
use Rattle.delete_laws.proofs.Finds.{find_leads, leads_record}
use Rattle.find_leaf.specs.State.{holding}

-- ---- the first of some places at which something is found

unfoldable pub first_of : (ℕ → Option Path) → SlotNumber → List ℕ → Option Path
first_of found s [] = None
first_of found s (i ∷ is) = or_later s i (found i) (first_of found s is)

pub first_none : (found : ℕ → Option Path) (s : SlotNumber) → first_of found s [] ≡ None
unfolding first_of
first_none found s = refl

pub first_cons : (found : ℕ → Option Path) (s : SlotNumber) (i : ℕ) (is : List ℕ)
    → first_of found s (i ∷ is) ≡ or_later s i (found i) (first_of found s is)
unfolding first_of
first_cons found s i is = refl

module _ (p : Pool) (r : Record) where
  -- a pair that is found is one of the tree's, and its rectangle meets itself
  found_record : (l : ℕ) (s : SlotNumber) (path : Path) → find_leaf p r l s ≡ Some path → Among r (records_in p l s)
  found_record l s path e = leads_record p r l s path (subst (EachWay (Leads p r l s)) e (find_leads p r l s))

  module _ (l : ℕ) (e : Entry) (inner : InnerEntry p (λ t. Tree p l t) e) where
    found_held : (path : Path) → find_leaf p r l (child_of e) ≡ Some path → HoldsRect e.rect r.rect
    found_held path q =
        subst (λ (a : Rect). HoldsRect a r.rect) (sym inner.tight)
        (record_held p l (child_of e) inner.child r (found_record l (child_of e) path q))

    found_meets : (path : Path) → find_leaf p r l (child_of e) ≡ Some path → meets e.rect r.rect ≡ true
    found_meets path q =
        holds_meets r.rect (found_held path q)
        (valid_meets r.rect (record_good p l (child_of e) inner.child r (found_record l (child_of e) path q)).0)

    not_held : lies_in r.rect e.rect ≡ false → find_leaf p r l (child_of e) ≡ None
    not_held h = go (find_leaf p r l (child_of e)) refl
      where
        go : (o : Option Path) → find_leaf p r l (child_of e) ≡ o → o ≡ None
        go None q = refl
        go (Some path) q = never_both ((lies_in_lem r.rect e.rect).1 (found_held path q)) h

    not_met : meets e.rect r.rect ≡ false → find_leaf p r l (child_of e) ≡ None
    not_met h = go (find_leaf p r l (child_of e)) refl
      where
        go : (o : Option Path) → find_leaf p r l (child_of e) ≡ o → o ≡ None
        go None q = refl
        go (Some path) q = never_both (found_meets path q) h

  -- ---- an inner node

  -- what is found at a place of it
  abbrev pub found_at : ℕ → SlotNumber → ℕ → Option Path
  found_at l s i = find_leaf p r l (child_of (entry_at p s i))

  module _ (l : ℕ) (s : SlotNumber) (each : (e : Entry) → Among e (entries_at p s) → InnerEntry p (λ t. Tree p l t) e) where
    abbrev find : SlotNumber → Option Path
    find t = find_leaf p r l t

    abbrev found : ℕ → Option Path
    found i = found_at l s i

    abbrev test : ℕ → Bool
    test i = lies_in r.rect (entry_at p s i).rect

    one_child : (i : ℕ) (e : Entry) (es : List Entry) → InnerEntry p (λ t. Tree p l t) e
        → find_child find r.rect s i (e ∷ es) ≡ or_later s i (find (child_of e)) (find_child find r.rect s (suc i) es)
    one_child i e es inner = go (meets e.rect r.rect) refl
      where
        go : (b : Bool) → meets e.rect r.rect ≡ b
            → find_child find r.rect s i (e ∷ es) ≡ or_later s i (find (child_of e)) (find_child find r.rect s (suc i) es)
        go true h = child_yes find r.rect s i e es h
        go false h =
            rw (child_no find r.rect s i e es h, not_met l e inner h, or_none s i (find_child find r.rect s (suc i) es))

    one_place : (i : ℕ) (is : List ℕ) → InnerEntry p (λ t. Tree p l t) (entry_at p s i)
        → or_later s i (found i) (first_of found s (those test is)) ≡ first_of found s (those test (i ∷ is))
    one_place i is inner = go (test i) refl
      where
        go : (b : Bool) → test i ≡ b → or_later s i (found i) (first_of found s (those test is)) ≡ first_of found s (those test (i ∷ is))
        go true h = rw (those_yes test i is h, first_cons found s i (those test is))
        go false h = rw (those_no test i is h, not_held l (entry_at p s i) inner h, or_none s i (first_of found s (those test is)))

    all_places : (i n : ℕ) → i + n ≡ length (entries_at p s)
        → find_child find r.rect s i (drop i (entries_at p s)) ≡ first_of found s (those test (up_from i n))
    unfolding up_from entry_at entry_from
    all_places i zero e =
        rw (drop_of_length-le (entries_at p s) {i = i} (omega (arith, e)), those_none test, first_none found s)
        (child_none find r.rect s i)
    all_places i (suc n) e =
        let h : i < length (entries_at p s) = omega (arith, e) in
        let inner = each (entry_at p s i) (at_place (entries_at p s) i no_entry h) in
        rw (drop-cons (entries_at p s) i no_entry h)
        (one_child i (entry_at p s i) (drop (suc i) (entries_at p s)) inner
        ∙ ap (or_later s i (found i)) (all_places (suc i) n (omega (arith, e)))
        ∙ one_place i (up_from (suc i) n) inner)

  -- FindLeaf in it is the first of the places that hold the rectangle
  pub inner_first : (level : ℕ) (s : SlotNumber) → 2 ≤ level → Tree p level s
      → find_leaf p r level s ≡ first_of (found_at (level - 1) s) s (holding p s r.rect)
  unfolding holding
  inner_first zero s h d = absurd (omega arith)
  inner_first (suc zero) s h d = absurd (omega arith)
  inner_first (suc (suc l)) s h d =
      rw (sub-one (suc (suc l)))
      (leaf_below p r l s ∙ all_places (suc l) s (inner_of p l s d).each 0 (length (entries_at p s)) (omega arith))
