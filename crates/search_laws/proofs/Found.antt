-- The pruned walk finds what a look at every leaf finds, in the same order. In a tree the cover of a node's entries holds every record
-- below the node: so below an entry that the walk leaves out, no record meets the window, and none is wanted in any mode.
use mathlib.Core.Path.{◌≡◌, refl, sym, ap, subst, ◌∙◌}
use mathlib.Core.Bool.{Bool, true, false, cond, ◌&&◌}
use mathlib.Core.List.Memᴰ
use mathlib.Core.List.{List, [], map}
use Prim.Native.Nat.{ℕ, zero, suc}
use Rattle.rules.specs.declared.Rect.{Rect}
use Rattle.rules.specs.declared.SlotNumber.{SlotNumber}
use Rattle.rules.specs.declared.Owner.{Owner}
use Rattle.rules.specs.declared.Record.{Record}
use Rattle.rules.specs.declared.Entry.{Entry}
use Rattle.rules.specs.declared.Mode.{Mode}
use Rattle.rules.specs.Lists.{those, joined}
use Rattle.rules.specs.Numbers.{good_number}
use Rattle.rules.specs.Owners.{owned_by}
use Rattle.rules.specs.Geometry.{valid, meets}
use Rattle.rules.specs.Compare.{compared, wanted}
use Rattle.rules.specs.Pool.{Pool, entries_at, child_of, record_of, cover_of, stored}
use Rattle.rules.specs.Search.{found_in, found_from_root}
use Rattle.rules_laws.proofs.Bools.{and_both, both_and, same_test}
use Rattle.rules_laws.proofs.Places.{Among, map_same}
use Rattle.rules_laws.proofs.Parts.{those_map, those_nothing, those_same, those_and}
use Rattle.rules_laws.proofs.Joins.{among_joined, joined_those, those_joined}
use Rattle.sound_laws.specs.Tree.{records_in, tree_records, Tree, Whole}
use Rattle.sound_laws.proofs.Walk.{records_leaf, records_inner, no_tree, leaf_of_lem, inner_of}
use Rattle.sound_laws.proofs.Whole.{stored_in}
use Rattle.rules_laws.proofs.Compares.{HoldsRect, holds_on, holds_misses, wanted_misses}
use Rattle.search_laws.specs.Window.{record_wanted, own_wanted, node_meets}
use Rattle.search_laws.specs.Order.{Alike}
use Rattle.search_laws.proofs.Order.{alike_those}
use Rattle.search_laws.proofs.Covers.{cover_of_holds}
use Rattle.search_laws.proofs.Clauses.{found_leaf, found_inner}

-- a record of a tree is as a leaf entry is to be
pub record_good : (p : Pool) (l : ℕ) (s : SlotNumber) → Tree p l s → (r : Record) → Among r (records_in p l s)
    → (valid r.rect ≡ true) × (good_number r.number ≡ true)
unfolding record_of
record_good p zero s d r m = absurd (no_tree p s d)
record_good p (suc zero) s d r m =
    let q = Memᴰ.of_map record_of (entries_at p s) (rw (records_leaf p s) at m) in
    let e = (leaf_of_lem p s d).each q.0 q.1 in
    subst (λ (x : Record). (valid x.rect ≡ true) × (good_number x.number ≡ true)) q.2 (e.rect, e.number)
record_good p (suc (suc l)) s d r m =
    let q = among_joined (λ (e : Entry). records_in p (suc l) (child_of e)) r (entries_at p s) (rw (records_inner p s l) at m) in
    record_good p (suc l) (child_of q.0) ((inner_of p l s d).each q.0 q.1).child r q.2

module _ (p : Pool) where
  -- a tight entry's rectangle, and so its node's cover, holds what its child's cover holds
  pub child_holds : (l : ℕ) (s : SlotNumber) → Tree p (suc (suc l)) s → (e : Entry) → Among e (entries_at p s)
      → HoldsRect (cover_of (entries_at p s)) (cover_of (entries_at p (child_of e)))
  child_holds l s d e m = subst (HoldsRect (cover_of (entries_at p s))) ((inner_of p l s d).each e m).tight (cover_of_holds m)

  pub record_held : (l : ℕ) (s : SlotNumber) → Tree p l s → (r : Record) → Among r (records_in p l s) → HoldsRect (cover_of (entries_at p s)) r.rect
  unfolding record_of
  record_held zero s d r m = absurd (no_tree p s d)
  record_held (suc zero) s d r m =
      let q = Memᴰ.of_map record_of (entries_at p s) (rw (records_leaf p s) at m) in
      subst (λ (x : Record). HoldsRect (cover_of (entries_at p s)) x.rect) q.2 (cover_of_holds q.1)
  record_held (suc (suc l)) s d r m =
      let q = among_joined (λ (e : Entry). records_in p (suc l) (child_of e)) r (entries_at p s) (rw (records_inner p s l) at m) in
      holds_on (child_holds l s d q.0 q.1) (record_held (suc l) (child_of q.0) ((inner_of p l s d).each q.0 q.1).child r q.2)

  module _ (mode : Mode) (window : Rect) where
    leaf_found : (es : List Entry) → map record_of (those (λ e. wanted mode (compared e.rect window)) es) ≡ those (record_wanted mode window) (map record_of es)
    unfolding record_of
    leaf_found es = sym (those_map record_of (record_wanted mode window) es)

    -- ---- what is found

    none_found : (l : ℕ) (s : SlotNumber) → Tree p l s → node_meets p window s ≡ false → those (record_wanted mode window) (records_in p l s) ≡ []
    none_found l s d n = those_nothing (record_wanted mode window) (records_in p l s) (λ r m. wanted_misses mode r.rect window (holds_misses window (record_held l s d r m) n))

    pub found_in_lem : (l : ℕ) (s : SlotNumber) → Tree p l s → found_in p mode window l s ≡ those (record_wanted mode window) (records_in p l s)
    found_in_lem zero s d = absurd (no_tree p s d)
    found_in_lem (suc zero) s d = rw (found_leaf p window mode s, records_leaf p s) (leaf_found (entries_at p s))
    found_in_lem (suc (suc l)) s d =
        rw (found_inner p window mode l s, records_inner p s l, joined_those finds met es, those_joined (record_wanted mode window) below es)
        (ap joined (map_same (λ e. cond (met e) (finds e) []) (λ e. those (record_wanted mode window) (below e)) es
        (λ e m. let i = (inner_of p l s d).each e m in part e i.child i.tight (found_in_lem (suc l) (child_of e) i.child) (met e) refl)))
      where
        es : List Entry
        es = entries_at p s

        met : Entry → Bool
        met e = meets e.rect window

        finds : Entry → List Record
        finds e = found_in p mode window (suc l) (child_of e)

        below : Entry → List Record
        below e = records_in p (suc l) (child_of e)

        part : (e : Entry) → Tree p (suc l) (child_of e) → e.rect ≡ cover_of (entries_at p (child_of e)) → finds e ≡ those (record_wanted mode window) (below e)
            → (t : Bool) → met e ≡ t → cond (met e) (finds e) [] ≡ those (record_wanted mode window) (below e)
        part e c tight ih true h = rw h ih
        part e c tight ih false h = rw h (sym (none_found (suc l) (child_of e) c (rw tight at h)))

    -- of all that is stored, each as often
    pub found_alike : Whole p → Alike (found_from_root p mode window) (those (record_wanted mode window) (stored p))
    found_alike w = record {
      each = λ q.
          rw (found_in_lem p.height p.root w.tree, ← those_and (record_wanted mode window) q (tree_records p), ← those_and (record_wanted mode window) q (stored p))
          (sym (stored_in p w (λ r. record_wanted mode window r && q r)));
    }

    -- .. and of those that an owner has
    pub own_alike : Whole p → (o : Owner) → Alike (those (owned_by o) (found_from_root p mode window)) (those (own_wanted o mode window) (stored p))
    own_alike w o = rw (← own_those) (alike_those (owned_by o) (found_alike w))
      where
        either_first : (a b : Bool) → (a && b) ≡ (b && a)
        either_first a b =
            same_test (a && b) (b && a) (λ h. both_and b a (and_both a b h).1 (and_both a b h).0) (λ h. both_and a b (and_both b a h).1 (and_both b a h).0)

        own_those : those (owned_by o) (those (record_wanted mode window) (stored p)) ≡ those (own_wanted o mode window) (stored p)
        own_those =
            sym (those_and (record_wanted mode window) (owned_by o) (stored p))
            ∙ those_same (λ r. record_wanted mode window r && owned_by o r) (own_wanted o mode window) (stored p)
            (λ r m. either_first (record_wanted mode window r) (owned_by o r))
