-- The walk opens the root, and of the other nodes just those whose cover meets the window. In a tree a node's cover holds the cover of
-- every node below it: so where a node's cover meets the window, so do the covers of all nodes above it, and the walk comes to it.
use mathlib.Core.Path.{◌≡◌, refl, sym, ap, ◌∙◌}
use mathlib.Core.Logic.{◌⊎◌, inl, inr}
use mathlib.Core.Bool.{Bool, true, false, cond, not}
use mathlib.Core.List.Memᴰ
use mathlib.Core.List.{List, [], ◌∷◌, map}
use Prim.Native.Nat.{ℕ, zero, suc, ◌+◌}
use native.Mathlib.Omega.{arith}
use lib.ListN.{length}
use Rattle.rules.specs.declared.Rect.{Rect}
use Rattle.rules.specs.declared.SlotNumber.{SlotNumber}
use Rattle.rules.specs.declared.Entry.{Entry}
use Rattle.rules.specs.Lists.{those, joined, total}
use Rattle.rules.specs.Geometry.{meets}
use Rattle.rules.specs.Pool.{Pool, entries_at, child_of, cover_of}
use Rattle.rules.specs.Sound.{is_root}
use Rattle.rules.specs.Search.{opened_in, opened_from_root}
use Rattle.rules_laws.proofs.Places.{Among, nothing, map_same}
use Rattle.rules_laws.proofs.Parts.{those_yes, those_none, those_parted, count_cons, those_nothing}
use Rattle.rules_laws.proofs.Joins.{count_joined}
use Rattle.rules_laws.proofs.Sums.{total_those}
use Rattle.sound_laws.specs.Tree.{slots_in, tree_slots, Tree, Whole}
use Rattle.sound_laws.proofs.Tests.{root_is}
use Rattle.sound_laws.proofs.Walk.{slots_leaf, slots_inner, no_tree, inner_of, among_cases}
use Rattle.sound_laws.proofs.Whole.{all_once}
use Rattle.rules_laws.proofs.Compares.{HoldsRect, holds_self, holds_on, holds_misses}
use Rattle.search_laws.specs.Window.{node_meets}
use Rattle.search_laws.proofs.Clauses.{opened_leaf, opened_inner}
use Rattle.search_laws.proofs.Found.{child_holds}

module _ (p : Pool) where
  pub node_held : (l : ℕ) (s t : SlotNumber) → Tree p l s → Among t (slots_in p l s) → HoldsRect (cover_of (entries_at p s)) (cover_of (entries_at p t))
  node_held zero s t d m = absurd (no_tree p s d)
  node_held (suc zero) s t d m =
      let e : t ≡ s = Memᴰ.eq_of_singleton (rw (slots_leaf p s) at m) in
      rw e (holds_self (cover_of (entries_at p s)))
  node_held (suc (suc l)) s t d m = go (among_cases p l s t m) (node_held (suc l))
    where
      go : (t ≡ s) ⊎ ((e : Entry) × Among e (entries_at p s) × Among t (slots_in p (suc l) (child_of e)))
          → ((u v : SlotNumber) → Tree p (suc l) u → Among v (slots_in p (suc l) u) → HoldsRect (cover_of (entries_at p u)) (cover_of (entries_at p v)))
          → HoldsRect (cover_of (entries_at p s)) (cover_of (entries_at p t))
      go (inl e) ih = rw e (holds_self (cover_of (entries_at p s)))
      go (inr h) ih =
          holds_on (child_holds p l s d h.0 h.1) (ih (child_of h.0) t ((inner_of p l s d).each h.0 h.1).child h.2)

  -- the slots of a tree are its top and others
  slots_top : (l : ℕ) (s : SlotNumber) → Tree p l s → (ss : List SlotNumber) × (slots_in p l s ≡ s ∷ ss)
  slots_top zero s d = absurd (no_tree p s d)
  slots_top (suc zero) s d = ([], slots_leaf p s)
  slots_top (suc (suc l)) s d = (joined (map (λ (e : Entry). slots_in p (suc l) (child_of e)) (entries_at p s)), slots_inner p s l)

  -- the root occurs in the tree once
  root_once : Whole p → those (is_root p) (tree_slots p) ≡ p.root ∷ []
  unfolding is_root
  root_once w =
      let top = slots_top p.height p.root w.tree in
      let rest = those (is_root p) top.0 in
      let e : those (is_root p) (tree_slots p) ≡ p.root ∷ rest = rw top.1 (those_yes (is_root p) p.root top.0 ((root_is p p.root).1 refl)) in
      e ∙ ap (λ (ss : List SlotNumber). p.root ∷ ss) (nothing rest (omega (arith, all_once p w p.root, ap length e)))

  module _ (window : Rect) where
    -- ---- what is opened

    none_opened : (l : ℕ) (s : SlotNumber) → Tree p l s → node_meets p window s ≡ false → those (node_meets p window) (slots_in p l s) ≡ []
    none_opened l s d n = those_nothing (node_meets p window) (slots_in p l s) (λ t m. holds_misses window (node_held l s t d m) n)

    -- the top is opened, whether it meets the window or not
    pub opened_in_lem : (l : ℕ) (s : SlotNumber) → Tree p l s
        → opened_in p window l s + length (those (node_meets p window) (s ∷ [])) ≡ suc (length (those (node_meets p window) (slots_in p l s)))
    opened_in_lem zero s d = absurd (no_tree p s d)
    opened_in_lem (suc zero) s d = rw (opened_leaf p window s, slots_leaf p s) (omega arith)
    opened_in_lem (suc (suc l)) s d =
        rw (opened_inner p window l s, slots_inner p s l)
        (omega (
          arith,
          count_cons (node_meets p window) s (joined (map below es)),
          count_joined below (node_meets p window) es,
          total_those opens met es,
          ap total (map_same (λ e. cond (met e) (opens e) 0) (λ e. length (those (node_meets p window) (below e))) es
              (λ e m. let i = (inner_of p l s d).each e m in part e i.child i.tight (opened_in_lem (suc l) (child_of e) i.child) (met e) refl)),
        ))
      where
        es : List Entry
        es = entries_at p s

        met : Entry → Bool
        met e = meets e.rect window

        opens : Entry → ℕ
        opens e = opened_in p window (suc l) (child_of e)

        below : Entry → List SlotNumber
        below e = slots_in p (suc l) (child_of e)

        part : (e : Entry) → Tree p (suc l) (child_of e) → e.rect ≡ cover_of (entries_at p (child_of e))
            → opens e + length (those (node_meets p window) (child_of e ∷ [])) ≡ suc (length (those (node_meets p window) (below e)))
            → (b : Bool) → met e ≡ b → cond (met e) (opens e) 0 ≡ length (those (node_meets p window) (below e))
        part e c tight ih true h =
            rw h (omega (arith, ih, ap length (those_yes (node_meets p window) (child_of e) [] (rw tight at h)), ap length (those_none (node_meets p window))))
        part e c tight ih false h = rw h (sym (ap length (none_opened (suc l) (child_of e) c (rw tight at h))))

    -- "The root is always opened."
    pub opened_tree : Whole p → opened_from_root p window ≡ suc (length (those (node_meets p window) (those (λ s. not (is_root p s)) (tree_slots p))))
    opened_tree w = omega (
      arith,
      opened_in_lem p.height p.root w.tree,
      (those_parted (is_root p) (tree_slots p)).each (node_meets p window),
      ap (λ (ss : List SlotNumber). length (those (node_meets p window) ss)) (root_once w),
    )
