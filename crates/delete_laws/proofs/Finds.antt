-- FindLeaf finds exactly what the tree holds: it prunes only covers that do not meet the pair's rectangle, and a cover above the pair does.
use mathlib.Core.Path.{◌≡◌, refl, sym, ap, subst, ◌∙◌}
use mathlib.Core.Logic.{⊎_elim}
use mathlib.Core.Bool.{Bool, true, false}
use mathlib.Core.List.Memᴰ
use mathlib.Core.List.{List, [], ◌∷◌, map}
use Rattle.std.specs.Prelude.{Option, None, Some}
use Prim.Native.Nat.{ℕ, zero, suc, ◌+◌, ◌<◌}
use native.Mathlib.Omega.{arith}
use lib.ListN.{length}
use Rattle.rules.specs.declared.Rect.{Rect}
use Rattle.rules.specs.declared.SlotNumber.{SlotNumber}
use Rattle.rules.specs.declared.Record.{Record}
use Rattle.rules.specs.declared.Entry.{Entry}
use Rattle.rules.specs.Lists.{joined}
use Rattle.rules.specs.Geometry.{meets}
use Rattle.rules.specs.Compare.{exact_pair}
use Rattle.rules.specs.Pool.{Pool, no_entry, entries_at, entry_from, entry_at, child_of, record_of}
use Rattle.rules.specs.Delete.{Path, place, find_entry, or_later, find_child, find_leaf}
use Rattle.rules_laws.proofs.Orders.{never_both}
use Rattle.rules_laws.proofs.Compares.{holds_meets}
use Rattle.rules_laws.proofs.Places.{Among, at_place}
use Rattle.rules_laws.proofs.Joins.{among_joined, joined_among}
use Rattle.sound_laws.specs.Tree.{records_in, Tree}
use Rattle.sound_laws.proofs.Same.{exact_same, exact_self}
use Rattle.sound_laws.proofs.Walk.{no_tree, inner_of, records_leaf, records_inner}
use Rattle.search_laws.proofs.Found.{record_held}
use Rattle.delete_laws.specs.Way.{Leads, EachWay, Found}
use Rattle.delete_laws.proofs.Clauses.{entry_none, entry_yes, entry_no, or_some, or_none, child_none, child_yes, child_no, leaf_none, leaf_at, leaf_below}

-- ---- FL2, in a leaf

module _ (r : Record) (s : SlotNumber) where
  -- the pair is in the leaf at the place given
  abbrev Here : ℕ → List Entry → Path → Type 0
  Here i es way = (k : ℕ) × (way ≡ place s (i + k) ∷ []) × (k < length es) × (record_of (entry_from es k) ≡ r)

  here_later : (i : ℕ) (e : Entry) (es : List Entry) (o : Option Path) → EachWay (Here (suc i) es) o → EachWay (Here i (e ∷ es)) o
  unfolding entry_from
  here_later i e es None h = tt
  here_later i e es (Some way) h =
      (suc h.0, h.1 ∙ ap (λ (n : ℕ). place s n ∷ []) (omega arith), omega (arith, h.2), h.3)

  entry_here : (i : ℕ) (es : List Entry) → EachWay (Here i es) (find_entry r s i es)
  unfolding entry_from
  entry_here i [] = rw (entry_none r s i) tt
  entry_here i (e ∷ es) = go (exact_pair r (record_of e)) refl (entry_here (suc i) es)
    where
      first : exact_pair r (record_of e) ≡ true → Here i (e ∷ es) (place s i ∷ [])
      first h = (0, ap (λ (n : ℕ). place s n ∷ []) (omega arith), omega arith, sym (exact_same r (record_of e) h))

      go : (b : Bool) → exact_pair r (record_of e) ≡ b → EachWay (Here (suc i) es) (find_entry r s (suc i) es)
          → EachWay (Here i (e ∷ es)) (find_entry r s i (e ∷ es))
      go true h later = rw (entry_yes r s i e es h) (first h)
      go false h later = rw (entry_no r s i e es h) (here_later i e es (find_entry r s (suc i) es) later)

  entry_found : (i : ℕ) (es : List Entry) → Among r (map record_of es) → meets r.rect r.rect ≡ true → Found (find_entry r s i es)
  entry_found i [] m v = absurd (Memᴰ.not-nil m)
  entry_found i (e ∷ es) m v = go (exact_pair r (record_of e)) refl (λ n. entry_found (suc i) es n v)
    where
      go : (b : Bool) → exact_pair r (record_of e) ≡ b → (Among r (map record_of es) → Found (find_entry r s (suc i) es))
          → Found (find_entry r s i (e ∷ es))
      go true h later = rw (entry_yes r s i e es h) tt
      go false h later =
          rw (entry_no r s i e es h)
          (⊎_elim (λ q. never_both (exact_self r (record_of e) v q) h) later (Memᴰ.cases_cons m))

-- ---- FL1, in an inner node

module _ (find : SlotNumber → Option Path) (r : Rect) (s : SlotNumber) where
  module _ (Good : SlotNumber → Path → Type 0) (each : (t : SlotNumber) → EachWay (Good t) (find t)) where
    abbrev Below : ℕ → List Entry → Path → Type 0
    Below i es way = (k : ℕ) × (rest : Path) × (way ≡ place s (i + k) ∷ rest) × (k < length es) × Good (child_of (entry_from es k)) rest

    below_later : (i : ℕ) (e : Entry) (es : List Entry) (o : Option Path) → EachWay (Below (suc i) es) o → EachWay (Below i (e ∷ es)) o
    unfolding entry_from
    below_later i e es None h = tt
    below_later i e es (Some way) h =
        (suc h.0, h.1, h.2 ∙ ap (λ (n : ℕ). place s n ∷ h.1) (omega arith), omega (arith, h.3), h.4)

    child_below : (i : ℕ) (es : List Entry) → EachWay (Below i es) (find_child find r s i es)
    unfolding entry_from
    child_below i [] = rw (child_none find r s i) tt
    child_below i (e ∷ es) = go (meets e.rect r) refl (child_below (suc i) es)
      where
        or : (o : Option Path) → EachWay (Good (child_of e)) o → (later : Option Path) → EachWay (Below (suc i) es) later
            → EachWay (Below i (e ∷ es)) (or_later s i o later)
        or None g later h = rw (or_none s i later) (below_later i e es later h)
        or (Some way) g later h =
            rw (or_some s i way later) (0, way, ap (λ (n : ℕ). place s n ∷ way) (omega arith), omega arith, g)

        go : (b : Bool) → meets e.rect r ≡ b → EachWay (Below (suc i) es) (find_child find r s (suc i) es)
            → EachWay (Below i (e ∷ es)) (find_child find r s i (e ∷ es))
        go true h later = rw (child_yes find r s i e es h) (or (find (child_of e)) (each (child_of e)) (find_child find r s (suc i) es) later)
        go false h later = rw (child_no find r s i e es h) (below_later i e es (find_child find r s (suc i) es) later)

  child_found : (i : ℕ) (es : List Entry) (x : Entry) → Among x es → meets x.rect r ≡ true → Found (find (child_of x))
      → Found (find_child find r s i es)
  child_found i [] x m k f = absurd (Memᴰ.not-nil m)
  child_found i (e ∷ es) x m k f = go (meets e.rect r) refl (λ n. child_found (suc i) es x n k f)
    where
      or : (o : Option Path) → find (child_of e) ≡ o → (Among x es → Found (find_child find r s (suc i) es))
          → Found (or_later s i o (find_child find r s (suc i) es))
      or None q later =
          rw (or_none s i (find_child find r s (suc i) es))
          (⊎_elim (λ h. absurd (subst Found (ap (λ (y : Entry). find (child_of y)) h ∙ q) f)) later (Memᴰ.cases_cons m))
      or (Some way) q later = rw (or_some s i way (find_child find r s (suc i) es)) tt

      go : (b : Bool) → meets e.rect r ≡ b → (Among x es → Found (find_child find r s (suc i) es)) → Found (find_child find r s i (e ∷ es))
      go true h later = rw (child_yes find r s i e es h) (or (find (child_of e)) refl later)
      go false h later =
          rw (child_no find r s i e es h)
          (⊎_elim (λ q. never_both (ap (λ (y : Entry). meets y.rect r) (sym q) ∙ k) h) later (Memᴰ.cases_cons m))

-- ---- FindLeaf

module _ (p : Pool) (r : Record) where
  each_way : (Good Fine : Path → Type 0) → ((way : Path) → Good way → Fine way) → (o : Option Path) → EachWay Good o → EachWay Fine o
  each_way Good Fine f None h = tt
  each_way Good Fine f (Some way) h = f way h

  -- the way that it gives leads to the pair
  pub find_leads : (l : ℕ) (s : SlotNumber) → EachWay (Leads p r l s) (find_leaf p r l s)
  unfolding Leads entry_at
  find_leads zero s = rw (leaf_none p r s) tt
  find_leads (suc zero) s =
      rw (leaf_at p r s)
      (each_way (Here r s 0 (entries_at p s)) (Leads p r 1 s)
      (λ way h. (h.0, h.1 ∙ ap (λ (n : ℕ). place s n ∷ []) (omega arith), h.2, h.3)) (find_entry r s 0 (entries_at p s))
      (entry_here r s 0 (entries_at p s)))
  find_leads (suc (suc l)) s =
      rw (leaf_below p r l s)
      (each_way (Below find r.rect s (Leads p r (suc l)) (find_leads (suc l)) 0 (entries_at p s)) (Leads p r (suc (suc l)) s)
      (λ way h. (h.0, h.1, h.2 ∙ ap (λ (n : ℕ). place s n ∷ h.1) (omega arith), h.3, h.4)) (find_child find r.rect s 0 (entries_at p s))
      (child_below find r.rect s (Leads p r (suc l)) (find_leads (suc l)) 0 (entries_at p s)))
    where
      find : SlotNumber → Option Path
      find t = find_leaf p r (suc l) t

  -- a way that leads to the pair leads to one of the tree's records
  pub leads_record : (l : ℕ) (s : SlotNumber) (way : Path) → Leads p r l s way → Among r (records_in p l s)
  unfolding Leads entry_at entry_from
  leads_record zero s way h = absurd h
  leads_record (suc zero) s way h =
      rw (records_leaf p s) (Memᴰ.cast (sym h.3) (Memᴰ.map record_of (at_place (entries_at p s) h.0 no_entry h.2)))
  leads_record (suc (suc l)) s way h =
      rw (records_inner p s l)
      (joined_among (λ (e : Entry). records_in p (suc l) (child_of e)) r (at_place (entries_at p s) h.0 no_entry h.3)
      (leads_record (suc l) (child_of (entry_at p s h.0)) h.1 h.4))

  -- a pair of the tree is found: its rectangle meets itself, so each cover that holds it does
  pub record_found : (l : ℕ) (s : SlotNumber) → Tree p l s → Among r (records_in p l s) → meets r.rect r.rect ≡ true
      → Found (find_leaf p r l s)
  record_found zero s d m v = absurd (no_tree p s d)
  record_found (suc zero) s d m v = rw (leaf_at p r s) (entry_found r s 0 (entries_at p s) (rw (records_leaf p s) at m) v)
  record_found (suc (suc l)) s d m v =
      let n : Among r (joined (map (λ (e : Entry). records_in p (suc l) (child_of e)) (entries_at p s))) = rw (records_inner p s l) at m in
      let x = among_joined (λ (e : Entry). records_in p (suc l) (child_of e)) r (entries_at p s) n in
      let i = (inner_of p l s d).each x.0 x.1 in
      let h = record_held p (suc l) (child_of x.0) i.child r x.2 in
      rw (leaf_below p r l s)
      (child_found (λ t. find_leaf p r (suc l) t) r.rect s 0 (entries_at p s) x.0 x.1
      (ap (λ (a : Rect). meets a r.rect) i.tight ∙ holds_meets r.rect h v) (record_found (suc l) (child_of x.0) i.child x.2 v))
