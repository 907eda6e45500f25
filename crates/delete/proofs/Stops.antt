-- Covers made tight up the way, where nothing is set aside: each turn makes the next one tight, and the first that stays as it was is the
-- last, since every node above is as it was and had a tight cover.
use mathlib.Core.Path.{◌≡◌, refl, sym, ap, subst, subst₂, ◌∙◌}
use mathlib.Core.Bool.{Bool, true, false, not, ◌&&◌}
use mathlib.Core.List.{List, []}
use Prim.Native.Nat.{ℕ, zero, suc, ◌+◌, ◌-◌, ◌≤◌, ◌<◌}
use native.Mathlib.Decide.{dec_le}
use native.Mathlib.Omega.{arith}
use lib.Dec.{leb, ltb}
use lib.ListN.{length}
use lib.IntN.{ℤ}
use borrow.Author.Tests.{leb-false, ltb-false, ne_eqb}
use Rattle.rules.specs.declared.SlotNumber.{SlotNumber}
use Rattle.rules.specs.declared.Pointer.TheVariants.{Child}
use Rattle.rules.specs.declared.Rect.{Rect}
use Rattle.rules.specs.declared.Edition.{Edition}
use Rattle.rules.specs.declared.Entry.{Entry}
use Rattle.rules.specs.Numbers.{least, most_slots}
use Rattle.rules.specs.Geometry.{same_rect}
use Rattle.rules.specs.Pool.{Pool, entry, slot, node_at, entries_at, entry_from, entry_at, child_of, rects, cover_of, entry_for, tighten}
use Rattle.rules.specs.Choose.{rect_from}
use Rattle.rules.specs.Layout.{edition_of, read, natural, pointer_word}
use Rattle.rules.specs.Delete.{place, Condensed, take_out, relieve, condense}
use Rattle.rules_laws.proofs.Bools.{not_false}
use Rattle.rules_laws.proofs.Orders.{never_both}
use Rattle.layout_laws.specs.Slots.{Fit, KindOf}
use Rattle.layout_laws.proofs.Parts.{rect_entry}
use Rattle.layout_laws.proofs.Written.{pointer_child, child_is}
use Rattle.free_slots.specs.Known.{Known}
use Rattle.sound_laws.specs.Tree.{Slot}
use Rattle.sound_laws.proofs.Same.{same_rect_lem}
use Rattle.sound_laws.proofs.Walk.{tree_node, within}
use Rattle.insert_laws.proofs.Beside.{child_entry}
use Rattle.delete_laws.specs.Way.{leaf_of, KeepsEnough}
use Rattle.delete_laws.specs.Shrunk.{condensed}
use Rattle.delete_laws.proofs.Narrow.{relieve_enough}
use Rattle.delete_laws.proofs.Keeps.{tighten_tight, Kept, enough_left, condense_kept, tight_still}
use Rattle.find_leaf.specs.declared.Step.{Step}
use Rattle.find_leaf.specs.declared.Way.{Way}
use Rattle.find_leaf.specs.Ways.{path_of}
use Rattle.delete.specs.Aside.{ChildAt, ComesDown, thin_at, wide_at, StillKnown}
use Rattle.delete.proofs.Nodes.{here_kind}
use Rattle.delete.proofs.Relieved.{tight_known}
use Rattle.delete.proofs.Climb.{node_on, place_on, condense_leaf, OnWay, on_there, on_child, on_shrunk, on_next, down_high, down_on, leaf_known}

-- ---- a leaf that is not thin

pub thin_keeps : (p : Pool) (s : SlotNumber) → thin_at p s ≡ false → KeepsEnough p p.height s
unfolding thin_at
thin_keeps p s h two = go (leb (length (entries_at p s)) least) refl (ltb 1 p.height) refl h
  where
    go : (a : Bool) → leb (length (entries_at p s)) least ≡ a → (b : Bool) → ltb 1 p.height ≡ b → (a && b) ≡ false
        → least < length (entries_at p s)
    go false m b n e = omega (arith, leb-false (length (entries_at p s)) least m)
    go true m false n e = absurd (omega (arith, two, ltb-false 1 p.height n))
    go true m true n e = never_both refl e

-- ---- a cover that is tight already

-- an entry of an inner node leads to a child
inner_pointer : (ed : Edition) (l : ℕ) → 2 ≤ l → (e : Entry) → KindOf ed l e.pointer → e.pointer ≡ Child (child_of e)
inner_pointer ed l two e k =
    let z = pointer_word e.pointer in
    let q : e.pointer ≡ Child (slot (natural z)) = sym k ∙ pointer_child l z _ (ne_eqb l 1 (λ o. omega (arith, o, two))) in
    q ∙ ap Child (child_is e (natural z) z q refl)

pub read_pointer : {w : List ℤ} → Fit w → (s : SlotNumber) → Slot (read w) s → 2 ≤ (node_at (read w) s).level → (i : ℕ)
    → i < length (entries_at (read w) s) → (entry_at (read w) s i).pointer ≡ Child (child_of (entry_at (read w) s i))
unfolding entry_at entry_from
read_pointer {w} f s k two i there = inner_pointer (edition_of w) (node_at (read w) s).level two (entry_at (read w) s i) (here_kind f k i there)

-- as the code asks it
pub wide_told : (p : Pool) (s : SlotNumber) (i : ℕ) (t : SlotNumber) → child_of (entry_at p s i) ≡ t → (a b : Rect)
    → a ≡ cover_of (entries_at p t) → b ≡ rect_from (rects (entries_at p s)) i → (y z : Bool) → y ≡ same_rect a b → y ≡ z → not z ≡ wide_at p s i
unfolding wide_at entry_at entry_from
wide_told p s i t e a b f g y z h k =
    ap not (sym k ∙ h)
    ∙ (λ j. not (same_rect ((f ∙ ap (λ (u : SlotNumber). cover_of (entries_at p u)) (sym e)) j) ((g ∙ rect_entry (entries_at p s) i) j)))

pub not_wide : {w : List ℤ} {s : SlotNumber} {i : ℕ} {t : SlotNumber} → Fit w → ChildAt (read w) s i t → wide_at (read w) s i ≡ false
    → tighten (read w) s i ≡ read w
unfolding wide_at entry_for
not_wide {w} {s} {i} {t} f c h =
    let p = read w in
    let x = entry_at p s i in
    let rect : cover_of (entries_at p (child_of x)) ≡ x.rect = (same_rect_lem (cover_of (entries_at p (child_of x))) x.rect).0 (not_false _ h) in
    let pointer = read_pointer f s c.parent.slot c.inner i c.there in
    tighten_tight p s i (λ j. entry (rect j) (sym pointer j))

-- ---- the covers, from level 1 up, m of them

pub tights : Pool → List Step → ℕ → Pool
tights x ss zero = x
tights x ss (suc m) = tighten (tights x ss m) (node_on ss (suc m)) (place_on ss (suc m))

leaf_node : (way : Way) (l : ℕ) → leaf_of (path_of (suc l) way) ≡ node_on way.steps 0
unfolding leaf_of path_of
leaf_node way zero = refl
leaf_node way (suc l) = leaf_node way l

-- the leaf of the way that the code has
pub way_leaf : (way : Way) (l : ℕ) → 1 ≤ l → leaf_of (path_of l way) ≡ node_on way.steps 0
way_leaf way zero h = absurd (omega arith)
way_leaf way (suc l) h = leaf_node way l

condense_next : (p : Pool) (way : Way) (l : ℕ) → condense p (path_of (suc (suc l)) way) ≡ relieve
    (place (node_on way.steps (suc l)) (place_on way.steps (suc l))) (node_on way.steps l) (condense p (path_of (suc l) way))
unfolding condense path_of
condense_next p way l = refl

module _ (p : Pool) (way : Way) (h : ℕ) (d : ComesDown p h way) (keeps : KeepsEnough p h (leaf_of (path_of h way))) (x : Pool)
    (out : x ≡ take_out p (place (node_on way.steps 0) (place_on way.steps 0))) where
  abbrev top : ℕ → SlotNumber
  top l = node_on way.steps l

  abbrev at : ℕ → ℕ
  at l = place_on way.steps l

  abbrev tight : ℕ → Pool
  tight l = tights x way.steps l

  on : (l : ℕ) → l < h → OnWay p d.pair way l
  on l k = down_on p way h d l k

  many_left : (l : ℕ) → 2 ≤ h → least < length (entries_at p (leaf_of (path_of (suc l) way)))
  many_left l two =
      subst (λ (s : SlotNumber). least < length (entries_at p s)) (way_leaf way h (omega (arith, two)) ∙ sym (leaf_node way l)) (keeps two)

  kept_at : (l : ℕ) → l < h → Kept p (suc l) (top l) (condense p (path_of (suc l) way))
  kept_at l k =
      let o = on l k in
      condense_kept p d.pair (suc l) (top l) (path_of (suc l) way) o.tree o.once o.leads
      (λ two. many_left l (omega (arith, two)))

  enough_at : (l : ℕ) → suc l < h → least ≤ length (entries_at (condense p (path_of (suc l) way)).pool (top l))
  enough_at l k =
      let o = on l (omega arith) in
      let up = on (suc l) k in
      let there = on_there p d.pair way (suc l) up in
      let enough = (child_entry p l (top (suc l)) up.tree (at (suc l)) there).enough in
      let same = (on_child p d.pair way l up).0 in
      enough_left p d.pair l (top l) (path_of (suc l) way) o.tree o.once o.leads (many_left l (omega arith))
      (subst (λ (s : SlotNumber). least ≤ length (entries_at p s)) same enough) (kept_at l (omega arith))

  -- nothing is set aside
  tights_at : (l : ℕ) → l < h → condense p (path_of (suc l) way) ≡ condensed (tight l) []
  unfolding tights
  tights_at zero k = condense_leaf p way ∙ ap (λ (q : Pool). condensed q []) (sym out)
  tights_at (suc l) k =
      let below = tights_at l (omega arith) in
      condense_next p way l
      ∙ relieve_enough (place (top (suc l)) (at (suc l))) (top l) (condense p (path_of (suc l) way)) (enough_at l k)
      ∙ ap (λ (z : Condensed). condensed (tighten z.pool (top (suc l)) (at (suc l))) z.set_aside) below

  pub tights_done : tight (h - 1) ≡ (condense p (path_of h way)).pool
  tights_done =
      let low = down_high p way h d in
      let e : suc (h - 1) ≡ h = omega (arith, low) in
      sym (ap (λ (z : Condensed). z.pool) (tights_at (h - 1) (omega (arith, low)))) ∙ ap (λ (l : ℕ). (condense p (path_of l way)).pool) e

  child_at_lem : length p.slots ≤ most_slots → (l : ℕ) → 1 ≤ l → l < h → ChildAt (tight (l - 1)) (top l) (at l) (top (l - 1))
  child_at_lem few zero low k = absurd (omega arith)
  child_at_lem few (suc l) low k =
      let e : l ≡ suc l - 1 = omega arith in
      subst₂ (λ (q : Pool) (j : ℕ). ChildAt q (top (suc l)) (at (suc l)) (top j))
      (ap (λ (z : Condensed). z.pool) (tights_at l (omega arith)) ∙ ap tight e) e
      (on_next p d.pair way few l (omega (arith, d.high)) (on (suc l) k))

  -- a node above is as it was
  node_above : (l m : ℕ) → l < m → m < h → node_at p (top m) ≡ node_at (tight l) (top m)
  node_above l m less k =
      let o = on l (omega arith) in
      let here = tree_node p (suc m) (top m) (on m k).tree in
      (on_shrunk p d.pair way l o).other (top m) here.slot.low
      (λ among. omega (arith, (within p (suc l) (top l) (top m) o.tree among).high, here.level))
      ∙ ap (λ (z : Condensed). node_at z.pool (top m)) (tights_at l (omega arith))

  module _ (pointed : (s : SlotNumber) → Slot p s → 2 ≤ (node_at p s).level → (i : ℕ) → i < length (entries_at p s)
      → (entry_at p s i).pointer ≡ Child (child_of (entry_at p s i))) where
    -- the cover of level l stays, and so do those above
    stays : (l : ℕ) → tight (suc l) ≡ tight l → (m : ℕ) → suc l ≤ m → m < h → tight m ≡ tight l
    unfolding tights
    stays l same zero less k = absurd (omega arith)
    stays l same (suc m) less k = go (dec_le (suc l) m) (stays l same m)
      where
        go : Dec (suc l ≤ m) → (suc l ≤ m → m < h → tight m ≡ tight l) → tight (suc m) ≡ tight l
        go (yes e) f =
            let up = on (suc m) k in
            let s = top (suc m) in
            let i = at (suc m) in
            let here = tree_node p (suc (suc m)) s up.tree in
            let there = on_there p d.pair way (suc m) up in
            let to = (on_child p d.pair way m up).0 in
            ap (λ (q : Pool). tighten q s i) (f e (omega arith))
            ∙ tight_still p m s up.tree i there (pointed s here.slot (omega (arith, here.level)) i there) (tight l)
            (node_above l (suc m) (omega arith) k)
            (subst (λ (t : SlotNumber). node_at p t ≡ node_at (tight l) t) (sym to) (node_above l m (omega arith) (omega arith)))
        go (no e) f = let z : m ≡ l = omega arith in ap (λ (j : ℕ). tight (suc j)) z ∙ same

    pub stays_at : (l : ℕ) → 1 ≤ l → l < h → tight l ≡ tight (l - 1) → tight (h - 1) ≡ tight (l - 1)
    stays_at zero low k same = absurd (omega arith)
    stays_at (suc l) low k same =
        let e : suc l - 1 ≡ l = omega arith in
        stays l (same ∙ ap tight e) (h - 1) (omega arith) (omega arith) ∙ ap tight (sym e)

-- ---- the turns

-- what each level above the leaf asks, and what it gives where its cover stays
pub record Rungs (x : Pool) (ss : List Step) (h : ℕ) : Type 0 where
  pub child : (l : ℕ) → 1 ≤ l → l < h → ChildAt (tights x ss (l - 1)) (node_on ss l) (place_on ss l) (node_on ss (l - 1))
  pub stays : (l : ℕ) → 1 ≤ l → l < h → tights x ss l ≡ tights x ss (l - 1) → tights x ss (h - 1) ≡ tights x ss (l - 1)

-- the covers below level l are tight
pub record Tightening (w₀ : List ℤ) (h : ℕ) (ss : List Step) (w : List ℤ) (l : ℕ) : Type 0 where
  pub low : 1 ≤ l
  pub high : l ≤ h
  pub levels : h ≤ 8
  pub steps : length ss ≡ 8
  pub long : length w ≡ length w₀
  pub fit : Fit w
  pub pool : read w ≡ tights (read w₀) ss (l - 1)
  pub known : StillKnown (read w₀) (read w)
  pub rungs : Rungs (read w₀) ss h

module _ {w₀ : List ℤ} {h : ℕ} {ss : List Step} {w : List ℤ} {l : ℕ} (t : Tightening w₀ h ss w l) where
  pub tightening_last : h ≤ l → read w ≡ tights (read w₀) ss (h - 1)
  tightening_last k = let e : l ≡ h = omega (arith, t.high) in t.pool ∙ ap (λ (j : ℕ). tights (read w₀) ss (j - 1)) e

  module _ (k : l < h) where
    pub tightening_child : ChildAt (read w) (node_on ss l) (place_on ss l) (node_on ss (l - 1))
    tightening_child =
        subst (λ (p : Pool). ChildAt p (node_on ss l) (place_on ss l) (node_on ss (l - 1))) (sym t.pool) (t.rungs.child l t.low k)

    tights_next : tights (read w₀) ss l ≡ tighten (read w) (node_on ss l) (place_on ss l)
    unfolding tights
    tights_next =
        let e : l ≡ suc (l - 1) = omega (arith, t.low) in
        ap (tights (read w₀) ss) e ∙ ap (λ (j : ℕ). tighten (tights (read w₀) ss (l - 1)) (node_on ss j) (place_on ss j)) (sym e)
        ∙ ap (λ (p : Pool). tighten p (node_on ss l) (place_on ss l)) (sym t.pool)

    module _ (v : List ℤ) (made : read v ≡ tighten (read w) (node_on ss l) (place_on ss l)) where
      now_known : StillKnown (read w₀) (read v)
      now_known f g =
          subst (λ (p : Pool). Known p f) (sym made)
          (tight_known (read w) f (t.known f g) (node_on ss l) (place_on ss l) (node_on ss (l - 1)) tightening_child)

      -- one level up
      pub tightening_next : length v ≡ length w → Fit v → Tightening w₀ h ss v (l + 1)
      tightening_next e fit =
          let j : l ≡ l + 1 - 1 = omega arith in
          record {
            low = omega arith;
            high = omega arith;
            levels = t.levels;
            steps = t.steps;
            long = e ∙ t.long;
            fit = fit;
            pool = made ∙ sym tights_next ∙ ap (tights (read w₀) ss) j;
            known = now_known;
            rungs = t.rungs;
          }

      -- the cover stays: all is done
      pub tightening_stop : wide_at (read w) (node_on ss l) (place_on ss l) ≡ false
          → (read v ≡ tights (read w₀) ss (h - 1)) × StillKnown (read w₀) (read v)
      tightening_stop narrow =
          let still = not_wide t.fit tightening_child narrow in
          let same = tights_next ∙ still ∙ t.pool in
          (made ∙ still ∙ t.pool ∙ sym (t.rungs.stays l t.low k same), now_known)

-- ---- the first

module _ (w : List ℤ) (fit : Fit w) (few : length (read w).slots ≤ most_slots) (way : Way) (h : ℕ) (d : ComesDown (read w) h way)
    (keeps : KeepsEnough (read w) h (leaf_of (path_of h way))) (v : List ℤ)
    (out : read v ≡ take_out (read w) (place (node_on way.steps 0) (place_on way.steps 0))) where
  pub tightening_first : Fit v → Tightening v h way.steps v 1
  unfolding tights
  tightening_first f = record {
    low = omega arith;
    high = down_high (read w) way h d;
    levels = d.high;
    steps = d.long;
    long = refl;
    fit = f;
    pool = refl;
    known = λ g k. k;
    rungs = record {
      child = child_at_lem (read w) way h d keeps (read v) out few;
      stays = stays_at (read w) way h d keeps (read v) out (read_pointer fit);
    };
  }

  pub out_still : StillKnown (read w) (read v)
  out_still f k = subst (λ (p : Pool). Known p f) (sym out) (leaf_known (read w) way h d f k)
