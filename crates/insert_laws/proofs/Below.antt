-- An entry goes in some levels below a node: it comes to a child, and what the child leaves over comes to the node. So by induction on
-- the levels to go down, each node on the way has grown.
use mathlib.Core.Path.{◌≡◌, refl, subst}
use mathlib.Core.List.Memᴰ
use mathlib.Core.List.{List, [], ◌∷◌}
use Prim.Native.Nat.{ℕ, zero, suc, ◌+◌, ◌≤◌, ◌<◌}
use native.Mathlib.Omega.{arith}
use lib.ListN.{length, length-map}
use Rattle.rules.specs.declared.Rect.{Rect}
use Rattle.rules.specs.declared.SlotNumber.{SlotNumber}
use Rattle.rules.specs.declared.Entry.{Entry}
use Rattle.rules.specs.Numbers.{least}
use Rattle.rules.specs.Pool.{Node, Pool, node, entries_at, entry_at, child_of, rects, tighten}
use Rattle.rules.specs.Insert.{Choice, Grown, Kept, Split, Full, install, adjust, insert_below}
use Rattle.rules.specs.Lawful.{Lawful, LawfulSplit}
use Rattle.sound_laws.specs.Tree.{slots_in, Once, Tree}
use Rattle.sound_laws.proofs.Apart.{once_child}
use Rattle.sound_laws.proofs.Walk.{no_tree, top_among}
use Rattle.insert_laws.specs.Grown.{Fits, Spot, spot, slots_at, Grew, SameHead, Grows}
use Rattle.insert_laws.proofs.Under.{no_fit}
use Rattle.insert_laws.proofs.Install.{head_twice, install_grows}
use Rattle.insert_laws.proofs.Twice.{grew_twice}
use Rattle.insert_laws.proofs.Tighten.{grew_beside, tighten_grew}
use Rattle.insert_laws.proofs.Beside.{among_here, child_entry, tight_many, tight_head}

-- it may as well have touched more of the tree
wider : {a b : Spot} {come left : Node} {taken touched : List SlotNumber} → Grew a b come left taken touched
    → Grew a b come left taken (slots_at a)
wider g = record {
  tree = g.tree;
  fit = g.fit;
  weighs = g.weighs;
  long = g.long;
  slot = g.slot;
  free = g.free;
  once = g.once;
  inside = λ t m. m;
  other = λ t low out new. g.other t low (λ m. out (g.inside t m)) new;
}

wider_grows : (p : Pool) (l : ℕ) (s : SlotNumber) (k : ℕ) (e : Entry) (touched : List SlotNumber) (o : Grown)
    → Grows p l s k e touched o → Grows p l s k e (slots_in p l s) o
wider_grows p l s k e touched (Kept q) h = (h.0, wider h.1, h.2, h.3)
wider_grows p l s k e touched (Split q x) h = (h.0, wider h.1, h.2, h.3)
wider_grows p l s k e touched Full h = tt

-- what was left over comes to the node itself
then_grows : {p q : Pool} {l : ℕ} {s : SlotNumber} {k : ℕ} {e : Entry} {taken : List SlotNumber} (j : ℕ) (x : Entry)
    → Grew (spot p (suc l) s) (spot q (suc l) s) (node k (e ∷ [])) (node j (x ∷ [])) taken (slots_in p (suc l) s) → SameHead p q
    → length (entries_at q s) ≡ length (entries_at p s) → (o : Grown) → Grows q (suc l) s j x (s ∷ []) o → Grows p (suc l) s k e (slots_in p (suc l) s) o
then_grows {p} {l = l} {s = s} j x g same many (Kept r) h =
    (_, grew_twice g h.1 (λ t m. Memᴰ.cast (Memᴰ.eq_of_singleton m) (top_among p l s)), head_twice same h.2, omega (arith, h.3))
then_grows {p} {l = l} {s = s} j x g same many (Split r y) h =
    (_, grew_twice g h.1 (λ t m. Memᴰ.cast (Memᴰ.eq_of_singleton m) (top_among p l s)), head_twice same h.2, h.3)
then_grows j x g same many Full h = tt

module _ (c : Choice) where
  -- ---- the clauses

  pub below_here : (p : Pool) (s : SlotNumber) (e : Entry) → insert_below c 0 p s e ≡ install c p s e
  unfolding insert_below
  below_here p s e = refl

  -- the place of the child that an entry with the rectangle goes below
  abbrev pub way : Pool → SlotNumber → Rect → ℕ
  way p s new = c.child (rects (entries_at p s)) new

  pub below_down : (n : ℕ) (p : Pool) (s : SlotNumber) (e : Entry)
      → insert_below c (suc n) p s e ≡ adjust c s (way p s e.rect) (insert_below c n p (child_of (entry_at p s (way p s e.rect))) e)
  unfolding insert_below
  below_down n p s e = refl

  module _ (s : SlotNumber) (i : ℕ) where
    pub adjust_kept : (q : Pool) → adjust c s i (Kept q) ≡ Kept (tighten q s i)
    unfolding adjust
    adjust_kept q = refl

    pub adjust_split : (q : Pool) (x : Entry) → adjust c s i (Split q x) ≡ install c (tighten q s i) s x
    unfolding adjust
    adjust_split q x = refl

    pub adjust_full : adjust c s i Full ≡ Full
    unfolding adjust
    adjust_full = refl

  pub way_there : Lawful c → (p : Pool) (s : SlotNumber) (new : Rect) → 0 < length (entries_at p s) → way p s new < length (entries_at p s)
  unfolding rects
  way_there lawful p s new some =
      rw (length-map (entries_at p s) (λ (x : Entry). x.rect))
      at (lawful.child.there (rects (entries_at p s)) new (rw (length-map (entries_at p s) (λ (x : Entry). x.rect)) some))

  -- ---- one level up

  module _ (lawful : LawfulSplit c.split) (p : Pool) (l : ℕ) (s : SlotNumber) (d : Tree p (suc (suc l)) s)
      (once : Once (slots_in p (suc (suc l)) s)) (i : ℕ) (there : i < length (entries_at p s)) (k : ℕ) (e : Entry) where
    adjust_grows : (o : Grown)
        → Grows p (suc l) (child_of (entry_at p s i)) k e (slots_in p (suc l) (child_of (entry_at p s i))) o
        → Grows p (suc (suc l)) s k e (slots_in p (suc (suc l)) s) (adjust c s i o)
    adjust_grows (Kept q) h =
        let child = child_entry p l s d i there in
        let enough : least ≤ length (entries_at q (child_of (entry_at p s i))) = omega (arith, child.enough, h.3) in
        rw (adjust_kept s i q) (
          h.0,
          tighten_grew p l s d i there once q h.1 (omega arith) enough,
          head_twice h.2 (tight_head (grew_beside p l s d i there once q h.1)),
          omega (arith, tight_many (grew_beside p l s d i there once q h.1)),
        )
    adjust_grows (Split q x) h =
        let low : suc (suc l) ≤ suc (suc l) = omega arith in
        let g = tighten_grew p l s d i there once q h.1 low h.3 in
        rw (adjust_split s i q x)
        (then_grows (suc (suc l)) x g (head_twice h.2 (tight_head (grew_beside p l s d i there once q h.1)))
        (tight_many (grew_beside p l s d i there once q h.1)) (install c (tighten q s i) s x)
        (install_grows c lawful (tighten q s i) (suc l) s g.tree x (g.fit x (Memᴰ.head refl))))
    adjust_grows Full h = rw (adjust_full s i) tt

  -- ---- all the way

  module _ (lawful : Lawful c) (p : Pool) (k : ℕ) (e : Entry) (f : Fits p k e) where
    pub below_grows : (n l : ℕ) (s : SlotNumber) → l ≡ n + k → Tree p l s → Once (slots_in p l s) → (0 < n → 0 < length (entries_at p s))
        → Grows p l s k e (slots_in p l s) (insert_below c n p s e)
    below_grows zero zero s h d once some = absurd (no_tree p s d)
    below_grows zero (suc l) s h d once some =
        let same : k ≡ suc l = omega arith in
        rw (below_here p s e, same)
        (wider_grows p (suc l) s (suc l) e (s ∷ []) (install c p s e)
        (install_grows c lawful.split p l s d e (subst (λ (j : ℕ). Fits p j e) same f)))
    below_grows (suc n) zero s h d once some = absurd (no_tree p s d)
    below_grows (suc n) (suc zero) s h d once some = absurd (no_fit p e (subst (λ (j : ℕ). Fits p j e) (omega arith) f))
    below_grows (suc n) (suc (suc l)) s h d once some =
        let there = way_there lawful p s e.rect (some (omega arith)) in
        let x = child_entry p l s d (way p s e.rect) there in
        rw (below_down n p s e)
        (adjust_grows lawful.split p l s d once (way p s e.rect) there k e (insert_below c n p (child_of (entry_at p s (way p s e.rect))) e)
        (below_grows n (suc l) (child_of (entry_at p s (way p s e.rect))) (omega arith) x.child
        (once_child p l s once (entry_at p s (way p s e.rect)) (among_here p l s d (way p s e.rect) there (way p s e.rect) there)) (λ z. omega (arith, x.enough))))
