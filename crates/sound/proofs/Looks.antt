-- One look at a node's entries. Where low is not above high, an entry lies in range where the cover of all does: so all rectangles are
-- valid where each is upright and the cover is valid. In a leaf, such entries with pointers of 1 or more are the sound ones.
use mathlib.Core.Path.{◌≡◌, refl, sym, ap, ap₂, subst, ◌∙◌}
use mathlib.Core.Bool.{Bool, true, false, cond, ◌&&◌}
use mathlib.Core.List.Memᴰ
use mathlib.Core.List.{List, [], ◌∷◌, foldl}
use Prim.Native.Nat.{ℕ, zero, suc, ◌≤◌}
use native.Mathlib.Omega.{arith}
use lib.ListN.{length, get_or, drop}
use lib.IntN.{ℤ, pos, negsuc}
use lib.Signed.{le_z}
use borrow.Author.Tests.{eq-eqb, le-leb}
use Rattle.rules.specs.declared.Rect.{Rect}
use Rattle.rules.specs.declared.SlotNumber.{SlotNumber}
use Rattle.rules.specs.declared.Pointer.{Pointer}
use Rattle.rules.specs.declared.Pointer.TheVariants.{Number, Child}
use Rattle.rules.specs.declared.Entry.{Entry}
use Rattle.rules.specs.Lists.{every}
use Rattle.rules.specs.Numbers.{in_range, good_number}
use Rattle.rules.specs.Owners.{owner}
use Rattle.rules.specs.Geometry.{valid, smaller, larger, cover, cover_all}
use Rattle.rules.specs.Choose.{rect_from}
use Rattle.rules.specs.Pool.{Pool, slot, number, no_entry, child_of, node_at, entries_at, entry_at, entry_from, rects, cover_of}
use Rattle.rules.specs.Layout.{entry_place, pointer_place, edition_of, pointer_word, word_at, owner_at, read}
use Rattle.rules_laws.proofs.Bools.{and_both, both_and, same_test}
use Rattle.rules_laws.proofs.Orders.{never_both, at_most_on}
use Rattle.rules_laws.proofs.Everies.{every_is}
use Rattle.rules_laws.proofs.Places.{Among, place_of_lem}
use Rattle.rules_laws.proofs.Measures.{valid_parts, parts_valid, cover_valid}
use Rattle.layout_laws.specs.Slots.{InPool}
use Rattle.layout_laws.proofs.Parts.{slot_pointer, rect_entry}
use Rattle.layout_laws.proofs.Written.{pointer_number}
use Rattle.nodes.specs.Reading.{pointed_number}
use Rattle.nodes.proofs.Pointers.{number_is}
use Rattle.nodes.proofs.Covers.{ahead, first, step}
use Rattle.rules_laws.proofs.Compares.{HoldsRect}
use Rattle.search_laws.proofs.Covers.{cover_of_holds}
use Rattle.sound_laws.specs.Tree.{LeafEntry, Tree}
use Rattle.sound_laws.proofs.Walk.{no_tree, leaf_of_lem, inner_of, tree_node}
use Rattle.sound_laws.proofs.Entries.{tree_valid}
use Rattle.sound.specs.Walked.{upright, plain_entry}

-- ---- rectangles

-- between the coordinates of a valid rectangle
range_between : (a b c : ℤ) → in_range a ≡ true → le_z a b ≡ true → le_z b c ≡ true → in_range c ≡ true → in_range b ≡ true
unfolding in_range
range_between a b c p h k q =
    let m = negsuc 999999999 in
    let n = pos 1000000000 in
    both_and (le_z m b) (le_z b n)
    (at_most_on m a b (and_both (le_z m a) (le_z a n) p).0 h)
    (at_most_on b c n k (and_both (le_z m c) (le_z c n) q).1)

upright_parts : (r : Rect) → upright r ≡ true → (le_z r.lowX r.highX ≡ true) × (le_z r.lowY r.highY ≡ true)
unfolding upright
upright_parts r h = and_both _ _ h

-- of an interval that is held in another: both ends are in range
ends_between : (a b c d : ℤ) → in_range a ≡ true → le_z a b ≡ true → le_z b c ≡ true → le_z c d ≡ true → in_range d ≡ true
    → (in_range b ≡ true) × (in_range c ≡ true)
ends_between a b c d p h k l q = (
  range_between a b d p h (at_most_on b c d k l) q,
  range_between a c d p (at_most_on a b c h k) l q,
)

held_valid : (a b : Rect) → HoldsRect a b → valid a ≡ true → upright b ≡ true → valid b ≡ true
held_valid a b h v u =
    let q = valid_parts a v in
    let o = upright_parts b u in
    let x = ends_between a.lowX b.lowX b.highX a.highX q.lowX h.lowX o.0 h.highX q.highX in
    let y = ends_between a.lowY b.lowY b.highY a.highY q.lowY h.lowY o.1 h.highY q.highY in
    parts_valid (record { lowX = x.0; lowY = y.0; highX = x.1; highY = y.1; x = o.0; y = o.1 })

valid_upright : (r : Rect) → valid r ≡ true → upright r ≡ true
unfolding upright
valid_upright r v = let q = valid_parts r v in both_and _ _ q.x q.y

fold_valid : (r : Rect) (es : List Entry) → valid r ≡ true
    → ((e : Entry) → Among e es → valid e.rect ≡ true) → valid (foldl cover r (rects es)) ≡ true
unfolding rects
fold_valid r [] v each = v
fold_valid r (e ∷ es) v each =
    fold_valid (cover r e.rect) es (cover_valid r e.rect v (each e (Memᴰ.head refl))) (λ f m. each f (Memᴰ.tail m))

covers_valid : (es : List Entry) → 1 ≤ length es → ((e : Entry) → Among e es → valid e.rect ≡ true) → valid (cover_of es) ≡ true
unfolding cover_of cover_all rects
covers_valid [] h each = absurd (omega arith)
covers_valid (e ∷ es) h each = fold_valid e.rect es (each e (Memᴰ.head refl)) (λ f m. each f (Memᴰ.tail m))

-- ---- what the loop asks of each entry

unfoldable pub upright_entry : Entry → Bool
upright_entry e = upright e.rect && le_z (pos 1) (pointer_word e.pointer)

upright_is : (e : Entry) → upright_entry e ≡ true → (upright e.rect ≡ true) × (le_z (pos 1) (pointer_word e.pointer) ≡ true)
unfolding upright_entry
upright_is e h = and_both _ _ h

is_upright : (e : Entry) → upright e.rect ≡ true → le_z (pos 1) (pointer_word e.pointer) ≡ true → upright_entry e ≡ true
unfolding upright_entry
is_upright e h k = both_and _ _ h k

pub plain_is : (e : Entry) → plain_entry e ≡ true → (valid e.rect ≡ true) × (le_z (pos 1) (pointer_word e.pointer) ≡ true)
unfolding plain_entry
plain_is e h = and_both _ _ h

pub is_plain : (e : Entry) → valid e.rect ≡ true → le_z (pos 1) (pointer_word e.pointer) ≡ true → plain_entry e ≡ true
unfolding plain_entry
is_plain e h k = both_and _ _ h k

pub plain_all : (es : List Entry) → 1 ≤ length es → (every upright_entry es && valid (cover_of es)) ≡ every plain_entry es
plain_all es h = same_test (every upright_entry es && valid (cover_of es)) (every plain_entry es) to back
  where
    to : (every upright_entry es && valid (cover_of es)) ≡ true → every plain_entry es ≡ true
    to t =
        let q = and_both (every upright_entry es) (valid (cover_of es)) t in
        (every_is plain_entry es).1 (λ e m.
        let u = upright_is e ((every_is upright_entry es).0 q.0 e m) in
        is_plain e (held_valid (cover_of es) e.rect (cover_of_holds m) q.1 u.0) u.1)

    back : every plain_entry es ≡ true → (every upright_entry es && valid (cover_of es)) ≡ true
    back t =
        let each = (every_is plain_entry es).0 t in
        both_and (every upright_entry es) (valid (cover_of es))
        ((every_is upright_entry es).1 (λ e m. let p = plain_is e (each e m) in is_upright e (valid_upright e.rect p.0) p.1))
        (covers_valid es h (λ e m. (plain_is e (each e m)).0))

-- ---- an entry at a time

module _ (p : Pool) (s : SlotNumber) (i : ℕ) where
  pub upright_at : (r : Rect) → r ≡ rect_from (rects (entries_at p s)) i → (a b good : Bool) → a ≡ upright r
      → b ≡ le_z (pos 1) (pointer_word (entry_at p s i).pointer) → good ≡ (a && b) → good ≡ upright_entry (get_or (entries_at p s) i no_entry)
  unfolding upright_entry entry_at entry_from
  upright_at r e a b good f g h = h ∙ ap₂ ◌&&◌ (f ∙ ap upright (e ∙ rect_entry (entries_at p s) i)) g

-- ---- the cover, with the first rectangle taken twice

cover_self : (r : Rect) → cover r r ≡ r
unfolding cover smaller larger
cover_self r =
    λ i. record {
      lowX = either (le_z r.lowX r.lowX) r.lowX i;
      lowY = either (le_z r.lowY r.lowY) r.lowY i;
      highX = either (le_z r.highX r.highX) r.highX i;
      highY = either (le_z r.highY r.highY) r.highY i;
    }
  where
    either : (b : Bool) (z : ℤ) → cond b z z ≡ z
    either true z = refl
    either false z = refl

pub twice : (es : List Entry) → 1 ≤ length es → ahead es (rect_from (rects es) 0) 0 ≡ cover_of es
twice es h =
    let r = rect_from (rects es) 0 in
    step es r 0 (omega arith) ∙ ap (λ (c : Rect). ahead es c 1) (cover_self r) ∙ first es (omega arith)

-- ---- a leaf's entries

one_number : (p : Pointer) → good_number (pointed_number p) ≡ true → le_z (pos 1) (pointer_word p) ≡ true
unfolding good_number pointer_word
one_number (Number n o) h = h
one_number (Child s) h = never_both h refl

number_one : (p : Pointer) (z o : ℤ) → p ≡ Number (number z) (owner o) → le_z (pos 1) (pointer_word p) ≡ true → good_number (pointed_number p) ≡ true
unfolding good_number pointer_word
number_one p z o e = subst (λ (q : Pointer). le_z (pos 1) (pointer_word q) ≡ true → good_number (pointed_number q) ≡ true) (sym e) (λ h. h)

pub leaf_plain : (e : Entry) → LeafEntry e → plain_entry e ≡ true
leaf_plain e h = is_plain e h.rect (one_number e.pointer (ap good_number (number_is e) ∙ h.number))

-- .. and those of any node of a tree: a child is a slot from 1 on
child_one : (e : Entry) → 1 ≤ (child_of e).0 → le_z (pos 1) (pointer_word e.pointer) ≡ true
unfolding child_of pointer_word
child_one e h = go e.pointer h
  where
    led : Pointer → SlotNumber
    led p = elim p [ Number n o ↦ slot 0 | Child s ↦ s ]

    go : (p : Pointer) → 1 ≤ (led p).0 → le_z (pos 1) (pointer_word p) ≡ true
    go (Number n o) k = absurd (omega arith)
    go (Child s) k = le-leb 1 s.0 k

pub tree_plain : (p : Pool) (l : ℕ) (s : SlotNumber) → Tree p l s → (e : Entry) → Among e (entries_at p s) → plain_entry e ≡ true
tree_plain p zero s d e m = absurd (no_tree p s d)
tree_plain p (suc zero) s d e m = leaf_plain e ((leaf_of_lem p s d).each e m)
tree_plain p (suc (suc l)) s d e m =
    let child = tree_node p (suc l) (child_of e) ((inner_of p l s d).each e m).child in
    is_plain e (tree_valid p (suc (suc l)) s d e m) (child_one e child.slot.low)

pub plain_leaf : {w : List ℤ} {s : SlotNumber} → InPool w s → (node_at (read w) s).level ≡ 1 → (e : Entry) → Among e (entries_at (read w) s)
    → plain_entry e ≡ true → LeafEntry e
unfolding entry_at entry_from
plain_leaf {w} {s} k l e m h =
    let q = place_of_lem m in
    let z = word_at w (pointer_place (edition_of w) s q.0) in
    let o = owner_at (edition_of w) (drop (entry_place (edition_of w) s q.0) w) in
    let number_of_lem : e.pointer ≡ Number (number z) (owner o) =
    ap (λ (f : Entry). f.pointer) (sym (q.2 no_entry)) ∙ slot_pointer k q.0 q.1
    ∙ pointer_number (node_at (read w) s).level z o (eq-eqb (node_at (read w) s).level 1 l) in
    let p = plain_is e h in
    record { rect = p.0; number = ap good_number (sym (number_is e)) ∙ number_one e.pointer z o number_of_lem p.1 }
