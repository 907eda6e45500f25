-- The way of an entry, down and back. While the child that it goes below grew, the node itself has not changed, so its entry leads there still;
-- made tight, the node is the top of a tree again, in which the partner's entry fits.
use mathlib.Core.Path.{◌≡◌, refl, sym, ap, subst, subst⁻¹, ◌∙◌}
use mathlib.Core.List.Memᴰ
use mathlib.Core.List.{List}
use Prim.Native.Nat.{ℕ, suc, ◌+◌, ◌-◌, ◌≤◌, ◌<◌}
use native.Mathlib.Omega.{arith}
use lib.ListN.{length, set}
use lib.IntN.{ℤ}
use Rattle.std.specs.Prelude.{Option, Some, None, MatchOption}
use Rattle.std.proofs.lemmas.Option.{MatchOption-at_some, MatchOption-at_none}
use Rattle.rules.specs.declared.Rect.{Rect}
use Rattle.rules.specs.declared.SlotNumber.{SlotNumber}
use Rattle.rules.specs.declared.Pointer.TheVariants.{Child}
use Rattle.rules.specs.declared.Entry.{Entry}
use Rattle.rules.specs.Numbers.{least}
use Rattle.rules.specs.Geometry.{cover}
use Rattle.rules.specs.Pool.{Node, Pool, node, entry, node_at, entries_at, entry_from, entry_at, child_of, rects, cover_of, entry_for, put_entries, tighten}
use Rattle.rules.specs.Choose.{rect_from}
use Rattle.rules.specs.Insert.{Grown, Kept, Split, Full, ours, install, adjust, insert_below}
use Rattle.rules.specs.Layout.{read}
use Rattle.rules_laws.proofs.Splits.{ours_lawful}
use Rattle.layout_laws.specs.Slots.{Fit}
use Rattle.layout_laws.proofs.Parts.{rect_entry}
use Rattle.free_slots.specs.declared.FreeSlots.{FreeSlots}
use Rattle.free_slots.specs.Known.{Known}
use Rattle.free_slots.proofs.Known.{known_put}
use Rattle.sound_laws.specs.Tree.{slots_in, Once, Slot, InnerEntry, Tree}
use Rattle.sound_laws.proofs.Apart.{once_child}
use Rattle.sound_laws.proofs.Frame.{entries_same}
use Rattle.sound_laws.proofs.Walk.{tree_node}
use Rattle.nodes.specs.Reading.{LeadsOn}
use Rattle.nodes.proofs.Tight.{rect_made}
use Rattle.insert_laws.specs.Grown as G
use Rattle.insert_laws.proofs.Tighten.{tighten_grew, grew_beside}
use Rattle.insert_laws.proofs.Below.{below_here, below_down, adjust_kept, adjust_split, adjust_full, below_grows}
use Rattle.insert_laws.proofs.Beside.{among_here, top_same}
use Rattle.insert_laws.proofs.Widened.{below_cover}
use Rattle.insert.specs.declared.Growth.{Growth}
use Rattle.insert.specs.Left.{HoldsPool, GrewTo, MayGo}
use Rattle.insert.specs.State.{Here, GoesDown, Fitted, grown_by, grown_of, widened, Back}
use Rattle.insert.proofs.Fitted.{fits_inner}
use Rattle.insert.proofs.Ways as W

-- ---- the words stand for what the definitions give

pub grown_is : (o : Grown) (g : Growth) (v : List ℤ) → GrewTo o (Some g) v → o ≡ grown_of (read v) g
grown_is (Kept q) g v h = ap Kept (sym h.1.is) ∙ ap (grown_by (read v)) (sym h.0)
grown_is (Split q x) g v h = ap (λ (p : Pool). Split p x) (sym h.1.is) ∙ ap (grown_by (read v)) (sym h.0)
grown_is Full g v h = absurd h

pub full_is : (o : Grown) (v : List ℤ) → GrewTo o None v → o ≡ Full
full_is (Kept q) v h = absurd h
full_is (Split q x) v h = absurd h
full_is Full v h = refl

pub holds_ready : {q : Pool} {f : FreeSlots} {v : List ℤ} → HoldsPool q f v → Fitted v f
holds_ready {f = f} h = record { fit = h.fit; known = subst⁻¹ (λ (p : Pool). Known p f) h.is h.known }

-- ---- an entry made tight

module _ (p : Pool) (s : SlotNumber) (i : ℕ) where
  pub tighten_known : (f : FreeSlots) → Known p f → LeadsOn p s i → Known (tighten p s i) f
  unfolding tighten put_entries
  tighten_known f k h =
      known_put p f k s h.low h.high (λ e. omega (arith, h.inner)) (node (node_at p s).level _) (λ e. omega (arith, h.inner))

  -- where the child's cover is the entry's rectangle and the new one's, made tight is widened
  pub tighten_widened : (new : Rect) → cover_of (entries_at p (child_of (entry_at p s i))) ≡ cover (entry_at p s i).rect new
      → tighten p s i ≡ widened p s i new
  unfolding tighten entry_for widened
  tighten_widened new h =
      ap (λ (r : Rect). put_entries p s (set (entries_at p s) i (entry r (Child (child_of (entry_at p s i)))))) h

  -- as the code has it: the two rectangles' cover, for an entry that leads where it did
  pub widened_made : (new : Rect) → LeadsOn p s i → (old : Rect) → old ≡ rect_from (rects (entries_at p s)) i → (wide : Rect) → wide ≡ cover old new
      → put_entries p s (set (entries_at p s) i (entry wide (entry_at p s i).pointer)) ≡ widened p s i new
  unfolding widened entry_at entry_from
  widened_made new h old is wide both =
      rect_made p s i h.child_low wide
      ∙ ap (λ (r : Rect). put_entries p s (set (entries_at p s) i (entry r (Child (child_of (entry_at p s i))))))
      (both ∙ ap (λ (r : Rect). cover r new) (is ∙ rect_entry (entries_at p s) i))

-- ---- the parent, when its child came back

module _ (w : List ℤ) (s : SlotNumber) (i : ℕ) where
  module _ (new : Rect) (g : Growth) (b : Back w s i new g) where
    adjust_as : (y : Option Entry) → g.partner ≡ y → adjust ours s i (grown_of (read w) g) ≡ adjust ours s i (grown_by (read w) y)
    adjust_as y e = ap (λ (z : Option Entry). adjust ours s i (grown_by (read w) z)) e

    pub back_one : g.partner ≡ None → (v : List ℤ) → Fit v → read v ≡ widened (read w) s i new
        → GrewTo (adjust ours s i (grown_of (read w) g)) (Some (record { partner = None; free = g.free })) v
    back_one one v fit is =
        subst⁻¹ (λ (o : Grown). GrewTo o (Some (record { partner = None; free = g.free })) v) (adjust_as None one ∙ adjust_kept ours s i (read w)) (
          refl,
          record {
            fit = fit;
            is = is ∙ sym (MatchOption-at_none _ _ one b.child);
            known = tighten_known (read w) s i g.free b.fitted.known b.leads;
          },
        )

    module _ (x : Entry) (two : g.partner ≡ Some x) (v : List ℤ) (fit : Fit v) (is : read v ≡ tighten (read w) s i) where
      pub two_ready : Fitted v g.free
      two_ready = record {
        fit = fit;
        known = subst⁻¹ (λ (p : Pool). Known p g.free) is (tighten_known (read w) s i g.free b.fitted.known b.leads);
      }

      pub two_here : Here (read v) s x
      two_here = subst⁻¹ (λ (p : Pool). Here p s x) is (MatchOption-at_some _ _ x two b.child)

      pub back_two : (r : Option Growth) (u : List ℤ) → GrewTo (install ours (read v) s x) r u
          → GrewTo (adjust ours s i (grown_of (read w) g)) r u
      back_two r u h =
          subst⁻¹ (λ (o : Grown). GrewTo o r u) (adjust_as (Some x) two ∙ adjust_split ours s i (read w) x)
          (subst (λ (p : Pool). GrewTo (install ours p s x) r u) is h)

-- ---- an entry goes down

-- an inner entry is kept in any edition
inner_goes : (p : Pool) (l : ℕ) (x : Entry) → G.Fits p (suc (suc l)) x → MayGo p (suc (suc l)) x
inner_goes p l x f = record { fits = f; kind = fits_inner p l x f p.edition }

module _ {p : Pool} {n : ℕ} {s : SlotNumber} {e : Entry} (h : GoesDown p n s e) where
  pub way_end : n ≡ 0 → Here p s e
  way_end z = record {
    level = h.way.level;
    tree = subst (λ (k : ℕ). Tree p k s) (omega arith) h.way.tree;
    goes = h.goes;
    few = omega (arith, h.way.few);
  }

  pub way_ends : n ≡ 0 → insert_below ours n p s e ≡ install ours p s e
  way_ends z = ap (λ (k : ℕ). insert_below ours k p s e) z ∙ below_here ours p s e

  module _ (more : 1 ≤ n) where
    abbrev below : ℕ
    below = W.below h.way more

    levels : n + h.way.level ≡ suc (suc below)
    levels = W.levels h.way more

    tree : Tree p (suc (suc below)) s
    tree = W.tree h.way more

    abbrev at : ℕ
    at = W.at h.way more

    abbrev child : SlotNumber
    child = W.child h.way more

    there : at < length (entries_at p s)
    there = W.there h.way more

    inner : InnerEntry p (Tree p (suc below)) (entry_at p s at)
    inner = W.inner h.way more

    once : Once (slots_in p (suc (suc below)) s)
    once = subst (λ (k : ℕ). Once (slots_in p k s)) levels h.once

    child_once : Once (slots_in p (suc below) child)
    child_once = once_child p below s once (entry_at p s at) (among_here p below s tree at there at there)

    down : GoesDown p (n - 1) child e
    down = record {
      way = W.down h.way more;
      once = subst (λ (k : ℕ). Once (slots_in p k child)) (omega (arith, levels)) child_once;
      goes = h.goes;
    }

    -- ---- and back

    grew : G.Grows p (suc below) child h.way.level e (slots_in p (suc below) child) (insert_below ours (n - 1) p child e)
    grew =
        below_grows ours ours_lawful p h.way.level e h.goes.fits (n - 1) (suc below) child (omega (arith, levels)) inner.child child_once
        (λ _. omega (arith, inner.enough))

    -- the node has not changed, and its entry leads to the child
    module _ (q : Pool) {come left : Node} {taken : List SlotNumber}
        (g : G.Grew (G.spot p (suc below) child) (G.spot q (suc below) child) come left taken (slots_in p (suc below) child))
        (low : left.level ≤ suc (suc below)) (enough : least ≤ length (entries_at q child)) where
      same : node_at p s ≡ node_at q s
      same = top_same (grew_beside p below s tree at there once q g)

      same_entry_lem : entry_at q s at ≡ entry_at p s at
      unfolding entry_at
      same_entry_lem = ap (λ (es : List Entry). entry_from es at) (sym (entries_same p q s same))

      leads : LeadsOn q s at
      leads =
          let to = subst⁻¹ (λ (x : Entry). Slot q (child_of x)) same_entry_lem (tree_node q (suc below) child g.tree).slot in
          record {
            low = (W.way_node h.way).slot.low;
            high = omega (arith, (W.way_node h.way).slot.high, g.long);
            inner = omega (arith, ap (λ (m : Node). m.level) same, (W.way_node h.way).level, levels);
            there = omega (arith, there, ap length (entries_same p q s same));
            child_low = to.low;
            child_high = to.high;
          }

    kept_back : (q : Pool) (g : Growth) (v : List ℤ) → insert_below ours (n - 1) p child e ≡ Kept q
        → G.Grows p (suc below) child h.way.level e (slots_in p (suc below) child) (Kept q) → g.partner ≡ None
        → HoldsPool q g.free v → Back v s at e.rect g
    kept_back q g v is a one b =
        let many : least ≤ length (entries_at q child) = omega (arith, inner.enough, a.3) in
        let wide =
        below_cover ours ours_lawful p h.way.level e h.goes.fits (n - 1) (suc below) child (omega (arith, levels)) inner.child child_once
        (omega (arith, inner.enough)) q is (omega (arith, many)) in
        let old = same_entry_lem q a.1 (omega arith) many in
        record {
          fitted = holds_ready b;
          leads = subst⁻¹ (λ (x : Pool). LeadsOn x s at) b.is (leads q a.1 (omega arith) many);
          child = subst⁻¹
              (λ (y : Option Entry). MatchOption y (tighten (read v) s at ≡ widened (read v) s at e.rect) (λ x. Here (tighten (read v) s at) s x)) one
              (subst⁻¹ (λ (x : Pool). tighten x s at ≡ widened x s at e.rect) b.is
              (tighten_widened q s at e.rect (rw old (wide ∙ ap (λ (r : Rect). cover r e.rect) (sym inner.tight)))));
        }

    split_back : (q : Pool) (x : Entry) (g : Growth) (v : List ℤ)
        → G.Grows p (suc below) child h.way.level e (slots_in p (suc below) child) (Split q x) → g.partner ≡ Some x
        → HoldsPool q g.free v → Back v s at e.rect g
    split_back q x g v a two b =
        let t = tighten_grew p below s tree at there once q a.1 (omega arith) a.3 in
        record {
          fitted = holds_ready b;
          leads = subst⁻¹ (λ (u : Pool). LeadsOn u s at) b.is (leads q a.1 (omega arith) a.3);
          child = subst⁻¹
              (λ (y : Option Entry). MatchOption y (tighten (read v) s at ≡ widened (read v) s at e.rect) (λ x. Here (tighten (read v) s at) s x)) two
              (subst⁻¹ (λ (u : Pool). Here (tighten u s at) s x) b.is (record {
                level = suc (suc below);
                tree = t.tree;
                goes = inner_goes (tighten q s at) below x (t.fit x (Memᴰ.head refl));
                few = omega (arith, h.way.few, levels);
              }));
        }

    on_back : (o : Grown) (g : Growth) (v : List ℤ) → insert_below ours (n - 1) p child e ≡ o
        → G.Grows p (suc below) child h.way.level e (slots_in p (suc below) child) o → GrewTo o (Some g) v → Back v s at e.rect g
    on_back (Kept q) g v is a b = kept_back q g v is a b.0 b.1
    on_back (Split q x) g v is a b = split_back q x g v a b.0 b.1
    on_back Full g v is a b = absurd b

    -- as the code has it: a place, and the child of the entry there
    module _ (i : ℕ) (c : SlotNumber) (place : i ≡ at) (leads-to : c ≡ child_of (entry_at p s i)) where
      child_is : c ≡ child
      child_is = W.child_is h.way more i c place leads-to

      pub goes_down : GoesDown p (n - 1) c e
      goes_down = subst⁻¹ (λ (t : SlotNumber). GoesDown p (n - 1) t e) child_is down

      pub way_back : (g : Growth) (v : List ℤ) → GrewTo (insert_below ours (n - 1) p c e) (Some g) v → Back v s i e.rect g
      way_back g v b =
          subst⁻¹ (λ (k : ℕ). Back v s k e.rect g) place
          (on_back (insert_below ours (n - 1) p child e) g v refl grew (subst (λ (t : SlotNumber). GrewTo (insert_below ours (n - 1) p t e) (Some g) v) child_is b))

      below_as : insert_below ours n p s e ≡ adjust ours s i (insert_below ours (n - 1) p c e)
      below_as =
          let k : n ≡ suc (n - 1) = omega arith in
          ap (λ (m : ℕ). insert_below ours m p s e) k ∙ below_down ours (n - 1) p s e
          ∙ ap (λ (t : SlotNumber). adjust ours s at (insert_below ours (n - 1) p t e)) (sym child_is)
          ∙ ap (λ (j : ℕ). adjust ours s j (insert_below ours (n - 1) p c e)) (sym place)

      pub way_up_lem : (g : Growth) (v : List ℤ) → GrewTo (insert_below ours (n - 1) p c e) (Some g) v → (r : Option Growth) (u : List ℤ)
          → GrewTo (adjust ours s i (grown_of (read v) g)) r u → GrewTo (insert_below ours n p s e) r u
      way_up_lem g v b r u a =
          subst⁻¹ (λ (o : Grown). GrewTo o r u) (below_as ∙ ap (adjust ours s i) (grown_is (insert_below ours (n - 1) p c e) g v b)) a

      -- where no slot is free below, there is none here
      pub way_full : (v : List ℤ) → GrewTo (insert_below ours (n - 1) p c e) None v → GrewTo (insert_below ours n p s e) None v
      way_full v b =
          subst⁻¹ (λ (o : Grown). GrewTo o None v)
          (below_as ∙ ap (adjust ours s i) (full_is (insert_below ours (n - 1) p c e) v b) ∙ adjust_full ours s i) tt
