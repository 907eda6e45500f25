-- Up the way: at each level the tree below has shrunk as CondenseTree says, and the node above is as it was.
use mathlib.Core.Path.{◌≡◌, refl, sym, ap, subst, subst₂, ◌∙◌}
use mathlib.Core.List.{List, [], ◌∷◌}
use Prim.Native.Nat.{ℕ, zero, suc, ◌+◌, ◌-◌, ◌*◌, ◌≤◌, ◌<◌}
use native.Mathlib.Decide.{dec_le}
use native.Mathlib.Omega.{arith}
use lib.ListN.{length, get_or}
use lib.IntN.{ℤ}
use Rattle.rules.specs.declared.SlotNumber.{SlotNumber}
use Rattle.rules.specs.declared.Record.{Record}
use Rattle.rules.specs.declared.Entry.{Entry}
use Rattle.rules.specs.Numbers.{most_slots}
use Rattle.rules.specs.Pool.{Node, Pool, node_at, entries_at, entry_from, entry_at, child_of}
use Rattle.rules.specs.Layout.{read}
use Rattle.rules.specs.Delete.{Place, place, Path, Condensed, take_out, relieve, condense}
use Rattle.layout_laws.specs.Slots.{Fit, SmallAll}
use Rattle.free_slots.specs.declared.FreeSlots.{FreeSlots}
use Rattle.free_slots.specs.Known.{Known}
use Rattle.sound_laws.specs.Tree.{slots_in, Once, Tree}
use Rattle.sound_laws.proofs.Walk.{tree_node, tree_positive, within}
use Rattle.sound_laws.proofs.Frame.{entries_same}
use Rattle.sound_laws.proofs.Apart.{once_child}
use Rattle.insert_laws.proofs.Install.{other_level}
use Rattle.insert_laws.proofs.Beside.{among_here, child_entry}
use Rattle.delete_laws.specs.Way.{Leads}
use Rattle.delete_laws.specs.Shrunk.{Shrunk, condensed}
use Rattle.delete_laws.proofs.Condense.{leads_from, condense_shrunk}
use Rattle.find_leaf.specs.declared.Step.{Step}
use Rattle.find_leaf.specs.declared.Way.{Way}
use Rattle.find_leaf.specs.Ways.{no_step, path_of}
use Rattle.delete.specs.declared.asides.Asides.{Asides}
use Rattle.delete.specs.Aside.{asides_of, Has, Rewritable, ChildAt, ComesDown}
use Rattle.delete.proofs.Nodes.{tree_rewritable}
use Rattle.delete.proofs.Listed.{asides_length}
use Rattle.delete.proofs.Relieved.{out_known}

-- ---- the way's node and place of a level, counted from 0

abbrev pub node_on : List Step → ℕ → SlotNumber
node_on ss l = (get_or ss l no_step).node

abbrev pub place_on : List Step → ℕ → ℕ
place_on ss l = (get_or ss l no_step).place

-- .. and up from what the leaf left, m levels
pub climb : Condensed → List Step → ℕ → Condensed
climb x ss zero = x
climb x ss (suc m) = relieve (place (node_on ss (suc m)) (place_on ss (suc m))) (node_on ss m) (climb x ss m)

climb_is : (p : Pool) (way : Way) (m : ℕ) → condense p (path_of (suc m) way) ≡ climb (condense p (path_of 1 way)) way.steps m
unfolding condense path_of climb
climb_is p way zero = refl
climb_is p way (suc m) =
    ap (relieve (place (node_on way.steps (suc m)) (place_on way.steps (suc m))) (node_on way.steps m)) (climb_is p way m)

pub condense_leaf : (p : Pool) (way : Way) → condense p (path_of 1 way) ≡ condensed (take_out p (place (node_on way.steps 0) (place_on way.steps 0))) []
unfolding condense path_of
condense_leaf p way = refl

-- ---- the tree at each level of the way

head_node : {a b : Place} {xs ys : Path} → a ∷ xs ≡ b ∷ ys → a.node ≡ b.node
head_node e = cc

first_at : {a b : Place} {xs ys : Path} → a ∷ xs ≡ b ∷ ys → a.at ≡ b.at
first_at e = cc

tail_is : {a b : Place} {xs ys : Path} → a ∷ xs ≡ b ∷ ys → xs ≡ ys
tail_is e = cc

module _ (p : Pool) (r : Record) (way : Way) where
  abbrev top : ℕ → SlotNumber
  top l = node_on way.steps l

  abbrev at : ℕ → ℕ
  at l = place_on way.steps l

  pub record OnWay (l : ℕ) : Type 0 where
    pub tree : Tree p (suc l) (top l)
    pub once : Once (slots_in p (suc l) (top l))
    pub leads : Leads p r (suc l) (top l) (path_of (suc l) way)

  places_more : (l : ℕ) → path_of (suc l) way ≡ place (top l) (at l) ∷ path_of l way
  unfolding path_of
  places_more l = refl

  -- the entry that is passed is there
  pub on_there : (l : ℕ) → OnWay l → at l < length (entries_at p (top l))
  unfolding Leads
  on_there zero o =
      let e = sym (places_more 0) ∙ o.leads.1 in
      let same = first_at e in
      omega (arith, o.leads.2, same)
  on_there (suc l) o =
      let e = sym (places_more (suc l)) ∙ o.leads.2 in
      let same = first_at e in
      omega (arith, o.leads.3, same)

  pub on_child : (l : ℕ) → OnWay (suc l) → (child_of (entry_at p (top (suc l)) (at (suc l))) ≡ top l)
      × Leads p r (suc l) (child_of (entry_at p (top (suc l)) (at (suc l)))) (path_of (suc l) way)
  unfolding Leads
  on_child l o =
      let e = sym (places_more (suc l)) ∙ o.leads.2 in
      let same = first_at e in
      let more : Leads p r (suc l) (child_of (entry_at p (top (suc l)) (at (suc l)))) (path_of (suc l) way) =
      subst₂ (λ (i : ℕ) (z : Path). Leads p r (suc l) (child_of (entry_at p (top (suc l)) i)) z) (sym same) (sym (tail_is e)) o.leads.4 in
      let n = leads_from p r (suc l) (child_of (entry_at p (top (suc l)) (at (suc l)))) (path_of (suc l) way) more in
      (sym (head_node (sym (places_more l) ∙ n.2)), more)

  on_down : (l : ℕ) → OnWay (suc l) → OnWay l
  on_down l o =
      let x = entry_at p (top (suc l)) (at (suc l)) in
      let there = on_there (suc l) o in
      let c = on_child l o in
      let m = among_here p l (top (suc l)) o.tree (at (suc l)) there (at (suc l)) there in
      record {
        tree = subst (Tree p (suc l)) c.0 (child_entry p l (top (suc l)) o.tree (at (suc l)) there).child;
        once = subst (λ (t : SlotNumber). Once (slots_in p (suc l) t)) c.0 (once_child p l (top (suc l)) o.once x m);
        leads = subst (λ (t : SlotNumber). Leads p r (suc l) t (path_of (suc l) way)) c.0 c.1;
      }

  on_way : (h : ℕ) → OnWay h → (l : ℕ) → l ≤ h → OnWay l
  on_way zero o l e = let z : 0 ≡ l = omega arith in subst OnWay z o
  on_way (suc h) o l e = go (dec_le l h) (on_way h (on_down h o) l)
    where
      go : Dec (l ≤ h) → (l ≤ h → OnWay l) → OnWay l
      go (yes k) f = f k
      go (no k) f = let z : suc h ≡ l = omega arith in subst OnWay z o

  pub on_shrunk : (l : ℕ) → OnWay l → Shrunk p (suc l) (top l) r (condense p (path_of (suc l) way))
  on_shrunk l o = condense_shrunk p r (suc l) (top l) (path_of (suc l) way) o.tree o.once o.leads

  -- where the tree below has shrunk, the node above is as it was, and can be written
  pub on_next : length p.slots ≤ most_slots → (l : ℕ) → suc (suc l) ≤ most_slots → OnWay (suc l)
      → ChildAt (condense p (path_of (suc l) way)).pool (top (suc l)) (at (suc l)) (top l)
  unfolding entry_at
  on_next few l low o =
      let s = top (suc l) in
      let t = top l in
      let q = (condense p (path_of (suc l) way)).pool in
      let below = on_down l o in
      let g = on_shrunk l below in
      let here = tree_node p (suc (suc l)) s o.tree in
      let there = tree_node q (suc l) t g.tree in
      let same : node_at p s ≡ node_at q s =
      g.other s here.slot.low (λ m. omega (arith, (within p (suc l) t s below.tree m).high, here.level)) in
      let entries : entries_at p s ≡ entries_at q s = entries_same p q s same in
      let level : (node_at q s).level ≡ suc (suc l) = ap (λ (n : Node). n.level) (sym same) ∙ here.level in
      let parent = tree_rewritable p few (suc (suc l)) s low o.tree in
      record {
        parent = record {
          slot = record { low = here.slot.low; high = omega (arith, here.slot.high, g.long) };
          low = omega (arith, level, low);
          small = subst (λ (es : List Entry). SmallAll es (length es)) entries parent.small;
        };
        there = subst (λ (es : List Entry). at (suc l) < length es) entries (on_there (suc l) o);
        inner = omega (arith, level);
        slot = there.slot;
        used = λ e. omega (arith, e, there.level);
        apart = other_level q t s (λ e. omega (arith, e, level, there.level));
        is = subst (λ (es : List Entry). child_of (entry_from es (at (suc l))) ≡ t) entries (on_child l o).0;
      }

  on_few : (l : ℕ) → OnWay l → length (condense p (path_of (suc l) way)).set_aside ≤ 2 * l
  on_few l o = let g = on_shrunk l o in omega (arith, g.two_each, g.fewer)

-- ---- from what the code knows of the way

module _ (p : Pool) (way : Way) (h : ℕ) (d : ComesDown p h way) where
  pub down_high : 1 ≤ h
  down_high = tree_positive p h p.root d.tree

  top_is : (l : ℕ) → h ≡ suc l → p.root ≡ node_on way.steps l
  top_is l e =
      let k : Leads p d.pair (suc l) p.root (path_of (suc l) way) = rw e at d.leads in
      let n = leads_from p d.pair (suc l) p.root (path_of (suc l) way) k in
      sym (head_node (sym (places_more p d.pair way l) ∙ n.2))

  pub down_on : (l : ℕ) → l < h → OnWay p d.pair way l
  down_on l k = on_way p d.pair way (h - 1) whole l (omega arith)
    where
      is : h ≡ suc (h - 1)
      is = omega (arith, down_high)

      whole : OnWay p d.pair way (h - 1)
      whole =
          let root = top_is (h - 1) is in
          record {
            tree = subst₂ (λ (l : ℕ) (s : SlotNumber). Tree p l s) is root d.tree;
            once = subst₂ (λ (l : ℕ) (s : SlotNumber). Once (slots_in p l s)) is root d.once;
            leads = subst₂ (λ (l : ℕ) (s : SlotNumber). Leads p d.pair l s (path_of l way)) is root d.leads;
          }

  -- the leaf's entry can go out
  pub leaf_there : place_on way.steps 0 < length (entries_at p (node_on way.steps 0))
  leaf_there = on_there p d.pair way 0 (down_on 0 (omega (arith, down_high)))

  pub leaf_rewritable : length p.slots ≤ most_slots → Rewritable p (node_on way.steps 0)
  leaf_rewritable few = tree_rewritable p few 1 (node_on way.steps 0) (omega arith) (down_on 0 (omega (arith, down_high))).tree

  pub leaf_known : (f : FreeSlots) → Known p f → Known (take_out p (place (node_on way.steps 0) (place_on way.steps 0))) f
  leaf_known f k =
      let n = tree_node p 1 (node_on way.steps 0) (down_on 0 (omega (arith, down_high))).tree in
      out_known p f k (node_on way.steps 0) n.slot (λ e. omega (arith, e, n.level)) (place_on way.steps 0)

-- ---- the turns

-- what each level above the leaf asks
pub record Climbable (x : Condensed) (ss : List Step) (h : ℕ) : Type 0 where
  pub child : (l : ℕ) → 1 ≤ l → l < h → ChildAt (climb x ss (l - 1)).pool (node_on ss l) (place_on ss l) (node_on ss (l - 1))
  pub few : (l : ℕ) → 1 ≤ l → l < h → length (climb x ss (l - 1)).set_aside ≤ 12

-- the levels below l are done
pub record Climbing (w₀ : List ℤ) (h : ℕ) (ss : List Step) (w : List ℤ) (a : Asides) (l : ℕ) : Type 0 where
  pub low : 1 ≤ l
  pub high : l ≤ h
  pub levels : h ≤ 8
  pub steps : length ss ≡ 8
  pub long : length w ≡ length w₀
  pub ready : Climbable (condensed (read w₀) []) ss h
  pub has : Has (climb (condensed (read w₀) []) ss (l - 1)) a w

module _ {w₀ : List ℤ} {h : ℕ} {ss : List Step} {w : List ℤ} {a : Asides} {l : ℕ} (t : Climbing w₀ h ss w a l) where
  abbrev start : Condensed
  start = condensed (read w₀) []

  pub climbing_child : l < h → ChildAt (read w) (node_on ss l) (place_on ss l) (node_on ss (l - 1))
  climbing_child k =
      subst (λ (p : Pool). ChildAt p (node_on ss l) (place_on ss l) (node_on ss (l - 1))) (sym t.has.pool.is) (t.ready.child l t.low k)

  pub climbing_known : Known (read w) a.free
  climbing_known = subst (λ (p : Pool). Known p a.free) (sym t.has.pool.is) t.has.pool.known

  pub climbing_few : l < h → a.count ≤ 12
  climbing_few k =
      omega (
        arith,
        asides_length a,
        ap length t.has.list,
        t.ready.few l t.low k,
      )

  climb_next : climb start ss (l + 1 - 1) ≡ relieve (place (node_on ss l) (place_on ss l)) (node_on ss (l - 1)) (climb start ss (l - 1))
  unfolding climb
  climb_next =
      let e : l + 1 - 1 ≡ suc (l - 1) = omega (arith, t.low) in
      let f : suc (l - 1) ≡ l = omega (arith, t.low) in
      ap (climb start ss) e
      ∙ ap (λ (k : ℕ). relieve (place (node_on ss k) (place_on ss k)) (node_on ss (l - 1)) (climb start ss (l - 1))) f

  -- one level up
  pub climbing_next : l < h → (v : List ℤ) → length v ≡ length w → (b : Asides)
      → Has (relieve (place (node_on ss l) (place_on ss l)) (node_on ss (l - 1)) (condensed (read w) (asides_of a))) b v
      → Climbing w₀ h ss v b (l + 1)
  climbing_next k v e b g =
      let now : condensed (read w) (asides_of a) ≡ climb start ss (l - 1) = λ i. condensed (t.has.pool.is i) (t.has.list i) in
      let up = ap (relieve (place (node_on ss l) (place_on ss l)) (node_on ss (l - 1))) now ∙ sym climb_next in
      record {
        low = omega arith;
        high = omega arith;
        levels = t.levels;
        steps = t.steps;
        long = e ∙ t.long;
        ready = t.ready;
        has = subst (λ (d : Condensed). Has d b v) up g;
      }

-- ---- the first and the last

module _ (p : Pool) (way : Way) (h : ℕ) (d : ComesDown p h way) (w : List ℤ)
    (out : read w ≡ take_out p (place (node_on way.steps 0) (place_on way.steps 0))) where
  first_is : condense p (path_of 1 way) ≡ condensed (read w) []
  first_is = condense_leaf p way ∙ ap (λ (q : Pool). condensed q []) (sym out)

  climb_at : (l : ℕ) → 1 ≤ l → condense p (path_of l way) ≡ climb (condensed (read w) []) way.steps (l - 1)
  climb_at zero k = absurd (omega arith)
  climb_at (suc l) k =
      let e : l ≡ suc l - 1 = omega arith in
      climb_is p way l ∙ ap (λ (x : Condensed). climb x way.steps l) first_is
      ∙ ap (climb (condensed (read w) []) way.steps) e

  ready_at : length p.slots ≤ most_slots → (l : ℕ) → 1 ≤ l → l < h
      → ChildAt (climb (condensed (read w) []) way.steps (l - 1)).pool (node_on way.steps l) (place_on way.steps l) (node_on way.steps (l - 1))
  ready_at few zero k m = absurd (omega arith)
  ready_at few (suc l) k m =
      let e : l ≡ suc l - 1 = omega arith in
      subst₂ (λ (x : Condensed) (j : ℕ). ChildAt x.pool (node_on way.steps (suc l)) (place_on way.steps (suc l)) (node_on way.steps j))
      (climb_at (suc l) k) e (on_next p d.pair way few l (omega (arith, d.high)) (down_on p way h d (suc l) m))

  few_at : (l : ℕ) → 1 ≤ l → l < h → length (climb (condensed (read w) []) way.steps (l - 1)).set_aside ≤ 12
  few_at zero k m = absurd (omega arith)
  few_at (suc l) k m =
      omega (
        arith,
        on_few p d.pair way l (down_on p way h d l (omega arith)),
        d.high,
        ap (λ (x : Condensed). length x.set_aside) (climb_at (suc l) k),
      )

  pub climbing_first : length p.slots ≤ most_slots → Fit w → (f : FreeSlots) → Known p f → (a : Asides) → asides_of a ≡ [] → a.free ≡ f
      → Climbing w h way.steps w a 1
  unfolding climb
  climbing_first few fit f known a none free = record {
    low = omega arith;
    high = down_high p way h d;
    levels = d.high;
    steps = d.long;
    long = refl;
    ready = record { child = ready_at few; few = few_at };
    has = record {
      pool = record { fit = fit; is = refl; known = subst₂ Known (sym out) (sym free) (leaf_known p way h d f known) };
      list = none;
    };
  }

  pub climbing_last : (v : List ℤ) (a : Asides) (l : ℕ) → Climbing w h way.steps v a l → h ≤ l → Has (condense p (path_of h way)) a v
  climbing_last v a l t k =
      let e : l ≡ h = omega (arith, t.high) in
      let is = ap (λ (j : ℕ). climb (condensed (read w) []) way.steps (j - 1)) e ∙ sym (climb_at h (down_high p way h d)) in
      subst (λ (x : Condensed). Has x a v) is t.has
