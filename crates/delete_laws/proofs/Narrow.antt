-- CT3 and CT4: a child shrank. With fewer than 3 entries it leaves its parent, its entries are set aside and its slot is zeroed; else its
-- entry is made tight. No node of the other children's trees has changed, since no slot is in two of them (Others).
use mathlib.Core.Path.{◌≡◌, sym, ap, ◌∙◌}
use mathlib.Core.Logic.{◌≢◌, ⊎_elim}
use mathlib.Core.List.Memᴰ
use mathlib.Core.List.{List, ◌∷◌, ◌++◌, map}
use Prim.Native.Nat.{ℕ, suc, ◌≤◌, ◌<◌}
use native.Mathlib.Decide.{dec_le}
use native.Mathlib.Omega.{arith}
use borrow.Author.Tests.{lt-ltb, le-ltb}
use lib.ListN.{length, length-append}
use Rattle.rules.specs.declared.SlotNumber.{SlotNumber}
use Rattle.rules.specs.declared.Record.{Record}
use Rattle.rules.specs.declared.Entry.{Entry}
use Rattle.rules.specs.Lists.{total, without}
use Rattle.rules.specs.Numbers.{least}
use Rattle.rules.specs.Pool.{Node, Pool, node, free_node, node_at, entries_at, child_of, free_count, put_node, zero_slot, tighten}
use Rattle.rules.specs.Delete.{Place, place, Aside, Condensed, take_out, asides, relieve}
use Rattle.rules_laws.proofs.Places.{Among}
use Rattle.rules_laws.proofs.Parts.{length_without}
use Rattle.rules_laws.proofs.Sums.{total_more, total_alike}
use Rattle.sound_laws.specs.Tree.{slots_in, Once, Slot, NodeIn, Tree}
use Rattle.sound_laws.proofs.Times.{slot_discrete}
use Rattle.sound_laws.proofs.Walk.{tree_node, within_used, top_among}
use Rattle.sound_laws.proofs.Frame.{entries_same, put_length, put_same, put_other}
use Rattle.sound_laws.proofs.Free.{put_used, zero_freed}
use Rattle.insert_laws.specs.Grown.{Fits, Weights, weight_under}
use Rattle.insert_laws.proofs.Under.{under_inner, under_lower, under_used, entries_are, tree_made, weight_parts, weight_made, SameUnder, weight_frame, fits_frame, SameBelow, fits_below}
use Rattle.insert_laws.proofs.Install.{other_level, put_head, head_twice, put_entries_lem}
use Rattle.insert_laws.proofs.Beside.{child_at, parent_node, child_entry, child_inside, weight_child, beside_fits, beside_apart}
use Rattle.insert_laws.proofs.Beside.{Others, top_same, top_level, now_slot, beside_same, tight_many, tight_long, tight_other}
use Rattle.insert_laws.proofs.Beside.{tight_below, tight_free, tight_head, tight_tree, tight_weighs}
use Rattle.delete_laws.specs.Shrunk.{weight_aside, Shrunk, condensed}
use Rattle.delete_laws.proofs.Asides.{asides_many, weight_aside_append, weight_asides, asides_fit, weight_aside_below}

-- CT3: it has too few entries, or enough
module _ (a : Place) (t : SlotNumber) (d : Condensed) where
  pub relieve_few : length (entries_at d.pool t) < least
      → relieve a t d ≡ condensed (zero_slot (take_out d.pool a) t) (d.set_aside ++ asides d.pool t)
  unfolding relieve
  relieve_few h = rw (lt-ltb (length (entries_at d.pool t)) least h, relieve)

  pub relieve_enough : least ≤ length (entries_at d.pool t) → relieve a t d ≡ condensed (tighten d.pool a.node a.at) d.set_aside
  unfolding relieve
  relieve_enough h = rw (le-ltb (length (entries_at d.pool t)) least h, relieve)

module _ (p : Pool) (l : ℕ) (s : SlotNumber) (d : Tree p (suc (suc l)) s) (i : ℕ) (there : i < length (entries_at p s))
    (once : Once (slots_in p (suc (suc l)) s)) (r : Record) (x : Condensed) (g : Shrunk p (suc l) (child_at p s i) r x) where
  abbrev q : Pool
  q = x.pool

  abbrev child : SlotNumber
  child = child_at p s i

  beside : Others p l s i q
  beside = record { tree = d; there = there; once = once; long = g.long; kept = λ t u out. g.other t u.slot.low out }

  here : NodeIn p (suc (suc l)) s
  here = parent_node p l s d i there

  below : NodeIn p (suc l) child
  below = tree_node p (suc l) child (child_entry p l s d i there).child

  low_level : (node_at q child).level ≡ suc l
  low_level = (tree_node q (suc l) child g.tree).level

  inside_tree : (t : SlotNumber) → Among t (slots_in p (suc l) child) → Among t (slots_in p (suc (suc l)) s)
  inside_tree = child_inside p l s d i there

  -- a slot that was freed is one of the tree, and not the parent's
  freed_low : (t : SlotNumber) → Among t g.freed → 1 ≤ t.0
  freed_low t m = (within_used p (suc (suc l)) s t d (inside_tree t (g.inside t m))).slot.low

  freed_other : (t : SlotNumber) → Among t g.freed → t ≢ s
  freed_other t m = other_level q t s (λ e. omega (arith, top_level beside, ap (λ (n : Node). n.level) (g.zeroed t m)))

  -- ---- its entry is made tight

  tighten_shrunk : least ≤ length (entries_at q child) → Shrunk p (suc (suc l)) s r (condensed (tighten q s i) x.set_aside)
  tighten_shrunk enough = record {
    freed = g.freed;
    tree = tight_tree beside g.tree enough;
    fit = λ a m. fits_below q (tighten q s i) (suc (suc l)) (tight_below beside) a.level a.entry (omega (arith, g.low a m)) (g.fit a m) (tight_long beside);
    low = λ a m. omega (arith, g.low a m);
    weighs = λ w. omega (
      arith,
      tight_weighs beside g.tree enough w,
      weight_aside_below q (tighten q s i) w (suc (suc l)) (tight_below beside) x.set_aside (λ a m. (omega (arith, g.low a m), g.fit a m)),
      g.weighs w,
    );
    many = omega (arith, tight_many beside);
    inside = λ t m. inside_tree t (g.inside t m);
    zeroed = λ t m. sym (tight_other beside t (freed_low t m) (freed_other t m)) ∙ g.zeroed t m;
    two_each = g.two_each;
    fewer = omega (arith, g.fewer);
    spare = tight_free beside ∙ g.spare;
    long = g.long ∙ tight_long beside;
    head = head_twice g.head (tight_head beside);
    other = λ t low out.
        g.other t low (λ m. out (inside_tree t m)) ∙ tight_other beside t low (λ e. out (Memᴰ.cast e (top_among p (suc l) s)));
  }

  -- ---- it leaves its parent

  abbrev rest : List Entry
  rest = without i (entries_at p s)

  abbrev mid : Pool
  mid = put_node q s (node (suc (suc l)) rest)

  abbrev gone : Pool
  gone = put_node mid child free_node

  abbrev all : List Aside
  all = x.set_aside ++ asides q child

  gone_is : zero_slot (take_out q (place s i)) child ≡ gone
  unfolding zero_slot take_out
  gone_is =
      rw (← entries_same p q s (top_same beside))
      (ap (λ (z : Pool). put_node z child free_node) (put_entries_lem q (suc (suc l)) s rest (top_level beside)))

  gone_other : (t : SlotNumber) → 1 ≤ t.0 → t ≢ s → t ≢ child → node_at q t ≡ node_at gone t
  gone_other t low a b =
      sym (put_other mid child free_node t below.slot.low low b ∙ put_other q s (node (suc (suc l)) rest) t here.slot.low low a)

  apart : s ≢ child
  apart = other_level p s child (λ e. omega (arith, here.level, below.level))

  gone_at : node_at gone s ≡ node (suc (suc l)) rest
  gone_at =
      put_other mid child free_node s below.slot.low here.slot.low apart ∙ put_same q s (node (suc (suc l)) rest) (now_slot beside)

  gone_long : length q.slots ≡ length gone.slots
  gone_long = sym (put_length mid child free_node ∙ put_length q s (node (suc (suc l)) rest))

  gone_zero : node_at gone child ≡ free_node
  gone_zero =
      put_same mid child free_node (record {
        low = below.slot.low;
        high = omega (arith, below.slot.high, g.long, put_length q s (node (suc (suc l)) rest));
      })

  gone_below : SameBelow q gone (suc l)
  gone_below t u k =
      gone_other t u.slot.low (other_level q t s (λ e. omega (arith, top_level beside))) (other_level q t child (λ e. omega (arith, low_level)))

  fewer : suc (length rest) ≡ length (entries_at p s)
  fewer = length_without (entries_at p s) i there

  gone_same : (y : Entry) → Among y rest → SameUnder p gone (suc (suc l)) y
  gone_same y m t n =
      let u = under_used p (suc (suc l)) y t (beside_fits p l s d i there y m) n in
      let b : Among t (slots_in p (suc l) (child_of y)) = rw (under_inner p y l) at n in
      beside_same beside y m t n
      ∙ gone_other t u.slot.low
      (other_level p t s (λ e. omega (arith, here.level, under_lower p (suc (suc l)) y t (beside_fits p l s d i there y m) n)))
      (λ e. beside_apart p l s d i there y m once t b (Memᴰ.cast e (top_among p l child)))

  all_fit : (a : Aside) → Among a all → (a.level ≤ suc l) × Fits q a.level a.entry
  all_fit a m =
      ⊎_elim (λ n. (omega (arith, g.low a n), g.fit a n))
      (λ n. let h = asides_fit q (suc l) child g.tree a n in (omega (arith, h.0), h.1)) (Memᴰ.append_cases x.set_aside m)

  asides_weigh : (w : Weights) → weight_aside w q (asides q child) ≡ total (map (weight_under w q (suc l)) (entries_at q child))
  asides_weigh w = weight_asides q w child ∙ ap (λ (k : ℕ). total (map (weight_under w q k) (entries_at q child))) low_level

  zero_now : (t : SlotNumber) → Among t (child ∷ g.freed) → node_at gone t ≡ free_node
  zero_now t m = go (slot_discrete t child)
    where
      go : Dec (t ≡ child) → node_at gone t ≡ free_node
      go (yes e) = ap (node_at gone) e ∙ gone_zero
      go (no n) = ⊎_elim (λ e. absurd (n e)) freed (Memᴰ.cases_cons m)
        where
          freed : Among t g.freed → node_at gone t ≡ free_node
          freed k = sym (gone_other t (freed_low t k) (freed_other t k) n) ∙ g.zeroed t k

  mid_slot : Slot mid child
  mid_slot = record {
    low = below.slot.low;
    high = omega (arith, below.slot.high, g.long, put_length q s (node (suc (suc l)) rest));
  }

  gone_free : free_count gone ≡ suc (free_count q)
  gone_free =
      let same = put_other q s (node (suc (suc l)) rest) child here.slot.low below.slot.low (λ e. apart (sym e)) in
      omega (
        arith,
        zero_freed mid child mid_slot (omega (arith, low_level, ap (λ (n : Node). n.level) same)),
        put_used q s (node (suc (suc l)) rest) (now_slot beside) (omega arith) (omega (arith, top_level beside)),
      )

  gone_made : length (entries_at q child) < least → Shrunk p (suc (suc l)) s r (condensed gone all)
  gone_made small = record {
    freed = child ∷ g.freed;
    tree = tree_made gone s rest (record { low = here.slot.low; high = omega (arith, here.slot.high, g.long, gone_long) })
        (omega (arith, fewer, here.few)) (suc l) gone_at
        (λ y m. fits_frame p gone (g.long ∙ gone_long) (suc (suc l)) y (gone_same y m) (beside_fits p l s d i there y m));
    fit = λ a m. fits_below q gone (suc l) gone_below a.level a.entry (all_fit a m).0 (all_fit a m).1 gone_long;
    low = λ a m. omega (arith, (all_fit a m).0);
    weighs = λ w. omega (
      arith,
      weight_made w gone (suc l) s rest gone_at,
      total_alike (weight_under w gone (suc (suc l))) (weight_under w p (suc (suc l))) rest
          (λ y m. weight_frame p gone w (suc (suc l)) y (gone_same y m)),
      weight_aside_below q gone w (suc l) gone_below all all_fit,
      weight_aside_append q w x.set_aside (asides q child),
      asides_weigh w,
      weight_parts w q l child,
      g.weighs w,
      weight_child p l s d i there w,
      total_more w.of_slot child g.freed,
    );
    many = omega (arith, fewer, ap length (entries_are gone (suc (suc l)) s rest gone_at));
    inside = λ t m.
        ⊎_elim (λ e. inside_tree t (Memᴰ.cast e (top_among p l child))) (λ n. inside_tree t (g.inside t n)) (Memᴰ.cases_cons m);
    zeroed = zero_now;
    two_each = omega (
      arith,
      g.two_each,
      length-append x.set_aside (asides q child),
      asides_many q child,
      small,
    );
    fewer = omega (arith, g.fewer);
    spare = omega (arith, gone_free, g.spare);
    long = g.long ∙ gone_long;
    head = head_twice g.head (head_twice (put_head q s (node (suc (suc l)) rest)) (put_head mid child free_node));
    other = λ t low out.
        g.other t low (λ m. out (inside_tree t m))
        ∙ gone_other t low (λ e. out (Memᴰ.cast e (top_among p (suc l) s))) (λ e. out (inside_tree t (Memᴰ.cast e (top_among p l child))));
  }

  gone_shrunk : length (entries_at q child) < least → Shrunk p (suc (suc l)) s r (condensed (zero_slot (take_out q (place s i)) child) all)
  gone_shrunk small = rw gone_is (gone_made small)

  -- ---- the one or the other

  pub relieve_shrunk : Shrunk p (suc (suc l)) s r (relieve (place s i) child x)
  relieve_shrunk = go (dec_le least (length (entries_at q child)))
    where
      go : Dec (least ≤ length (entries_at q child)) → Shrunk p (suc (suc l)) s r (relieve (place s i) child x)
      go (yes h) = rw (relieve_enough (place s i) child x h) (tighten_shrunk h)
      go (no h) = let few : length (entries_at q child) < least = omega arith in rw (relieve_few (place s i) child x few) (gone_shrunk few)
