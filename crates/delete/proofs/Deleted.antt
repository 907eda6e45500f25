-- Delete as the code has it: the count, CondenseTree, the entries set aside, the root. Each step leaves what the next one asks.
use mathlib.Core.Path.{◌≡◌, refl, sym, ap, subst, subst₂, ◌∙◌}
use mathlib.Core.Bool.{true, false}
use mathlib.Core.List.{List, []}
use Rattle.std.specs.Prelude.{Option, None, Some}
use Prim.Native.Nat.{ℕ, ◌-◌, ◌≤◌}
use native.Mathlib.Omega.{arith}
use lib.ListN.{length}
use lib.IntN.{ℤ}
use Rattle.rules.specs.declared.Record.{Record}
use Rattle.rules.specs.Owners.{owner_sound}
use Rattle.rules.specs.Pool.{Pool, record_of, node_at, entries_at, stored, put_records}
use Rattle.rules.specs.Sound.{owners_sound}
use Rattle.rules.specs.Layout.{read}
use Rattle.rules.specs.Insert.{Change, Done, NoneFree, ours}
use Rattle.rules.specs.Delete.{Path, Condensed, path_to, condense, shorten, shortened, reinsert, put_back, delete_record}
use Rattle.rules_laws.proofs.Splits.{ours_lawful}
use Rattle.rules_laws.proofs.Parts.{counted, those_all}
use Rattle.rules_laws.proofs.Places.{Among}
use Rattle.rules_laws.proofs.Everies.{every_is}
use Rattle.layout_laws.specs.Slots.{Fit, InPool}
use Rattle.free_slots.specs.declared.FreeSlots.{FreeSlots}
use Rattle.free_slots.specs.Known.{Known}
use Rattle.free_slots.proofs.Known.{known_records}
use Rattle.sound_laws.specs.Tree.{Whole}
use Rattle.sound_laws.proofs.Heights.{height_eight}
use Rattle.insert_laws.specs.Standing.{Standing}
use Rattle.insert_laws.proofs.Standing.{standing_once}
use Rattle.insert_laws.proofs.Whole.{whole_standing}
use Rattle.delete_laws.specs.Way.{Leads, EachWay, Found, leaf_of, KeepsEnough}
use Rattle.delete_laws.specs.Shrunk.{Shrunk, Waiting, PutBack, EachPool, condensed}
use Rattle.delete_laws.proofs.Finds.{find_leads}
use Rattle.delete_laws.proofs.Held.{held_stored, find_held}
use Rattle.delete_laws.proofs.Again.{reinsert_puts}
use Rattle.delete_laws.proofs.Delete.{short_done, short_none, back_is, stands, way_leads, out, out_is, shrunk, waiting, aside_stored, delete_found}
use Rattle.delete_laws.proofs.Lasting.{condense_edition}
use Rattle.delete_laws.proofs.Keeps.{delete_kept}
use Rattle.find_leaf.specs.declared.Way.{Way}
use Rattle.find_leaf.specs.Ways.{path_of, Gives}
use Rattle.insert.specs.Left.{HoldsPool}
use Rattle.insert.proofs.Records.{records_few}
use Rattle.delete.specs.declared.asides.Asides.{Asides}
use Rattle.delete.specs.Removed.{Removes}
use Rattle.delete.specs.Aside.{asides_of, OwnedAside, Has, ComesDown, thin_at, StillKnown}
use Rattle.delete.proofs.Nodes.{few_read, in_pool_lem}
use Rattle.delete.proofs.Climb.{node_on, down_high, leaf_rewritable}
use Rattle.delete.proofs.Stops.{thin_keeps, way_leaf}

shows_some : (o : Option Path) (l : ℕ) (way : Way) → Gives o l (Some way) → (o ≡ Some (path_of l way)) × (length way.steps ≡ 8)
shows_some None l way h = absurd h
shows_some (Some path) l way h = (ap Some (sym h.0), h.1.long)

-- a change that was made
removes_made : (Good : Pool → Type 0) (v : List ℤ) (f : FreeSlots) (w : List ℤ) (c : Change) → EachPool Good c → Removes v c (Some f) w
    → (q : Pool) × (c ≡ Done q) × Good q × HoldsPool q f w
removes_made Good v f w (Done q) g h = (q, refl, g, h)
removes_made Good v f w NoneFree g h = absurd h

removes_none : (v w : List ℤ) (c : Change) → Removes v c None w → c ≡ NoneFree
removes_none v w (Done q) h = absurd h
removes_none v w NoneFree h = refl

-- .. in words as long as these
removes_from : (w v : List ℤ) → length v ≡ length w → (c : Change) (o : Option FreeSlots) (u : List ℤ) → Removes v c o u → Removes w c o u
removes_from w v e (Done q) (Some f) u h = h
removes_from w v e (Done q) None u h = absurd h
removes_from w v e NoneFree (Some f) u h = absurd h
removes_from w v e NoneFree None u h = h ∙ e

-- ---- what was set aside is put back, and the tree is shortened

module _ (w : List ℤ) (a : Asides) (waits : Waiting (read w) (asides_of a)) (v : List ℤ) where
  back : put_back ours (condensed (read w) (asides_of a)) ≡ shortened (reinsert ours (read w) (asides_of a))
  back = back_is ours (condensed (read w) (asides_of a))

  -- an entry found no slot
  pub back_refused : Removes w (reinsert ours (read w) (asides_of a)) None v → length v ≡ length w
      → Removes w (put_back ours (condensed (read w) (asides_of a))) None v
  back_refused b long =
      let none = back ∙ ap shortened (removes_none w v (reinsert ours (read w) (asides_of a)) b) ∙ short_none ours in
      subst (λ (c : Change). Removes w c None v) (sym none) long

  -- all are back
  module _ (f : FreeSlots) (b : Removes w (reinsert ours (read w) (asides_of a)) (Some f) v) where
    made : (q : Pool) × (reinsert ours (read w) (asides_of a) ≡ Done q) × PutBack (read w) (asides_of a) q × HoldsPool q f v
    made =
        removes_made (PutBack (read w) (asides_of a)) w f v (reinsert ours (read w) (asides_of a))
        (reinsert_puts ours ours_lawful (asides_of a) (read w) waits) b

    pub made_fit : Fit v
    made_fit = made.3.fit

    pub made_stands : Standing (read v) []
    made_stands = subst (λ (q : Pool). Standing q []) (sym made.3.is) made.2.stands

    pub made_known : Known (read v) f
    made_known = subst (λ (q : Pool). Known q f) (sym made.3.is) made.3.known

    pub back_made : (g : FreeSlots) (u : List ℤ) → HoldsPool (shorten (read v)) g u
        → Removes w (put_back ours (condensed (read w) (asides_of a))) (Some g) u
    back_made g u k =
        let is = back ∙ ap shortened made.1 ∙ short_done ours made.0 ∙ ap (λ (q : Pool). Done (shorten q)) (sym made.3.is) in
        subst (λ (c : Change). Removes w c (Some g) u) (sym is) k

-- ---- the steps

-- what a delete is asked with
pub record ToDelete (w₀ : List ℤ) (r : Record) (way : Way) : Type 0 where
  pub fit : Fit w₀
  pub whole : Whole (read w₀)
  pub owned : owners_sound (read w₀) ≡ true
  pub shows : Gives (path_to (read w₀) r) (read w₀).height (Some way)

pub asked : {w₀ : List ℤ} {r : Record} {way : Way} → Fit w₀
    → Whole (read w₀) × (owners_sound (read w₀) ≡ true)
    → Gives (path_to (read w₀) r) (read w₀).height (Some way) → ToDelete w₀ r way
asked fit whole shows = record { fit = fit; whole = whole.0; owned = whole.1; shows = shows }

-- .. and w₁ is w₀ with one record fewer in the count, h its height
pub record CountedOff (w₀ : List ℤ) (h : ℕ) (w₁ : List ℤ) : Type 0 where
  pub level : h ≡ (read w₀).height
  pub less : read w₁ ≡ put_records (read w₀) ((read w₀).records - 1)

pub counted_off : {w₀ : List ℤ} {h : ℕ} {w₁ : List ℤ} → h ≡ (read w₀).height
    → read w₁ ≡ put_records (read w₀) ((read w₀).records - 1) → CountedOff w₀ h w₁
counted_off level less = record { level = level; less = less }

module _ {w₀ : List ℤ} {r : Record} {way : Way} (g : ToDelete w₀ r way) where
  abbrev p : Pool
  p = read w₀

  abbrev path : Path
  path = path_of p.height way

  abbrev less : Pool
  less = put_records p (p.records - 1)

  pub finds : path_to p r ≡ Some path
  finds = (shows_some (path_to p r) p.height way g.shows).0

  led : Leads p r p.height p.root path
  led = subst (EachWay (Leads p r p.height p.root)) finds (find_leads p r p.height p.root)

  high : p.height ≤ 8
  high = height_eight p g.whole (few_read g.fit)

  -- the pair is one of the records
  stored_owned : (x : Record) → Among x (stored p) → owner_sound p.edition x.owner ≡ true
  unfolding owners_sound
  stored_owned = (every_is (λ (x : Record). owner_sound p.edition x.owner) (stored p)).0 g.owned

  pub some_record : 1 ≤ p.records
  some_record =
      let h = (find_held p g.whole r).1 (subst Found (sym finds) tt) in
      omega (arith, g.whole.counted, counted (λ x. true) (held_stored r p h) refl, ap length (those_all (stored p)))

  pub records_small : p.records ≤ 2147483647
  records_small = omega (arith, records_few w₀ g.fit.right g.whole)

  -- the way comes down to the pair
  pub whole_way : ComesDown p p.height way
  whole_way = record {
    pair = r;
    tree = g.whole.tree;
    once = standing_once p [] (whole_standing p g.whole);
    leads = led;
    long = (shows_some (path_to p r) p.height way g.shows).1;
    high = high;
  }

  found_keeps : thin_at p (node_on way.steps 0) ≡ false → KeepsEnough p p.height (leaf_of path)
  found_keeps thick =
      subst (KeepsEnough p p.height) (sym (way_leaf way p.height (down_high p way p.height whole_way)))
      (thin_keeps p (node_on way.steps 0) thick)

  -- the count goes down by one
  module _ {h : ℕ} {w₁ : List ℤ} (u : CountedOff w₀ h w₁) where
    pub down_way : ComesDown (read w₁) h way
    unfolding put_records
    down_way =
        subst₂ (λ (q : Pool) (l : ℕ). ComesDown q l way) (sym u.less) (sym u.level) (record {
          pair = r;
          tree = (stands ours ours_lawful p g.whole r path led).tree;
          once = standing_once less [] (stands ours ours_lawful p g.whole r path led);
          leads = way_leads ours ours_lawful p g.whole r path led;
          long = (shows_some (path_to p r) p.height way g.shows).1;
          high = high;
        })

    pub down_known : (f : FreeSlots) → Known p f → Known (read w₁) f
    down_known f k = subst (λ (q : Pool). Known q f) (sym u.less) (known_records p f k (p.records - 1))

    -- ---- a leaf that is not thin

    pub leaf_in : Fit w₁ → InPool w₁ (node_on way.steps 0)
    leaf_in f = in_pool_lem f (leaf_rewritable (read w₁) way h down_way (few_read f)).slot

    module _ (thick : thin_at (read w₁) (node_on way.steps 0) ≡ false) where
      all_keeps : KeepsEnough p p.height (leaf_of path)
      unfolding thin_at put_records entries_at node_at
      all_keeps = found_keeps (subst (λ (q : Pool). thin_at q (node_on way.steps 0) ≡ false) u.less thick)

      pub way_keeps : KeepsEnough (read w₁) h (leaf_of (path_of h way))
      unfolding put_records entries_at node_at
      way_keeps = subst₂ (λ (q : Pool) (l : ℕ). KeepsEnough q l (leaf_of (path_of l way))) (sym u.less) (sym u.level) all_keeps

      pub kept_made : (f : FreeSlots) → Known p f → (w₂ : List ℤ) → read w₂ ≡ (condense (read w₁) (path_of h way)).pool → Fit w₂
          → StillKnown (read w₁) (read w₂) → Removes w₀ (delete_record ours p r) (Some f) w₂
      kept_made f k w₂ e fit known =
          let is : read w₂ ≡ (condense less path).pool = e ∙ (λ i. (condense (u.less i) (path_of (u.level i) way)).pool) in
          let done = delete_kept ours ours_lawful p g.whole r path finds all_keeps in
          subst (λ (c : Change). Removes w₀ c (Some f) w₂) (sym done) (record {
            fit = fit;
            is = is;
            known = subst (λ (q : Pool). Known q f) is (known f (down_known f k));
          })

    -- ---- CondenseTree is done

    module _ {a : Asides} {w₂ : List ℤ} (d : Has (condense (read w₁) (path_of h way)) a w₂) where
      abbrev done : Condensed
      done = out ours ours_lawful p g.whole r path led

      done_is : done ≡ condense less path
      done_is = out_is ours ours_lawful p g.whole r path led

      has : Has done a w₂
      has =
          subst (λ (x : Condensed). Has x a w₂) ((λ i. condense (u.less i) (path_of (u.level i) way)) ∙ sym done_is) d

      shrank : Shrunk less less.height less.root r done
      shrank = shrunk ours ours_lawful p g.whole r path led

      pub back_waits : Waiting (read w₂) (asides_of a)
      back_waits = subst₂ Waiting (sym has.pool.is) (sym has.list) (waiting ours ours_lawful p g.whole r path led)

      -- the edition is as it was, and each leaf entry set aside was stored
      back_edition : (read w₂).edition ≡ p.edition
      unfolding put_records
      back_edition = ap (λ (q : Pool). q.edition) has.pool.is ∙ ap (λ (x : Condensed). x.pool.edition) done_is ∙ condense_edition less path

      pub back_owned : OwnedAside (read w₂).edition (asides_of a)
      unfolding record_of
      back_owned = subst₂ OwnedAside (sym back_edition) (sym has.list) (record {
        each = aside_stored ours ours_lawful p g.whole r path led (λ (x : Record). owner_sound p.edition x.owner) stored_owned;
      })

      pub back_high : (read w₂).height ≤ 8
      unfolding put_records
      back_high = omega (arith, ap (λ (q : Pool). q.height) has.pool.is, shrank.head.height, high)

      pub back_known : Known (read w₂) a.free
      back_known = subst (λ (q : Pool). Known q a.free) (sym has.pool.is) has.pool.known

      delete_is : delete_record ours p r ≡ put_back ours (condensed (read w₂) (asides_of a))
      delete_is =
          delete_found ours p r path finds ∙ ap (put_back ours) (sym done_is)
          ∙ sym (λ i. put_back ours (condensed (has.pool.is i) (has.list i)))

      -- what was set aside is put back
      pub deleted : length w₂ ≡ length w₀ → (o : Option FreeSlots) (w₃ : List ℤ) → Removes w₂ (put_back ours (condensed (read w₂) (asides_of a))) o w₃
          → Removes w₀ (delete_record ours p r) o w₃
      deleted e o w₃ b =
          subst (λ (c : Change). Removes w₀ c o w₃) (sym delete_is)
          (removes_from w₀ w₂ e (put_back ours (condensed (read w₂) (asides_of a))) o w₃ b)
