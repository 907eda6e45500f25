-- CT3 and CT4 at one node, as the code leaves it: the pool, the entries set aside, and what is known of the free slots.
use mathlib.Core.Path.{◌≡◌, sym, ap, subst, subst⁻¹, ◌∙◌}
use mathlib.Core.Logic.{◌≢◌}
use mathlib.Core.List.{List, ◌++◌}
use Prim.Native.Nat.{ℕ, ◌≤◌, ◌<◌}
use native.Mathlib.Omega.{arith}
use lib.ListN.{length, set}
use lib.IntN.{ℤ}
use Rattle.rules.specs.declared.SlotNumber.{SlotNumber}
use Rattle.rules.specs.declared.Entry.{Entry}
use Rattle.rules.specs.Lists.{without}
use Rattle.rules.specs.Numbers.{least}
use Rattle.rules.specs.Pool.{Node, Pool, node, node_at, entries_at, entry_at, child_of, entry_for, put_entries, zero_slot, tighten}
use Rattle.rules.specs.Layout.{read}
use Rattle.rules.specs.Delete.{place, Condensed, take_out, asides, relieve}
use Rattle.layout_laws.specs.Slots.{Fit}
use Rattle.free_slots.specs.declared.FreeSlots.{FreeSlots}
use Rattle.free_slots.specs.Known.{Known, more_slot}
use Rattle.free_slots.proofs.Known.{known_more, known_put}
use Rattle.nodes.specs.Reading.{LeadsOn}
use Rattle.sound_laws.specs.Tree.{Slot}
use Rattle.sound_laws.proofs.Frame.{put_length, put_other}
use Rattle.delete_laws.specs.Shrunk.{condensed}
use Rattle.delete_laws.proofs.Narrow.{relieve_few, relieve_enough}
use Rattle.delete.specs.declared.asides.Asides.{Asides}
use Rattle.delete.specs.Aside.{asides_of, Has, ChildAt}

-- ---- the entry leads to its child

pub child_leads : {p : Pool} {s : SlotNumber} {i : ℕ} {t : SlotNumber} → ChildAt p s i t → LeadsOn p s i
child_leads {p} c =
    let to = subst⁻¹ (Slot p) c.is c.slot in
    record {
      low = c.parent.slot.low;
      high = c.parent.slot.high;
      inner = c.inner;
      there = c.there;
      child_low = to.low;
      child_high = to.high;
    }

-- ---- what is known of the free slots

module _ (p : Pool) (f : FreeSlots) (k : Known p f) where
  -- the entries of a node in use are written again
  entries_known : (s : SlotNumber) → Slot p s → (node_at p s).level ≢ 0 → (es : List Entry) → Known (put_entries p s es) f
  unfolding put_entries
  entries_known s h u es = known_put p f k s h.low h.high u (node (node_at p s).level es) u

  pub out_known : (s : SlotNumber) → Slot p s → (node_at p s).level ≢ 0 → (i : ℕ) → Known (take_out p (place s i)) f
  unfolding take_out
  out_known s h u i = entries_known s h u (without i (entries_at p s))

  module _ (s : SlotNumber) (i : ℕ) (t : SlotNumber) (c : ChildAt p s i t) where
    parent_used : (node_at p s).level ≢ 0
    parent_used e = omega (arith, e, c.inner)

    pub tight_known : Known (tighten p s i) f
    unfolding tighten
    tight_known = entries_known s c.parent.slot parent_used (set (entries_at p s) i (entry_for p (child_of (entry_at p s i))))

    -- the child is where it was when its entry is out
    out_child : node_at (take_out p (place s i)) t ≡ node_at p t
    unfolding take_out put_entries
    out_child =
        put_other p s (node (node_at p s).level (without i (entries_at p s))) t c.parent.slot.low c.slot.low c.apart

    pub out_slot : Slot (take_out p (place s i)) t
    unfolding take_out put_entries
    out_slot = record {
      low = c.slot.low;
      high = omega (arith, c.slot.high, put_length p s (node (node_at p s).level (without i (entries_at p s))));
    }

    pub gone_known : Known (zero_slot (take_out p (place s i)) t) (more_slot f t)
    unfolding zero_slot
    gone_known =
        known_more (take_out p (place s i)) f (out_known s c.parent.slot parent_used i) t out_slot.low out_slot.high
        (subst (λ (n : Node). n.level ≢ 0) (sym out_child) c.used)

-- ---- the one or the other

module _ (w : List ℤ) (s : SlotNumber) (i : ℕ) (t : SlotNumber) (a : Asides) (c : ChildAt (read w) s i t) (k : Known (read w) a.free) where
  abbrev before : Condensed
  before = condensed (read w) (asides_of a)

  -- it leaves its parent
  pub has_gone : length (entries_at (read w) t) < least → (r : Asides) → asides_of r ≡ asides_of a ++ asides (read w) t
      → (f : FreeSlots) → f ≡ a.free → r.free ≡ more_slot f t
      → (q : Pool) → q ≡ take_out (read w) (place s i) → (v : List ℤ) → read v ≡ zero_slot q t → Fit v
      → Has (relieve (place s i) t before) r v
  has_gone few r list f same free q out v zero fit =
      subst (λ (d : Condensed). Has d r v) (sym (relieve_few (place s i) t before few)) (record {
        pool = record {
          fit = fit;
          is = zero ∙ ap (λ (z : Pool). zero_slot z t) out;
          known = rw (free, same) (gone_known (read w) a.free k s i t c);
        };
        list = list;
      })

  -- its entry is made tight
  pub has_tight : least ≤ length (entries_at (read w) t) → (v : List ℤ) → read v ≡ tighten (read w) s i → Fit v
      → Has (relieve (place s i) t before) a v
  has_tight enough v tight fit =
      subst (λ (d : Condensed). Has d a v) (sym (relieve_enough (place s i) t before enough)) (record {
        pool = record { fit = fit; is = tight; known = tight_known (read w) a.free k s i t c };
        list = λ j. asides_of a;
      })
