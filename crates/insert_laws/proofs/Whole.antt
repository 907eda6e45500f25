-- A record goes into a whole pool, and the pool is whole again: nothing was set aside, and the count went up by one, as the records of
-- the tree did.
use mathlib.Core.Path.{◌≡◌, refl, sym, ap, ◌∙◌}
use mathlib.Core.Logic.{◌⊎◌, inl, inr, ⊎_elim}
use mathlib.Core.Bool.{Bool, true}
use mathlib.Core.List.Memᴰ
use mathlib.Core.List.{List, [], ◌∷◌, ◌++◌}
use Prim.Native.Nat.{ℕ, suc, ◌+◌, ◌≤◌}
use native.Mathlib.Omega.{arith}
use lib.ListN.{length}
use Rattle.rules.specs.declared.SlotNumber.{SlotNumber}
use Rattle.rules.specs.declared.Record.{Record}
use Rattle.rules.specs.Lists.{those}
use Rattle.rules.specs.Numbers.{good_number}
use Rattle.rules.specs.Geometry.{valid}
use Rattle.rules.specs.Pool.{Pool, node_at, entries_at, number_of, owner_of, record_of, leaf_entry, stored, put_records}
use Rattle.rules.specs.Sound.{sound_pool}
use Rattle.rules.specs.Insert.{Choice, Done, insert_at, insert_record}
use Rattle.rules.specs.Lawful.{Lawful}
use Rattle.rules_laws.proofs.Places.{Among}
use Rattle.rules_laws.proofs.Parts.{those_all}
use Rattle.sound_laws.specs.Tree.{slots_in, records_in, tree_slots, tree_records, times, Used, LeafEntry, Whole}
use Rattle.sound_laws.proofs.Times.{times_none}
use Rattle.sound_laws.proofs.Frame.{entries_same, slots_frame, records_frame, tree_frame}
use Rattle.sound_laws.proofs.Whole.{stored_in, height_positive}
use Rattle.sound_laws.proofs.Sound.{whole_sound}
use Rattle.insert_laws.specs.Grown.{slots_under, records_under, Fits}
use Rattle.insert_laws.specs.Standing.{Standing, Put}
use Rattle.insert_laws.proofs.Under.{under_leaf, fits_leaf}
use Rattle.insert_laws.proofs.Standing.{put_count, standing_put, insert_standing}

-- ---- the number of records in the head is no part of the tree

module _ (p : Pool) (n : ℕ) where
  head_at : (t : SlotNumber) → node_at p t ≡ node_at (put_records p n) t
  unfolding node_at put_records
  head_at t = refl

  head_long : length p.slots ≡ length (put_records p n).slots
  unfolding put_records
  head_long = refl

  head_slots : (l : ℕ) (s : SlotNumber) → slots_in (put_records p n) l s ≡ slots_in p l s
  head_slots l s = slots_frame p (put_records p n) l s (λ t m. head_at t)

  pub head_records : (l : ℕ) (s : SlotNumber) → records_in (put_records p n) l s ≡ records_in p l s
  head_records l s = records_frame p (put_records p n) l s (λ t m. head_at t)

  head_stored : stored (put_records p n) ≡ stored p
  unfolding stored put_records
  head_stored = refl

  head_entries : (s : SlotNumber) → entries_at (put_records p n) s ≡ entries_at p s
  head_entries s = sym (entries_same p (put_records p n) s (head_at s))

  head_used : (s : SlotNumber) → Used (put_records p n) s → Used p s
  head_used s u = record {
    slot = record { low = u.slot.low; high = omega (arith, u.slot.high, head_long) };
    used = rw (head_at s) u.used;
  }

  used_head : (s : SlotNumber) → Used p s → Used (put_records p n) s
  used_head s u = record {
    slot = record { low = u.slot.low; high = omega (arith, u.slot.high, head_long) };
    used = rw (head_at s) at u.used;
  }

  pub head_standing : (aside : List SlotNumber) → Standing p aside → Standing (put_records p n) aside
  unfolding put_records
  head_standing aside w = record {
    tree = tree_frame p (put_records p n) head_long p.height p.root (λ t m. head_at t) w.tree;
    some = λ h. rw (head_entries p.root) (w.some h);
    used = λ s m. used_head s (w.used s m);
    once = λ s u. ap (λ (ss : List SlotNumber). times s ss + times s aside) (head_slots p.height p.root) ∙ w.once s (head_used s u);
    free = λ s k z. sym (head_at s) ∙ w.free s (record { low = k.low; high = omega (arith, k.high, head_long) }) (rw (head_at s) z);
  }

-- ---- whole pools stand, with nothing set aside

pub whole_standing : (p : Pool) → Whole p → Standing p []
whole_standing p w = record {
  tree = w.tree;
  some = λ h. omega (arith, w.two h);
  used = λ s m. absurd (Memᴰ.not-nil m);
  once = λ s u. omega (arith, w.once s u, times_none s);
  free = w.free;
}

pub standing_whole : (p : Pool) → Standing p [] → (2 ≤ p.height → 2 ≤ length (entries_at p p.root)) → p.records ≡ length (stored p) → Whole p
standing_whole p w two counted = record {
  tree = w.tree;
  two = two;
  once = λ s u. omega (arith, w.once s u, times_none s);
  free = w.free;
  counted = counted;
}

-- the stored records are those of the tree, whatever the head says of their number
pub standing_stored : (p : Pool) → Standing p [] → (2 ≤ p.height → 2 ≤ length (entries_at p p.root)) → (f : Record → Bool)
    → length (those f (stored p)) ≡ length (those f (tree_records p))
unfolding put_records
standing_stored p w two f =
    let n = length (stored p) in
    let same = ap length (sym (head_stored p n)) in
    let whole = standing_whole (put_records p n) (head_standing p n [] w) (λ h. rw (head_entries p n p.root) (two h)) same in
    ap (λ (rs : List Record). length (those f rs)) (sym (head_stored p n)) ∙ stored_in (put_records p n) whole f
    ∙ ap (λ (rs : List Record). length (those f rs)) (head_records p n p.height p.root)

-- ---- a record

record_leaf : (r : Record) → valid r.rect ≡ true → good_number r.number ≡ true → LeafEntry (leaf_entry r)
unfolding leaf_entry number_of
record_leaf r v n = record { rect = v; number = n }

under_record : (p : Pool) (r : Record) → records_under p 1 (leaf_entry r) ≡ r ∷ []
unfolding records_under record_of leaf_entry number_of owner_of
under_record p r = refl

-- the pool that the record goes into, which counts it already
abbrev pub record_counted : Pool → Pool
record_counted p = put_records p (p.records + 1)

module _ (p : Pool) (w : Whole p) where
  pub counted_stands : Standing (record_counted p) []
  counted_stands = head_standing p (p.records + 1) [] (whole_standing p w)

  pub counted_high : 1 ≤ (record_counted p).height
  unfolding put_records
  counted_high = height_positive p w

pub record_fits : (p : Pool) (r : Record) → valid r.rect ≡ true → good_number r.number ≡ true → Fits p 1 (leaf_entry r)
record_fits p r v n = fits_leaf p (leaf_entry r) (record_leaf r v n)

module _ (c : Choice) (lawful : Lawful c) (p : Pool) (w : Whole p) (r : Record) (v : valid r.rect ≡ true) (n : good_number r.number ≡ true)
    (q : Pool) (h : insert_record c p r ≡ Done q) where
  stands : Standing (record_counted p) (slots_under (record_counted p) 1 (leaf_entry r) ++ [])
  stands = rw (under_leaf (record_counted p) (leaf_entry r)) (counted_stands p w)

  at_one : insert_at c 1 (record_counted p) (leaf_entry r) ≡ Done q
  unfolding insert_record
  at_one = h

  -- what the tree and the pool have become
  pub insert_put_record : Put (record_counted p) 1 (leaf_entry r) q
  insert_put_record = standing_put c lawful (record_counted p) 1 (leaf_entry r) [] stands (record_fits (record_counted p) r v n) (counted_high p w) q at_one

  now : Standing q []
  now = insert_standing c lawful (record_counted p) 1 (leaf_entry r) [] stands (record_fits (record_counted p) r v n) (counted_high p w) q at_one

  two : 2 ≤ q.height → 2 ≤ length (entries_at q q.root)
  unfolding put_records
  two k =
      let old = head_entries p (p.records + 1) p.root in
      ⊎_elim (λ o. omega (arith, w.two (omega (arith, o.1)), o.2, ap length old)) (λ o. omega (arith, o.2)) insert_put_record.head

  -- "nothing lost": the records are those of before and the new one
  pub insert_stored : (f : Record → Bool) → length (those f (stored q)) ≡ length (those f (stored p)) + length (those f (r ∷ []))
  unfolding put_records
  insert_stored f =
      omega (
        arith,
        standing_stored q now two f,
        stored_in p w f,
        put_count (record_counted p) 1 (leaf_entry r) q insert_put_record f,
        ap (λ (rs : List Record). length (those f rs)) (under_record (record_counted p) r),
        ap (λ (rs : List Record). length (those f rs)) (head_records p (p.records + 1) p.height p.root),
      )

  pub insert_whole : Whole q
  unfolding put_records
  insert_whole =
      let more = insert_stored (λ x. true) in
      let a : length (stored q) ≡ length (stored p) + 1 = rw (those_all (stored q), those_all (stored p), those_all (r ∷ [])) at more in
      standing_whole q now two (omega (arith, insert_put_record.records, w.counted))

  -- the root stays, or there is a new one above it with two entries
  pub insert_head : ((q.root ≡ p.root) × (q.height ≡ p.height)) ⊎ ((q.height ≡ suc p.height) × (length (entries_at q q.root) ≡ 2))
  unfolding put_records
  insert_head = ⊎_elim (λ o. inl (o.0, o.1)) (λ o. inr (o.1, o.2)) insert_put_record.head

  -- nothing else moves: a slot that is neither of the tree nor taken, and those were free, is as it was
  pub insert_other : (t : SlotNumber) → 1 ≤ t.0 → (Among t (tree_slots p) → ⊥) → (Among t insert_put_record.taken → ⊥) → node_at p t ≡ node_at q t
  unfolding put_records
  insert_other t low out new =
      let g = insert_put_record.grew in
      head_at p (p.records + 1) t ∙ g.other t low (λ m. out (rw (head_slots p (p.records + 1) p.height p.root) at m)) new

  pub insert_sound : sound_pool q ≡ true
  insert_sound = whole_sound q insert_whole
