-- Whether an insert fits: at the root one slot more is taken where the run of full nodes is the whole way. So the free slots suffice just
-- where they are as many as that, and with one more than the levels they always do.
use mathlib.Core.Path.{◌≡◌, refl, ap, subst, ◌∙◌}
use mathlib.Core.Logic.{◌↔◌, ◌≢◌}
use mathlib.Core.Bool.{true}
use mathlib.Core.List.{List, [], ◌∷◌, ◌++◌}
use Prim.Native.Nat.{ℕ, zero, suc, ◌+◌, ◌-◌, ◌≤◌, ◌<◌}
use native.Mathlib.Omega.{arith}
use lib.ListN.{length}
use Rattle.rules.specs.declared.Rect.{Rect}
use Rattle.rules.specs.declared.SlotNumber.{SlotNumber}
use Rattle.rules.specs.declared.Record.{Record}
use Rattle.rules.specs.declared.Entry.{Entry}
use Rattle.std.specs.Prelude.{Option, Some, None}
use Rattle.rules.specs.Numbers.{good_number}
use Rattle.rules.specs.Geometry.{valid}
use Rattle.rules.specs.Pool.{Pool, node, node_at, entries_at, entry_at, child_of, leaf_entry, entry_for, lowest_free, free_count, put_root, put_records}
use Rattle.rules.specs.Insert.{Choice, Grown, Kept, Split, Full, Change, Done, NoneFree, new_root, grow_tree, insert_below, insert_at, insert_record}
use Rattle.rules.specs.Lawful.{Lawful}
use Rattle.rules.specs.Room.{is_full, way_up, full_run, plus_root, slots_needed}
use Rattle.sound_laws.specs.Tree.{tree_slots, Once, Tree, Whole}
use Rattle.sound_laws.proofs.Free.{lowest_slot, lowest_free_lem, put_free, nowhere_none, head_free}
use Rattle.insert_laws.specs.Grown.{Fits}
use Rattle.insert_laws.specs.Standing.{Standing}
use Rattle.insert_laws.proofs.Under.{fits_level}
use Rattle.insert_laws.proofs.Runs.{run, run_most, needed_less, needed_all, needed_between}
use Rattle.insert_laws.proofs.Taken.{Takes, below_takes}
use Rattle.insert_laws.proofs.Below.{way}
use Rattle.insert_laws.proofs.Root.{grow_kept, grow_split, grow_full}
use Rattle.insert_laws.proofs.Standing.{standing_once}
use Rattle.insert_laws.proofs.Whole.{record_counted, counted_stands, counted_high, record_fits}

-- so many slots are taken, or there are fewer free
abbrev Needs : Pool → ℕ → Change → Type 0
Needs p m (Done q) = free_count q + m ≡ free_count p
Needs p m NoneFree = free_count p < m

new_needs : (p q : Pool) (x : Entry) (m : ℕ) → free_count q + m ≡ free_count p → (o : Option SlotNumber) → lowest_free q ≡ o → Needs p (suc m) (new_root q x o)
unfolding new_root put_root free_count
new_needs p q x m h None z = omega (arith, nowhere_none q z)
new_needs p q x m h (Some t) z =
    omega (arith, put_free q t (node (suc q.height) (entry_for q q.root ∷ x ∷ [])) (lowest_slot q t z) (omega arith) (lowest_free_lem q t z))

-- from what the way takes to what the pool does
grow_needs : (p : Pool) (n r m : ℕ) → (r ≤ n → m ≡ r) → (r ≡ suc n → m ≡ suc r) → r ≤ m → (o : Grown) → Takes p n r o → Needs p m (grow_tree o)
grow_needs p n r m less all low (Kept q) t = rw (grow_kept q) (omega (arith, less t.0, t.1))
grow_needs p n r m less all low (Split q x) t = rw (grow_split q x, all t.0) (new_needs p q x r t.1 (lowest_free q) refl)
grow_needs p n r m less all low Full t = rw grow_full (omega arith)

-- ---- at a level

module _ (c : Choice) (lawful : Lawful c) (p : Pool) (k : ℕ) (high : 1 ≤ k) (low : k ≤ p.height) (d : Tree p p.height p.root)
    (some : 2 ≤ p.height → 0 < length (entries_at p p.root)) (new : Rect) where
  abbrev levels : ℕ
  levels = p.height - k

  abbrev root_run : ℕ
  root_run = run c levels p p.root new

  same : p.height ≡ levels + k
  same = omega arith

  some_below : 0 < levels → 0 < length (entries_at p p.root)
  some_below h = some (omega arith)

  -- the run ends below the root, or includes it
  pub root_less : root_run ≤ levels → slots_needed c k p new ≡ root_run
  unfolding slots_needed
  root_less = needed_less c lawful p k high new levels p.height p.root same d some_below

  pub root_all : root_run ≡ suc levels → slots_needed c k p new ≡ suc root_run
  unfolding slots_needed
  root_all = needed_all c lawful p k high new levels p.height p.root same d some_below

  root_between : (root_run ≤ slots_needed c k p new) × (slots_needed c k p new ≤ suc root_run)
  unfolding slots_needed
  root_between = needed_between c lawful p k high new levels p.height p.root same d some_below

  -- one for each level, and one more
  pub needs_few : slots_needed c k p new ≤ suc p.height
  needs_few = omega (arith, root_between.1, run_most c levels p p.root new)

-- ---- an entry goes in there

module _ (c : Choice) (lawful : Lawful c) (p : Pool) (k : ℕ) (e : Entry) (d : Tree p p.height p.root) (once : Once (tree_slots p))
    (some : 2 ≤ p.height → 0 < length (entries_at p p.root)) (f : Fits p k e) (low : k ≤ p.height) where
  abbrev new : Rect
  new = e.rect

  high : 1 ≤ k
  high = omega (arith, fits_level p k e f)

  needs : Needs p (slots_needed c k p new) (insert_at c k p e)
  unfolding insert_at
  needs =
      grow_needs p (p.height - k) (run c (p.height - k) p p.root new) (slots_needed c k p new)
      (root_less c lawful p k high low d some new) (root_all c lawful p k high low d some new) (root_between c lawful p k high low d some new).0
      (insert_below c (p.height - k) p p.root e)
      (below_takes c lawful p k e f (p.height - k) p.height p.root (omega arith) d once (λ h. some (omega (arith, high))))

  -- "refused 7 exactly when the run .. exceeds the free slots"
  pub level_slots : (insert_at c k p e ≡ NoneFree) ↔ (free_count p < slots_needed c k p new)
  level_slots = (λ h. subst (Needs p (slots_needed c k p new)) h needs, λ h. go h (insert_at c k p e) refl)
    where
      go : free_count p < slots_needed c k p new → (o : Change) → insert_at c k p e ≡ o → insert_at c k p e ≡ NoneFree
      go h (Done q) z = let m = subst (Needs p (slots_needed c k p new)) z needs in absurd (omega arith)
      go h NoneFree z = z

  -- .. and else it takes so many
  pub level_takes : (q : Pool) → insert_at c k p e ≡ Done q → free_count q + slots_needed c k p new ≡ free_count p
  level_takes q h = subst (Needs p (slots_needed c k p new)) h needs

  pub level_needs_few : slots_needed c k p new ≤ suc p.height
  level_needs_few = needs_few c lawful p k high low d some new

-- ---- a record

module _ (c : Choice) (p : Pool) (m : ℕ) where
  head_way : (n : ℕ) (s : SlotNumber) (new : Rect) → way_up c n (put_records p m) s new ≡ way_up c n p s new
  unfolding way_up entry_at entries_at node_at put_records
  head_way zero s new = refl
  head_way (suc n) s new =
      ap (λ (ts : List SlotNumber). ts ++ s ∷ []) (head_way n (child_of (entry_at p s (way c p s new))) new)

  head_run : (up : List SlotNumber) → full_run (put_records p m) up ≡ full_run p up
  unfolding full_run is_full entries_at node_at put_records
  head_run [] = refl
  head_run (s ∷ up) = rw (head_run up)

  head_needs : (k : ℕ) (new : Rect) → slots_needed c k (put_records p m) new ≡ slots_needed c k p new
  unfolding slots_needed put_records
  head_needs k new = ap (plus_root p.root) (head_run (way_up c (p.height - k) (put_records p m) p.root new) ∙ ap (full_run p) (head_way (p.height - k) p.root new))

module _ (c : Choice) (lawful : Lawful c) (p : Pool) (w : Whole p) (r : Record) (v : valid r.rect ≡ true) (n : good_number r.number ≡ true) where
  stands : Standing (record_counted p) []
  stands = counted_stands p w

  once : Once (tree_slots (record_counted p))
  once = standing_once (record_counted p) [] stands

  fits : Fits (record_counted p) 1 (leaf_entry r)
  fits = record_fits (record_counted p) r v n

  pub insert_slots : (insert_record c p r ≡ NoneFree) ↔ (free_count p < slots_needed c 1 p r.rect)
  unfolding insert_record leaf_entry
  insert_slots =
      rw (head_free p (p.records + 1), head_needs c p (p.records + 1) 1 r.rect)
      at (level_slots c lawful (record_counted p) 1 (leaf_entry r) stands.tree once stands.some fits (counted_high p w))

  pub insert_takes : (q : Pool) → insert_record c p r ≡ Done q → free_count q + slots_needed c 1 p r.rect ≡ free_count p
  unfolding insert_record leaf_entry
  insert_takes q h =
      rw (head_free p (p.records + 1), head_needs c p (p.records + 1) 1 r.rect)
      at (level_takes c lawful (record_counted p) 1 (leaf_entry r) stands.tree once stands.some fits (counted_high p w) q h)

  pub insert_needs_few : slots_needed c 1 p r.rect ≤ suc p.height
  unfolding put_records leaf_entry
  insert_needs_few =
      omega (
        arith,
        head_needs c p (p.records + 1) 1 r.rect,
        level_needs_few c lawful (record_counted p) 1 (leaf_entry r) stands.tree once stands.some fits (counted_high p w),
      )

  -- "with h + 1 slots free it is never refused 7"
  pub insert_fits : suc p.height ≤ free_count p → insert_record c p r ≢ NoneFree
  insert_fits h z = omega (arith, insert_slots.0 z, insert_needs_few)
