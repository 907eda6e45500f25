-- Search: exactly what is there, and exactly what was opened. The walk finds the records that a look at every stored record finds, each
-- as often, and there is one way to put them in order; and the slots in use are those of the tree that is walked, each once.
use mathlib.Core.Path.{◌≡◌, refl, sym, ap, subst, ◌∙◌}
use mathlib.Core.Logic.{◌↔◌, ◌⊎◌}
use mathlib.Core.Bool.{Bool, true, not, ◌&&◌}
use mathlib.Core.List.Memᴰ
use mathlib.Core.List.{List, map}
use Prim.Native.Nat.{ℕ, suc, ◌-◌, ◌*◌, ◌^◌, ◌≤◌}
use native.Mathlib.Omega.{arith}
use lib.ListN.{length, length-map}
use Rattle.rules.specs.declared.Rect.{Rect}
use Rattle.rules.specs.declared.SlotNumber.{SlotNumber}
use Rattle.rules.specs.declared.Owner.{Owner}
use Rattle.rules.specs.declared.Record.{Record}
use Rattle.rules.specs.declared.FoundRecord.{FoundRecord}
use Rattle.rules.specs.declared.Mode.{Mode}
use Rattle.rules.specs.Lists.{those}
use Rattle.rules.specs.Owners.{owned_by, as_found, of_owner}
use Rattle.rules.specs.Geometry.{same_found, same_pair}
use Rattle.rules.specs.Pool.{Pool, slot_numbers, node_at, stored}
use Rattle.rules.specs.Sound.{in_use, is_root, sound_pool}
use Rattle.rules.specs.Search.{ordered, found_from_root, found, opened_from_root, reported, opened}
use Rattle.rules_laws.proofs.Bools.{and_both, both_and}
use Rattle.rules_laws.proofs.Places.{Among}
use Rattle.rules_laws.proofs.Parts.{among_those, those_and, count_fewer, count_map}
use Rattle.sound_laws.specs.Tree.{tree_slots, Whole}
use Rattle.sound_laws.proofs.Same.{owned_is, owned_found}
use Rattle.sound_laws.proofs.Whole.{used_in}
use Rattle.sound_laws.proofs.Heights.{height_records}
use Rattle.sound_laws.proofs.Sound.{sound_whole}
use Rattle.search_laws.specs.Window.{record_wanted, own_wanted, node_meets, other_node}
use Rattle.search_laws.specs.Order.{Alike}
use Rattle.search_laws.proofs.Found.{own_alike}
use Rattle.search_laws.proofs.Opened.{opened_tree}
use Rattle.search_laws.proofs.Order.{alike_back, alike_length, alike_map, alike_shown, ordered_alike, ordered_same}

-- in every mode. Req 07: "Opened is reported as 0" in edition 2
module _ (p : Pool) (w : Whole p) (window : Rect) where
  -- the nodes but the root that meet the window
  abbrev met : ℕ
  met = length (those (node_meets p window) (those (other_node p) (slot_numbers p)))

  opened_all : opened_from_root p window ≡ suc met
  opened_all =
      opened_tree p window w
      ∙ ap suc (ap length (sym (those_and other (node_meets p window) (tree_slots p)))
      ∙ used_in p w (λ s. other s && node_meets p window s)
      ∙ ap length (those_and other (node_meets p window) (those used (slot_numbers p)))
      ∙ ap (λ (ss : List SlotNumber). length (those (node_meets p window) ss)) (sym (those_and used other (slot_numbers p))))
    where
      used : SlotNumber → Bool
      used s = in_use (node_at p s)

      other : SlotNumber → Bool
      other s = not (is_root p s)

  pub opened_exact : opened p window ≡ reported p.edition (suc (length (those (node_meets p window) (those (other_node p) (slot_numbers p)))))
  unfolding opened
  opened_exact = ap (reported p.edition) opened_all

module _ (p : Pool) (w : Whole p) (o : Owner) (mode : Mode) (window : Rect) where
  -- what is to be listed
  abbrev listed : List FoundRecord
  listed = map as_found (those (own_wanted o mode window) (stored p))

  pub search_exact : found p o mode window ≡ ordered (map as_found (those (own_wanted o mode window) (stored p)))
  unfolding found
  search_exact =
      ordered_same (map as_found (those (owned_by o) (found_from_root p mode window))) listed (alike_map as_found (own_alike p mode window w o))

  -- ---- what follows from this

  found_stored : Alike (found p o mode window) listed
  found_stored = rw search_exact (ordered_alike listed)

  -- as many as the owner has stored and the mode wants
  pub found_count : length (found p o mode window) ≡ length (those (own_wanted o mode window) (stored p))
  found_count = alike_length found_stored ∙ length-map (those (own_wanted o mode window) (stored p)) as_found

  -- a record is found where its owner has it stored and the mode wants it
  pub among_found : (f : FoundRecord) → Among f (found p o mode window) ↔ (Among (of_owner o f) (stored p) × (record_wanted mode window (of_owner o f) ≡ true))
  among_found f = (λ m. to (alike_shown found_stored f m), λ h. alike_shown (alike_back found_stored) f (from h))
    where
      own : List Record
      own = those (own_wanted o mode window) (stored p)

      stand : (r : Record) → Among r own ↔ (Among r (stored p) × (own_wanted o mode window r ≡ true))
      stand r = among_those (own_wanted o mode window) r (stored p)

      to : Among f listed → Among (of_owner o f) (stored p) × (record_wanted mode window (of_owner o f) ≡ true)
      to m =
          let q = Memᴰ.of_map as_found own m in
          let r = q.0 in
          let h = (stand r).0 q.1 in
          let b = and_both (owned_by o r) (record_wanted mode window r) h.1 in
          let e = owned_found r (of_owner o f) ((owned_is o r).0 b.0) q.2 in
          subst (λ (x : Record). Among x (stored p) × (record_wanted mode window x ≡ true)) e (h.0, b.1)

      from : Among (of_owner o f) (stored p) × (record_wanted mode window (of_owner o f) ≡ true) → Among f listed
      from h =
          let r = of_owner o f in
          Memᴰ.map as_found ((stand r).1 (h.0, both_and (owned_by o r) (record_wanted mode window r) ((owned_is o r).1 refl) h.1))

  -- nothing is found more often than its owner has it stored; so no pair is found twice where none is stored twice
  pub found_fewer : (q : FoundRecord → Bool) → length (those q (found p o mode window)) ≤ length (those (λ r. owned_by o r && q (as_found r)) (stored p))
  found_fewer q = omega (
    arith,
    found_stored.each q,
    count_map as_found q (those (own_wanted o mode window) (stored p)),
    ap length (those_and (owned_by o) shown (stored p)),
    ap (λ (rs : List Record). length (those shown rs)) (those_and (owned_by o) (record_wanted mode window) (stored p)),
    count_fewer shown (record_wanted mode window) (those (owned_by o) (stored p)),
  )
    where
      shown : Record → Bool
      shown r = q (as_found r)

  pub found_once : ((x : Record) → length (those (same_pair x) (stored p)) ≤ 1) → (f : FoundRecord) → length (those (same_found f) (found p o mode window)) ≤ 1
  unfolding same_pair
  found_once h f = omega (arith, h (of_owner o f), found_fewer (same_found f))

-- ---- of a sound pool

pub record Exact (p : Pool) (o : Owner) (mode : Mode) (window : Rect) : Type 0 where
  pub finds : found p o mode window ≡ ordered (map as_found (those (own_wanted o mode window) (stored p)))
  pub opens : opened p window ≡ reported p.edition (suc (length (those (node_meets p window) (those (other_node p) (slot_numbers p)))))
  pub high : (p.height ≡ 1) ⊎ (2 * 3 ^ (p.height - 1) ≤ p.records)

pub sound_exact : (p : Pool) → sound_pool p ≡ true → (o : Owner) (mode : Mode) (window : Rect) → Exact p o mode window
sound_exact p s o mode window =
    let w = sound_whole p s in
    record { finds = search_exact p w o mode window; opens = opened_exact p w window; high = height_records p w }
