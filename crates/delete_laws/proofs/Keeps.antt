-- A leaf that keeps enough entries, or is the root: nothing is set aside, and what CondenseTree does is to take the pair out and to make
-- covers tight up the way. Above a cover that is tight already nothing changes: a node that is as it was has a tight cover.
use mathlib.Core.Path.{◌≡◌, sym, ap, subst, subst₂, ◌∙◌}
use mathlib.Core.List.{List, [], ◌∷◌}
use Rattle.std.specs.Prelude.{Some}
use Prim.Native.Nat.{ℕ, zero, suc, ◌-◌, ◌≤◌, ◌<◌}
use native.Mathlib.Omega.{arith}
use lib.ListN.{length, set}
use lib.Seq.{set-get_or}
use Rattle.rules.specs.declared.SlotNumber.{SlotNumber}
use Rattle.rules.specs.declared.Record.{Record}
use Rattle.rules.specs.declared.Pointer.TheVariants.{Child}
use Rattle.rules.specs.declared.Entry.{Entry}
use Rattle.rules.specs.Numbers.{least}
use Rattle.rules.specs.Pool.{Node, Pool, entry, no_entry, free_node, node_at, entries_at, entry_from, entry_at, child_of, cover_of, entry_for, put_node, put_entries, put_records, tighten}
use Rattle.rules.specs.Insert.{Choice, Done}
use Rattle.rules.specs.Lawful.{Lawful}
use Rattle.rules.specs.Delete.{place, Path, Aside, Condensed, take_out, path_to, condense, shorten, shortened, reinsert, delete_record}
use Rattle.sound_laws.specs.Tree.{slots_in, Once, Tree, Whole}
use Rattle.sound_laws.proofs.Frame.{entries_same}
use Rattle.insert_laws.proofs.Beside.{child_at, among_here, child_entry, Others, tight_many}
use Rattle.sound_laws.proofs.Apart.{once_child}
use Rattle.insert_laws.proofs.Standing.{standing_once}
use Rattle.delete_laws.specs.Way.{Leads, EachWay, leaf_of, KeepsEnough}
use Rattle.delete_laws.specs.Shrunk.{Shrunk, condensed}
use Rattle.delete_laws.proofs.Condense.{leads_from, condense_one, condense_up, condense_shrunk}
use Rattle.delete_laws.proofs.Narrow.{relieve_enough}
use Rattle.delete_laws.proofs.Finds.{find_leads}
use Rattle.delete_laws.proofs.Again.{reinsert_none}
use Rattle.delete_laws.proofs.Short.{shorten_two}
use Rattle.delete_laws.proofs.Delete.{short_done, back_is, stands, way_leads, out_is, shrunk, delete_found}

-- ---- a cover that is tight already

-- a node is put where it is
put_own : (p : Pool) (s : SlotNumber) → put_entries p s (entries_at p s) ≡ p
unfolding put_entries put_node entries_at node_at
put_own p s =
    ap (λ (ns : List Node). record { edition = p.edition; root = p.root; height = p.height; records = p.records; slots = ns })
    (set-get_or p.slots (s.0 - 1) free_node)

pub tighten_tight : (p : Pool) (s : SlotNumber) (i : ℕ) → entry_for p (child_of (entry_at p s i)) ≡ entry_at p s i → tighten p s i ≡ p
unfolding tighten entry_at entry_from
tighten_tight p s i h =
    ap (λ (e : Entry). put_entries p s (set (entries_at p s) i e)) h ∙ ap (put_entries p s) (set-get_or (entries_at p s) i no_entry) ∙ put_own p s

-- ---- up the way

-- at the leaf
leaf_end : (p : Pool) (r : Record) (s : SlotNumber) (way : Path) → Leads p r 1 s way → leaf_of way ≡ s
unfolding Leads leaf_of
leaf_end p r s way h = ap leaf_of h.1

-- nothing is set aside, and a node above the leaf has as many entries as before
pub record Kept (p : Pool) (l : ℕ) (s : SlotNumber) (d : Condensed) : Type 0 where
  pub none : d.set_aside ≡ []
  pub many : 2 ≤ l → length (entries_at d.pool s) ≡ length (entries_at p s)

module _ (p : Pool) (r : Record) where
  -- the leaf of a way is that of the way below
  leaf_below : (l : ℕ) (s : SlotNumber) (i : ℕ) (way rest : Path) → way ≡ place s i ∷ rest
      → Leads p r (suc l) (child_at p s i) rest → leaf_of way ≡ leaf_of rest
  unfolding leaf_of
  leaf_below l s i way rest e h =
      let n = leads_from p r (suc l) (child_at p s i) rest h in
      ap leaf_of e ∙ ap (λ (z : Path). leaf_of (place s i ∷ z)) n.2 ∙ ap leaf_of (sym n.2)

  -- a child on the way has enough entries left
  pub enough_left : (l : ℕ) (s : SlotNumber) (way : Path) → Tree p (suc l) s → Once (slots_in p (suc l) s) → Leads p r (suc l) s way
      → least < length (entries_at p (leaf_of way)) → least ≤ length (entries_at p s) → Kept p (suc l) s (condense p way)
      → least ≤ length (entries_at (condense p way).pool s)
  enough_left zero s way d once h keeps e k =
      omega (
        arith,
        (condense_shrunk p r 1 s way d once h).many,
        keeps,
        ap (λ (t : SlotNumber). length (entries_at p t)) (leaf_end p r s way h),
      )
  enough_left (suc l) s way d once h keeps e k = omega (arith, k.many (omega arith), e)

  pub condense_kept : (l : ℕ) (s : SlotNumber) (way : Path) → Tree p l s → Once (slots_in p l s) → Leads p r l s way
      → KeepsEnough p l (leaf_of way) → Kept p l s (condense p way)
  unfolding Leads
  condense_kept zero s way d once h keeps = absurd h
  condense_kept (suc zero) s way d once h keeps =
      let is : condense p way ≡ condensed (take_out p (place s h.0)) [] = ap (condense p) h.1 ∙ condense_one p (place s h.0) in
      record { none = ap (λ (x : Condensed). x.set_aside) is; many = λ two. absurd (omega (arith, two)) }
  condense_kept (suc (suc l)) s way d once h keeps =
      let i = h.0 in
      let rest = h.1 in
      let t = child_at p s i in
      let there = h.3 in
      let m = among_here p l s d i there i there in
      let child = child_entry p l s d i there in
      let below-once = once_child p l s once (entry_at p s i) m in
      let leaf = leaf_below l s i way rest h.2 h.4 in
      let many : least < length (entries_at p (leaf_of rest)) =
      subst (λ (u : SlotNumber). least < length (entries_at p u)) leaf (keeps (omega arith)) in
      let below = condense_kept (suc l) t rest child.child below-once h.4 (λ two. many) in
      let enough = enough_left l t rest child.child below-once h.4 many child.enough below in
      let g = condense_shrunk p r (suc l) t rest child.child below-once h.4 in
      let is = condense_up p r l s i way rest h.2 h.4 ∙ relieve_enough (place s i) t (condense p rest) enough in
      let beside : Others p l s i (condense p rest).pool =
      record { tree = d; there = there; once = once; long = g.long; kept = λ u k out. g.other u k.slot.low out } in
      record {
        none = ap (λ (x : Condensed). x.set_aside) is ∙ below.none;
        many = λ two. ap (λ (x : Condensed). length (entries_at x.pool s)) is ∙ tight_many beside;
      }

-- ---- a node that is as it was: the entry that leads to it is tight already

pub tight_still : (p : Pool) (l : ℕ) (s : SlotNumber) → Tree p (suc (suc l)) s → (i : ℕ) → i < length (entries_at p s)
    → (entry_at p s i).pointer ≡ Child (child_at p s i) → (q : Pool) → node_at p s ≡ node_at q s
    → node_at p (child_at p s i) ≡ node_at q (child_at p s i) → tighten q s i ≡ q
unfolding entry_for entry_at
tight_still p l s d i there pointer q same below =
    let at : entry_at p s i ≡ entry_at q s i = ap (λ (es : List Entry). entry_from es i) (entries_same p q s same) in
    let t : child_at p s i ≡ child_at q s i = ap child_of at in
    let rect : cover_of (entries_at q (child_at p s i)) ≡ (entry_at p s i).rect =
    ap cover_of (sym (entries_same p q (child_at p s i) below)) ∙ sym (child_entry p l s d i there).tight in
    let own : entry_for q (child_at p s i) ≡ entry_at p s i = λ j. entry (rect j) (sym pointer j) in
    tighten_tight q s i (ap (entry_for q) (sym t) ∙ own ∙ at)

-- ---- the whole delete

module _ (c : Choice) (lawful : Lawful c) (p : Pool) (w : Whole p) (r : Record) (way : Path) (finds : path_to p r ≡ Some way)
    (keeps : KeepsEnough p p.height (leaf_of way)) where
  abbrev less : Pool
  less = put_records p (p.records - 1)

  led : Leads p r p.height p.root way
  led = subst (EachWay (Leads p r p.height p.root)) finds (find_leads p r p.height p.root)

  kept : Kept less less.height less.root (condense less way)
  unfolding put_records entries_at node_at
  kept =
      condense_kept less r less.height less.root way (stands c lawful p w r way led).tree
      (standing_once less [] (stands c lawful p w r way led)) (way_leads c lawful p w r way led) keeps

  left : Shrunk less less.height less.root r (condense less way)
  left = subst (Shrunk less less.height less.root r) (out_is c lawful p w r way led) (shrunk c lawful p w r way led)

  kept_high : (condense less way).pool.height ≡ p.height
  unfolding put_records
  kept_high = left.head.height

  stays_root : shorten (condense less way).pool ≡ (condense less way).pool
  unfolding put_records entries_at node_at
  stays_root =
      let q = (condense less way).pool in
      shorten_two q (subst₂ (λ (l : ℕ) (s : SlotNumber). Tree q l s) (sym left.head.height) (sym left.head.root) left.tree)
      (λ two.
      let high : 2 ≤ p.height = omega (arith, two, kept_high) in
      let same = ap (λ (s : SlotNumber). length (entries_at q s)) left.head.root in
      omega (arith, w.two high, kept.many high, same))

  -- it is done: nothing is put back, and the root stays
  pub delete_kept : delete_record c p r ≡ Done (condense less way).pool
  delete_kept =
      let q = (condense less way).pool in
      delete_found c p r way finds ∙ back_is c (condense less way) ∙ ap (λ (xs : List Aside). shortened (reinsert c q xs)) kept.none
      ∙ ap shortened (reinsert_none c q) ∙ short_done c q ∙ ap Done stays_root
