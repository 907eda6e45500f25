-- What lasts through each store lasts through an insert, by any choice and in any pool: so does the edition, and the number of slots.
use mathlib.Core.Path.{◌≡◌, refl, subst, ◌∙◌}
use mathlib.Core.Bool.{Bool, true, false}
use mathlib.Core.List.{List, [], ◌∷◌, ◌++◌}
use Prim.Native.Nat.{ℕ, zero, suc, ◌+◌, ◌-◌}
use lib.Dec.{ltb}
use lib.ListN.{length}
use Rattle.rules.specs.declared.Edition.{Edition}
use Rattle.rules.specs.declared.SlotNumber.{SlotNumber}
use Rattle.rules.specs.declared.Record.{Record}
use Rattle.rules.specs.declared.Entry.{Entry}
use Rattle.std.specs.Prelude.{Option, Some, None}
use Rattle.rules.specs.Numbers.{most}
use Rattle.rules.specs.Pool.{Pool, node, node_at, entries_at, entry_at, child_of, leaf_entry, lowest_free, put_node, put_entries, zero_slot, put_root, put_records, tighten}
use Rattle.rules.specs.Split.{Halves}
use Rattle.rules.specs.Insert.{Choice, Grown, Kept, Split, Full, Done, split_into, new_root, grow_tree, install, adjust, insert_below, insert_at, insert_record}
use Rattle.sound_laws.proofs.Frame.{put_length}
use Rattle.insert_laws.specs.Lasting.{Lasting, EachGrown, EachPool}
use Rattle.insert_laws.proofs.Install.{install_room, install_full}
use Rattle.insert_laws.proofs.Below.{way, below_here, below_down, adjust_kept, adjust_split, adjust_full}
use Rattle.insert_laws.proofs.Root.{grow_kept, grow_split, grow_full}

module _ {P : Pool → Type 0} (k : Lasting P) where
  -- ---- what a change is made of

  pub entries_last : (p : Pool) (s : SlotNumber) (es : List Entry) → P p → P (put_entries p s es)
  unfolding put_entries
  entries_last p s es = k.node p s (node (node_at p s).level es)

  pub zero_lasts : (p : Pool) (s : SlotNumber) → P p → P (zero_slot p s)
  unfolding zero_slot
  zero_lasts p s = k.node p s _

  pub tighten_lasts : (p : Pool) (s : SlotNumber) (i : ℕ) → P p → P (tighten p s i)
  unfolding tighten
  tighten_lasts p s i = entries_last p s _

  split_lasts : (p : Pool) (s : SlotNumber) (h : Halves) (o : Option SlotNumber) → P p → EachGrown P (split_into p s h o)
  unfolding split_into
  split_lasts p s h None e = tt
  split_lasts p s h (Some t) e = k.node (put_entries p s h.one) t _ (entries_last p s h.one e)

  new_lasts : (p : Pool) (x : Entry) (o : Option SlotNumber) → P p → EachPool P (new_root p x o)
  unfolding new_root
  new_lasts p x None e = tt
  new_lasts p x (Some t) e = k.root (put_node p t _) t (suc p.height) (k.node p t _ e)

  grow_lasts : (g : Grown) → EachGrown P g → EachPool P (grow_tree g)
  grow_lasts (Kept p) e = rw (grow_kept p) e
  grow_lasts (Split p x) e = rw (grow_split p x) (new_lasts p x (lowest_free p) e)
  grow_lasts Full e = rw grow_full tt

  -- ---- insert

  module _ (c : Choice) where
    install_lasts : (p : Pool) (s : SlotNumber) (x : Entry) → P p → EachGrown P (install c p s x)
    install_lasts p s x e = go (ltb (length (entries_at p s)) most) refl
      where
        go : (t : Bool) → ltb (length (entries_at p s)) most ≡ t → EachGrown P (install c p s x)
        go true h = rw (install_room c p s x h) (entries_last p s (entries_at p s ++ x ∷ []) e)
        go false h = rw (install_full c p s x h) (split_lasts p s (c.split (entries_at p s ++ x ∷ [])) (lowest_free p) e)

    adjust_lasts : (s : SlotNumber) (i : ℕ) (g : Grown) → EachGrown P g → EachGrown P (adjust c s i g)
    adjust_lasts s i (Kept p) e = rw (adjust_kept c s i p) (tighten_lasts p s i e)
    adjust_lasts s i (Split p x) e = rw (adjust_split c s i p x) (install_lasts (tighten p s i) s x (tighten_lasts p s i e))
    adjust_lasts s i Full e = rw (adjust_full c s i) tt

    below_lasts : (n : ℕ) (p : Pool) (s : SlotNumber) (x : Entry) → P p → EachGrown P (insert_below c n p s x)
    below_lasts zero p s x e = rw (below_here c p s x) (install_lasts p s x e)
    below_lasts (suc n) p s x e =
        let i = way c p s x.rect in
        let t = child_of (entry_at p s i) in
        rw (below_down c n p s x) (adjust_lasts s i (insert_below c n p t x) (below_lasts n p t x e))

    pub at_lasts : (l : ℕ) (p : Pool) (x : Entry) → P p → EachPool P (insert_at c l p x)
    unfolding insert_at
    at_lasts l p x e = grow_lasts (insert_below c (p.height - l) p p.root x) (below_lasts (p.height - l) p p.root x e)

    pub insert_lasts : (p : Pool) (r : Record) → P p → EachPool P (insert_record c p r)
    unfolding insert_record
    insert_lasts p r e = at_lasts 1 (put_records p (p.records + 1)) (leaf_entry r) (k.records p (p.records + 1) e)

-- ---- what lasts

pub edition_lasts : (ed : Edition) → Lasting (λ p. p.edition ≡ ed)
unfolding put_node put_root put_records
edition_lasts ed = record { node = λ p s n e. e; root = λ p s h e. e; records = λ p n e. e }

pub slots_last : (m : ℕ) → Lasting (λ p. length p.slots ≡ m)
unfolding put_root put_records
slots_last m = record { node = λ p s n e. put_length p s n ∙ e; root = λ p s h e. e; records = λ p n e. e }

-- an insert that is done leaves a pool of the same edition
module _ (c : Choice) (p q : Pool) where
  pub insert_at_edition : (l : ℕ) (x : Entry) → insert_at c l p x ≡ Done q → q.edition ≡ p.edition
  insert_at_edition l x h = subst (EachPool (λ z. z.edition ≡ p.edition)) h (at_lasts (edition_lasts p.edition) c l p x refl)

  pub insert_edition : (r : Record) → insert_record c p r ≡ Done q → q.edition ≡ p.edition
  insert_edition r h = subst (EachPool (λ z. z.edition ≡ p.edition)) h (insert_lasts (edition_lasts p.edition) c p r refl)
