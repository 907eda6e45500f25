-- What lasts through each store lasts through the requests of a batch: so do the number of slots of a pool, and its edition.
use mathlib.Core.Path.{◌≡◌, refl}
use mathlib.Core.List.{List, [], ◌∷◌}
use Rattle.std.specs.Prelude.{Option, None, Some}
use Prim.Native.Nat.{ℕ, suc, ◌-◌}
use lib.ListN.{length}
use Rattle.rules.specs.declared.Record.{Record}
use Rattle.rules.specs.declared.Request.{Request}
use Rattle.rules.specs.declared.Asked.{Asked}
use Rattle.rules.specs.Pool.{Pool}
use Rattle.rules.specs.Insert.{Choice, Change, Done, NoneFree, insert_record}
use Rattle.rules.specs.Delete.{delete_record, update_record}
use Rattle.rules.specs.Request.{asked, after_change, request}
use Rattle.rules.specs.Call.{Batch, after_turn, do_request, do_requests}
use Rattle.insert_laws.specs.Lasting.{Lasting, EachPool}
use Rattle.insert_laws.proofs.Lasting.{insert_lasts, edition_lasts, slots_last}
use Rattle.delete_laws.proofs.Lasting.{delete_lasts, update_lasts}
use Rattle.in_force_laws.proofs.Change.{request_cases}

module _ {P : Pool → Type 0} (k : Lasting P) (c : Choice) where
  change_lasts : (p : Pool) (o : Change) → P p → EachPool P o → P (after_change p o).pool
  unfolding after_change
  change_lasts p (Done q) h e = e
  change_lasts p NoneFree h e = h

  pub request_lasts : (p : Pool) (filled room : ℕ) (a : Asked) → P p → P (request c p filled room a).pool
  request_lasts p filled room a h =
      request_cases c p filled room (λ _ t. P t.pool) (λ b reply z. h)
      (λ r z. change_lasts p (insert_record c p r) h (insert_lasts k c p r h))
      (λ r z. change_lasts p (delete_record c p r) h (delete_lasts k c p r h))
      (λ old new z. change_lasts p (update_record c p old new) h (update_lasts k c p old new h))
      (λ o mode window z. h) a

  pub step_lasts : (i : ℕ) (b : Batch) (o : Option Asked) → P b.pool → P (do_request c i b o).pool
  unfolding do_request after_turn
  step_lasts i b None h = h
  step_lasts i b (Some a) h = request_lasts b.pool b.filled (length b.found - b.filled) a h

  pub batch_lasts : (i : ℕ) (qs : List Request) (b : Batch) → P b.pool → P (do_requests c i qs b).pool
  unfolding do_requests
  batch_lasts i [] b h = h
  batch_lasts i (q ∷ qs) b h = batch_lasts (suc i) qs (do_request c i b (asked b.owner q)) (step_lasts i b (asked b.owner q) h)

-- ---- slots

module _ (m : ℕ) where
  abbrev pub HasSlots : Pool → Type 0
  HasSlots p = length p.slots ≡ m

  abbrev pub ChangeHas : Change → Type 0
  ChangeHas o = EachPool HasSlots o

  module _ (c : Choice) where
    pub insert_has : (p : Pool) (r : Record) → HasSlots p → ChangeHas (insert_record c p r)
    insert_has = insert_lasts (slots_last m) c

    -- however many requests are done
    pub batch_has : (i : ℕ) (qs : List Request) (b : Batch) → HasSlots b.pool → HasSlots (do_requests c i qs b).pool
    batch_has = batch_lasts (slots_last m) c

-- ---- editions

module _ (c : Choice) where
  pub request_edition : (p : Pool) (filled room : ℕ) (a : Asked) → (request c p filled room a).pool.edition ≡ p.edition
  request_edition p filled room a = request_lasts (edition_lasts p.edition) c p filled room a refl

  pub step_edition : (i : ℕ) (b : Batch) (o : Option Asked) → (do_request c i b o).pool.edition ≡ b.pool.edition
  step_edition i b o = step_lasts (edition_lasts b.pool.edition) c i b o refl

  pub batch_edition : (i : ℕ) (qs : List Request) (b : Batch) → (do_requests c i qs b).pool.edition ≡ b.pool.edition
  batch_edition i qs b = batch_lasts (edition_lasts b.pool.edition) c i qs b refl
