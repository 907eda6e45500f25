-- What lasts through each store lasts through a delete and an update, by any choice and in any pool: so does the edition.
use mathlib.Core.Path.{◌≡◌, refl, subst}
use mathlib.Core.Bool.{Bool, true, false}
use mathlib.Core.List.{List, [], ◌∷◌}
use Rattle.std.specs.Prelude.{Option, None, Some}
use Prim.Native.Nat.{◌-◌, ◌≤◌, ◌<◌}
use native.Mathlib.Decide.{dec_le}
use native.Mathlib.Omega.{arith}
use lib.Dec.{eqb}
use lib.ListN.{length}
use Rattle.rules.specs.declared.Rect.{Rect}
use Rattle.rules.specs.declared.SlotNumber.{SlotNumber}
use Rattle.rules.specs.declared.Record.{Record}
use Rattle.rules.specs.Numbers.{least}
use Rattle.rules.specs.Pool.{Pool, moved, node_at, entries_at, entry_at, child_of, is_leaf, zero_slot, put_records}
use Rattle.rules.specs.Insert.{Choice, Change, Done, NoneFree, insert_at}
use Rattle.rules.specs.Delete.{Place, Path, Aside, Condensed, path_to, take_out, relieve, condense, shorten, shortened, reinsert, put_back, delete_record, update_record}
use Rattle.insert_laws.specs.Lasting.{Lasting, EachPool}
use Rattle.insert_laws.proofs.Lasting.{entries_last, zero_lasts, tighten_lasts, at_lasts, insert_lasts, edition_lasts}
use Rattle.delete_laws.proofs.Narrow.{relieve_few, relieve_enough}
use Rattle.delete_laws.proofs.Condense.{condense_one, condense_more}
use Rattle.delete_laws.proofs.Again.{reinsert_none, reinsert_done, reinsert_full}
use Rattle.delete_laws.proofs.Short.{shorten_leaf, shorten_one, shorten_more}
use Rattle.delete_laws.proofs.Delete.{back_is, delete_missing, delete_found}
use Rattle.delete_laws.proofs.Update.{update_done, update_stuck}

module _ {P : Pool → Type 0} (k : Lasting P) where
  out_lasts : (p : Pool) (a : Place) → P p → P (take_out p a)
  unfolding take_out
  out_lasts p a = entries_last k p a.node _

  relieve_lasts : (a : Place) (t : SlotNumber) (d : Condensed) → P d.pool → P (relieve a t d).pool
  relieve_lasts a t d e = go (dec_le least (length (entries_at d.pool t)))
    where
      go : Dec (least ≤ length (entries_at d.pool t)) → P (relieve a t d).pool
      go (yes h) = rw (relieve_enough a t d h) (tighten_lasts k d.pool a.node a.at e)
      go (no h) =
          let few : length (entries_at d.pool t) < least = omega arith in
          rw (relieve_few a t d few) (zero_lasts k (take_out d.pool a) t (out_lasts d.pool a e))

  condense_lasts : (p : Pool) (way : Path) → P p → P (condense p way).pool
  condense_lasts p [] e = unfold condense in e
  condense_lasts p (a ∷ []) e = rw (condense_one p a) (out_lasts p a e)
  condense_lasts p (a ∷ b ∷ way) e =
      rw (condense_more p a b way) (relieve_lasts a b.node (condense p (b ∷ way)) (condense_lasts p (b ∷ way) e))

  shorten_lasts : (p : Pool) → P p → P (shorten p)
  shorten_lasts p e = go (is_leaf (node_at p p.root)) refl (eqb (length (entries_at p p.root)) 1) refl
    where
      go : (b : Bool) → is_leaf (node_at p p.root) ≡ b → (o : Bool) → eqb (length (entries_at p p.root)) 1 ≡ o → P (shorten p)
      go true h o n = rw (shorten_leaf p h) e
      go false h true n =
          rw (shorten_one p h n) (k.root (zero_slot p p.root) (child_of (entry_at p p.root 0)) (p.height - 1) (zero_lasts k p p.root e))
      go false h false n = rw (shorten_more p h n) e

  short_lasts : (o : Change) → EachPool P o → EachPool P (shortened o)
  short_lasts (Done q) e = unfold shortened in shorten_lasts q e
  short_lasts NoneFree e = unfold shortened in tt

  module _ (c : Choice) where
    reinsert_lasts : (xs : List Aside) (p : Pool) → P p → EachPool P (reinsert c p xs)
    reinsert_lasts [] p e = rw (reinsert_none c p) e
    reinsert_lasts (a ∷ rest) p e = go (insert_at c a.level p a.entry) refl (reinsert_lasts rest)
      where
        go : (o : Change) → insert_at c a.level p a.entry ≡ o → ((q : Pool) → P q → EachPool P (reinsert c q rest))
            → EachPool P (reinsert c p (a ∷ rest))
        go (Done q) h later = rw (reinsert_done c p a rest q h) (later q (subst (EachPool P) h (at_lasts k c a.level p a.entry e)))
        go NoneFree h later = rw (reinsert_full c p a rest h) tt

    back_lasts : (d : Condensed) → P d.pool → EachPool P (put_back c d)
    back_lasts d e = rw (back_is c d) (short_lasts (reinsert c d.pool d.set_aside) (reinsert_lasts d.set_aside d.pool e))

    pub delete_lasts : (p : Pool) (r : Record) → P p → EachPool P (delete_record c p r)
    delete_lasts p r e = go (path_to p r) refl
      where
        less : Pool
        less = put_records p (p.records - 1)

        go : (o : Option Path) → path_to p r ≡ o → EachPool P (delete_record c p r)
        go None h = rw (delete_missing c p r h) e
        go (Some way) h = rw (delete_found c p r way h) (back_lasts (condense less way) (condense_lasts less way (k.records p (p.records - 1) e)))

    pub update_lasts : (p : Pool) (old : Record) (new : Rect) → P p → EachPool P (update_record c p old new)
    update_lasts p old new e = go (delete_record c p old) refl
      where
        go : (o : Change) → delete_record c p old ≡ o → EachPool P (update_record c p old new)
        go (Done q) h = rw (update_done c p old new q h) (insert_lasts k c q (moved old new) (subst (EachPool P) h (delete_lasts p old e)))
        go NoneFree h = rw (update_stuck c p old new h) tt

-- and CondenseTree leaves the edition
pub condense_edition : (p : Pool) (way : Path) → (condense p way).pool.edition ≡ p.edition
condense_edition p way = condense_lasts (edition_lasts p.edition) p way refl

-- a delete or an update that is done leaves a pool of the same edition
module _ (c : Choice) (p q : Pool) where
  pub delete_edition : (r : Record) → delete_record c p r ≡ Done q → q.edition ≡ p.edition
  delete_edition r h = subst (EachPool (λ z. z.edition ≡ p.edition)) h (delete_lasts (edition_lasts p.edition) c p r refl)

  pub update_edition : (old : Record) (new : Rect) → update_record c p old new ≡ Done q → q.edition ≡ p.edition
  update_edition old new h = subst (EachPool (λ z. z.edition ≡ p.edition)) h (update_lasts (edition_lasts p.edition) c p old new refl)
