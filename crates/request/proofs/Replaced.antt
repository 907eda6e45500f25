-- "Update deletes the old pair, then inserts the new rectangle under the same number": the two halves, in words. What the delete leaves is
-- ready for the insert, since a delete leaves a whole pool.
use mathlib.Core.Path.{◌≡◌, refl, sym, ap, subst, ◌∙◌}
use mathlib.Core.List.{List}
use lib.ListN.{length}
use lib.IntN.{ℤ}
use Rattle.std.specs.Prelude.{Option, Some, None}
use Rattle.rules.specs.declared.Rect.{Rect}
use Rattle.rules.specs.declared.Record.{Record}
use Rattle.rules.specs.Pool.{Pool, moved}
use Rattle.rules.specs.Layout.{read}
use Rattle.rules.specs.Insert.{ours, Change, Done, NoneFree, insert_record}
use Rattle.rules.specs.Delete.{delete_record, update_record}
use Rattle.layout_laws.specs.Slots.{Fit}
use Rattle.rules_laws.proofs.Splits.{ours_lawful}
use Rattle.sound_laws.specs.Tree.{Whole}
use Rattle.free_slots.specs.declared.FreeSlots.{FreeSlots}
use Rattle.free_slots.specs.Known.{Known}
use Rattle.delete_laws.proofs.Delete.{delete_whole}
use Rattle.delete_laws.proofs.Lasting.{delete_edition}
use Rattle.delete_laws.proofs.Update.{update_done, update_stuck}
use Rattle.insert.specs.Left.{Leaves}
use Rattle.delete.specs.Removed.{Removes}

-- the second half refused leaves what the first half left
leaves_removes : (w v u : List ℤ) (c : Change) (o : Option FreeSlots) → length u ≡ length w → Leaves v c o u → Removes w c o u
leaves_removes w v u (Done q) (Some f) e h = h
leaves_removes w v u (Done q) None e h = absurd h
leaves_removes w v u NoneFree (Some f) e h = absurd h
leaves_removes w v u NoneFree None e h = e

-- what the first half left, for the second
pub record Half (w : List ℤ) (g : FreeSlots) (v : List ℤ) : Type 0 where
  pub fit : Fit v
  pub whole : Whole (read v)
  pub edition : (read v).edition ≡ (read w).edition
  pub known : Known (read v) g

module _ (w : List ℤ) (whole : Whole (read w)) (old : Record) (new : Rect) where
  abbrev deletes : Change
  deletes = delete_record ours (read w) old

  pub replace_refused : (v : List ℤ) → Removes w deletes None v → Removes w (update_record ours (read w) old new) None v
  replace_refused v h = go deletes refl h
    where
      go : (c : Change) → deletes ≡ c → Removes w c None v → Removes w (update_record ours (read w) old new) None v
      go (Done q) e k = absurd k
      go NoneFree e k = rw (update_stuck ours (read w) old new e) k

  module _ (v : List ℤ) (g : FreeSlots) (half : Removes w deletes (Some g) v) where
    pub replace_half : Half w g v
    replace_half = go deletes refl half
      where
        go : (c : Change) → deletes ≡ c → Removes w c (Some g) v → Half w g v
        go (Done q) e k = record {
          fit = k.fit;
          whole = subst Whole (sym k.is) (delete_whole ours ours_lawful (read w) whole old q e);
          edition = ap (λ (p : Pool). p.edition) k.is ∙ delete_edition ours (read w) q old e;
          known = subst (λ (p : Pool). Known p g) (sym k.is) k.known;
        }
        go NoneFree e k = absurd k

    pub replace_made : (o : Option FreeSlots) (u : List ℤ) → length u ≡ length w → Leaves v (insert_record ours (read v) (moved old new)) o u
        → Removes w (update_record ours (read w) old new) o u
    replace_made o u e l = go deletes refl half
      where
        go : (c : Change) → deletes ≡ c → Removes w c (Some g) v → Removes w (update_record ours (read w) old new) o u
        go (Done q) d k =
            subst (λ (c : Change). Removes w c o u)
            (ap (λ (p : Pool). insert_record ours p (moved old new)) k.is ∙ sym (update_done ours (read w) old new q d))
            (leaves_removes w v u (insert_record ours (read v) (moved old new)) o e l)
        go NoneFree d k = absurd k
