-- Sound words are those of a whole pool: the words say that they are the pool's, and the questions of soundness that it is whole. A search
-- of it finds no more records than the slots have places for.
use mathlib.Core.Path.{◌≡◌, refl, ap₂, subst}
use mathlib.Core.Bool.{true, ◌&&◌}
use mathlib.Core.List.{List, [], ◌∷◌}
use Prim.Native.Nat.{◌*◌, ◌≤◌}
use native.Mathlib.Omega.{arith}
use lib.ListN.{length}
use lib.IntN.{ℤ}
use Rattle.rules.specs.declared.Rect.{Rect}
use Rattle.rules.specs.declared.Mode.{Mode}
use Rattle.rules.specs.Lists.{same}
use Rattle.rules.specs.declared.Record.{Record}
use Rattle.rules.specs.Pool.{Pool, stored}
use Rattle.rules.specs.Layout.{valid_length, slot_count, words, read, same_words}
use Rattle.rules.specs.Sound.{nothing_else, sound_pool, owners_sound, sound}
use Rattle.rules.specs.Search.{found_from_root}
use Rattle.rules_laws.proofs.Bools.{and_both, both_and}
use Rattle.rules_laws.proofs.Orders.{never_both}
use Rattle.rules_laws.proofs.Parts.{those_fewer}
use Rattle.layout_laws.proofs.Few.{stored_few}
use Rattle.sound_laws.specs.Tree.{Whole}
use Rattle.sound_laws.proofs.Same.{same_is}
use Rattle.sound_laws.proofs.Sound.{sound_whole, whole_sound}
use Rattle.search_laws.specs.Window.{record_wanted}
use Rattle.search_laws.proofs.Order.{alike_length}
use Rattle.search_laws.proofs.Found.{found_alike}
use Rattle.layout_laws.specs.Slots.{Fit}
use Rattle.in_force_laws.specs.Shows.{HoldsRecords}
use Rattle.in_force_laws.proofs.Owned.{holds_owners}
use Rattle.in_force_laws.proofs.Written.{holds_reads}

-- ---- words

same_words_lem : (vs ws : List ℤ) → same_words vs ws ≡ true → vs ≡ ws
unfolding same_words
same_words_lem [] [] h = refl
same_words_lem [] (b ∷ bs) h = never_both h refl
same_words_lem (a ∷ vs) [] h = never_both h refl
same_words_lem (a ∷ vs) (b ∷ bs) h =
    let q = and_both (same a b) (same_words vs bs) h in
    ap₂ (λ (x : ℤ) (xs : List ℤ). x ∷ xs) ((same_is a b).0 q.0) (same_words_lem vs bs q.1)

words_same : (ws : List ℤ) → same_words ws ws ≡ true
unfolding same_words
words_same [] = refl
words_same (a ∷ ws) = both_and (same a a) (same_words ws ws) ((same_is a a).1 refl) (words_same ws)

module _ (w : List ℤ) where
  parts : sound w ≡ true → (nothing_else w ≡ true) × (sound_pool (read w) ≡ true) × (owners_sound (read w) ≡ true)
  unfolding sound
  parts h =
      let a = and_both (nothing_else w && sound_pool (read w)) (owners_sound (read w)) h in
      let b = and_both (nothing_else w) (sound_pool (read w)) a.0 in
      (b.0, b.1, a.1)

  -- sound words are those of the pool read from them, the pool is whole, and its records are of owners that it can have
  pub sound_fit : valid_length w ≡ true → sound w ≡ true → Fit w
  unfolding nothing_else
  sound_fit right h = record { right = right; same = same_words_lem (words (read w)) w (parts h).0 }

  pub sound_tree : sound w ≡ true → Whole (read w)
  sound_tree h = sound_whole (read w) (parts h).1

  pub sound_owners : sound w ≡ true → owners_sound (read w) ≡ true
  sound_owners h = (parts h).2

  pub fit_sound : Fit w → Whole (read w) → owners_sound (read w) ≡ true → sound w ≡ true
  unfolding sound nothing_else
  fit_sound f t o =
      both_and (same_words (words (read w)) w && sound_pool (read w)) (owners_sound (read w))
      (both_and (same_words (words (read w)) w) (sound_pool (read w))
      (subst (λ (v : List ℤ). same_words (words (read w)) v ≡ true) f.same (words_same (words (read w)))) (whole_sound (read w) t)) o

-- a pool that holds the records in force has sound words
pub holds_sound : (p : Pool) (rs : List Record) → HoldsRecords p rs → sound (words p) ≡ true
unfolding sound nothing_else
holds_sound p rs k = rw (holds_reads p rs k, words_same (words p), whole_sound p k.whole, holds_owners p rs k)

-- ---- how many records there are

-- a search finds no more than the slots have places for
pub found_few : (w : List ℤ) → Whole (read w) → (mode : Mode) (window : Rect) → length (found_from_root (read w) mode window) ≤ 8 * slot_count w
found_few w whole mode window =
    omega (arith, stored_few w, alike_length (found_alike (read w) mode window whole), those_fewer (record_wanted mode window) (stored (read w)))
