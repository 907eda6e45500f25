-- The first frame: the edition, the count, and then the records.
use mathlib.Core.Path.{◌≡◌, refl, sym, ap, subst, ◌∙◌}
use mathlib.Core.Bool.{Bool, true, false, ◌&&◌}
use mathlib.Core.List.{List}
use Rattle.std.specs.Prelude.{None, Some, Result, Err}
use Prim.Native.Nat.{ℕ}
use native.Mathlib.Omega.{arith}
use lib.ListN.{drop}
use lib.Seq.{drop-drop}
use lib.IntN.{ℤ, pos, negsuc, nat_abs}
use lib.Signed.{le_z, lt_z}
use borrow.Author.Tests.{le-ltb}
use Rattle.rules.specs.declared.Edition.{Edition}
use Rattle.rules.specs.declared.FileFault.{FileFault}
use Rattle.rules.specs.declared.FileFault.TheVariants.{BadFrame}
use Rattle.rules.specs.Lists.{same}
use Rattle.rules.specs.Owners.{edition_number}
use Rattle.rules.specs.Pool.{Pool}
use Rattle.rules.specs.Layout.{natural, word_at}
use Rattle.rules.specs.Insert.{ours}
use Rattle.rules.specs.Frames.{word_values}
use Rattle.rules.specs.File.{frame_due, good_head, count_in, Load, Fails, load_records, load_file}
use Rattle.rules_laws.proofs.Bools.{stop, go_on, both_and}
use Rattle.rules_laws.proofs.Orders.{never_both, not_less, at_most_self, both_at_most}
use Rattle.frames.specs.Places.{word_from}
use Rattle.frames.proofs.Words.{words_at}
use Rattle.file_laws.proofs.Due.{due_in}
use Rattle.file_laws.proofs.Steps as S
use Rattle.file.specs.Loading.{is_due, Loads}
use Rattle.file.proofs.Dues.{due_here, none_due}

-- ---- two words, as the code compares them

cast_is : (z : ℤ) → le_z (pos 0) z ≡ true → nat_abs z ≡ natural z
unfolding natural
cast_is (pos n) h = refl
cast_is (negsuc n) h = never_both h refl

same_as : (a b : ℤ) → a ≡ b → same a b ≡ true
unfolding same
same_as a b e = rw (e, at_most_self b)

other_than : (a b : ℤ) → (a ≡ b → ⊥) → same a b ≡ false
unfolding same
other_than a b h = go (le_z a b) (le_z b a) refl refl
  where
    go : (p q : Bool) → le_z a b ≡ p → le_z b a ≡ q → (le_z a b && le_z b a) ≡ false
    go true true e f = absurd (h (both_at_most a b e f))
    go true false e f = rw (e, f)
    go false q e f = rw (e)

below_none : (z : ℤ) → lt_z z (pos 0) ≡ true → le_z (pos 0) z ≡ false
below_none (pos n) h = never_both h (le-ltb n 0 (omega arith))
below_none (negsuc n) h = refl

-- ---- the head

module _ (ed : Edition) (p : Pool) (bs : List ℕ) (w : List ℤ) where
  bad : load_file ours ed p bs ≡ Fails BadFrame → Loads (load_file ours ed p bs) (Err BadFrame) w
  bad e = subst (λ (l : Load). Loads l (Err BadFrame) w) (sym e) refl

  pub head_missing : is_due 16 2 bs ≡ false → Loads (load_file ours ed p bs) (Err BadFrame) w
  head_missing h = bad (S.head_none ours ed p bs (none_due 16 2 bs h))

  module _ (h : is_due 16 2 bs ≡ true) where
    abbrev ws : List ℤ
    ws = word_values 2 (drop 4 bs)

    -- the two words
    first_word : word_at ws 0 ≡ word_from bs 4
    first_word = words_at 2 0 (drop 4 bs) (omega arith)

    second_word : word_at ws 1 ≡ word_from bs 8
    second_word = words_at 2 1 (drop 4 bs) (omega arith) ∙ ap (λ (l : List ℕ). word_from l 0) (drop-drop 4 4 bs)

    here : frame_due 16 2 bs ≡ Some (due_in 2 bs)
    here = due_here 16 2 bs h

    pub head_edition : {z n : ℤ} → z ≡ word_from bs 4 → n ≡ pos (edition_number ed) → (z ≡ n → ⊥) → Loads (load_file ours ed p bs) (Err BadFrame) w
    head_edition {z} {n} e q f = bad (S.head_bad ours ed p bs (due_in 2 bs) here wrong)
      where
        other : same (word_at ws 0) (pos (edition_number ed)) ≡ false
        other = other_than (word_at ws 0) (pos (edition_number ed)) (λ h. f (e ∙ sym first_word ∙ h ∙ sym q))

        wrong : good_head ed ws ≡ false
        wrong = unfold good_head in stop (same (word_at ws 0) (pos (edition_number ed))) (le_z (pos 0) (word_at ws 1)) other

    module _ {z y : ℤ} (e : z ≡ word_from bs 4) (q : y ≡ pos (edition_number ed)) (f : z ≡ y) {n : ℤ} (c : n ≡ word_from bs 8) where
      right : same (word_at ws 0) (pos (edition_number ed)) ≡ true
      right = same_as (word_at ws 0) (pos (edition_number ed)) (first_word ∙ sym e ∙ f ∙ q)

      pub head_count : lt_z n (pos 0) ≡ true → Loads (load_file ours ed p bs) (Err BadFrame) w
      head_count g = bad (S.head_bad ours ed p bs (due_in 2 bs) here wrong)
        where
          below : le_z (pos 0) (word_at ws 1) ≡ false
          below = subst (λ (x : ℤ). le_z (pos 0) x ≡ false) (c ∙ sym second_word) (below_none n g)

          wrong : good_head ed ws ≡ false
          wrong = unfold good_head in go_on (same (word_at ws 0) (pos (edition_number ed))) (le_z (pos 0) (word_at ws 1)) right ∙ below

      pub head_loads : lt_z n (pos 0) ≡ false → (r : Result (Unit {0}) FileFault) → Loads (load_records ours ed (nat_abs n) None p (drop 12 bs)) r w
          → Loads (load_file ours ed p bs) r w
      head_loads g r l =
          subst (λ (x : Load). Loads x r w)
          (sym (S.head_good ours ed p bs (due_in 2 bs) here good ∙ ap (λ (j : ℕ). load_records ours ed j None p (drop 12 bs)) (sym count))) l
        where
          least : le_z (pos 0) n ≡ true
          least = not_less (pos 0) n g

          good : good_head ed ws ≡ true
          good =
              unfold good_head in both_and (same (word_at ws 0) (pos (edition_number ed))) (le_z (pos 0) (word_at ws 1)) right
              (subst (λ (x : ℤ). le_z (pos 0) x ≡ true) (c ∙ sym second_word) least)

          count : nat_abs n ≡ count_in ws
          count = unfold count_in in cast_is n least ∙ ap natural (c ∙ sym second_word)
