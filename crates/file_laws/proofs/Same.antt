-- An accepted file is the file of its records, to the byte: every frame is the one due, and bytes and words are one to one.
use mathlib.Core.Path.{◌≡◌, refl, sym, ap, ap₂, subst, ◌∙◌}
use mathlib.Core.Bool.{true}
use mathlib.Core.List.{List, [], ◌∷◌, ◌++◌, map, append-nil, append_assoc}
use Rattle.std.specs.Prelude.{None, Some}
use Prim.Native.Nat.{ℕ, suc}
use native.Mathlib.Omega.{arith}
use lib.ListN.{length}
use lib.IntN.{ℤ, pos, negsuc}
use lib.Signed.{le_z}
use Rattle.rules.specs.declared.Edition.{Edition}
use Rattle.rules.specs.declared.Edition.TheVariants.{One, Two}
use Rattle.rules.specs.declared.Record.{Record}
use Rattle.rules.specs.Lists.{joined, same}
use Rattle.rules.specs.Pool.{Pool, blank_pool}
use Rattle.rules.specs.Owners.{edition_number}
use Rattle.rules.specs.Layout.{natural, word_at}
use Rattle.rules.specs.Frames.{rect_in}
use Rattle.rules.specs.Insert.{Choice}
use Rattle.rules.specs.Lawful.{Lawful}
use Rattle.rules.specs.File.{frame_bytes, head_frame, record_kind, pair_words, record_words, record_size, record_frame, end_frame, file_bytes, records_carried, pool_file}
use Rattle.rules.specs.File.{Due, frame_due, record_due, good_head, count_in, record_in, records_from, file_records, load_records, load_file, Load, Loaded, Fails}
use Rattle.rules_laws.proofs.Bools.{and_both}
use Rattle.rules_laws.proofs.Orders.{never_both}
use Rattle.rules_laws.proofs.Places.{nothing}
use Rattle.rules_laws.proofs.Joins.{joined_none, joined_more}
use Rattle.sound_laws.proofs.Same.{same_is}
use Rattle.file_laws.specs.Bytes.{AllBytes}
use Rattle.file_laws.proofs.All.{all_none, all_append}
use Rattle.file_laws.proofs.Written.{due_bytes, frame_all}
use Rattle.file_laws.proofs.Steps as S
use Rattle.file_laws.proofs.Rule.{file_cases, IfLoaded, then_loaded, load_by}
use Rattle.file_laws.proofs.Loads.{Holds, file_loads}

-- ---- a frame, from its words

record_words_lem : (ed : Edition) (ws : List ℤ) → length ws ≡ record_size ed → record_frame ed (record_in ed ws) ≡ frame_bytes (record_kind ed) ws
unfolding record_frame record_words pair_words record_in rect_in word_at
record_words_lem One (a ∷ b ∷ c ∷ d ∷ e ∷ []) h = refl
record_words_lem One [] h = absurd (omega arith)
record_words_lem One (a ∷ []) h = absurd (omega arith)
record_words_lem One (a ∷ b ∷ []) h = absurd (omega arith)
record_words_lem One (a ∷ b ∷ c ∷ []) h = absurd (omega arith)
record_words_lem One (a ∷ b ∷ c ∷ d ∷ []) h = absurd (omega arith)
record_words_lem One (a ∷ b ∷ c ∷ d ∷ e ∷ f ∷ ws) h = absurd (omega arith)
record_words_lem Two (a ∷ b ∷ c ∷ d ∷ e ∷ f ∷ []) h = refl
record_words_lem Two [] h = absurd (omega arith)
record_words_lem Two (a ∷ []) h = absurd (omega arith)
record_words_lem Two (a ∷ b ∷ []) h = absurd (omega arith)
record_words_lem Two (a ∷ b ∷ c ∷ []) h = absurd (omega arith)
record_words_lem Two (a ∷ b ∷ c ∷ d ∷ []) h = absurd (omega arith)
record_words_lem Two (a ∷ b ∷ c ∷ d ∷ e ∷ []) h = absurd (omega arith)
record_words_lem Two (a ∷ b ∷ c ∷ d ∷ e ∷ f ∷ g ∷ ws) h = absurd (omega arith)

-- a count that is not below zero is its own number
counted : (z : ℤ) → le_z (pos 0) z ≡ true → pos (natural z) ≡ z
unfolding natural
counted (pos n) h = refl
counted (negsuc n) h = never_both h refl

two_words : (ed : Edition) (ws : List ℤ) → length ws ≡ 2 → good_head ed ws ≡ true → head_frame ed (count_in ws) ≡ frame_bytes 16 ws
unfolding head_frame good_head count_in word_at
two_words ed (a ∷ b ∷ []) h g =
    let q = and_both (same a (pos (edition_number ed))) (le_z (pos 0) b) g in
    ap₂ (λ (x y : ℤ). frame_bytes 16 (x ∷ y ∷ [])) (sym ((same_is a (pos (edition_number ed))).0 q.0)) (counted b q.1)
two_words ed [] h g = absurd (omega arith)
two_words ed (a ∷ []) h g = absurd (omega arith)
two_words ed (a ∷ b ∷ c ∷ ws) h g = absurd (omega arith)

-- ---- the frames of n records, and the last

module _ (ed : Edition) where
  pub record Framed (n : ℕ) (bs : List ℕ) : Type 0 where
    pub many : length (records_from ed n bs) ≡ n
    pub bytes : bs ≡ joined (map (record_frame ed) (records_from ed n bs)) ++ end_frame

  last_frame : (bs : List ℕ) (d : Due) → AllBytes bs → frame_due 18 0 bs ≡ Some d → d.after ≡ [] → Framed 0 bs
  unfolding records_from end_frame
  last_frame bs d a e f =
      let b = due_bytes 18 0 bs d a e in
      let none_left = nothing d.words b.1 in
      record {
        many = refl;
        bytes = b.0 ∙ ap₂ (λ (ws : List ℤ) (l : List ℕ). frame_bytes 18 ws ++ l) none_left f ∙ append-nil (frame_bytes 18 [])
            ∙ sym (ap (λ (l : List ℕ). l ++ frame_bytes 18 []) (joined_none (record_frame ed)));
      }

  one_frame : (n : ℕ) (bs : List ℕ) (d : Due) → AllBytes bs → record_due ed bs ≡ Some d → Framed n d.after → Framed (suc n) bs
  one_frame n bs d a e t =
      let b = due_bytes (record_kind ed) (record_size ed) bs d a e in
      let r = record_in ed d.words in
      let rs = records_from ed n d.after in
      let all = S.records_more ed n bs d e in
      let rest = joined (map (record_frame ed) rs) in
      record {
        many = ap length all ∙ ap suc t.many;
        bytes = b.0 ∙ ap₂ (λ (x y : List ℕ). x ++ y) (sym (record_words_lem ed d.words b.1)) t.bytes
            ∙ sym (append_assoc (record_frame ed r) rest end_frame) ∙ ap (λ (l : List ℕ). l ++ end_frame) (sym (joined_more (record_frame ed) r rs))
            ∙ sym (ap (λ (l : _). joined (map (record_frame ed) l) ++ end_frame) all);
      }

  module _ (c : Choice) (p : Pool) (bs : List ℕ) (a : AllBytes bs) where
    framed : (d : Due) → frame_due 16 2 bs ≡ Some d
        → IfLoaded (λ q. Framed (count_in d.words) d.after) (load_records c ed (count_in d.words) None p d.after)
    framed d e =
        let n = count_in d.words in
        then_loaded (λ q. AllBytes d.after → Framed n d.after) (λ q. Framed n d.after) (λ q f. f (due_bytes 16 2 bs d a e).2)
        (load_records c ed n None p d.after)
        (load_by c ed (λ n last p bs q. AllBytes bs → Framed n bs) (λ last p bs d e f a. last_frame bs d a e f)
        (λ n last p bs d q s e g i t a. one_frame n bs d a e (t (due_bytes (record_kind ed) (record_size ed) bs d a e).2)) n None p d.after)

    whole_file : (d : Due) → frame_due 16 2 bs ≡ Some d → good_head ed d.words ≡ true → Framed (count_in d.words) d.after
        → bs ≡ file_bytes ed (file_records ed bs)
    unfolding file_bytes
    whole_file d e g t =
        let b = due_bytes 16 2 bs d a e in
        let rs = records_from ed (count_in d.words) d.after in
        let all = S.file_records_lem ed bs d e in
        let front = joined (map (record_frame ed) rs) in
        b.0
        ∙ ap₂ (λ (x y : List ℕ). x ++ y) (sym (two_words ed d.words b.1 g)) t.bytes
        ∙ sym (append_assoc (head_frame ed (count_in d.words)) front end_frame)
        ∙ ap (λ (n : ℕ). head_frame ed n ++ front ++ end_frame) (sym t.many)
        ∙ sym (ap (λ (l : _). head_frame ed (length l) ++ joined (map (record_frame ed) l) ++ end_frame) all)

    -- "writing again gives the same bytes", of any file that is accepted
    pub file_same : IfLoaded (λ q. bs ≡ file_bytes ed (file_records ed bs)) (load_file c ed p bs)
    file_same =
        file_cases c ed p bs (IfLoaded (λ q. bs ≡ file_bytes ed (file_records ed bs))) tt
        (λ d e h. then_loaded (λ q. Framed (count_in d.words) d.after) (λ q. bs ≡ file_bytes ed (file_records ed bs)) (λ q t. whole_file d e h t)
        (load_records c ed (count_in d.words) None p d.after) (framed d e))

  -- ---- a file is bytes

  records_all : (rs : List Record) → AllBytes (joined (map (record_frame ed) rs))
  unfolding record_frame
  records_all [] = subst AllBytes (sym (joined_none (record_frame ed))) all_none
  records_all (r ∷ rs) = subst AllBytes (sym (joined_more (record_frame ed) r rs)) (all_append (frame_all (record_kind ed) _) (records_all rs))

  pub file_all : (rs : List Record) → AllBytes (file_bytes ed rs)
  unfolding file_bytes head_frame end_frame
  file_all rs = all_append (all_append (frame_all 16 _) (records_all rs)) (frame_all 18 [])

-- ---- there and back

-- "Where a read of a written file is accepted, writing again gives the same bytes", and so it is of any file of bytes that is accepted: the file of
-- the pool that it leaves is the file
module _ (c : Choice) (lawful : Lawful c) (ed : Edition) (m : ℕ) (bs : List ℕ) (a : AllBytes bs) where
  pub written_again : IfLoaded (λ q. pool_file q ≡ bs) (load_file c ed (blank_pool ed m) bs)
  unfolding pool_file
  written_again = go (load_file c ed (blank_pool ed m) bs) (file_loads c lawful ed m bs) (file_same ed c (blank_pool ed m) bs a)
    where
      go : (l : Load) → IfLoaded (Holds c lawful ed m bs) l → IfLoaded (λ q. bs ≡ file_bytes ed (file_records ed bs)) l → IfLoaded (λ q. pool_file q ≡ bs) l
      go (Loaded q) h s =
          ap (λ (e : Edition). file_bytes e (records_carried q)) h.edition ∙ ap (file_bytes ed) h.order ∙ sym s
      go (Fails f) h s = tt
