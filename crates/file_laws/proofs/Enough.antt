-- What a writer makes of records that ascend is read again, for every lawful choice, where the pool has half as many slots as there are
-- records: an insert into a pool with at most two records for each slot finds the slots that it needs.
use mathlib.Core.Path.{◌≡◌, refl, sym, ap, ◌∙◌}
use mathlib.Core.Bool.{true}
use mathlib.Core.List.{List, [], ◌∷◌, ◌++◌, map, append-nil, append_assoc}
use Rattle.std.specs.Prelude.{Option, None, Some}
use Prim.Native.Nat.{ℕ, suc, ◌+◌, ◌*◌, ◌≤◌, ◌<◌}
use native.Mathlib.Omega.{arith}
use lib.ListN.{length, length-replicate}
use lib.IntN.{ℤ, pos, negsuc}
use lib.Signed.{le_z}
use borrow.Author.Tests.{le-leb, leb-true}
use Rattle.rules.specs.declared.Edition.{Edition}
use Rattle.rules.specs.declared.Edition.TheVariants.{One, Two}
use Rattle.rules.specs.declared.Owner.{Owner}
use Rattle.rules.specs.declared.Record.{Record}
use Rattle.rules.specs.Lists.{joined, same}
use Rattle.rules.specs.Pool.{Pool, free_node, stored, blank_pool}
use Rattle.rules.specs.Numbers.{good_owner}
use Rattle.rules.specs.Owners.{edition_number, owner_sound}
use Rattle.rules.specs.Layout.{natural, word_at}
use Rattle.rules.specs.Frames.{rect_in}
use Rattle.rules.specs.Insert.{Choice, Change, Done, NoneFree, insert_record}
use Rattle.rules.specs.Lawful.{Lawful}
use Rattle.rules.specs.File.{head_frame, record_kind, pair_words, record_words, record_frame, end_frame, file_bytes, Due, frame_due, record_due, good_head, count_in, record_in}
use Rattle.rules.specs.File.{records_from, file_records, Loaded, follows, record_fault, end_of, load_records, load_file}
use Rattle.rules_laws.proofs.Bools.{and_both, both_and}
use Rattle.rules_laws.proofs.Orders.{never_both}
use Rattle.rules_laws.proofs.Places.{Each, each_also}
use Rattle.rules_laws.proofs.Parts.{those_all}
use Rattle.rules_laws.proofs.Joins.{joined_none, joined_more}
use Rattle.sound_laws.specs.Tree.{Whole}
use Rattle.sound_laws.proofs.Same.{same_is}
use Rattle.insert_laws.proofs.Whole.{insert_whole, insert_stored}
use Rattle.insert_laws.proofs.Enough.{insert_enough}
use Rattle.in_force_laws.proofs.Call.{blank_holds}
use Rattle.file_laws.specs.Bytes.{Word}
use Rattle.file_laws.specs.Ascending.{Ascending, GoodRecord, Carriable}
use Rattle.file_laws.proofs.Written.{due_written}
use Rattle.file_laws.proofs.Numbers.{valid_words}
use Rattle.file_laws.proofs.Carried.{nobody_is}
use Rattle.file_laws.proofs.Steps as S
use Rattle.file_laws.proofs.Loads.{same_slots}

-- ---- the frames are those that are due

abbrev NumberWord : Record → Type 0
NumberWord r = Word r.number.0

-- an owner of edition 2 is a word
owner_word_lem : (z : ℤ) → le_z (pos 1) z ≡ true → le_z z (pos 2) ≡ true → Word z
owner_word_lem (pos n) a b = record { small = omega (arith, leb-true n 2 b) }
owner_word_lem (negsuc n) a b = never_both a refl

good_owner_word : (o : Owner) → good_owner o ≡ true → Word o.0
unfolding good_owner
good_owner_word o h = let q = and_both (le_z (pos 1) o.0) (le_z o.0 (pos 2)) h in owner_word_lem o.0 q.0 q.1

-- an edition's number is a word
edition_word : (ed : Edition) → Word (pos (edition_number ed))
unfolding edition_number
edition_word One = record { small = omega arith }
edition_word Two = record { small = omega arith }

-- the words of a record of the edition, its number being one
pair_words_lem : (ed : Edition) (r : Record) → GoodRecord ed r → NumberWord r → Each Word (pair_words r)
unfolding pair_words
pair_words_lem ed r g n = let v = valid_words r.rect g.0 in (n, (v.lowX, (v.lowY, (v.highX, (v.highY, tt)))))

record_due_lem : (ed : Edition) (r : Record) → GoodRecord ed r → NumberWord r → (rest : List ℕ)
    → record_due ed (record_frame ed r ++ rest) ≡ Some (record { words = record_words ed r; after = rest })
unfolding record_frame record_kind record_words pair_words owner_sound
record_due_lem One r g n rest = due_written 17 (pair_words r) rest (omega arith) (omega arith) (pair_words_lem One r g n)
record_due_lem Two r g n rest =
    due_written 19 (r.owner.0 ∷ pair_words r) rest (omega arith) (omega arith) (good_owner_word r.owner g.2, pair_words_lem Two r g n)

record_back : (ed : Edition) (r : Record) → owner_sound ed r.owner ≡ true → record_in ed (record_words ed r) ≡ r
unfolding record_in record_words pair_words rect_in word_at
record_back One r s = λ i. record { owner = sym (nobody_is r s) i; number = r.number; rect = r.rect }
record_back Two r s = refl

end_due : frame_due 18 0 end_frame ≡ Some (record { words = []; after = [] })
unfolding end_frame
end_due = ap (frame_due 18 0) (sym (append-nil _)) ∙ due_written 18 [] [] (omega arith) (omega arith) tt

module _ (ed : Edition) where
  -- the frames of the records, and the last
  abbrev rest_of : List Record → List ℕ
  rest_of rs = joined (map (record_frame ed) rs) ++ end_frame

  rest_none : rest_of [] ≡ end_frame
  rest_none = ap (λ (l : List ℕ). l ++ end_frame) (joined_none (record_frame ed))

  rest_more : (r : Record) (rs : List Record) → rest_of (r ∷ rs) ≡ record_frame ed r ++ rest_of rs
  rest_more r rs =
      ap (λ (l : List ℕ). l ++ end_frame) (joined_more (record_frame ed) r rs) ∙ append_assoc (record_frame ed r) (joined (map (record_frame ed) rs)) end_frame

  next_due : (r : Record) (rs : List Record) → GoodRecord ed r → NumberWord r
      → record_due ed (rest_of (r ∷ rs)) ≡ Some (record { words = record_words ed r; after = rest_of rs })
  next_due r rs g n = ap (record_due ed) (rest_more r rs) ∙ record_due_lem ed r g n (rest_of rs)

  pub records_back : (rs : List Record) → Each (GoodRecord ed) rs → Each NumberWord rs → records_from ed (length rs) (rest_of rs) ≡ rs
  records_back [] g n = unfold records_from in refl
  records_back (r ∷ rs) g n =
      S.records_more ed (length rs) (rest_of (r ∷ rs)) (record { words = record_words ed r; after = rest_of rs }) (next_due r rs g.0 n.0)
      ∙ (λ i. record_back ed r g.0.2 i ∷ records_back rs g.1 n.1 i)

-- ---- every record finds its slots

load_last : (c : Choice) (ed : Edition) (last : Option Record) (p : Pool) (bs : List ℕ) → load_records c ed 0 last p bs ≡ end_of p (frame_due 18 0 bs)
unfolding load_records
load_last c ed last p bs = refl

module _ (c : Choice) (lawful : Lawful c) (ed : Edition) where
  -- an insert leaves one record more
  one_more : (p q : Pool) → Whole p → (r : Record) → GoodRecord ed r → insert_record c p r ≡ Done q → length (stored q) ≡ length (stored p) + 1
  one_more p q w r g i =
      let more = insert_stored c lawful p w r g.0 g.1 q i (λ x. true) in
      rw (those_all (stored q), those_all (stored p), those_all (r ∷ [])) at more

  -- a good record goes in while there are at most two for each slot
  goes_in : (p : Pool) → Whole p → (r : Record) → GoodRecord ed r → length (stored p) ≤ 2 * length p.slots → (q : Pool) × (insert_record c p r ≡ Done q)
  goes_in p w r g h = go (insert_record c p r) refl
    where
      go : (o : Change) → insert_record c p r ≡ o → (q : Pool) × (insert_record c p r ≡ Done q)
      go (Done q) e = (q, e)
      go NoneFree e = absurd (insert_enough c lawful p w r g.0 g.1 h e)

  all_go_in : (rs : List Record) (last : Option Record) (p : Pool) → Whole p → Ascending rs → Each (GoodRecord ed) rs → Each NumberWord rs
      → Each (λ r. follows last r ≡ true) rs → length (stored p) + length rs ≤ 2 * length p.slots + 1
      → (q : Pool) × (load_records c ed (length rs) last p (rest_of ed rs) ≡ Loaded q)
  all_go_in [] last p w a g n f h =
      let e : frame_due 18 0 (rest_of ed []) ≡ Some (record { words = []; after = [] }) = ap (frame_due 18 0) (rest_none ed) ∙ end_due in
      (p, load_last c ed last p (rest_of ed []) ∙ S.end_here p (rest_of ed []) (record { words = []; after = [] }) e refl)
  all_go_in (r ∷ rs) last p w a g n f h =
      let d : Due = record { words = record_words ed r; after = rest_of ed rs } in
      let i = goes_in p w r g.0 (omega arith) in
      let q = i.0 in
      let pass = S.passes_fault ed last r (record { rect = g.0.0; number = g.0.1; owner = g.0.2; after = f.0 }) in
      let w2 = insert_whole c lawful p w r g.0.0 g.0.1 q i.1 in
      let rest = all_go_in rs (Some r) q w2 a.1 g.1 n.1 (unfold follows in a.0)
      (omega (arith, h, same_slots c p q r i.1, one_more p q w r g.0 i.1)) in
      let back = record_back ed r g.0.2 in (
        rest.0,
        S.load_next c ed (length rs) last p (rest_of ed (r ∷ rs)) d (next_due ed r rs g.0 n.0) (ap (record_fault ed last) back ∙ pass) q (ap (insert_record c p) back ∙ i.1)
            ∙ ap (λ (x : Record). load_records c ed (length rs) (Some x) q (rest_of ed rs)) back ∙ rest.1,
      )

  -- ---- a file

  head_due : (n : ℕ) (rest : List ℕ) → n < 2147483648 → frame_due 16 2 (head_frame ed n ++ rest) ≡ Some (record { words = pos (edition_number ed) ∷ pos n ∷ []; after = rest })
  unfolding head_frame
  head_due n rest h =
      due_written 16 (pos (edition_number ed) ∷ pos n ∷ []) rest (omega arith) (omega arith) (edition_word ed, (record { small = h }, tt))

  head_right : (n : ℕ) → good_head ed (pos (edition_number ed) ∷ pos n ∷ []) ≡ true
  unfolding good_head word_at
  head_right n =
      both_and (same (pos (edition_number ed)) (pos (edition_number ed))) (le_z (pos 0) (pos n)) ((same_is (pos (edition_number ed)) (pos (edition_number ed))).1 refl) (le-leb 0 n (omega arith))

  head_many : (n : ℕ) → count_in (pos (edition_number ed) ∷ pos n ∷ []) ≡ n
  unfolding count_in word_at natural
  head_many n = refl

  file_parts : (rs : List Record) → file_bytes ed rs ≡ head_frame ed (length rs) ++ rest_of ed rs
  unfolding file_bytes
  file_parts rs = append_assoc (head_frame ed (length rs)) (joined (map (record_frame ed) rs)) end_frame

  module _ (rs : List Record) (k : Carriable ed rs) (n : Each NumberWord rs) (few : length rs < 2147483648) where
    first : Due
    first = record { words = pos (edition_number ed) ∷ pos (length rs) ∷ []; after = rest_of ed rs }

    due : frame_due 16 2 (file_bytes ed rs) ≡ Some first
    unfolding first
    due = ap (frame_due 16 2) (file_parts rs) ∙ head_due (length rs) (rest_of ed rs) few

    -- a file of records says those records
    pub file_says : file_records ed (file_bytes ed rs) ≡ rs
    unfolding first
    file_says =
        S.file_records_lem ed (file_bytes ed rs) first due
        ∙ ap (λ (m : ℕ). records_from ed m (rest_of ed rs)) (head_many (length rs))
        ∙ records_back ed rs k.good n

    slots_are : (m : ℕ) → length (blank_pool ed m).slots ≡ suc m
    unfolding blank_pool
    slots_are m = ap suc (length-replicate m free_node)

    none_yet : (m : ℕ) → length (stored (blank_pool ed m)) ≡ 0
    none_yet m =
        let e = (blank_holds ed m).alike.each (λ x. true) in
        rw (those_all (stored (blank_pool ed m)), those_all {A = Record} []) at e

    -- "how many slots are always enough": half as many as there are records
    pub file_enough : (m : ℕ) → length rs ≤ 2 * suc m + 1 → (q : Pool) × (load_file c ed (blank_pool ed m) (file_bytes ed rs) ≡ Loaded q)
    unfolding first
    file_enough m h =
        let all = all_go_in rs None (blank_pool ed m) (blank_holds ed m).whole k.ascending k.good n
        (each_also (GoodRecord ed) (λ r. follows None r ≡ true) (λ r g. unfold follows in refl) rs k.good)
        (omega (arith, h, slots_are m, none_yet m)) in (
          all.0,
          S.head_good c ed (blank_pool ed m) (file_bytes ed rs) first due (head_right (length rs))
              ∙ ap (λ (x : ℕ). load_records c ed x None (blank_pool ed m) (rest_of ed rs)) (head_many (length rs)) ∙ all.1,
        )
