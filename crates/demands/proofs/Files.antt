-- The round trip of a map through a file, by the two contracts alone, in either edition. An accepted file is the file of its records, to the byte,
-- and the pool that was read holds just these; so writing it gives the file.
use mathlib.Core.Path.{◌≡◌, refl, sym, ap, ap₂, subst, ◌∙◌}
use mathlib.Core.Logic.{◌≢◌}
use mathlib.Core.Bool.{Bool, true, false, not}
use mathlib.Core.List.{List}
use Rattle.std.specs.Prelude.{Option, None, Some}
use Prim.Native.Nat.{ℕ, ◌+◌, ◌*◌, ◌-◌, ◌≤◌, ◌<◌}
use native.Mathlib.Omega.{arith}
use lib.ListN.{length, take, drop, length-replicate}
use lib.Seq.{sets, sets-eq, take-append_seam}
use borrow.Author.Tests.{eq-eqb}
use lib.IntN.{ℤ, pos, negsuc}
use Rattle.rules.specs.declared.Edition.{Edition}
use Rattle.rules.specs.declared.Record.{Record}
use Rattle.rules.specs.declared.FileFault.{FileFault}
use Rattle.rules.specs.declared.FileFault.TheVariants.{BadLength, NotSound, BadRectangle, BadNumber, BadOwner, NoSlot, ShortBuffer, BadFrame, NotAfter}
use Rattle.rules.specs.Lists.{those, same}
use Rattle.rules.specs.Owners.{edition_told}
use Rattle.rules.specs.Geometry.{same_pair}
use Rattle.rules.specs.Pool.{Pool, free_node, stored, blank_pool}
use Rattle.rules.specs.Layout.{head_size, slot_size, slots_fitting, valid_size, valid_length, words, read}
use Rattle.rules.specs.Sound.{owners_sound, sound}
use Rattle.rules.specs.Insert.{ours}
use Rattle.rules.specs.File.{file_number, file_bytes, records_carried, pool_file, file_records, WriteLeft, Loaded, load_file, ReadLeft, read_file, read_file_as}
use Rattle.rules_laws.proofs.Bools.{not_false, or_neither}
use Rattle.rules_laws.proofs.Orders.{never_both}
use Rattle.rules_laws.proofs.Places.{Each, each_among}
use Rattle.rules_laws.proofs.Splits.{ours_lawful}
use Rattle.sound_laws.specs.Tree.{Whole}
use Rattle.sound_laws.proofs.Same.{same_is}
use Rattle.search_laws.specs.Order.{Alike}
use Rattle.search_laws.proofs.Order.{alike_on, alike_length}
use Rattle.layout_laws.proofs.Parts.{sized}
use Rattle.layout_laws.proofs.Written.{words_size, words_edition}
use Rattle.in_force_laws.proofs.Sounds.{sound_tree, sound_owners, holds_sound}
use Rattle.in_force_laws.proofs.Written.{holds_reads}
use Rattle.file_laws.specs.Bytes.{AllBytes, Word}
use Rattle.file_laws.specs.Ascending.{Carriable}
use Rattle.file_laws.proofs.Rule.{IfLoaded}
use Rattle.file_laws.proofs.Loads.{Holds, file_loads}
use Rattle.file_laws.proofs.Carried.{carried_among, carried_good, carried_alike}
use Rattle.file_laws.proofs.Same.{file_all, written_again}
use Rattle.file_laws.proofs.Cases.{lengths_wrong, Writable, write_cases, write_writes, read_cases, read_short, read_in, some_fault}
use Rattle.file_laws.proofs.Past.{past_one}
use Rattle.file_laws.proofs.Numbers.{stored_words}
use Rattle.file_laws.proofs.Enough.{file_says, file_enough}
use Rattle.demands.specs.Files.{Write, ReadOf, file_of, WrittenAgain, ReadLeaves, CarriedOver}
use Rattle.demands.proofs.Holds.{read_told, read_untold}

-- ---- what a write and a read have left

-- the text that was set at the front stands there
front_is : (buffer text : List ℕ) → length text ≤ length buffer → take (length text) (sets buffer 0 text) ≡ text
front_is buffer text h = ap (take (length text)) (sets-eq text buffer 0 (omega arith)) ∙ take-append_seam text (drop (0 + length text) buffer)

record Wrote (w : Write) : Type 0 where
  writable : Writable w.pool w.buffer
  bytes : file_of w ≡ pool_file (read w.pool)

wrote : (w : Write) → w.number ≡ pos 0 → Wrote w
wrote w z =
    let a = w.allowed in
    let h = write_cases w.pool w.buffer
    (λ o. o.number ≡ pos 0 → Writable w.pool w.buffer × (take o.size o.file ≡ pool_file (read w.pool)))
    (λ f e. never_both ((same_is (file_number f) (pos 0)).1 e) (some_fault f))
    (λ k e. (k, front_is w.buffer (pool_file (read w.pool)) k.long)) (sym a.number ∙ z) in
    record { writable = h.0; bytes = (λ i. take (a.size i) (a.file i)) ∙ h.1 }

-- a write of a pool that can be written, into a buffer that is long enough
writes : (w : Write) → Writable w.pool w.buffer → (w.number ≡ pos 0) × (file_of w ≡ pool_file (read w.pool))
writes w k =
    let a = w.allowed in
    let e = write_writes w.pool w.buffer k in (
      a.number ∙ ap (λ (o : WriteLeft). o.number) e,
      (λ i. take (a.size i) (a.file i)) ∙ ap (λ (o : WriteLeft). take o.size o.file) e ∙ front_is w.buffer (pool_file (read w.pool)) k.long,
    )

one_none : pos 1 ≡ pos 0 → ⊥
one_none e = never_both ((same_is (pos 1) (pos 0)).1 e) (unfold same in refl)

untold_none : negsuc 0 ≡ pos 0 → ⊥
untold_none e = never_both ((same_is (negsuc 0) (pos 0)).1 e) (unfold same in refl)

untold_one : negsuc 0 ≡ pos 1 → ⊥
untold_one e = never_both ((same_is (negsuc 0) (pos 1)).1 e) (unfold same in refl)

-- an accepted read: the numbers have told an edition, and the file has gone into a blank pool of it
record Taken {file : List ℕ} (r : ReadOf file) : Type 0 where
  edition : Edition
  told : edition_told r.edition r.rule ≡ Some edition
  pool : Pool
  loaded : load_file ours edition (blank_pool edition (slots_fitting edition (length r.pool) - 1)) file ≡ Loaded pool
  left : r.left ≡ words pool
  workspace : r.workspace ≡ words pool
  right : valid_size edition (length r.pool) ≡ true

module _ {file : List ℕ} (r : ReadOf file) where
  abbrev w : List ℤ
  w = r.pool

  -- where the numbers tell none
  module _ (h : edition_told r.edition r.rule ≡ None) where
    untold_is : read_file_as r.edition r.rule w r.work file ≡ record { number = negsuc 0; pool = w; workspace = r.work }
    untold_is = read_untold r.edition r.rule h w r.work file

    untold_number : r.number ≡ negsuc 0
    untold_number = r.allowed.number ∙ ap (λ (o : ReadLeft). o.number) untold_is

    untold_left : (r.left ≡ w) × (r.workspace ≡ r.work)
    untold_left = (
      r.allowed.pool ∙ ap (λ (o : ReadLeft). o.pool) untold_is,
      r.allowed.workspace ∙ ap (λ (o : ReadLeft). o.workspace) untold_is,
    )

  module _ (e : Edition) (h : edition_told r.edition r.rule ≡ Some e) where
    told_is : read_file_as r.edition r.rule w r.work file ≡ read_file e w r.work file
    told_is = read_told r.edition r.rule e h w r.work file

    told_number : r.number ≡ (read_file e w r.work file).number
    told_number = r.allowed.number ∙ ap (λ (o : ReadLeft). o.number) told_is

    told_pool : r.left ≡ (read_file e w r.work file).pool
    told_pool = r.allowed.pool ∙ ap (λ (o : ReadLeft). o.pool) told_is

    told_work : r.workspace ≡ (read_file e w r.work file).workspace
    told_work = r.allowed.workspace ∙ ap (λ (o : ReadLeft). o.workspace) told_is

    abbrev AsTaken : ReadLeft → Type 0
    AsTaken o =
        o.number ≡ pos 0
        → (q : Pool) × (load_file ours e (blank_pool e (slots_fitting e (length w) - 1)) file ≡ Loaded q) × (o.pool ≡ words q) × (o.workspace ≡ words q)

    taken_by : AsTaken (read_file e w r.work file)
    taken_by =
        read_cases e w r.work file AsTaken (λ e. absurd (one_none e)) (λ f e. never_both ((same_is (file_number f) (pos 0)).1 e) (some_fault f))
        (λ q l e. (q, l, refl, refl))

    -- read 1 is given where the length is wrong
    right_by : (b : Bool) → lengths_wrong e w r.work ≡ b → r.number ≡ pos 0 → valid_size e (length w) ≡ true
    right_by true x z = absurd (one_none (sym (ap (λ (o : ReadLeft). o.number) (read_short e w r.work file x)) ∙ sym told_number ∙ z))
    right_by false x z = not_false _ (or_neither (not (valid_size e (length w))) _ x).0

    taken_told : r.number ≡ pos 0 → Taken r
    taken_told z =
        let t = taken_by (sym told_number ∙ z) in
        record {
          edition = e;
          told = h;
          pool = t.0;
          loaded = t.1;
          left = told_pool ∙ t.2;
          workspace = told_work ∙ t.3;
          right = right_by (lengths_wrong e w r.work) refl z;
        }

  taken : r.number ≡ pos 0 → Taken r
  taken z = go (edition_told r.edition r.rule) refl
    where
      go : (x : Option Edition) → edition_told r.edition r.rule ≡ x → Taken r
      go None h = absurd (untold_none (sym (untold_number h) ∙ z))
      go (Some e) h = taken_told e h z

  module _ (t : Taken r) where
    abbrev e : Edition
    e = t.edition

    abbrev m : ℕ
    m = slots_fitting e (length w) - 1

    holds : Holds ours ours_lawful e m file t.pool
    holds = subst (IfLoaded (Holds ours ours_lawful e m file)) t.loaded (file_loads ours ours_lawful e m file)

    read_back : read r.left ≡ t.pool
    read_back = ap read t.left ∙ holds_reads t.pool (file_records e file) holds.records

    blank_slots : length (blank_pool e m).slots ≡ slots_fitting e (length w)
    unfolding blank_pool
    blank_slots = omega (arith, length-replicate m free_node, (sized e (length w) t.right).1)

    as_long : length (words t.pool) ≡ length w
    as_long =
        words_size t.pool
        ∙ ap₂ (λ (d : Edition) (n : ℕ). head_size + slot_size d * n) holds.edition (holds.slots ∙ blank_slots)
        ∙ sym (sized e (length w) t.right).0

    -- the pool that is left can be written
    left_right : valid_length r.left ≡ true
    unfolding valid_length
    left_right =
        ap valid_length t.left
        ∙ ap₂ valid_size (words_edition t.pool ∙ holds.edition) as_long ∙ t.right

    left_sound : sound r.left ≡ true
    left_sound = ap sound t.left ∙ holds_sound t.pool (file_records e file) holds.records

    -- it holds the records of the file, and a file of it has them in the file's order
    left_records : Alike (stored (read r.left)) (file_records e file)
    left_records = subst (λ (p : Pool). Alike (stored p) (file_records e file)) (sym read_back) holds.records.alike

    left_carried : records_carried (read r.left) ≡ file_records e file
    left_carried = ap records_carried read_back ∙ holds.order

-- ---- the theorems

-- a refusal is never -1
past_untold : (f : FileFault) → same (file_number f) (negsuc 0) ≡ false
unfolding file_number same
past_untold BadLength = refl
past_untold NotSound = refl
past_untold BadRectangle = refl
past_untold BadNumber = refl
past_untold BadOwner = refl
past_untold NoSlot = refl
past_untold ShortBuffer = refl
past_untold BadFrame = refl
past_untold NotAfter = refl

-- what a read leaves, accepted or refused
pub read_leaves : {file : List ℕ} (r : ReadOf file) → ReadLeaves r
read_leaves {file} r = go (edition_told r.edition r.rule) refl
  where
    read_refused : (e : Edition) → (read_file e r.pool r.work file).number ≢ pos 0 → (read_file e r.pool r.work file).number ≢ pos 1
        → ((read_file e r.pool r.work file).pool ≡ r.pool) × ((read_file e r.pool r.work file).workspace ≡ r.pool)
    read_refused e =
        read_cases e r.pool r.work file (λ o. o.number ≢ pos 0 → o.number ≢ pos 1 → (o.pool ≡ r.pool) × (o.workspace ≡ r.pool))
        (λ x y. absurd (y refl)) (λ f x y. (refl, refl)) (λ q l x y. absurd (x refl))

    by_length : (e : Edition) → (read_file e r.pool r.work file).number ≡ pos 1 → (b : Bool) → lengths_wrong e r.pool r.work ≡ b
        → read_file e r.pool r.work file ≡ record { number = pos 1; pool = r.pool; workspace = r.work }
    by_length e x true h = read_short e r.pool r.work file h
    by_length e x false h = absurd (past_one e r.pool r.work file h x)

    never_untold : (e : Edition) → (read_file e r.pool r.work file).number ≡ negsuc 0 → ⊥
    never_untold e =
        read_cases e r.pool r.work file (λ o. o.number ≡ negsuc 0 → ⊥) (λ x. untold_one (sym x))
        (λ f x. never_both ((same_is (file_number f) (negsuc 0)).1 x) (past_untold f)) (λ q l x. untold_none (sym x))

    go : (x : Option Edition) → edition_told r.edition r.rule ≡ x → ReadLeaves r
    go None h = record {
      refused = λ a b c. absurd (c (untold_number r h));
      short = λ e. absurd (untold_one (sym (untold_number r h) ∙ e));
      untold = λ e. untold_left r h;
      accepted = λ e. absurd (untold_none (sym (untold_number r h) ∙ e));
    }
    go (Some d) h = record {
      refused = λ a b c.
          let q = read_refused d (λ e. a (told_number r d h ∙ e)) (λ e. b (told_number r d h ∙ e)) in
          (told_pool r d h ∙ q.0, told_work r d h ∙ q.1);
      short = λ e.
          let q = by_length d (sym (told_number r d h) ∙ e) (lengths_wrong d r.pool r.work) refl in
          (told_pool r d h ∙ ap (λ (o : ReadLeft). o.pool) q, told_work r d h ∙ ap (λ (o : ReadLeft). o.workspace) q);
      untold = λ e. absurd (never_untold d (sym (told_number r d h) ∙ e));
      accepted = λ e. let t = taken r e in t.workspace ∙ sym t.left;
    }

-- a file of bytes that is accepted is written again to the byte, whoever wrote it
pub read_then_written : (file : List ℕ) → AllBytes file → (r : ReadOf file) → r.number ≡ pos 0 → (w : Write) → w.pool ≡ r.left
    → length file ≤ length w.buffer → WrittenAgain file w
read_then_written file a r z w p l =
    let t = taken r z in
    let is = subst (IfLoaded (λ q. pool_file q ≡ file)) t.loaded (written_again ours ours_lawful (e r t) (m r t) file a) in
    let same_bytes : pool_file (read w.pool) ≡ file = ap (λ (v : List ℤ). pool_file (read v)) p ∙ ap pool_file (read_back r t) ∙ is in
    let k : Writable w.pool w.buffer =
    record {
      right = subst (λ (v : List ℤ). valid_length v ≡ true) (sym p) (left_right r t);
      good = subst (λ (v : List ℤ). sound v ≡ true) (sym p) (left_sound r t);
      long = omega (arith, l, ap length same_bytes);
    } in
    record { number = (writes w k).0; bytes = (writes w k).1 ∙ same_bytes }

file_bytes_lem : (p : Pool) → AllBytes (pool_file p)
unfolding pool_file
file_bytes_lem p = file_all p.edition (records_carried p)

-- "Where a read of a written file is accepted, writing again gives the same bytes."
pub round_trip : (w : Write) → w.number ≡ pos 0 → (r : ReadOf (file_of w)) → r.number ≡ pos 0 → (again : Write) → again.pool ≡ r.left
    → length (file_of w) ≤ length again.buffer → WrittenAgain (file_of w) again
round_trip w z r y again p l = read_then_written (file_of w) (subst AllBytes (sym (wrote w z).bytes) (file_bytes_lem (read w.pool))) r y again p l

-- ---- a map in another office

module _ (w : Write) (z : w.number ≡ pos 0) (words_fit : Each Word w.pool) where
  abbrev p : Pool
  p = read w.pool

  abbrev rs : List Record
  rs = records_carried p

  tree : Whole p
  tree = sound_tree w.pool (wrote w z).writable.good

  owners : owners_sound p ≡ true
  owners = sound_owners w.pool (wrote w z).writable.good

  carriable : Carriable p.edition rs
  carriable = carried_good p owners tree

  numbers : Each (λ (x : Record). Word x.number.0) rs
  numbers = each_among (λ (x : Record). Word x.number.0) rs (λ x h. stored_words w.pool words_fit x (carried_among p x h))

  bytes_are : file_of w ≡ file_bytes p.edition rs
  unfolding pool_file
  bytes_are = (wrote w z).bytes

  -- read as the edition of the map, into a pool of half as many slots as it has records, or more, the file is accepted, and the pool holds exactly its
  -- records, each pair once for its owner
  module _ (r : ReadOf (file_of w)) (told : edition_told r.edition r.rule ≡ Some p.edition) (v : valid_size p.edition (length r.pool) ≡ true)
      (u : length r.work ≡ length r.pool) where
    abbrev slots : ℕ
    slots = slots_fitting p.edition (length r.pool)

    pub carried_over : length rs < 2147483648 → length rs ≤ 2 * slots + 1 → CarriedOver rs r
    unfolding taken_told
    carried_over few h =
        let d = p.edition in
        let x = file_enough ours ours_lawful d rs carriable numbers few (slots - 1) (omega (arith, h, (sized d (length r.pool) v).1)) in
        let l : load_file ours d (blank_pool d (slots - 1)) (file_of w) ≡ Loaded x.0 = ap (load_file ours d (blank_pool d (slots - 1))) bytes_are ∙ x.1 in
        let right : lengths_wrong d r.pool r.work ≡ false = rw (v, eq-eqb (length r.work) (length r.pool) u) in
        let zero = told_number r d told ∙ ap (λ (o : ReadLeft). o.number) (read_in d r.pool r.work (file_of w) right x.0 l) in
        let t = taken_told r d told zero in
        let says : file_records d (file_of w) ≡ rs = ap (file_records d) bytes_are ∙ file_says ours ours_lawful d rs carriable numbers few in
        record {
          number = zero;
          records = subst (Alike (stored (read r.left))) says (left_records r t);
          order = left_carried r t ∙ says;
        }

    -- .. and where no owner's pair is held twice, exactly the records of the map that was written
    pub carried_whole : ((x : Record) → length (those (same_pair x) (stored p)) ≤ 1) → length (stored p) < 2147483648 → length (stored p) ≤ 2 * slots + 1
        → CarriedOver rs r × Alike (stored (read r.left)) (stored p)
    carried_whole once few h =
        let all = carried_alike p owners once in
        let over = carried_over (omega (arith, few, alike_length all)) (omega (arith, h, alike_length all)) in
        (over, alike_on over.records all)
