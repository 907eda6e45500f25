-- Req 06: an insert is refused 7 just where it needs more slots than are free at that moment of its batch, and `dustmap_room` tells so beforehand.
use mathlib.Core.Path.{◌≡◌, refl, sym, ap, ap₂, subst⁻¹, ◌∙◌}
use mathlib.Core.Logic.{◌≢◌, ◌↔◌}
use mathlib.Core.Bool.{true, not}
use mathlib.Core.List.{List, [], ◌∷◌, ◌++◌}
use Rattle.std.specs.Prelude.{None, Some, Ok}
use Prim.Native.Nat.{ℕ, ◌+◌, ◌*◌, ◌-◌, ◌≤◌, ◌<◌}
use native.Mathlib.Omega.{arith}
use native.Mathlib.Decide.{dec_le}
use lib.ListN.{length, get_or}
use lib.IntN.{pos}
use Rattle.rules.specs.declared.Edition.{Edition}
use Rattle.rules.specs.declared.Record.{Record}
use Rattle.rules.specs.declared.Request.{Request}
use Rattle.rules.specs.declared.Asked.TheVariants.{Insert}
use Rattle.rules.specs.declared.Answer.{Answer}
use Rattle.rules.specs.declared.RequestFault.TheVariants.{BadRectangle, BadNumber, Held}
use Rattle.rules.specs.Pool.{Pool, free_count}
use Rattle.rules.specs.Layout.{head_size, slot_size, edition_of, slot_count, valid_length, words, read, rect_of}
use Rattle.rules.specs.Sound.{owners_sound, sound}
use Rattle.rules.specs.Insert.{ours, Change, Done, NoneFree, insert_record}
use Rattle.rules.specs.Answers.{answer_of}
use Rattle.rules.specs.Request.{Turn, asked, after_change, insert_fault}
use Rattle.rules.specs.Room.{slots_needed, RoomTold, slots as room_of, insert_room, room_number, room_words}
use Rattle.rules.specs.Call.{Lent, Left, call_fault, batch_owner, starting}
use Rattle.rules_laws.proofs.Splits.{ours_lawful}
use Rattle.layout_laws.proofs.Parts.{right_size}
use Rattle.layout_laws.proofs.Written.{words_size, words_edition, right_same, read_slots}
use Rattle.sound_laws.specs.Tree.{Whole}
use Rattle.insert_laws.proofs.Slots.{insert_slots, insert_takes, insert_needs_few}
use Rattle.insert_laws.proofs.Rooms.{room_told}
use Rattle.in_force_laws.proofs.Faults.{no_rows, row_passed}
use Rattle.in_force_laws.proofs.Change.{insert_none}
use Rattle.in_force_laws.proofs.Sounds.{fit_sound}
use Rattle.in_force_laws.proofs.Written.{whole_reads}
use Rattle.in_force_laws.proofs.Many.{batch_has, batch_edition}
use Rattle.in_force_laws.proofs.Call.{start_fair}
use Rattle.promises.specs.Calls.{Allowed}
use Rattle.demands.specs.Demands.{after, turn_after, answer_after}
use Rattle.demands.specs.Rooms.{OtherwiseAcceptable, Fitting, Asking, ToldBefore, KnownBefore}
use Rattle.demands.proofs.Demands.{first_whole, first_right, first_owners, all_whole, all_owners, fine, demand_1, demand_2}

-- ---- the pool that a request finds

module _ (l : Lent) (served : call_fault l ≡ None) (done : List Request) where
  abbrev then : Pool
  then = (after l done).pool

  then_whole : Whole then
  then_whole = all_whole l 0 done (starting l) (first_whole l served)

  -- it has as many slots as the pool that was lent
  then_edition : then.edition ≡ edition_of l.pool
  unfolding starting read
  then_edition = batch_edition ours 0 done (starting l)

  then_size : length (words then) ≡ head_size + slot_size (edition_of l.pool) * slot_count l.pool
  unfolding starting
  then_size =
      words_size then
      ∙ ap₂ (λ (e : Edition) (n : ℕ). head_size + slot_size e * n) then_edition
      (batch_has (length (read l.pool).slots) ours 0 done (starting l) refl ∙ read_slots l.pool)

  pub then_long : length (words then) ≡ length l.pool
  then_long = then_size ∙ sym (right_size l.pool (first_right l served))

  then_right : valid_length (words then) ≡ true
  then_right = right_same (words then) l.pool then_long (words_edition then ∙ then_edition) (first_right l served)

  then_owners : owners_sound then ≡ true
  then_owners = all_owners l 0 done (starting l) (first_whole l served) (start_fair ours l served) (first_owners l served)

  then_reads : read (words then) ≡ then
  then_reads = whole_reads then then_whole then_owners

  -- .. and is sound, so that the next call takes it
  pub then_sound : sound (words then) ≡ true
  then_sound =
      fit_sound (words then) (record { right = then_right; same = ap words then_reads }) (subst⁻¹ Whole then_reads then_whole)
      (subst⁻¹ (λ (p : Pool). owners_sound p ≡ true) then_reads then_owners)

-- ---- the law

module _ (l : Lent) (o : Left) (k : Allowed l o) (z : o.number ≡ pos 0) (done : List Request) (q : Request) (rest : List Request)
    (all : l.requests ≡ done ++ q ∷ rest) (r : Record) (is : asked (batch_owner l) q ≡ Some (Insert r)) (good : OtherwiseAcceptable (after l done).pool r) where
  abbrev p : Pool
  p = (after l done).pool

  taken_on : call_fault l ≡ None
  taken_on = fine l o k z

  passes : insert_fault p r ≡ None
  unfolding insert_fault
  passes =
      row_passed _ BadRectangle _ (ap not good.rect) (row_passed _ BadNumber _ (ap not good.number) (row_passed _ Held [] good.new no_rows))

  turn_is : turn_after l done (Insert r) ≡ after_change p (insert_record ours p r)
  turn_is = insert_none ours p (after l done).filled (length (after l done).found - (after l done).filled) r passes

  answer_is : answer_after o done ≡ answer_of (after_change p (insert_record ours p r)).reply
  answer_is = (demand_1 l o k).each z done q rest all (Insert r) is ∙ ap (λ (t : Turn). answer_of t.reply) turn_is

  told_of_lem : (x : Change) → insert_record ours p r ≡ x → (answer_after o done).number ≡ (answer_of (after_change p x).reply).number
  told_of_lem x e = ap (λ (a : Answer). a.number) (answer_is ∙ ap (λ (y : Change). answer_of (after_change p y).reply) e)

  seven : insert_record ours p r ≡ NoneFree → (answer_after o done).number ≡ 7
  unfolding after_change answer_of
  seven e = told_of_lem NoneFree e

  zero_told : (u : Pool) → insert_record ours p r ≡ Done u → (answer_after o done).number ≡ 0
  unfolding after_change answer_of
  zero_told u e = told_of_lem (Done u) e

  abbrev needed : ℕ
  needed = slots_needed ours 1 p r.rect

  slots : (insert_record ours p r ≡ NoneFree) ↔ (free_count p < needed)
  slots = insert_slots ours ours_lawful p (then_whole l taken_on done) r good.rect good.number

  exact : ((answer_after o done).number ≡ 7) ↔ (free_count p < needed)
  exact = (λ n. slots.0 (go n (insert_record ours p r) refl), λ h. seven (slots.1 h))
    where
      go : (answer_after o done).number ≡ 7 → (x : Change) → insert_record ours p r ≡ x → insert_record ours p r ≡ NoneFree
      go n (Done u) e = absurd (omega (arith, zero_told u e))
      go n NoneFree e = e

  accepted : (answer_after o done).number ≢ 7 → (answer_after o done).number ≡ 0
  accepted n = go (insert_record ours p r) refl
    where
      go : (x : Change) → insert_record ours p r ≡ x → (answer_after o done).number ≡ 0
      go (Done u) e = zero_told u e
      go NoneFree e = absurd (n (seven e))

  fitting : Fitting p r (answer_after o done) (after l (done ++ q ∷ [])).pool
  fitting = record {
    exactly = exact;
    never = λ h n. omega (arith, exact.0 n, insert_needs_few ours ours_lawful p (then_whole l taken_on done) r good.rect good.number);
    takes = λ n. (
      accepted n,
      insert_takes ours ours_lawful p (then_whole l taken_on done) r good.rect good.number (after l (done ++ q ∷ [])).pool
          ((demand_2 l o k z).each done q rest all (Insert r) is (accepted n)),
    );
  }

  -- ---- told beforehand

  room_is : insert_room (words p) r.rect ≡ Ok (room_of needed (free_count p))
  room_is =
      room_told (words p) r.rect (then_right l taken_on done) (then_sound l taken_on done) good.rect
      ∙ ap (λ (x : Pool). Ok (room_of (slots_needed ours 1 x r.rect) (free_count x))) (then_reads l taken_on done)

  -- two words written over two
  both_written : (lent : List ℕ) → length lent ≡ 2 → room_words (Ok (room_of needed (free_count p))) lent ≡ needed ∷ free_count p ∷ []
  unfolding room_words
  both_written [] h = absurd (omega arith)
  both_written (a ∷ []) h = absurd (omega arith)
  both_written (a ∷ b ∷ []) h = refl
  both_written (a ∷ b ∷ c ∷ lent) h = absurd (omega arith)

  module _ (a : Asking p r) where
    asked_is : insert_room (words p) (rect_of a.rect) ≡ Ok (room_of needed (free_count p))
    asked_is = ap (insert_room (words p)) a.of_record_lem ∙ room_is

    slots_are : a.slots ≡ needed ∷ free_count p ∷ []
    slots_are = a.allowed.written ∙ ap (λ (x : RoomTold). room_words x a.lent) asked_is ∙ both_written a.lent a.two

    needed_is : get_or a.slots 0 0 ≡ needed
    needed_is = ap (λ (ns : List ℕ). get_or ns 0 0) slots_are

    free_is : get_or a.slots 1 0 ≡ free_count p
    free_is = ap (λ (ns : List ℕ). get_or ns 1 0) slots_are

    told_before : ToldBefore a (answer_after o done)
    unfolding room_number
    told_before = record {
      number = a.allowed.number ∙ ap room_number asked_is;
      needed = needed_is;
      free = free_is;
      fits = (λ h n. omega (arith, exact.0 n, needed_is, free_is), λ n. go n (dec_le needed (free_count p)));
    }
      where
        go : (answer_after o done).number ≢ 7 → Dec (needed ≤ free_count p) → get_or a.slots 0 0 ≤ get_or a.slots 1 0
        go n (yes h) = omega (arith, needed_is, free_is)
        go n (no h) = absurd (n (exact.1 (omega arith)))

-- "Show that an insert otherwise acceptable is refused 7 exactly when ..": of every outcome that is allowed
pub know_before : (l : Lent) (o : Left) → Allowed l o → o.number ≡ pos 0 → KnownBefore l o
know_before l o k z = record { fits = fitting l o k z; told = told_before l o k z }
