-- Req 07: nothing leaks from one owner to the other but 7. By induction on the two histories: after them the pools are the same to the owner, and of one
-- length. The other owner's batches, and calls that are refused, leave that so; and a batch of the owner's comes to the same in both.
use mathlib.Core.Path.{◌≡◌, refl, sym, ap, ap₂, subst, ◌∙◌}
use mathlib.Core.Logic.{◌≢◌}
use mathlib.Core.Bool.{Bool, true, false, not, ◌||◌}
use mathlib.Core.List.{List, [], ◌∷◌, map}
use Rattle.std.specs.Prelude.{Option, None, Some}
use Prim.Native.Nat.{ℕ, zero, suc}
use native.Mathlib.Omega.{arith}
use lib.ListN.{length, get_or, drop}
use lib.Dec.{ltb, eqb}
use lib.IntN.{ℤ, pos}
use Rattle.rules.specs.declared.Edition.TheVariants.{Two}
use Rattle.rules.specs.declared.Owner.{Owner}
use Rattle.rules.specs.declared.Record.{Record}
use Rattle.rules.specs.declared.Answer.{Answer}
use Rattle.rules.specs.declared.CallFault.{CallFault}
use Rattle.rules.specs.declared.CallFault.TheVariants.{BadLists, BadOwner, BadLength, NotSound, NoRequest}
use Rattle.rules.specs.Lists.{same, every}
use Rattle.rules.specs.Numbers.{most_requests, good_owner}
use Rattle.rules.specs.Pool.{Pool, blank_pool}
use Rattle.rules.specs.Layout.{valid_size, edition_of, valid_length, words, read}
use Rattle.rules.specs.Sound.{sound}
use Rattle.rules.specs.Insert.{ours}
use Rattle.rules.specs.Answers.{row, first_row}
use Rattle.rules.specs.Call.{Lent, Left, is_request, call_fault, call_by, call}
use Rattle.rules_laws.proofs.Orders.{never_both}
use Rattle.rules_laws.proofs.Places.{Each}
use Rattle.rules_laws.proofs.Parts.{those_yes, those_no, those_none}
use Rattle.rules_laws.proofs.Splits.{ours_lawful}
use Rattle.sound_laws.proofs.Same.{same_is}
use Rattle.in_force_laws.specs.Shows.{HoldsRecords}
use Rattle.in_force_laws.proofs.Faults.{EachGiven}
use Rattle.in_force_laws.specs.Apart.{SameTo, NoneSeven}
use Rattle.in_force_laws.proofs.Batch.{no_answer}
use Rattle.in_force_laws.proofs.Written.{holds_reads}
use Rattle.in_force_laws.proofs.Call.{blank_holds}
use Rattle.in_force_laws.proofs.Apart.{same_back, two_owner, call_other, call_answers, call_found, call_apart}
use Rattle.promises.specs.Calls.{Allowed}
use Rattle.demands.specs.Steps.{pool_after, History, in_force_after}
use Rattle.demands.specs.Neighbour.{BatchCall, batch_steps, is_of, batches_of, Beside, beside, Heard, heard, NoSevens, TwoHistories, HeardAlike}
use Rattle.demands.proofs.Holds.{call_gives, call_keeps, refused_pool_is, history_sound}
use Rattle.demands.proofs.Demands.{fine, demand_1, demand_2}
use Rattle.demands.proofs.Rooms.{then_long}

-- ---- whether a call is refused

-- the rows of the table for a call, of an edition 2 pool that is sound: they depend on the pool's length alone
fault_by : Owner → Beside → ℕ → Option CallFault
fault_by w b n =
    first_row (
    row (ltb most_requests (length b.requests) || not (eqb (length b.answers) (length b.requests))) BadLists
    ∷ row (not (good_owner w)) BadOwner
    ∷ row (not (valid_size Two n) || not (eqb (length b.workspace) n)) BadLength
    ∷ row false NotSound
    ∷ row (not (every is_request b.requests)) NoRequest
    ∷ [])

fault_is : (c : BatchCall) → sound c.lent.pool ≡ true → edition_of c.lent.pool ≡ Two
    → call_fault c.lent ≡ fault_by c.lent.owner (beside c) (length c.lent.pool)
unfolding call_fault fault_by valid_length
fault_is c good two = rw (good, two)

-- ---- lists

-- where no answer of a list is 7, none of a part of it is
no_seven_at : (xs : List Answer) → Each (λ (a : Answer). a.number ≢ 7) xs → (j : ℕ) → (get_or xs j no_answer).number ≢ 7
no_seven_at [] h j = λ e. omega (arith, e)
no_seven_at (a ∷ xs) h zero = h.0
no_seven_at (a ∷ xs) h (suc j) = no_seven_at xs h.1 j

first_same : (a b : Beside) (xs ys : List Beside) → a ∷ xs ≡ b ∷ ys → a ≡ b
first_same a b xs ys e = ap (λ (l : List Beside). get_or l 0 a) e

rest_same : (a b : Beside) (xs ys : List Beside) → a ∷ xs ≡ b ∷ ys → xs ≡ ys
rest_same a b xs ys e = ap (drop 1) e

not_same : {z : ℤ} → z ≢ pos 0 → same z (pos 0) ≡ false
not_same {z} h = go (same z (pos 0)) refl
  where
    go : (b : Bool) → same z (pos 0) ≡ b → same z (pos 0) ≡ false
    go true e = absurd (h ((same_is z (pos 0)).0 e))
    go false e = e

-- one of them is empty
never_empty : {X : Type 0} (a : Beside) (xs : List Beside) → [] ≡ a ∷ xs → X
never_empty a xs e = absurd (omega (arith, ap length e))

module _ (w : Owner) (n : ℕ) where
  -- the pool after a history of batches, and the records in force
  abbrev pool : List BatchCall → List ℤ
  pool cs = pool_after Two n (batch_steps cs)

  abbrev force : List BatchCall → List Record
  force cs = in_force_after (batch_steps cs)

  abbrev Batches : List BatchCall → Type 0
  Batches cs = History Two n (batch_steps cs)

  pool_next : (c : BatchCall) (cs : List BatchCall) → pool (c ∷ cs) ≡ c.left.pool
  unfolding pool_after
  pool_next c cs = refl

  -- ---- the pool keeps its length

  module _ (c : BatchCall) (cs : List BatchCall) (h : Batches (c ∷ cs)) where
    abbrev l : Lent
    l = c.lent

    abbrev o : Left
    o = c.left

    left_long : length o.pool ≡ length l.pool
    left_long = go (same o.number (pos 0)) refl
      where
        go : (t : Bool) → same o.number (pos 0) ≡ t → length o.pool ≡ length l.pool
        go true e =
            let z = (same_is o.number (pos 0)).0 e in
            ap length (demand_2 l o h.1 z).pool ∙ then_long l (fine l o h.1 z) l.requests
        go false e = ap length (refused_pool_is l o h.1 (λ z. never_both ((same_is o.number (pos 0)).1 z) e))

  all_long : (cs : List BatchCall) → Batches cs → length (pool cs) ≡ length (words (blank_pool Two n))
  unfolding pool_after
  all_long [] h = refl
  all_long (c ∷ cs) h = left_long c cs h ∙ ap length h.0 ∙ all_long cs h.2

  -- ---- two histories that have come to pools that are the same to the owner

  record AlikeSoFar (cs ds : List BatchCall) : Type 0 where
    same_to : SameTo w (read (pool cs)) (force cs) (read (pool ds)) (force ds)
    alike : HeardAlike w cs ds

  swapped : (cs ds : List BatchCall) → TwoHistories w n cs ds → TwoHistories w n ds cs
  swapped cs ds t = record {
    one = t.other;
    other = t.one;
    lent = sym t.lent;
    no_seven = t.no_seven_there;
    no_seven_there = t.no_seven;
  }

  back : (cs ds : List BatchCall) → AlikeSoFar cs ds → AlikeSoFar ds cs
  back cs ds s = record { same_to = same_back w _ _ _ _ s.same_to; alike = sym s.alike }

  -- ---- a batch that is not the owner's

  module _ (c : BatchCall) (cs ds : List BatchCall) (other : is_of w c ≡ false) where
    not_ours : batches_of w (c ∷ cs) ≡ batches_of w cs
    not_ours = those_no (is_of w) c cs other

    without : TwoHistories w n (c ∷ cs) ds → TwoHistories w n cs ds
    without t = record {
      one = t.one.2;
      other = t.other;
      lent = ap (map beside) (sym not_ours) ∙ t.lent;
      no_seven = subst NoSevens not_ours t.no_seven;
      no_seven_there = t.no_seven_there;
    }

    module _ (h : Batches (c ∷ cs)) (s : SameTo w (read (pool cs)) (force cs) (read (pool ds)) (force ds)) where
      lent_same : SameTo w (read c.lent.pool) (force cs) (read (pool ds)) (force ds)
      lent_same = subst (λ (v : List ℤ). SameTo w (read v) (force cs) (read (pool ds)) (force ds)) (sym h.0) s

      apart : c.lent.owner ≢ w
      apart e = never_both ((same_is c.lent.owner.0 w.0).1 (ap (λ (x : Owner). x.0) e)) other

      served_other : c.left.number ≡ pos 0 → SameTo w (read (pool (c ∷ cs))) (force (c ∷ cs)) (read (pool ds)) (force ds)
      unfolding call
      served_other z =
          let l = c.lent in
          let k = h.1 in
          let after = call_other ours ours_lawful l (force cs) (fine l c.left k z) w apart (read (pool ds)) (force ds) lent_same in
          rw (
            pool_next c cs,
            call_gives l c.left (batch_steps cs) z,
            two_owner l lent_same.one_edition,
            k.pool,
            k.answers,
          ) after

      refused_other : same c.left.number (pos 0) ≡ false → SameTo w (read (pool (c ∷ cs))) (force (c ∷ cs)) (read (pool ds)) (force ds)
      refused_other e =
          rw (
            pool_next c cs,
            call_keeps c.lent c.left (batch_steps cs) e,
            refused_pool_is c.lent c.left h.1 (λ z. never_both ((same_is c.left.number (pos 0)).1 z) e),
          ) lent_same

      still_same : SameTo w (read (pool (c ∷ cs))) (force (c ∷ cs)) (read (pool ds)) (force ds)
      still_same = go (same c.left.number (pos 0)) refl
        where
          go : (t : Bool) → same c.left.number (pos 0) ≡ t → SameTo w (read (pool (c ∷ cs))) (force (c ∷ cs)) (read (pool ds)) (force ds)
          go true e = served_other ((same_is c.left.number (pos 0)).0 e)
          go false e = refused_other e

    with_other : TwoHistories w n (c ∷ cs) ds → AlikeSoFar cs ds → AlikeSoFar (c ∷ cs) ds
    with_other t s = record { same_to = still_same t.one s.same_to; alike = ap (map heard) not_ours ∙ s.alike }

  -- ---- a batch of the owner's in both

  module _ (c d : BatchCall) (cs ds : List BatchCall) (here : is_of w c ≡ true) (there : is_of w d ≡ true) where
    ours_here : batches_of w (c ∷ cs) ≡ c ∷ batches_of w cs
    ours_here = those_yes (is_of w) c cs here

    ours_there : batches_of w (d ∷ ds) ≡ d ∷ batches_of w ds
    ours_there = those_yes (is_of w) d ds there

    module _ (t : TwoHistories w n (c ∷ cs) (d ∷ ds)) where
      lent_so : beside c ∷ map beside (batches_of w cs) ≡ beside d ∷ map beside (batches_of w ds)
      lent_so = ap (map beside) (sym ours_here) ∙ t.lent ∙ ap (map beside) ours_there

      one_less : TwoHistories w n cs ds
      one_less = record {
        one = t.one.2;
        other = t.other.2;
        lent = rest_same (beside c) (beside d) _ _ lent_so;
        no_seven = (subst NoSevens ours_here t.no_seven).1;
        no_seven_there = (subst NoSevens ours_there t.no_seven_there).1;
      }

      abbrev lc : Lent
      lc = c.lent

      abbrev ld : Lent
      ld = d.lent

      lent_same_to : SameTo w (read (pool cs)) (force cs) (read (pool ds)) (force ds) → SameTo w (read lc.pool) (force cs) (read ld.pool) (force ds)
      lent_same_to s =
          subst (λ (v : List ℤ). SameTo w (read lc.pool) (force cs) (read v) (force ds)) (sym t.other.0)
          (subst (λ (v : List ℤ). SameTo w (read v) (force cs) (read (pool ds)) (force ds)) (sym t.one.0) s)

      same_beside : beside c ≡ beside d
      same_beside = first_same (beside c) (beside d) _ _ lent_so

      owner_here : lc.owner ≡ w
      owner_here = λ i. record { 0 = (same_is lc.owner.0 w.0).0 here i }

      owner_there : ld.owner ≡ w
      owner_there = λ i. record { 0 = (same_is ld.owner.0 w.0).0 there i }

      same_long : length lc.pool ≡ length ld.pool
      same_long = ap length t.one.0 ∙ all_long cs t.one.2 ∙ sym (ap length t.other.0 ∙ all_long ds t.other.2)

      module _ (s : SameTo w (read lc.pool) (force cs) (read ld.pool) (force ds)) where
        edition_here : edition_of lc.pool ≡ Two
        unfolding read
        edition_here = s.one_edition

        edition_there : edition_of ld.pool ≡ Two
        unfolding read
        edition_there = s.other_edition

        same_fault : call_fault lc ≡ call_fault ld
        same_fault =
            fault_is c (ap sound t.one.0 ∙ history_sound Two n (batch_steps cs) t.one.2) edition_here
            ∙ (λ i. fault_by ((owner_here ∙ sym owner_there) i) (same_beside i) (same_long i))
            ∙ sym (fault_is d (ap sound t.other.0 ∙ history_sound Two n (batch_steps ds) t.other.2) edition_there)

        -- done in both
        module _ (f : call_fault lc ≡ None) where
          g : call_fault ld ≡ None
          g = sym same_fault ∙ f

          zero_here : c.left.number ≡ pos 0
          zero_here = (demand_1 lc c.left t.one.1).served f

          zero_there : d.left.number ≡ pos 0
          zero_there = (demand_1 ld d.left t.other.1).served g

          own_same : SameTo lc.owner (read lc.pool) (force cs) (read ld.pool) (force ds)
          own_same = subst (λ (x : Owner). SameTo x (read lc.pool) (force cs) (read ld.pool) (force ds)) (sym owner_here) s

          seven_here : NoneSeven 0 (length lc.requests) (call_by ours lc).answers
          unfolding call
          seven_here j low high =
              subst (λ (xs : List Answer). (get_or xs j no_answer).number ≢ 7) t.one.1.answers
              (no_seven_at c.left.answers ((subst NoSevens ours_here t.no_seven).0 zero_here) j)

          seven_there : NoneSeven 0 (length ld.requests) (call_by ours ld).answers
          unfolding call
          seven_there j low high =
              subst (λ (xs : List Answer). (get_or xs j no_answer).number ≢ 7) t.other.1.answers
              (no_seven_at d.left.answers ((subst NoSevens ours_there t.no_seven_there).0 zero_there) j)

          same_owner : ld.owner ≡ lc.owner
          same_owner = owner_there ∙ sym owner_here

          same_requests : ld.requests ≡ lc.requests
          same_requests = ap (λ (b : Beside). b.requests) (sym same_beside)

          same_answers : ld.answers ≡ lc.answers
          same_answers = ap (λ (b : Beside). b.answers) (sym same_beside)

          same_found_lem : ld.found ≡ lc.found
          same_found_lem = ap (λ (b : Beside). b.found) (sym same_beside)

          served_heard : heard c ≡ heard d
          unfolding call
          served_heard =
              let a = call_answers ours ours_lawful lc (force cs) f ld (force ds) g same_owner same_requests same_answers same_found_lem own_same seven_here seven_there in
              let b = call_found ours ours_lawful lc (force cs) f ld (force ds) g same_owner same_requests same_answers same_found_lem own_same seven_here seven_there in
              λ i. record {
                number = (zero_here ∙ sym zero_there) i;
                answers = (t.one.1.answers ∙ sym a ∙ sym t.other.1.answers) i;
                found = (t.one.1.found ∙ sym b ∙ sym t.other.1.found) i;
              }

          served_same : SameTo w (read (pool (c ∷ cs))) (force (c ∷ cs)) (read (pool (d ∷ ds))) (force (d ∷ ds))
          unfolding call
          served_same =
              let after = call_apart ours ours_lawful lc (force cs) f ld (force ds) g same_owner same_requests same_answers same_found_lem own_same seven_here seven_there in
              rw (
                pool_next c cs,
                pool_next d ds,
                call_gives lc c.left (batch_steps cs) zero_here,
                call_gives ld d.left (batch_steps ds) zero_there,
                two_owner lc s.one_edition,
                two_owner ld s.other_edition,
                t.one.1.pool,
                t.one.1.answers,
                t.other.1.pool,
                t.other.1.answers,
                ← owner_here,
              ) after

        -- refused in both
        module _ (v : CallFault) (f : call_fault lc ≡ Some v) where
          refused_heard : heard c ≡ heard d
          refused_heard =
              let a = (demand_1 lc c.left t.one.1).refused v f in
              let b = (demand_1 ld d.left t.other.1).refused v (sym same_fault ∙ f) in
              λ i. record {
                number = (a.0 ∙ sym b.0) i;
                answers = (a.1.answers ∙ ap (λ (x : Beside). x.answers) same_beside ∙ sym b.1.answers) i;
                found = (a.1.found ∙ ap (λ (x : Beside). x.found) same_beside ∙ sym b.1.found) i;
              }

          -- a call that is refused does not return 0
          refused_not : (b : BatchCall) → Allowed b.lent b.left → call_fault b.lent ≡ Some v → b.left.number ≢ pos 0
          refused_not b k x z = subst (EachGiven (λ y. ⊥)) (sym (fine b.lent b.left k z) ∙ x) tt

          refused_same : SameTo w (read (pool (c ∷ cs))) (force (c ∷ cs)) (read (pool (d ∷ ds))) (force (d ∷ ds))
          refused_same =
              let x = refused_not c t.one.1 f in
              let y = refused_not d t.other.1 (sym same_fault ∙ f) in
              rw (
                pool_next c cs,
                pool_next d ds,
                call_keeps lc c.left (batch_steps cs) (not_same x),
                call_keeps ld d.left (batch_steps ds) (not_same y),
                refused_pool_is lc c.left t.one.1 x,
                refused_pool_is ld d.left t.other.1 y,
              ) s

        both : (x : Option CallFault) → call_fault lc ≡ x
            → SameTo w (read (pool (c ∷ cs))) (force (c ∷ cs)) (read (pool (d ∷ ds))) (force (d ∷ ds)) × (heard c ≡ heard d)
        both None f = (served_same f, served_heard f)
        both (Some v) f = (refused_same v f, refused_heard v f)

      with_own : AlikeSoFar cs ds → AlikeSoFar (c ∷ cs) (d ∷ ds)
      with_own s =
          let b = both (lent_same_to s.same_to) (call_fault lc) refl in
          record {
            same_to = b.0;
            alike = ap (map heard) ours_here ∙ ap₂ (λ (x : Heard) (xs : List Heard). x ∷ xs) b.1 s.alike ∙ sym (ap (map heard) ours_there);
          }

  -- ---- the two histories

  at_start : AlikeSoFar [] []
  unfolding pool_after in_force_after
  at_start =
      let k = subst (λ (p : Pool). HoldsRecords p []) (sym (holds_reads (blank_pool Two n) [] (blank_holds Two n))) (blank_holds Two n) in
      let two = ap (λ (p : Pool). p.edition) (holds_reads (blank_pool Two n) [] (blank_holds Two n)) ∙ blank_two in
      record { same_to = record { one = k; other = k; one_edition = two; other_edition = two; own = record { each = λ q. refl } }; alike = refl }
    where
      blank_two : (blank_pool Two n).edition ≡ Two
      blank_two = unfold blank_pool in refl

  none_here : (ds : List BatchCall) → TwoHistories w n [] ds → AlikeSoFar [] ds
  none_here [] t = at_start
  none_here (d ∷ ds) t = go (is_of w d) refl (λ h. none_here ds h)
    where
      go : (b : Bool) → is_of w d ≡ b → (TwoHistories w n [] ds → AlikeSoFar [] ds) → AlikeSoFar [] (d ∷ ds)
      go true e rec =
          never_empty (beside d) _ (ap (map beside) (sym (those_none (is_of w))) ∙ t.lent ∙ ap (map beside) (those_yes (is_of w) d ds e))
      go false e rec =
          let u = swapped [] (d ∷ ds) t in
          back (d ∷ ds) [] (with_other d ds [] e u (back [] ds (rec (swapped ds [] (without d ds [] e u)))))

  one_here : (c : BatchCall) (cs : List BatchCall) → is_of w c ≡ true → ((ds : List BatchCall) → TwoHistories w n cs ds → AlikeSoFar cs ds)
      → (ds : List BatchCall) → TwoHistories w n (c ∷ cs) ds → AlikeSoFar (c ∷ cs) ds
  one_here c cs here earlier [] t =
      never_empty (beside c) _ (sym (ap (map beside) (sym (those_yes (is_of w) c cs here)) ∙ t.lent ∙ ap (map beside) (those_none (is_of w))))
  one_here c cs here earlier (d ∷ ds) t = go (is_of w d) refl (λ h. one_here c cs here earlier ds h)
    where
      go : (b : Bool) → is_of w d ≡ b → (TwoHistories w n (c ∷ cs) ds → AlikeSoFar (c ∷ cs) ds) → AlikeSoFar (c ∷ cs) (d ∷ ds)
      go true e rec = with_own c d cs ds here e t (earlier ds (one_less c d cs ds here e t))
      go false e rec =
          let u = swapped (c ∷ cs) (d ∷ ds) t in
          back (d ∷ ds) (c ∷ cs) (with_other d ds (c ∷ cs) e u (back (c ∷ cs) ds (rec (swapped ds (c ∷ cs) (without d ds (c ∷ cs) e u)))))

  all_alike : (cs ds : List BatchCall) → TwoHistories w n cs ds → AlikeSoFar cs ds
  all_alike [] ds t = none_here ds t
  all_alike (c ∷ cs) ds t = go (is_of w c) refl (λ es h. all_alike cs es h)
    where
      go : (b : Bool) → is_of w c ≡ b → ((es : List BatchCall) → TwoHistories w n cs es → AlikeSoFar cs es) → AlikeSoFar (c ∷ cs) ds
      go true e rec = one_here c cs e rec ds t
      go false e rec = with_other c cs ds e t (rec ds (without c cs ds e t))

-- "Take two histories of batches from blank edition 2 pools of one length with the same batches, lists and workspaces lent for owner 1, and no request
-- refused 7: owner 1's answers and found lists are the same.": for either owner, and with the numbers that the calls return
pub nothing_leaks : (w : Owner) (n : ℕ) (cs ds : List BatchCall) → TwoHistories w n cs ds → HeardAlike w cs ds
nothing_leaks w n cs ds t = (all_alike w n cs ds t).alike
