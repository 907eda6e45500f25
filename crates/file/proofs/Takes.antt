-- A record of the file goes into the pool, and the load goes on after it; or it is refused, and so is the load.
use mathlib.Core.Path.{◌≡◌, refl, sym, ap, subst, ◌∙◌}
use mathlib.Core.Bool.{Bool, true, false}
use mathlib.Core.List.{List, [], ◌∷◌}
use Rattle.std.specs.Prelude.{Option, None, Some, Result, Ok, Err}
use Rattle.std.specs.Option.{ok_or}
use Prim.Native.Nat.{ℕ, zero, suc, ◌+◌, ◌≤◌, ◌<◌}
use native.Mathlib.Omega.{arith}
use lib.ListN.{length, drop, length-drop}
use lib.Seq.{drop-drop}
use lib.Dec.{eqb}
use lib.IntN.{ℤ}
use borrow.Author.Tests.{eqb-true, eq-eqb, ne_eqb}
use Rattle.rules.specs.declared.Edition.{Edition}
use Rattle.rules.specs.declared.Record.{Record}
use Rattle.rules.specs.declared.FileFault.{FileFault}
use Rattle.rules.specs.declared.FileFault.TheVariants.{NoSlot, BadFrame}
use Rattle.rules.specs.Pool.{Pool}
use Rattle.rules.specs.Layout.{read}
use Rattle.rules.specs.Insert.{ours, Change, Done, NoneFree, insert_record}
use Rattle.rules.specs.Frames.{word_values}
use Rattle.rules.specs.File.{Due, frame_due, record_kind, record_size, record_due, record_in, record_fault, Load, Loaded, Fails, end_of, load_records}
use Rattle.rules_laws.proofs.Orders.{never_both}
use Rattle.rules_laws.proofs.Places.{nothing}
use Rattle.rules_laws.proofs.Splits.{ours_lawful}
use Rattle.sound_laws.specs.Tree.{Whole}
use Rattle.insert_laws.proofs.Whole.{insert_whole}
use Rattle.insert_laws.proofs.Lasting.{insert_edition}
use Rattle.layout_laws.specs.Slots.{Fit}
use Rattle.free_slots.specs.declared.FreeSlots.{FreeSlots}
use Rattle.free_slots.specs.Known.{Known}
use Rattle.insert.specs.Left.{HoldsPool, Leaves}
use Rattle.file_laws.proofs.Due.{due_in}
use Rattle.file_laws.proofs.Steps as S
use Rattle.file_laws.proofs.Steps.{Passes}
use Rattle.file.specs.Loading.{is_due, record_bytes, place_of, record_at, last_at, is_record, frame_fault, inserted, took_at, Took, end_told, Loads}
use Rattle.file.proofs.Sizes.{place_first, place_next}
use Rattle.file.proofs.Dues.{due_here, none_due, due_long}

-- nothing refuses
abbrev Quiet : Option FileFault → Type 0
Quiet None = Unit {0}
Quiet (Some f) = ⊥

module _ (ed : Edition) (bs : List ℕ) (k : ℕ) where
  -- what nothing refuses is the frame that is due, and a good record
  pub due_then : frame_fault ed bs k ≡ None → is_record ed bs k ≡ true
  due_then h = go (is_record ed bs k) refl
    where
      bad : is_record ed bs k ≡ false → frame_fault ed bs k ≡ Some BadFrame
      bad e = unfold frame_fault in rw (frame_fault, e)

      go : (b : Bool) → is_record ed bs k ≡ b → is_record ed bs k ≡ true
      go true e = e
      go false e = absurd (subst Quiet (bad e) (subst Quiet (sym h) tt))

  fault_here : is_record ed bs k ≡ true → frame_fault ed bs k ≡ record_fault ed (last_at ed bs k) (record_at ed bs k)
  fault_here h = unfold frame_fault in rw (frame_fault, h)

  pub then_passes : frame_fault ed bs k ≡ None → Passes ed (last_at ed bs k) (record_at ed bs k)
  then_passes h = S.fault_passes ed (last_at ed bs k) (record_at ed bs k) (sym (fault_here (due_then h)) ∙ h)

-- ---- one record

module _ (ed : Edition) (p : Pool) (bs : List ℕ) (k : ℕ) where
  took_fault : (f : FileFault) → frame_fault ed bs k ≡ Some f → took_at ed p bs k ≡ Fails f
  unfolding took_at
  took_fault f h = rw (took_at, h)

  took_none : frame_fault ed bs k ≡ None → took_at ed p bs k ≡ inserted (insert_record ours p (record_at ed bs k))
  unfolding took_at
  took_none h = rw (took_at, h)

  pub took_refused : (f : FileFault) → frame_fault ed bs k ≡ Some f → (w : List ℤ) → Took (took_at ed p bs k) (Err f) w
  took_refused f h w = subst (λ (l : Load). Took l (Err f) w) (sym (took_fault f h)) refl

  module _ (h : frame_fault ed bs k ≡ None) (before w : List ℤ) where
    pub took_left : (o : Option FreeSlots) → Leaves before (insert_record ours p (record_at ed bs k)) o w → Took (took_at ed p bs k) (ok_or o NoSlot) w
    took_left o l = subst (λ (x : Load). Took x (ok_or o NoSlot) w) (sym (took_none h)) (go (insert_record ours p (record_at ed bs k)) o l)
      where
        go : (x : Change) (o : Option FreeSlots) → Leaves before x o w → Took (inserted x) (ok_or o NoSlot) w
        go (Done q) (Some f) y = unfold inserted in y
        go (Done q) None y = absurd y
        go NoneFree (Some f) y = absurd y
        go NoneFree None y = unfold inserted in refl

-- ---- the load, one record on

module _ (ed : Edition) (bs : List ℕ) (k : ℕ) where
  abbrev from : List ℕ
  from = drop (place_of ed k) bs

  abbrev due : Due
  due = due_in (record_size ed) from

  is_there : is_record ed bs k ≡ true → record_due ed from ≡ Some due
  is_there h = due_here (record_kind ed) (record_size ed) from h

  due_record : record_in ed due.words ≡ record_at ed bs k
  unfolding record_at
  due_record = ap (λ (l : List ℕ). record_in ed (word_values (record_size ed) l)) (drop-drop 4 (place_of ed k) bs)

  due_after : due.after ≡ drop (place_of ed (suc k)) bs
  due_after = drop-drop (record_bytes ed) (place_of ed k) bs ∙ ap (λ (j : ℕ). drop j bs) (sym (place_next ed k))

  -- where another frame comes than the one due
  module _ (n : ℕ) (p : Pool) where
    abbrev going : Load
    going = load_records ours ed (suc n) (last_at ed bs k) p from

    refused_by : (f : FileFault) → frame_fault ed bs k ≡ Some f → going ≡ Fails f
    refused_by f h = go (is_record ed bs k) refl
      where
        go : (b : Bool) → is_record ed bs k ≡ b → going ≡ Fails f
        go false e =
            let bad : frame_fault ed bs k ≡ Some BadFrame = unfold frame_fault in rw (frame_fault, e) in
            S.load_none ours ed n (last_at ed bs k) p from (none_due (record_kind ed) (record_size ed) from e) ∙ ap Fails (same_some (sym bad ∙ h))
          where
            same_some : {x y : FileFault} → Some x ≡ Some y → x ≡ y
            same_some {x} {y} q = ap (λ (o : Option FileFault). elim o [ None ↦ x | Some z ↦ z ]) q
        go true e =
            S.load_fault ours ed n (last_at ed bs k) p from due (is_there e) f
            (ap (record_fault ed (last_at ed bs k)) due_record ∙ sym (fault_here ed bs k e) ∙ h)

    module _ (h : frame_fault ed bs k ≡ None) where
      clear : record_fault ed (last_at ed bs k) (record_in ed due.words) ≡ None
      clear = ap (record_fault ed (last_at ed bs k)) due_record ∙ sym (fault_here ed bs k (due_then ed bs k h)) ∙ h

      refused_full : insert_record ours p (record_at ed bs k) ≡ NoneFree → going ≡ Fails NoSlot
      refused_full i =
          S.load_full ours ed n (last_at ed bs k) p from due (is_there (due_then ed bs k h)) clear (ap (insert_record ours p) due_record ∙ i)

      goes_on : (q : Pool) → insert_record ours p (record_at ed bs k) ≡ Done q
          → going ≡ load_records ours ed n (last_at ed bs (suc k)) q (drop (place_of ed (suc k)) bs)
      unfolding last_at
      goes_on q i =
          S.load_next ours ed n (last_at ed bs k) p from due (is_there (due_then ed bs k h)) clear q (ap (insert_record ours p) due_record ∙ i)
          ∙ ap (λ (r : Record). load_records ours ed n (Some r) q due.after) due_record
          ∙ ap (load_records ours ed n (Some (record_at ed bs k)) q) due_after

-- how far a load has come: k records are in, and so many are left
pub record Underway (ed : Edition) (first : List ℤ) (bs : List ℕ) (count : ℕ) (w : List ℤ) (k : ℕ) (free : FreeSlots) : Type 0 where
  pub long : length w ≡ length first
  pub fit : Fit w
  pub edition : (read w).edition ≡ ed
  pub whole : Whole (read w)
  pub known : Known (read w) free
  pub here : place_of ed k ≤ length bs
  pub rest : ℕ
  pub left : k + rest ≡ count
  pub same : load_records ours ed count None (read first) (drop 12 bs) ≡ load_records ours ed rest (last_at ed bs k) (read w) (drop (place_of ed k) bs)

pub starts : (ed : Edition) (w : List ℤ) (bs : List ℕ) (count : ℕ) (free : FreeSlots) → Fit w → (read w).edition ≡ ed → Whole (read w) → Known (read w) free → 12 ≤ length bs
    → Underway ed w bs count w 0 free
unfolding last_at
starts ed w bs count free f q h n l =
    let z = place_first ed in
    record {
      long = refl;
      fit = f;
      edition = q;
      whole = h;
      known = n;
      here = omega (arith, z);
      rest = count;
      left = omega arith;
      same = ap (λ (j : ℕ). load_records ours ed count None (read w) (drop j bs)) (sym z);
    }

module _ (ed : Edition) (first : List ℤ) (bs : List ℕ) (count : ℕ) (w : List ℤ) (k : ℕ) (free : FreeSlots) (u : Underway ed first bs count w k free) (more : k < count) where
  abbrev all : Load
  all = load_records ours ed count None (read first) (drop 12 bs)

  -- so many are left after this one
  one_less : (rest : ℕ) → k + rest ≡ count → (n : ℕ) × (rest ≡ suc n)
  one_less zero e = absurd (omega arith)
  one_less (suc n) e = (n, refl)

  -- where the record is in, the load goes on after it
  pub next : (f : FreeSlots) (v : List ℤ) → Took (took_at ed (read w) bs k) (Ok f) v → length v ≡ length w → Underway ed first bs count v (k + 1) f
  next f v took s = fault (frame_fault ed bs k) refl
    where
      put : frame_fault ed bs k ≡ None → (o : Change) → insert_record ours (read w) (record_at ed bs k) ≡ o → Took (inserted o) (Ok f) v
          → Underway ed first bs count v (k + 1) f
      put h NoneFree i x = absurd (unfold inserted in x)
      put h (Done q) i x =
          let y : HoldsPool q f v = unfold inserted in x in
          let g = then_passes ed bs k h in
          let n = one_less u.rest u.left in
          let e : k + 1 ≡ suc k = omega arith in
          let long = due_long (record_kind ed) (record_size ed) (drop (place_of ed k) bs) (due_then ed bs k h) in
          let on : all ≡ load_records ours ed n.0 (last_at ed bs (suc k)) q (drop (place_of ed (suc k)) bs) =
          u.same ∙ ap (λ (m : ℕ). load_records ours ed m (last_at ed bs k) (read w) (drop (place_of ed k) bs)) n.1 ∙ goes_on ed bs k n.0 (read w) h q i in
          rw e (record {
            long = s ∙ u.long;
            fit = y.fit;
            edition = ap (λ (a : Pool). a.edition) y.is ∙ insert_edition ours (read w) q (record_at ed bs k) i ∙ u.edition;
            whole = subst Whole (sym y.is) (insert_whole ours ours_lawful (read w) u.whole (record_at ed bs k) g.rect g.number q i);
            known = subst (λ (a : Pool). Known a f) (sym y.is) y.known;
            here = omega (arith, long, length-drop (place_of ed k) bs, u.here, place_next ed k);
            rest = n.0;
            left = omega (arith, u.left, n.1);
            same = on ∙ ap (λ (a : Pool). load_records ours ed n.0 (last_at ed bs (suc k)) a (drop (place_of ed (suc k)) bs)) (sym y.is);
          })

      fault : (o : Option FileFault) → frame_fault ed bs k ≡ o → Underway ed first bs count v (k + 1) f
      fault None h = put h (insert_record ours (read w) (record_at ed bs k)) refl (subst (λ (l : Load). Took l (Ok f) v) (took_none ed (read w) bs k h) took)
      fault (Some g) h = absurd (subst (λ (l : Load). Took l (Ok f) v) (took_fault ed (read w) bs k g h) took)

  -- where it is refused, so is the file
  pub stopped : (f : FileFault) (v : List ℤ) → Took (took_at ed (read w) bs k) (Err f) v → (x : List ℤ) → Loads all (Err f) x
  stopped f v took x = fault (frame_fault ed bs k) refl
    where
      n : (m : ℕ) × (u.rest ≡ suc m)
      n = one_less u.rest u.left

      on : (g : FileFault) → load_records ours ed (suc n.0) (last_at ed bs k) (read w) (drop (place_of ed k) bs) ≡ Fails g → f ≡ g → Loads all (Err f) x
      on g e y =
          subst (λ (l : Load). Loads l (Err f) x)
          (sym (u.same ∙ ap (λ (m : ℕ). load_records ours ed m (last_at ed bs k) (read w) (drop (place_of ed k) bs)) n.1 ∙ e)) y

      put : frame_fault ed bs k ≡ None → (o : Change) → insert_record ours (read w) (record_at ed bs k) ≡ o → Took (inserted o) (Err f) v → Loads all (Err f) x
      put h NoneFree i y = on NoSlot (refused_full ed bs k n.0 (read w) h i) (unfold inserted in y)
      put h (Done q) i y = absurd (unfold inserted in y)

      fault : (o : Option FileFault) → frame_fault ed bs k ≡ o → Loads all (Err f) x
      fault None h = put h (insert_record ours (read w) (record_at ed bs k)) refl (subst (λ (l : Load). Took l (Err f) v) (took_none ed (read w) bs k h) took)
      fault (Some g) h = on g (refused_by ed bs k n.0 (read w) g h) (subst (λ (l : Load). Took l (Err f) v) (took_fault ed (read w) bs k g h) took)

-- ---- the last frame

end_is : (p : Pool) (bs : List ℕ) → is_due 18 0 bs ≡ true → length bs ≡ 4 → end_of p (frame_due 18 0 bs) ≡ Loaded p
end_is p bs h l =
    let d = length-drop 4 bs in
    S.end_here p bs (due_in 0 bs) (due_here 18 0 bs h) (nothing (drop 4 bs) (omega arith))

end_other : (p : Pool) (bs : List ℕ) → is_due 18 0 bs ≡ true → (length bs ≡ 4 → ⊥) → end_of p (frame_due 18 0 bs) ≡ Fails BadFrame
end_other p bs h l = go (drop 4 bs) refl
  where
    go : (r : List ℕ) → drop 4 bs ≡ r → end_of p (frame_due 18 0 bs) ≡ Fails BadFrame
    go [] e = absurd (l (omega (arith, ap length e, length-drop 4 bs, due_long 18 0 bs h)))
    go (b ∷ r) e = S.end_more p bs (due_in 0 bs) b r (due_here 18 0 bs h) e

-- .. as the code asks
pub end_not_due : (bs : List ℕ) → is_due 18 0 bs ≡ false → Err BadFrame ≡ end_told bs
unfolding end_told
end_not_due bs h = rw h

pub end_goes_on : (bs : List ℕ) → is_due 18 0 bs ≡ true → (length bs ≡ 4 → ⊥) → Err BadFrame ≡ end_told bs
unfolding end_told
end_goes_on bs h l = rw (h, ne_eqb (length bs) 4 l)

pub end_right : (bs : List ℕ) → is_due 18 0 bs ≡ true → length bs ≡ 4 → Ok tt ≡ end_told bs
unfolding end_told
end_right bs h l = rw (h, eq-eqb (length bs) 4 l)

pub end_loads : (w : List ℤ) (bs : List ℕ) → Fit w → Loads (end_of (read w) (frame_due 18 0 bs)) (end_told bs) w
unfolding end_told
end_loads w bs f = due (is_due 18 0 bs) refl
  where
    bad : end_told bs ≡ Err BadFrame → end_of (read w) (frame_due 18 0 bs) ≡ Fails BadFrame → Loads (end_of (read w) (frame_due 18 0 bs)) (end_told bs) w
    bad a b = subst (λ (l : Load). Loads l (end_told bs) w) (sym b) (subst (λ (r : Result (Unit {0}) FileFault). Loads (Fails BadFrame) r w) (sym a) refl)

    long : is_due 18 0 bs ≡ true → (b : Bool) → eqb (length bs) 4 ≡ b → Loads (end_of (read w) (frame_due 18 0 bs)) (end_told bs) w
    long h true l =
        subst (λ (x : Load). Loads x (end_told bs) w) (sym (end_is (read w) bs h (eqb-true (length bs) 4 l)))
        (subst (λ (r : Result (Unit {0}) FileFault). Loads (Loaded (read w)) r w) (end_right bs h (eqb-true (length bs) 4 l)) (f, refl))
    long h false l =
        bad (rw (h, l)) (end_other (read w) bs h (λ q. never_both (eq-eqb (length bs) 4 q) l))

    due : (b : Bool) → is_due 18 0 bs ≡ b → Loads (end_of (read w) (frame_due 18 0 bs)) (end_told bs) w
    due true h = long h (eqb (length bs) 4) refl
    due false h = bad (rw h) (S.end_none (read w) bs (none_due 18 0 bs h))

-- every record is in: the last frame decides
pub ended : (ed : Edition) (first : List ℤ) (bs : List ℕ) (count : ℕ) (w : List ℤ) (k : ℕ) (free : FreeSlots) → Underway ed first bs count w k free → count ≤ k
    → Loads (load_records ours ed count None (read first) (drop 12 bs)) (end_told (drop (place_of ed k) bs)) w
ended ed first bs count w k free u h =
    let z : u.rest ≡ 0 = omega (arith, u.left) in
    let last : load_records ours ed 0 (last_at ed bs k) (read w) (drop (place_of ed k) bs) ≡ end_of (read w) (frame_due 18 0 (drop (place_of ed k) bs)) = unfold load_records in refl in
    subst (λ (l : Load). Loads l (end_told (drop (place_of ed k) bs)) w)
    (sym (u.same ∙ ap (λ (m : ℕ). load_records ours ed m (last_at ed bs k) (read w) (drop (place_of ed k) bs)) z ∙ last)) (end_loads w (drop (place_of ed k) bs) u.fit)
